-- The families' names, and what to do about a word of each.
use Rattle.std.specs.Prelude.{ℕ, List, codes}
use Rattle.word_families.specs.declared.Family.{Family}
use Rattle.word_families.specs.declared.Family.TheVariants.{FloatingPoint, SveFloatingPoint, AdvancedSimd, Sve2, SveLeftOut, Sme, Cryptographic, Crc32, PointerAuthentication, MemoryTagging, System, PairAtomics, UnprivilegedLoads, RcpcLoads, OtherExtension, PermanentlyUndefined, Unallocated}

-- the name of a family
abbrev pub name_of : Family → List ℕ
name_of FloatingPoint = codes "floating point"
name_of SveFloatingPoint = codes "SVE floating point"
name_of AdvancedSimd = codes "Advanced SIMD"
name_of Sve2 = codes "SVE2"
name_of SveLeftOut = codes "SVE left out"
name_of Sme = codes "SME"
name_of Cryptographic = codes "cryptographic"
name_of Crc32 = codes "CRC32"
name_of PointerAuthentication = codes "pointer authentication"
name_of MemoryTagging = codes "memory tagging"
name_of System = codes "system"
name_of PairAtomics = codes "atomics of pairs"
name_of UnprivilegedLoads = codes "unprivileged load or store"
name_of RcpcLoads = codes "RCpc load or store"
name_of OtherExtension = codes "another extension"
name_of PermanentlyUndefined = codes "permanently undefined"
name_of Unallocated = codes "unallocated"

-- what to do about a word of a family
abbrev pub advice_of : Family → List ℕ
advice_of FloatingPoint = codes "build without it, or see TESTING_YOUR_CODE"
advice_of SveFloatingPoint = codes "build without it, or see TESTING_YOUR_CODE"
advice_of AdvancedSimd =
    codes "build with the flags of TESTING_YOUR_CODE; for builtins, intrinsics and assembly see What leaves the table"
advice_of Sve2 = codes "build with -march=armv8-a+sve, and without -mcpu"
advice_of SveLeftOut = codes "see What leaves the table in TESTING_YOUR_CODE"
advice_of Sme = codes "build with -march=armv8-a+sve"
advice_of Cryptographic = codes "build with -march=armv8-a+sve, and without -mcpu"
advice_of Crc32 = codes "build with -march=armv8-a+sve+nocrc"
advice_of PointerAuthentication = codes "build with -march=armv8-a+sve -mbranch-protection=none"
advice_of MemoryTagging = codes "build with -march=armv8-a+sve, and without -fsanitize=memtag"
advice_of System = codes "leave it out: the system registers are tpidr_el0, nzcv and dczid_el0"
advice_of PairAtomics = codes "build with -march=armv8-a+sve, and without atomics of 128 bits"
advice_of UnprivilegedLoads = codes "use plain loads and stores"
advice_of RcpcLoads = codes "build with -march=armv8-a+sve+norcpc"
advice_of OtherExtension = codes "build with -march=armv8-a+sve"
advice_of PermanentlyUndefined = codes "the program ran into zeros or data: see where it came from"
advice_of Unallocated = codes "no instruction: the program ran into data, see where it came from"
