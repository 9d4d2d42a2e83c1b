-- The executable that a listing makes: an ELF64 header, one or two program headers, the code from offset 4,096 on, and
-- the data on the pages behind it. From the System V ABI, 4 'Object Files' ('ELF Header') and 5 'Program Loading and
-- Dynamic Linking' ('Program Header'), with 'ELF for the Arm 64-bit Architecture' (IHI 0056) for e_machine. The
-- addresses and the layout are this project's own choice, as docs/MANUAL.md has them under "Directives".
use Rattle.std.specs.Prelude.{ℕ, ◌+◌, ◌-◌, ◌*◌, ◌/◌, ◌==◌, ◌&&◌, if◌then◌else◌, List, [], ◌∷◌, ◌++◌, length, replicate}
use Rattle.byteorder.specs.Endian.{little_bytes}
use Rattle.emu_model.specs.Access.{page_size}

-- where code stands in memory
abbrev pub code_base : ℕ
code_base = 0x40_0000

-- bytes of whole pages
abbrev pub rounded : ℕ → ℕ
rounded n = (n + (page_size - 1)) / page_size * page_size

-- where data stands in memory, behind so many bytes of code
abbrev pub data_base : ℕ → ℕ
data_base code_size = code_base + rounded code_size

-- a list with zeros behind it, n bytes in all
abbrev pub padded : ℕ → List ℕ → List ℕ
padded n xs = xs ++ replicate (n - length xs) 0

-- ELF, of class ELFCLASS64, little endian, of version 1
abbrev pub identification : List ℕ
identification = padded 16 (0x7F ∷ 0x45 ∷ 0x4C ∷ 0x46 ∷ 2 ∷ 1 ∷ 1 ∷ [])

-- e_type ET_EXEC, e_machine EM_AARCH64, e_version; e_entry, e_phoff, e_shoff; e_flags, e_ehsize, e_phentsize, e_phnum;
-- and no sections: e_shentsize, e_shnum, e_shstrndx
abbrev pub elf_header : ℕ → ℕ → List ℕ
elf_header entry segments =
    identification ++ (little_bytes 2 2 ++ (little_bytes 2 183 ++ (little_bytes 4 1 ++ (little_bytes 8 entry
    ++ (little_bytes 8 64 ++ (little_bytes 8 0 ++ (little_bytes 4 0 ++ (little_bytes 2 64 ++ (little_bytes 2 56
    ++ (little_bytes 2 segments ++ replicate 6 0))))))))))

-- p_type PT_LOAD, p_flags, p_offset, p_vaddr, p_paddr, p_filesz, p_memsz, p_align
abbrev pub program_header : ℕ → ℕ → ℕ → ℕ → ℕ → List ℕ
program_header flags offset address file_size memory_size =
    little_bytes 4 1 ++ (little_bytes 4 flags ++ (little_bytes 8 offset
    ++ (little_bytes 8 address ++ (little_bytes 8 address
    ++ (little_bytes 8 file_size ++ (little_bytes 8 memory_size ++ little_bytes 8 page_size))))))

-- readable and executable
abbrev pub code_header : ℕ → List ℕ
code_header code_size = program_header 5 page_size code_base code_size code_size

-- readable and writable
abbrev pub data_header : ℕ → ℕ → ℕ → List ℕ
data_header code_size data_size bss_size =
    program_header 6 (page_size + rounded code_size) (data_base code_size) data_size (data_size + bss_size)

-- the file of an entry, the bytes of the code and of the data, and the size of the memory behind the data
abbrev pub file_of : ℕ → List ℕ → List ℕ → ℕ → List ℕ
file_of entry code values bss_size =
    if length values == 0 && bss_size == 0
    then padded page_size (elf_header entry 1 ++ code_header (length code)) ++ code
    else padded page_size (elf_header entry 2
    ++ (code_header (length code) ++ data_header (length code) (length values) bss_size))
    ++ (padded (rounded (length code)) code ++ values)
