-- The line of a step: its number, which is that of the steps before it, its address, its word and the word's text; and
-- then each register that it changed with its new value, and each element that it loaded or stored with its address,
-- bytes and value.
use Rattle.std.specs.Prelude.{◌≡◌, ℕ, zero, suc, ◌+◌, ◌*◌, ◌/◌, Bool, true, false, ◌&&◌, List, [], ◌++◌, codes}
use Rattle.std.specs.Prelude.{flat_map, get_or, min, nat_eq, Option, Some, None, IfSome, if◌then◌else◌}
use Rattle.std.specs.Fmt.{decimal}
use Rattle.asm_text.specs.Disassembly.{word_text}
use Rattle.emu_bits.specs.Fields.{bit}
use Rattle.emu_bits.specs.declared.flags.Flags.{Flags}
use Rattle.emu_model.specs.declared.access.Access.{Access}
use Rattle.emu_model.specs.Access.{Memory, address, value}
use Rattle.emu_model.specs.Pages.{peeked}
use Rattle.emu_model.specs.State.{Core, Vectors, Parts}
use Rattle.emu_run.specs.Registers.{bit_digits, byte_digits, flag_digits, lines_of, numbered}
use Rattle.emu_run.specs.Step.{decode}
use Rattle.emu_run.specs.Text.{hex, space, newline}
use Rattle.trace_options.specs.declared.shown.Shown.{Shown}

-- where a sink tells what it holds, it gained this text
abbrev pub HasGained : Option (List ℕ) → Option (List ℕ) → List ℕ → Type 0
HasGained old new text = IfSome old (λ had. new ≡ Some (had ++ text))

-- ---- the head

-- `7 000000000040001c 04800020 add z0.s, p0/m, z0.s, z1.s`
abbrev pub head_text : ℕ → ℕ → ℕ → List ℕ
head_text steps pc word =
    (((((decimal steps ++ space) ++ hex 16 pc) ++ space) ++ hex 8 word) ++ space) ++ word_text word pc (decode word)

-- ---- registers, which are told where they have changed

-- ` | x3 0000000000000040`
abbrev pub change_text : List ℕ → List ℕ → List ℕ
change_text name value = ((codes " | " ++ name) ++ space) ++ value

-- of 64 bits
abbrev pub word_change : List ℕ → ℕ → ℕ → List ℕ
word_change name old new = if nat_eq old new then [] else change_text name (hex 16 new)

abbrev pub x_change : Core → Core → ℕ → List ℕ
x_change old new k = word_change (numbered (codes "x") k) (get_or old.x k 0) (get_or new.x k 0)

-- N is the highest of four bits
abbrev pub flag_number : Flags → ℕ
flag_number f = 8 * bit f.n + 4 * bit f.z + 2 * bit f.c + bit f.v

abbrev pub flags_change : Flags → Flags → List ℕ
flags_change old new = if nat_eq (flag_number old) (flag_number new) then [] else change_text (codes "nzcv") (flag_digits new)

-- of the vector length in bits
abbrev pub length_change : ℕ → ℕ → List ℕ
length_change old new = if nat_eq old new then [] else change_text (codes "vl") (decimal new)

-- x0 to x30, sp, nzcv and tpidr, as far as they are shown
abbrev pub scalar_changes : Shown → Core → Core → List ℕ
scalar_changes shown old new =
    (((if shown.x then lines_of 31 (x_change old new) else [])
    ++ (if shown.sp then word_change (codes "sp") old.sp new.sp else []))
    ++ (if shown.nzcv then flags_change old.flags new.flags else []))
    ++ (if shown.tpidr then word_change (codes "tpidr") old.tpidr new.tpidr else [])

-- the first n of these are the same
unfoldable pub same_bytes : ℕ → List ℕ → List ℕ → Bool
same_bytes zero old new = true
same_bytes (suc n) old new = nat_eq (get_or old n 0) (get_or new n 0) && same_bytes n old new

unfoldable pub same_bits : ℕ → List Bool → List Bool → Bool
same_bits zero old new = true
same_bits (suc n) old new = nat_eq (bit (get_or old n false)) (bit (get_or new n false)) && same_bits n old new

-- a register is the same where the vector length and each of its bytes or bits are
abbrev pub is_same_z : Vectors → Vectors → ℕ → Bool
is_same_z old new k = nat_eq old.bits new.bits && same_bytes (new.bits / 8) (get_or old.z k []) (get_or new.z k [])

abbrev pub is_same_p : Vectors → Vectors → ℕ → Bool
is_same_p old new k = nat_eq old.bits new.bits && same_bits (new.bits / 8) (get_or old.p k []) (get_or new.p k [])

abbrev pub is_same_ffr : Vectors → Vectors → Bool
is_same_ffr old new = nat_eq old.bits new.bits && same_bits (new.bits / 8) old.ffr new.ffr

abbrev pub z_change : Vectors → Vectors → ℕ → List ℕ
z_change old new k = if is_same_z old new k then [] else change_text (numbered (codes "z") k) (byte_digits (get_or new.z k []))

abbrev pub p_change : Vectors → Vectors → ℕ → List ℕ
p_change old new k = if is_same_p old new k then [] else change_text (numbered (codes "p") k) (bit_digits (get_or new.p k []))

abbrev pub ffr_change : Vectors → Vectors → List ℕ
ffr_change old new = if is_same_ffr old new then [] else change_text (codes "ffr") (bit_digits new.ffr)

-- vl, z0 to z31, p0 to p15 and ffr, as far as they are shown
abbrev pub vector_changes : Shown → Vectors → Vectors → List ℕ
vector_changes shown old new =
    (((if shown.vl then length_change old.bits new.bits else [])
    ++ (if shown.z then lines_of 32 (z_change old new) else []))
    ++ (if shown.p then lines_of 16 (p_change old new) else []))
    ++ (if shown.ffr then ffr_change old new else [])

-- ---- accesses

-- two digits of a byte; `--` where its page isn't mapped
abbrev pub byte_text : Option ℕ → List ℕ
byte_text None = codes "--"
byte_text (Some byte) = hex 2 byte

-- n bytes from an address on, the last first
unfoldable pub value_text : Memory → ℕ → ℕ → List ℕ
value_text m a zero = []
value_text m a (suc n) = byte_text (peeked m (address (a + n))) ++ value_text m a n

abbrev pub kind_text : Bool → List ℕ
kind_text write = if write then codes " | store " else codes " | load "

-- ` | load 0000000000410040 4 00000003`: the value in memory before the step where it was loaded, and behind it where
-- it was stored; at most the first 64 bytes of it
abbrev pub access_text : Memory → Memory → Access → List ℕ
access_text old new a =
    ((((kind_text a.write ++ hex 16 a.address) ++ space) ++ decimal a.bytes) ++ space)
    ++ value_text (if a.write then new else old) a.address (min 64 a.bytes)

abbrev pub access_texts : Memory → Memory → List Access → List ℕ
access_texts old new accesses = flat_map (access_text old new) accesses

-- ---- the line of a step between two machines, which made these accesses

abbrev pub traced_line : Shown → Parts → Parts → List Access → List ℕ
traced_line shown old new accesses =
    (((head_text old.steps old.core.pc (value old.memory old.core.pc 4)
    ++ scalar_changes shown old.core new.core)
    ++ vector_changes shown old.vectors new.vectors)
    ++ (if shown.memory then access_texts old.memory new.memory accesses else []))
    ++ newline
