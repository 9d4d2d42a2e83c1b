-- The lines of the registers: a name, a space and the value. The form of the lines is this project's own choice, as
-- docs/MANUAL.md has it under "What you see".
use Rattle.std.specs.Prelude.{ℕ, ◌+◌, ◌-◌, ◌*◌, ◌/◌, Bool, false, List, [], ◌∷◌, ◌++◌, length, get_or, flat_map, reverse, codes}
use Rattle.std.specs.Fmt.{decimal}
use Rattle.std.specs.List.{range_with_len}
use Rattle.emu_bits.specs.Fields.{bit}
use Rattle.emu_bits.specs.declared.flags.Flags.{Flags}
use Rattle.emu_model.specs.Lists.{each}
use Rattle.emu_model.specs.State.{Core, Vectors, Parts}
use Rattle.emu_run.specs.Text.{hex, hex_digit, space, newline}

-- a line, which ends with a newline
abbrev pub register_line : List ℕ → List ℕ → List ℕ
register_line name value = name ++ space ++ value ++ newline

-- the name of register k of a kind, as x30
abbrev pub numbered : List ℕ → ℕ → List ℕ
numbered kind k = kind ++ decimal k

-- a 64-bit value has 16 hexadecimal digits
abbrev pub word_line : List ℕ → ℕ → List ℕ
word_line name number = register_line name (hex 16 number)

-- the lines of registers 0 to n - 1 of a kind
abbrev pub lines_of : ℕ → (ℕ → List ℕ) → List ℕ
lines_of n line = flat_map line (range_with_len 0 n)

-- the flags in binary, N first
abbrev pub flag_digits : Flags → List ℕ
flag_digits f = (48 + bit f.n) ∷ (48 + bit f.z) ∷ (48 + bit f.c) ∷ (48 + bit f.v) ∷ []

-- two digits a byte, the most significant byte first
abbrev pub byte_digits : List ℕ → List ℕ
byte_digits bytes = flat_map (hex 2) (reverse bytes)

-- bits 4k to 4k + 3 as a number
abbrev pub nibble : List Bool → ℕ → ℕ
nibble bits k =
    bit (get_or bits (4 * k) false) + 2 * bit (get_or bits (4 * k + 1) false)
    + 4 * bit (get_or bits (4 * k + 2) false) + 8 * bit (get_or bits (4 * k + 3) false)

-- a digit for each four bits, the most significant first
abbrev pub bit_digits : List Bool → List ℕ
bit_digits bits = each (length bits / 4) (λ k. hex_digit (nibble bits (length bits / 4 - 1 - k)))

-- x0 to x30, sp, pc, nzcv, tpidr and vl
abbrev pub scalar_lines : Core → ℕ → List ℕ
scalar_lines c bits =
    lines_of 31 (λ k. word_line (numbered (codes "x") k) (get_or c.x k 0))
    ++ word_line (codes "sp") c.sp
    ++ word_line (codes "pc") c.pc
    ++ register_line (codes "nzcv") (flag_digits c.flags)
    ++ word_line (codes "tpidr") c.tpidr
    ++ register_line (codes "vl") (decimal bits)

-- z0 to z31, p0 to p15 and ffr
abbrev pub vector_lines : Vectors → List ℕ
vector_lines v =
    lines_of 32 (λ k. register_line (numbered (codes "z") k) (byte_digits (get_or v.z k [])))
    ++ lines_of 16 (λ k. register_line (numbered (codes "p") k) (bit_digits (get_or v.p k [])))
    ++ register_line (codes "ffr") (bit_digits v.ffr)

-- all registers of a machine
abbrev pub register_lines : Parts → List ℕ
register_lines parts = scalar_lines parts.core parts.vectors.bits ++ vector_lines parts.vectors
