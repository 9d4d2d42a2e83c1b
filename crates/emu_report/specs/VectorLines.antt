-- The lines of numbered vector registers.
use Rattle.std.specs.Prelude.{ℕ, List, [], get_or, codes}
use Rattle.emu_model.specs.State.{Vectors}
use Rattle.emu_run.specs.Registers.{register_line, numbered, byte_digits, bit_digits}
use Rattle.emu_report.specs.declared.registers.Kind.{Kind}
use Rattle.emu_report.specs.declared.registers.Kind.TheVariants.{Z, P}

-- how many there are of a kind
abbrev pub count_of : Kind → ℕ
count_of Z = 32
count_of P = 16

-- the line of register k of a kind
abbrev pub line_of : Vectors → Kind → ℕ → List ℕ
line_of v Z k = register_line (numbered (codes "z") k) (byte_digits (get_or v.z k []))
line_of v P k = register_line (numbered (codes "p") k) (bit_digits (get_or v.p k []))
