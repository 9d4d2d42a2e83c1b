-- The text of an instruction, read as a line of a listing.
use Rattle.std.specs.Prelude.{◌≡◌, ℕ, Some, None, Ok}
use Rattle.emu_bits.specs.RowLaws.{IsRow}
use Rattle.a64_insn.specs.Rows as base
use Rattle.sve_insn.specs.Rows as vectors
use Rattle.asm_tokens.specs.declared.target.Target.{Target}
use Rattle.asm_tokens.specs.declared.target.Target.TheVariants.{Address}
use Rattle.emu_run.specs.declared.insn.Insn.{Insn}
use Rattle.emu_run.specs.declared.insn.Insn.TheVariants.{A64, Sve}
use Rattle.listing_model.specs.declared.line.Body.{Body}
use Rattle.listing_model.specs.declared.line.Body.TheVariants.{Plain, Aimed}
use Rattle.listing_model.specs.LineOf.{line_of}
use Rattle.asm_text.specs.Statements.{aimed_at, statements}
use Rattle.asm_text.specs.Texts.{text}

-- an instruction of a table: its fields fit their places, and its line's condition holds
abbrev pub IsInstruction : Insn → Type 0
IsInstruction (A64 f) = IsRow (base.row_of f)
IsInstruction (Sve f) = IsRow (vectors.row_of f)

-- a target is an address, and an instruction that stands at pc, aimed at it, is another
pub record IsAimedAs (i j : Insn) (pc : ℕ) (t : Target) : Type 0 where
  pub address : ℕ
  pub target : t ≡ Address address
  pub aimed : aimed_at j pc address ≡ Some i

-- A line's body is an instruction that stands at pc: the instruction itself, or one that aimed at the line's address is the instruction.
abbrev pub IsBodyOf : Insn → ℕ → Body Insn → Type 0
IsBodyOf i pc (Plain j) = j ≡ i
IsBodyOf i pc (Aimed j t) = IsAimedAs i j pc t
IsBodyOf i pc b = ⊥

-- The line of an instruction's text has no label, and is the instruction.
pub record IsReadBack (i : Insn) (pc : ℕ) : Type 0 where
  pub body : Body Insn
  pub line : line_of statements (text i pc) ≡ Ok (record { label = None; body = body })
  pub is : IsBodyOf i pc body
