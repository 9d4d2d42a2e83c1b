-- Instructions that a listing says, and the lines that a disassembly has of their words.
use Rattle.std.specs.Prelude.{◌≡◌, ℕ, Some, Ok, List}
use Rattle.emu_run.specs.declared.insn.Insn.{Insn}
use Rattle.emu_run.specs.Step.{decode}
use Rattle.insn_decode.specs.Words.{word_of}
use Rattle.asm_text.specs.Disassembly.{word_text}
use Rattle.asm_text.specs.Statements.{aimed_at, statements}
use Rattle.asm_text.specs.Texts.{text}
use Rattle.listing_model.specs.declared.line.Body.{Body}
use Rattle.listing_model.specs.declared.line.Body.TheVariants.{Plain, Aimed}
use Rattle.listing_model.specs.declared.line.Line.{Line}
use Rattle.listing_model.specs.LineOf.{line_of}
use Rattle.dis_text.specs.ReadBack.{IsReadBack}

-- what a line has behind its label is an instruction that stands at pc: the instruction itself, or one that aimed at an
-- address is it
abbrev pub Says : Insn → ℕ → Body Insn → Type 0
Says i pc (Plain j) = j ≡ i
Says i pc (Aimed j t) = (address : ℕ) × (aimed_at j pc address ≡ Some i)
Says i pc b = ⊥

-- some line of a listing says the instruction, which stands at pc
pub record IsSaid (i : Insn) (pc : ℕ) : Type 0 where
  pub written : List ℕ
  pub line : Line Insn
  pub read : line_of statements written ≡ Ok line
  pub is : Says i pc line.body

-- The text that a disassembly has of its word at pc is that of the instruction, and is read there as the instruction.
pub record IsShownAgain (i : Insn) (pc : ℕ) : Type 0 where
  pub shown : word_text (word_of i) pc (decode (word_of i)) ≡ text i pc
  pub back : IsReadBack i pc
