-- Which instructions are read back as they are, and the lines that have such instructions.
use Rattle.std.specs.Prelude.{Bool, ◌≡◌, true}
use Rattle.asm_a64.specs.LawOfTexts as base_again
use Rattle.asm_sve.specs.LawOfTexts as vectors_again
use Rattle.emu_run.specs.declared.insn.Insn.{Insn}
use Rattle.emu_run.specs.declared.insn.Insn.TheVariants.{A64, Sve}
use Rattle.listing_model.specs.declared.line.Body.{Body}
use Rattle.listing_model.specs.declared.line.Body.TheVariants.{Nothing, Plain, Aimed, Directive}

-- an instruction without a bitmask, or one whose rotation is below the element's size
abbrev pub is_canonical : Insn → Bool
is_canonical (A64 f) = base_again.is_canonical_form f
is_canonical (Sve f) = vectors_again.is_canonical_form f

-- The instruction of a body, if it has one, is canonical.
abbrev pub HasCanonical : Body Insn → Type 0
HasCanonical Nothing = Unit {0}
HasCanonical (Plain i) = is_canonical i ≡ true
HasCanonical (Aimed i t) = is_canonical i ≡ true
HasCanonical (Directive d) = Unit {0}
