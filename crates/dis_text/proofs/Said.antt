-- Instructions that a listing says are canonical, so they are read back.
use Rattle.std.proofs.Common.{◌≡◌, ℕ, ◌^◌, ◌<◌, true, Option, Some, sym, ap, subst, ◌∙◌}
use Rattle.std.specs.Prelude.{IfSome}
use Rattle.asm_text.proofs.Statements.{line_canonical}
use Rattle.asm_text.proofs.Steps.{aimed_law}
use Rattle.asm_text.specs.Canonical.{HasCanonical}
use Rattle.emu_run.specs.declared.insn.Insn.{Insn}
use Rattle.emu_run.specs.Step.{decode}
use Rattle.insn_decode.specs.Words.{word_of}
use Rattle.asm_text.specs.Disassembly.{word_text}
use Rattle.asm_text.specs.Canonical.{is_canonical}
use Rattle.listing_model.specs.declared.line.Body.{Body}
use Rattle.listing_model.specs.declared.line.Body.TheVariants.{Nothing, Plain, Aimed, Directive}
use Rattle.dis_text.specs.ReadBack.{IsInstruction}
use Rattle.dis_text.specs.Said.{Says, IsSaid, IsShownAgain}
use Rattle.dis_text.proofs.ReadBack.{read_back}

says_canonical : (i : Insn) (pc : ℕ) (b : Body Insn) → Says i pc b → HasCanonical b → is_canonical i ≡ true
says_canonical i pc Nothing h c = absurd h
says_canonical i pc (Plain j) h c = ap is_canonical (sym h) ∙ c
says_canonical i pc (Aimed j t) h c = subst (λ (o : Option Insn). IfSome o (λ k. is_canonical k ≡ true)) h.1 (aimed_law j pc h.0)
says_canonical i pc (Directive d) h c = absurd h

said_canonical : (i : Insn) (pc : ℕ) → IsSaid i pc → is_canonical i ≡ true
said_canonical i pc s = says_canonical i pc s.line.body s.is (line_canonical s.written s.line s.read)

pub shown_again : (i : Insn) (w : ℕ) → IsInstruction i → w ≡ word_of i → decode w ≡ Some i → (pc : ℕ) → pc < 2 ^ 64 → IsSaid i pc → IsShownAgain i pc
shown_again i w v e d pc h s = record {
  shown = ap (word_text (word_of i) pc) (ap decode (sym e) ∙ d);
  back = read_back i pc v (said_canonical i pc s) h;
}
