-- Each word of a line has a pattern.
use Rattle.std.proofs.Common.{◌≡◌, ℕ, Bool, true, Some, List, [], ◌∷◌, ◌&&◌}
use Rattle.std.proofs.lemmas.Bool.{and_parts}
use Rattle.emu_bits.specs.Rows.{Line, Row, row_in}
use Rattle.emu_bits.proofs.Encoding.{answer_of}
use Rattle.asm_sve.proofs.Entries.{Entry, texts_in}
use Rattle.sve_insn.specs.declared.form.SveForm.{SveForm}
use Rattle.text_model.specs.Reading.{Pattern}
use Rattle.text_model.specs.Text.{chosen}
use Rattle.text_model.proofs.Tests.{is_total}
use Rattle.text_model.proofs.Totals.{total}

pub record IsShown (qs : List Pattern) (l : Line SveForm) : Type 0 where
  pub at : (w : ℕ) (r : Row SveForm) → row_in l w ≡ Some r → (p : Pattern) × (chosen qs w ≡ Some p)

-- the same of each line
abbrev pub AreShown : List (List Pattern) → List (Line SveForm) → Type 0
AreShown [] [] = Unit {0}
AreShown [] (l ∷ ls) = ⊥
AreShown (qs ∷ qss) [] = ⊥
AreShown (qs ∷ qss) (l ∷ ls) = IsShown qs l × AreShown qss ls

abbrev pub are_total : List Entry → Bool
are_total [] = true
are_total (e ∷ es) = is_total e.texts e.line e.by e.known && are_total es

abbrev pub lines_in : List Entry → List (Line SveForm)
lines_in [] = []
lines_in (e ∷ es) = e.line ∷ lines_in es

shown : (e : Entry) → is_total e.texts e.line e.by e.known ≡ true → IsShown e.texts e.line
shown e h = record { at = λ w r i. total e.texts e.line e.by e.known w r h i (e.follows r.number w (answer_of e.line w r i).held) }

pub shown_by_test : (es : List Entry) → are_total es ≡ true → AreShown (texts_in es) (lines_in es)
shown_by_test [] h = tt
shown_by_test (e ∷ es) h =
    let h2 = and_parts (is_total e.texts e.line e.by e.known) (are_total es) h in
    (shown e h2.0, shown_by_test es h2.1)
