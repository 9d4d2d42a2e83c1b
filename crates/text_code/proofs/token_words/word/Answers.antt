use Rattle.std.proofs.Common.{◌≡◌, ℕ, ℤ, to_z, of_z, List, [], get_or, Ok, Err, rules, tests, sym, ap, ◌∙◌}
use Rattle.std.proofs.lemmas.Int.{to_z-of_z}
use Rattle.std.specs.Int.{w128}
use Rattle.std.specs.Prelude.{FitsSigned}
use Rattle.std.proofs.lemmas.Fn.{always_returns_same}
use Rattle.std.specs.Cmp.Lexicographic.{slice_cmp}
use Rattle.std.specs.Ordering.{nat_cmp}
use Rattle.text_model.specs.declared.classes.Class.TheVariants.{Unknown}
use Rattle.text_model.specs.Words.{item}
use Rattle.text_code.specs.declared.dictionary.Word.{Word}
use Rattle.text_code.proofs.Lookup.{looked_up}
use Rattle.text_code.proofs.token_words.word.Goals as goal

nothing : Word
nothing = record { text = record { ref_ptr = (0, 0); now = [] }; class = Unknown; value = 0 }

pub returns-in-Ok : goal.returns-in-Ok
unfolding nothing
returns-in-Ok c =
    let ws : List Word = c.other_words-words.result.now in
    let t : List ℕ = c.args.token.now in
    let p = c.in-Ok.ensures.position (λ (w : Word). slice_cmp nat_cmp w.text.now t) (always_returns_same _ _ _ (λ a r q k. search (rules, tests))) in
    let f : FitsSigned w128 c.from.result = search rules in
    let e : to_z w128 (of_z w128 c.from.result) ≡ c.from.result = to_z-of_z w128 c.from.result f in
    ap (λ (v : ℤ). item (get_or ws c.in-Ok.at nothing).class v) (e ∙ c.from.ensures) ∙ sym (looked_up ws t (Ok c.in-Ok.at) c.other_words-words.ensures c.in-Ok.ensures.bound p nothing)

pub returns-in-Err : goal.returns-in-Err
returns-in-Err c =
    let ws : List Word = c.other_words-words.result.now in
    let t : List ℕ = c.args.token.now in
    let p = c.in-Err.ensures.position (λ (w : Word). slice_cmp nat_cmp w.text.now t) (always_returns_same _ _ _ (λ a r q k. search (rules, tests))) in
    sym (looked_up ws t (Err c.in-Err.field-0) c.other_words-words.ensures c.in-Err.ensures.bound p)
