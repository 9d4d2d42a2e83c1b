-- What a line says, token by token.
use Rattle.std.proofs.Common.{◌≡◌, ℕ, ◌∙◌, true, false, List, [], ◌∷◌, Some, None, Err, refl}
use Rattle.std.proofs.lemmas.Bool.{cond-true, cond-false}
use Rattle.asm_text.specs.Colons.{begins_colon}
use Rattle.listing_model.specs.declared.fault.ListingWhy.TheVariants.{BadLabel}
use Rattle.listing_model.specs.Directives.{is_label}
use Rattle.listing_model.specs.LineOf.{line_of_tokens, with_label, body_of, colon}
use Rattle.listing_model.specs.Statements.{Statements}
use Rattle.asm_tokens.specs.Layout.{is_sign}

pub without_colon : {I : Type 0} (s : Statements I) (t : List ℕ) (ts : List (List ℕ)) → begins_colon ts ≡ false
    → line_of_tokens s (t ∷ ts) ≡ with_label s None (body_of s (t ∷ ts))
without_colon s t [] h = refl
without_colon s t (u ∷ us) h = cond-false (is_sign colon u) _ _ h

pub with_good_label : {I : Type 0} (s : Statements I) (t u : List ℕ) (ts : List (List ℕ)) → is_sign colon u ≡ true → is_label t ≡ true
    → line_of_tokens s (t ∷ u ∷ ts) ≡ with_label s (Some t) (body_of s ts)
with_good_label s t u ts h k = cond-true (is_sign colon u) _ _ h ∙ cond-true (is_label t) _ _ k

pub with_bad_label : {I : Type 0} (s : Statements I) (t u : List ℕ) (ts : List (List ℕ)) → is_sign colon u ≡ true → is_label t ≡ false
    → line_of_tokens s (t ∷ u ∷ ts) ≡ Err BadLabel
with_bad_label s t u ts h k = cond-true (is_sign colon u) _ _ h ∙ cond-false (is_label t) _ _ k
