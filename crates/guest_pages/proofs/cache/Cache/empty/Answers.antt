use Rattle.std.specs.Prelude.{get_or, set, replicate}
use Rattle.std.proofs.Common.{◌≡◌, ℕ, ◌<◌, sym, ap, ◌∙◌, arith, inl, inr}
use Rattle.std.proofs.lemmas.Bool.{cases_eq}
use Rattle.std.proofs.lemmas.List.{get_or-replicate, get_or-set_other}
use Rattle.guest_pages.specs.Places.{lines, line_of}
use Rattle.guest_pages.proofs.cache.Cache.empty.Goals as goal

-- page 0 stands in line 1, and page 1 in each other line: no page in a line of its own
none_own : (k : ℕ) → k < lines → line_of (get_or (set (replicate lines 1) 1 0) k 0) ≡ k → ⊥
none_own k within own =
    elim (cases_eq k 1) as (λ _. ⊥) [
      | inl is ↦ let zero_too : k ≡ 0 = sym own ∙ ap (λ j. line_of (get_or (set (replicate lines 1) 1 0) j 0)) is in omega (arith, zero_too, is)
      | inr other ↦ other (sym own ∙ ap (λ page. line_of page) (get_or-set_other (replicate lines 1) 1 k 0 0 other ∙ get_or-replicate lines k 1 0 within))
    ]

pub returns : goal.returns
returns c = λ es k within own. absurd (none_own k within own)
