use Rattle.std.proofs.Common.{◌∙◌, ℕ, List, sym, ap, arith, nat_eq}
use Rattle.std.proofs.lemmas.Grind.{get_or_default_zero}
use Rattle.word_counts.specs.Counts.{Counts, place_of}
use Rattle.word_counts.proofs.Tables.{place_found, place_is, place_missing}
use Rattle.word_counts.proofs.table.WordCounts.place_of.Goals as goal

pub returns-then-index-page-clause-place : goal.returns-then-index-page-clause-place
returns-then-index-page-clause-place c =
    let t : Counts = record { pages = c.self.inside.pages.items; counts = c.self.inside.counts.items } in
    let hint = c.if-hint-len.true in
    let len = c.len.ensures in
    sym (place_is t c.args.page _ c.self.invariant (omega (arith, hint, len))
    (sym (get_or_default_zero t.pages _ c.index.result.now (omega (arith, hint, len))) ∙ sym c.index.ensures ∙ c.if-index-page.true))
    ∙ ap (λ (s : Counts). place_of s c.args.page) c.self.view_is

pub returns-in-Some-clause-place : goal.returns-in-Some-clause-place
returns-in-Some-clause-place c =
    place_found (λ p. nat_eq p c.args.page) c.deref.result.now c.in-Some.place (sym c.position_of.ensures.place ∙ c.in-Some.is)
    ∙ ap (λ (xs : List ℕ). place_of (record { pages = xs; counts = c.self.inside.counts.items }) c.args.page) c.deref.ensures.value
    ∙ ap (λ (s : Counts). place_of s c.args.page) c.self.view_is

pub returns-in-None-clause-place : goal.returns-in-None-clause-place
returns-in-None-clause-place c =
    c.len-in-None.ensures
    ∙ sym c.deref.ensures.len
    ∙ place_missing (λ p. nat_eq p c.args.page) c.deref.result.now (sym c.position_of.ensures.place ∙ c.in-None.is)
    ∙ ap (λ (xs : List ℕ). place_of (record { pages = xs; counts = c.self.inside.counts.items }) c.args.page) c.deref.ensures.value
    ∙ ap (λ (s : Counts). place_of s c.args.page) c.self.view_is
