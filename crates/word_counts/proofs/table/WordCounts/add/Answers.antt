use Rattle.std.proofs.Common.{◌<◌, ◌+◌, ◌*◌, ◌/◌, ◌%◌, ◌∙◌, length, refl, sym, ap, subst}
use Rattle.std.proofs.Math.ListN.{set}
use Rattle.word_counts.specs.Counts.{Counts, count_at, place_of}
use Rattle.word_counts.proofs.Tables.{add_counts}
use Rattle.word_counts.proofs.table.WordCounts.add.Goals as goal

pub returns-clause-counted : goal.returns-clause-counted
returns-clause-counted c =
    let t : Counts = record { pages = c.self.inside.pages.items; counts = c.self.inside.counts.items } in
    let new : Counts = record { pages = t.pages; counts = set t.counts (1024 * c.in_ok-place.place + c.args.word % 1024) (c.index_mut.result.now + 1) } in
    add_counts c.args.self.now t new c.args.word c.in_ok-place.place c.index_mut.result.now
    (λ w. ap (λ (s : Counts). count_at s w) c.self.view_is ∙ c.in_ok-place.ensures.same w) c.self.invariant
    (c.in_ok-place.ensures.place ∙ sym (ap (λ (s : Counts). place_of s (c.args.word / 1024)) c.self.view_is))
    (subst (λ (s : Counts). c.in_ok-place.place < length s.pages) (sym c.self.view_is) c.in_ok-place.ensures.within)
    refl refl c.index_mut.ensures.value
