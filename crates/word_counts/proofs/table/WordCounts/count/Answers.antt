use Rattle.std.proofs.Common.{◌≡◌, ◌<◌, ◌+◌, ◌*◌, ◌/◌, ◌%◌, ◌∙◌, ℕ, sym, ap, arith, length, get_or}
use Rattle.std.proofs.lemmas.Grind.{get_or_default_zero}
use Rattle.word_counts.specs.Counts.{Counts, count_at, place_of}
use Rattle.word_counts.proofs.Tables.{count_none}
use Rattle.word_counts.proofs.table.WordCounts.count.Goals as goal

pub returns-then-place-len : goal.returns-then-place-len
returns-then-place-len c =
    let t : Counts = record { pages = c.self.inside.pages.items; counts = c.self.inside.counts.items } in
    let place : place_of t (c.args.word / 1024) ≡ c.place_of-place.result = ap (λ (s : Counts). place_of s (c.args.word / 1024)) c.self.view_is ∙ sym c.place_of-place.ensures.place in
    let same = c.if-place-len.true in
    let len = c.len.ensures in
    count_none t c.args.word c.self.invariant (omega (arith, place, same, len))
    ∙ ap (λ (s : Counts). count_at s c.args.word) c.self.view_is

pub returns : goal.returns
returns c =
    let t : Counts = record { pages = c.self.inside.pages.items; counts = c.self.inside.counts.items } in
    let most = c.place_of-place.ensures.most in
    let other = c.if-place-len.false in
    let len = c.len.ensures in
    let pages : length c.args.self.now.pages ≡ length t.pages = ap (λ (s : Counts). length s.pages) (sym c.self.view_is) in
    let whole = c.self.invariant.whole in
    let index : 1024 * c.place_of-place.result + c.args.word % 1024 < length t.counts = omega (arith, most, other, len, pages, whole) in
    c.index.ensures
    ∙ get_or_default_zero t.counts (1024 * c.place_of-place.result + c.args.word % 1024) c.index.result.now index
    ∙ ap (λ (p : ℕ). get_or t.counts (1024 * p + c.args.word % 1024) 0) (c.place_of-place.ensures.place ∙ sym (ap (λ (s : Counts). place_of s (c.args.word / 1024)) c.self.view_is))
    ∙ ap (λ (s : Counts). count_at s c.args.word) c.self.view_is
