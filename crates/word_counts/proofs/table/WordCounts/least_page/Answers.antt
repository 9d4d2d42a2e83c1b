use Rattle.std.proofs.Common.{◌<◌, ◌≤◌, ◌∙◌, ℕ, List, length, get_or, sym, ap, subst}
use Rattle.word_counts.specs.Counts.{Counts, count_at}
use Rattle.word_counts.proofs.Tables.{zero_before}
use Rattle.word_counts.proofs.table.WordCounts.least_page.Goals as goal

pub returns-clause-zero : goal.returns-clause-zero
returns-clause-zero c = λ word low high.
    let t : Counts = record { pages = c.self.inside.pages.items; counts = c.self.inside.counts.items } in
    sym (ap (λ (s : Counts). count_at s word) c.self.view_is)
    ∙ zero_before t c.args.from c.least_from.result word c.self.invariant
    (subst (λ (xs : List ℕ). (k : ℕ) → k < length xs → c.args.from ≤ get_or xs k 0 → c.least_from.result ≤ get_or xs k 0) c.deref.ensures.value c.least_from.ensures.least) low high
