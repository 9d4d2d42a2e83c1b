-- Counts as pairs, for the views of other types.
use Rattle.std.specs.Prelude.{List, ℕ}
use Rattle.std.specs.Coded.{Coded, code_by, coded×, coded_ℕ, coded_list}
use Rattle.std.proofs.Common.{refl}
use Rattle.word_counts.specs.Counts.{Counts}

abbrev pub coded_counts : Coded Counts
coded_counts = code_by (List ℕ × List ℕ) (coded× (coded_list coded_ℕ) (coded_list coded_ℕ)) (λ t. (t.pages, t.counts)) (λ p. record { pages = p.0; counts = p.1 }) (λ _. refl)
