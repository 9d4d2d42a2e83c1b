-- Which calls of an object in memory fail, and how many have.
use Rattle.std.specs.Prelude.{ℕ, ◌+◌, ◌-◌, ◌^◌, min, Bool, nat_eq, List, refl, if◌then◌else◌}
use Rattle.std.specs.List.{list_any}
use Rattle.std.specs.Coded.{Coded, code_by, coded×, coded_ℕ, coded_list}

-- one fault more, up to the counter's last value
abbrev pub next_count : ℕ → ℕ
next_count n = min (n + 1) (2 ^ 64 - 1)

-- the count of faults rises by one at a failure, and else stays
abbrev pub counts_if : Bool → ℕ → ℕ
counts_if failed before = if failed then next_count before else before

-- the numbers of the calls that are to fail, counted from 0; how many calls were made; how many faults were counted
pub record Calls : Type 0 where
  pub fails : List ℕ
  pub made : ℕ
  pub faults : ℕ

abbrev pub coded_calls : Coded Calls
coded_calls =
    code_by (List ℕ × (ℕ × ℕ)) (coded× (coded_list coded_ℕ) (coded× coded_ℕ coded_ℕ)) (λ c. (c.fails, (c.made, c.faults))) (λ p. record { fails = p.0; made = p.1.0; faults = p.1.1 }) (λ _. refl)

-- the next call is to fail
abbrev pub is_due : Calls → Bool
is_due calls = list_any (λ number. nat_eq number calls.made) calls.fails

-- no call was made
abbrev pub uncalled : List ℕ → Calls
uncalled fails = record { fails = fails; made = 0; faults = 0 }

-- one fault more
abbrev pub with_fault : Calls → Calls
with_fault calls = record { fails = calls.fails; made = calls.made; faults = next_count calls.faults }

-- one call more, and one fault more where it failed
abbrev pub after_call : Bool → Calls → Calls
after_call failed calls = record { fails = calls.fails; made = min (calls.made + 1) (2 ^ 128 - 1); faults = counts_if failed calls.faults }
