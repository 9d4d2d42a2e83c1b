-- Lists that are given one by one. They are this project's own.
use Rattle.std.specs.Prelude.{ℕ, List, map}
use Rattle.std.specs.List.{range_with_len}

-- n values: f 0, f 1, ..
abbrev pub each : {A : Type 0} → ℕ → (ℕ → A) → List A
each n f = map f (range_with_len 0 n)
