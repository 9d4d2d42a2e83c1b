-- The words of the line of `svemu` that runs what `count` counts.
use Rattle.std.specs.Prelude.{ℕ, ◌+◌, ◌&&◌, Bool, List, [], ◌∷◌, ◌++◌, drop, take, codes, Option, Some, None, if◌then◌else◌}
use Rattle.std.specs.Str.{bytes_eq}

-- `--vl` in front of `all`
abbrev pub is_all : List ℕ → List ℕ → Bool
is_all option value = bytes_eq option (codes "--vl") && bytes_eq value (codes "all")

-- the place of `--vl` in front of the word `all`, before `--`, among words from a place on
abbrev pub all_from : ℕ → List (List ℕ) → Option ℕ
all_from place [] = None
all_from place (option ∷ []) = None
all_from place (option ∷ value ∷ words) =
    if bytes_eq option (codes "--") then None
    else (if is_all option value then Some place
    else all_from (place + 1) (value ∷ words))

-- `run` with the same words behind it, or where the length is `all`, `sweep` without it
abbrev pub words_by : List (List ℕ) → Option ℕ → List (List ℕ)
words_by words None = codes "run" ∷ drop 1 words
words_by words (Some place) = codes "sweep" ∷ drop 1 (take place words) ++ drop (place + 2) words

abbrev pub counted_words : List (List ℕ) → List (List ℕ)
counted_words words = words_by words (all_from 1 (drop 1 words))
