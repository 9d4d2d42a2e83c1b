-- The words of the line of `svemu` that runs what is traced.
use Rattle.std.specs.Prelude.{ℕ, ◌&&◌, not, Bool, true, false, List, [], ◌∷◌, drop, codes, is_some, if◌then◌else◌}
use Rattle.std.specs.Str.{bytes_eq}
use Rattle.trace_options.specs.Options.{option_of}

-- behind `--` no option stands
abbrev pub ends_options : List ℕ → Bool
ends_options word = bytes_eq word (codes "--")

abbrev pub gives_option : List ℕ → Bool
gives_option word = not (ends_options word) && is_some (option_of word)

-- words but for the options that `run` hasn't, and their values; the first may be such a value
abbrev pub without_options : Bool → List (List ℕ) → List (List ℕ)
without_options value [] = []
without_options value (word ∷ words) =
    if value then without_options false words
    else (if ends_options word then word ∷ words
    else (if gives_option word then without_options true words else word ∷ without_options false words))

-- `run`, and the words behind the command's name
abbrev pub run_words : List (List ℕ) → List (List ℕ)
run_words words = codes "run" ∷ without_options false (drop 1 words)
