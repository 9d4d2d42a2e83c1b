-- The lines of counts: of each word that some run executed its address and its count in each run, by addresses.
use Rattle.std.specs.Prelude.{ℕ, zero, suc, ◌+◌, ◌*◌, ◌/◌, ◌%◌, ◌^◌, Bool, false, List, [], ◌∷◌, ◌++◌, flat_map, nat_eq, if◌then◌else◌, codes}
use Rattle.std.specs.Fmt.{decimal, digits}
use Rattle.std.specs.List.{list_all}

-- the last hexadecimal digits of a number, so many
abbrev pub hex_digits : ℕ → ℕ → List ℕ
hex_digits zero n = []
hex_digits (suc count) n = hex_digits count (n / 16) ++ digits 16 false (n % 16)

-- `count` says how often a run executed a word
module _ {T : Type 0} (count : T → ℕ → ℕ) where
  -- no run executed it
  abbrev pub is_unmet : List T → ℕ → Bool
  is_unmet runs word = list_all (λ run. nat_eq (count run word) 0) runs

  -- ` 5 3`: its counts
  abbrev pub counts_text : List T → ℕ → List ℕ
  counts_text runs word = flat_map (λ run. codes " " ++ decimal (count run word)) runs

  -- `0000000000400014 5 3`: its address, and its counts
  abbrev pub counts_line : List T → ℕ → List ℕ
  counts_line runs word = (hex_digits 16 (4 * word) ++ counts_text runs word) ++ 10 ∷ []

  -- the line of a word, where some run executed it
  abbrev pub word_line : List T → ℕ → List ℕ
  word_line runs word = if is_unmet runs word then [] else counts_line runs word

  -- the lines of so many words from one on
  unfoldable pub lines_from : List T → ℕ → ℕ → List ℕ
  lines_from runs word zero = []
  lines_from runs word (suc n) = word_line runs word ++ lines_from runs (word + 1) n

  -- the lines of all words, whose addresses are below 2 ^ 64
  abbrev pub count_lines : List T → List ℕ
  count_lines runs = lines_from runs 0 (2 ^ 62)
