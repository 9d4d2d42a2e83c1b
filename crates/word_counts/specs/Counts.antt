-- Counts of words. Word number w has the four bytes from address 4 * w on; a page has the 1,024 words of 4,096 bytes.
use Rattle.std.specs.Prelude.{◌≡◌, ◌<◌, ℕ, ◌+◌, ◌*◌, ◌/◌, ◌%◌, ◌^◌, List, length, get_or, nat_eq, if◌then◌else◌}
use Rattle.std.specs.List.{position_or_len}

-- the numbers of the pages that have counts, in the order in which they came, and the counts, 1,024 for each of these
-- pages
pub record Counts : Type 0 where
  pub pages : List ℕ
  pub counts : List ℕ

-- the place of a page among these, and their number where it isn't there
abbrev pub place_of : Counts → ℕ → ℕ
place_of t page = position_or_len (λ p. nat_eq p page) t.pages

-- the count of a word, which is 0 where its page has no counts
abbrev pub count_at : Counts → ℕ → ℕ
count_at t word = get_or t.counts (1024 * place_of t (word / 1024) + word % 1024) 0

-- each page has 1,024 counts, none stands twice, and the words of each are below address 2 ^ 64
pub record IsTable (t : Counts) : Type 0 where
  pub whole : length t.counts ≡ 1024 * length t.pages
  pub once : (i j : ℕ) → i < length t.pages → j < length t.pages → get_or t.pages i 0 ≡ get_or t.pages j 0 → i ≡ j
  pub below : (i : ℕ) → i < length t.pages → get_or t.pages i 0 < 2 ^ 52

-- no count changed
abbrev pub IsSame : Counts → Counts → Type 0
IsSame old new = (word : ℕ) → count_at new word ≡ count_at old word

-- one more was counted of a word
abbrev pub IsCounted : ℕ → Counts → Counts → Type 0
IsCounted word old new = (w : ℕ) → count_at new w ≡ (if nat_eq w word then count_at old w + 1 else count_at old w)
