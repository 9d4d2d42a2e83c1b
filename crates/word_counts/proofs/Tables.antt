-- Tables of counts: where pages stand, and what is counted.
use Rattle.std.proofs.Common.{◌≡◌, ◌<◌, ◌≤◌, ◌⊎◌, inl, inr, ℕ, ◌+◌, ◌*◌, ◌-◌, ◌/◌, ◌%◌, ◌^◌, Bool, true, false, cond, List, [], ◌∷◌, ◌++◌, length, get_or, nat_eq, nat_lt, if◌then◌else◌, position, not, Some, None, refl, sym, ap, subst, ◌∙◌, arith, length-append, take, replicate}
use Rattle.std.specs.List.{position_or_len}
use Rattle.std.proofs.lemmas.Bool.{eq-eqb, ne_eqb, eqb-true, eqb-false}
use Rattle.std.proofs.lemmas.List.{get_or_append_left, get_or-append_right, get_or-set_same, get_or-set_other, get_or-replicate, length-replicate, take_all}
use Rattle.std.proofs.lemmas.List.Sums.{position_or_len_is, prefix_len-le-length, passes_at_first}
use Rattle.std.proofs.lemmas.List.Folds.{position_or_len_push}
use Rattle.std.proofs.Math.ListN.{set, get_or-eq_default}
use Rattle.std.proofs.lemmas.Bool.Decides.{nat_tests}
use Rattle.std.proofs.lemmas.Grind.{get_or_default_zero}
use Rattle.word_counts.specs.Counts.{Counts, IsCounted, IsSame, IsTable, count_at, place_of}

-- ---- where a page stands

pub place_within : (t : Counts) (page : ℕ) → place_of t page ≤ length t.pages
place_within t page = prefix_len-le-length _ t.pages

pub page_there : (t : Counts) (page : ℕ) → place_of t page < length t.pages → get_or t.pages (place_of t page) 0 ≡ page
page_there t page h = eqb-true _ _ (passes_at_first (λ p. nat_eq p page) t.pages 0 h)

pub place_is : (t : Counts) (page i : ℕ) → IsTable t → i < length t.pages → get_or t.pages i 0 ≡ page → place_of t page ≡ i
place_is t page i is within here =
    position_or_len_is (λ p. nat_eq p page) t.pages i 0 (omega arith)
    (λ k below. ne_eqb _ _ (λ same. let e : k ≡ i = is.once k i (omega arith) within (same ∙ sym here) in omega arith))
    (λ _. eq-eqb _ _ here)

by_test : (p : ℕ → Bool) (xs : List ℕ) (i : ℕ) (b : Bool) → b ≡ nat_lt (position_or_len p xs) (length xs) → cond b (Some (position_or_len p xs)) None ≡ Some i → i ≡ position_or_len p xs
by_test p xs i true is h = cc
by_test p xs i false is h = cc

pub place_found : (p : ℕ → Bool) (xs : List ℕ) (i : ℕ) → position p xs ≡ Some i → i ≡ position_or_len p xs
place_found p xs i h = by_test p xs i (nat_lt (position_or_len p xs) (length xs)) refl h

by_none : (p : ℕ → Bool) (xs : List ℕ) (b : Bool) → b ≡ nat_lt (position_or_len p xs) (length xs) → cond b (Some (position_or_len p xs)) None ≡ None → length xs ≡ position_or_len p xs
by_none p xs true is h = cc
by_none p xs false is h = let most = prefix_len-le-length (λ x. not (p x)) xs in grind (arith, nat_tests)

pub place_missing : (p : ℕ → Bool) (xs : List ℕ) → position p xs ≡ None → length xs ≡ position_or_len p xs
place_missing p xs h = by_none p xs (nat_lt (position_or_len p xs) (length xs)) refl h

-- ---- a count's place

pub count_within : (t : Counts) (word : ℕ) → IsTable t → place_of t (word / 1024) < length t.pages → 1024 * place_of t (word / 1024) + word % 1024 < length t.counts
count_within t word is h = let w = is.whole in omega arith

pub count_none : (t : Counts) (word : ℕ) → IsTable t → place_of t (word / 1024) ≡ length t.pages → 0 ≡ count_at t word
count_none t word is h = let w = is.whole in sym (get_or-eq_default t.counts 0 {n = 1024 * place_of t (word / 1024) + word % 1024} (omega arith))

-- ---- a page is added behind the others, with counts of 0

below_or : (a b : ℕ) → (a < b) ⊎ (b ≤ a)
below_or a b = grind arith

zeros : (m i : ℕ) → get_or (replicate {A = ℕ} m 0) i 0 ≡ 0
zeros m i = by_side (below_or i m)
  where
    by_side : (i < m) ⊎ (m ≤ i) → get_or (replicate {A = ℕ} m 0) i 0 ≡ 0
    by_side (inl h) = get_or-replicate m i 0 0 h
    by_side (inr h) = let e : length (replicate {A = ℕ} m 0) ≡ m = length-replicate m 0 in get_or-eq_default (replicate m 0) 0 {n = i} (omega (arith, e))

-- a list that was filled up with zeros
pub filled : (xs new : List ℕ) (n m : ℕ) → length xs ≤ n → new ≡ take n xs ++ replicate m 0 → new ≡ xs ++ replicate m 0
filled xs new n m h is = is ∙ ap (λ (ys : List ℕ). ys ++ replicate m 0) (take_all n xs h)

module _ (t new : Counts) (page : ℕ) (is : IsTable t) (absent : place_of t page ≡ length t.pages) (pages : new.pages ≡ t.pages ++ page ∷ [])
    (m : ℕ) (many : m ≡ 1024) (counts : new.counts ≡ t.counts ++ replicate m 0) where
  more : length new.counts ≡ length t.counts + 1024
  more = ap length counts ∙ length-append t.counts (replicate m 0) ∙ ap (λ (k : ℕ). length t.counts + k) (length-replicate m 0 ∙ many)

  kept : (k : ℕ) → k < length t.counts → get_or new.counts k 0 ≡ get_or t.counts k 0
  kept k h = ap (λ (xs : List ℕ). get_or xs k 0) counts ∙ get_or_append_left t.counts (replicate m 0) 0 k h

  zero_behind : (k : ℕ) → length t.counts ≤ k → get_or new.counts k 0 ≡ 0
  zero_behind k h = ap (λ (xs : List ℕ). get_or xs k 0) counts ∙ get_or-append_right t.counts (replicate m 0) (length t.counts) k 0 refl h ∙ zeros m (k - length t.counts)

  longer : length new.pages ≡ length t.pages + 1
  longer = ap length pages ∙ length-append t.pages (page ∷ [])

  old_page : (i : ℕ) → i < length t.pages → get_or new.pages i 0 ≡ get_or t.pages i 0
  old_page i h = ap (λ (xs : List ℕ). get_or xs i 0) pages ∙ get_or_append_left t.pages (page ∷ []) 0 i h

  new_page : (i : ℕ) → i ≡ length t.pages → get_or new.pages i 0 ≡ page
  new_page i h = ap (λ (xs : List ℕ). get_or xs i 0) pages ∙ get_or-append_right t.pages (page ∷ []) (length t.pages) i 0 refl (omega arith)
      ∙ ap (λ (k : ℕ). get_or (page ∷ []) k 0) (let e : i - length t.pages ≡ 0 = omega arith in e)

  -- it stood nowhere
  elsewhere : (i : ℕ) → i < length t.pages → get_or t.pages i 0 ≡ page → ⊥
  elsewhere i h same = let e = place_is t page i is h same in omega arith

  place_later : (q : ℕ) → (place_of new q ≡ place_of t q) ⊎ ((place_of t q ≡ length t.pages) × (length t.pages ≤ place_of new q))
  place_later q =
      let e : place_of new q ≡ cond (nat_eq (place_of t q) (length t.pages)) (length t.pages + cond (nat_eq page q) 0 1) (place_of t q) =
      ap (λ (xs : List ℕ). position_or_len (λ p. nat_eq p q) xs) pages ∙ position_or_len_push (λ p. nat_eq p q) t.pages page in
      by_old (nat_eq (place_of t q) (length t.pages)) refl e
    where
      by_old : (b : Bool) → b ≡ nat_eq (place_of t q) (length t.pages) → place_of new q ≡ cond b (length t.pages + cond (nat_eq page q) 0 1) (place_of t q)
          → (place_of new q ≡ place_of t q) ⊎ ((place_of t q ≡ length t.pages) × (length t.pages ≤ place_of new q))
      by_old true h e = inr (eqb-true _ _ (sym h), omega arith)
      by_old false h e = inl e

  pub grown_same : IsSame t new
  grown_same word = by_place (place_later (word / 1024))
    where
      whole : length t.counts ≡ 1024 * length t.pages
      whole = is.whole

      old_most : place_of t (word / 1024) ≤ length t.pages
      old_most = place_within t (word / 1024)

      old_none : (k : ℕ) → length t.counts ≤ k → get_or t.counts k 0 ≡ 0
      old_none k h = get_or-eq_default t.counts 0 {n = k} h

      at_place : (i : ℕ) → (i < length t.counts) ⊎ (length t.counts ≤ i) → get_or new.counts i 0 ≡ get_or t.counts i 0
      at_place i (inl h) = kept i h
      at_place i (inr h) = zero_behind i h ∙ sym (old_none i h)

      by_place : (place_of new (word / 1024) ≡ place_of t (word / 1024)) ⊎ ((place_of t (word / 1024) ≡ length t.pages) × (length t.pages ≤ place_of new (word / 1024))) → count_at new word ≡ count_at t word
      by_place (inl e) =
          ap (λ (p : ℕ). get_or new.counts (1024 * p + word % 1024) 0) e
          ∙ at_place (1024 * place_of t (word / 1024) + word % 1024) (below_or (1024 * place_of t (word / 1024) + word % 1024) (length t.counts))
      by_place (inr h) =
          let absent_here = h.0 in
          let later = h.1 in
          zero_behind (1024 * place_of new (word / 1024) + word % 1024) (omega arith)
          ∙ sym (old_none (1024 * place_of t (word / 1024) + word % 1024) (omega arith))

  pub grown_table : page < 2 ^ 52 → IsTable new
  grown_table low = record {
    whole = let w = is.whole in let l = longer in let k = more in omega arith;
    once = λ i j hi hj same. once_by i j (side i hi) (side j hj) same;
    below = λ i h. below_by i (side i h);
  }
    where
      side : (i : ℕ) → i < length new.pages → (i < length t.pages) ⊎ (i ≡ length t.pages)
      side i h = let l = longer in grind arith

      once_by : (i j : ℕ) → (i < length t.pages) ⊎ (i ≡ length t.pages) → (j < length t.pages) ⊎ (j ≡ length t.pages) → get_or new.pages i 0 ≡ get_or new.pages j 0 → i ≡ j
      once_by i j (inl h) (inl k) same = is.once i j h k (sym (old_page i h) ∙ same ∙ old_page j k)
      once_by i j (inl h) (inr k) same = absurd (elsewhere i h (sym (old_page i h) ∙ same ∙ new_page j k))
      once_by i j (inr h) (inl k) same = absurd (elsewhere j k (sym (old_page j k) ∙ sym same ∙ new_page i h))
      once_by i j (inr h) (inr k) same = h ∙ sym k

      below_by : (i : ℕ) → (i < length t.pages) ⊎ (i ≡ length t.pages) → get_or new.pages i 0 < 2 ^ 52
      below_by i (inl h) = subst (λ (p : ℕ). p < 2 ^ 52) (sym (old_page i h)) (is.below i h)
      below_by i (inr h) = subst (λ (p : ℕ). p < 2 ^ 52) (sym (new_page i h)) low

  pub grown_longer : length new.pages ≡ length t.pages + 1
  grown_longer = longer

  pub grown_place : place_of new page ≡ length t.pages
  grown_place =
      let l = longer in
      position_or_len_is (λ p. nat_eq p page) new.pages (length t.pages) 0 (omega arith)
      (λ k h. ne_eqb _ _ (λ same. elsewhere k h (sym (old_page k h) ∙ same))) (λ _. eq-eqb _ _ (new_page (length t.pages) refl))

-- ---- a word is counted

module _ (t new : Counts) (word : ℕ) (is : IsTable t) (there : place_of t (word / 1024) < length t.pages) (pages : new.pages ≡ t.pages)
    (counts : new.counts ≡ set t.counts (1024 * place_of t (word / 1024) + word % 1024) (count_at t word + 1)) where
  same_place : (page : ℕ) → place_of new page ≡ place_of t page
  same_place page = ap (λ (xs : List ℕ). position_or_len (λ p. nat_eq p page) xs) pages

  abbrev index_of : ℕ → ℕ
  index_of w = 1024 * place_of t (w / 1024) + w % 1024

  -- words of one place are one word
  one_page : (w : ℕ) → place_of t (w / 1024) ≡ place_of t (word / 1024) → w / 1024 ≡ word / 1024
  one_page w same = sym (page_there t (w / 1024) (omega (arith, same))) ∙ ap (λ (i : ℕ). get_or t.pages i 0) same ∙ page_there t (word / 1024) there

  one_word : (w : ℕ) → index_of w ≡ index_of word → w ≡ word
  one_word w same =
      let e : place_of t (w / 1024) ≡ place_of t (word / 1024) = omega arith in
      let p = one_page w e in
      omega arith

  pub counted_at : IsCounted word t new
  counted_at w =
      ap (λ (p : ℕ). get_or new.counts (1024 * p + w % 1024) 0) (same_place (w / 1024))
      ∙ ap (λ (xs : List ℕ). get_or xs (index_of w) 0) counts
      ∙ by_word (nat_eq w word) refl
    where
      by_word : (b : Bool) → b ≡ nat_eq w word → get_or (set t.counts (index_of word) (count_at t word + 1)) (index_of w) 0 ≡ (if b then count_at t w + 1 else count_at t w)
      by_word true h =
          let e : w ≡ word = eqb-true _ _ (sym h) in
          ap (λ (v : ℕ). get_or (set t.counts (index_of word) (count_at t word + 1)) (index_of v) 0) e
          ∙ get_or-set_same t.counts (index_of word) (count_at t word + 1) 0 (count_within t word is there)
          ∙ ap (λ (v : ℕ). count_at t v + 1) (sym e)
      by_word false h = get_or-set_other t.counts (index_of word) (index_of w) (count_at t word + 1) 0 (λ same. eqb-false _ _ (sym h) (one_word w same))

-- the word at a place of a table that had the same counts
pub add_counts : (old t new : Counts) (word place v : ℕ) → IsSame old t → IsTable t → place ≡ place_of t (word / 1024) → place < length t.pages → new.pages ≡ t.pages
    → new.counts ≡ set t.counts (1024 * place + word % 1024) (v + 1) → v ≡ get_or t.counts (1024 * place + word % 1024) v → IsCounted word old new
add_counts old t new word place v same is at within pages counts here w =
    let there : place_of t (word / 1024) < length t.pages = omega (arith, at) in
    let index : 1024 * place + word % 1024 < length t.counts = let k = count_within t word is there in omega (arith, at) in
    let value : v ≡ count_at t word = here ∙ get_or_default_zero t.counts (1024 * place + word % 1024) v index ∙ ap (λ (p : ℕ). get_or t.counts (1024 * p + word % 1024) 0) at in
    counted_at t new word is there pages
    (counts ∙ ap (λ (p : ℕ). set t.counts (1024 * p + word % 1024) (v + 1)) at ∙ ap (λ (x : ℕ). set t.counts (1024 * place_of t (word / 1024) + word % 1024) (x + 1)) value) w
    ∙ ap (λ (n : ℕ). if nat_eq w word then n + 1 else n) (same w)

-- ---- pages without counts

-- no word of the pages before the least one from a page on was executed
pub zero_before : (t : Counts) (from least word : ℕ) → IsTable t → ((k : ℕ) → k < length t.pages → from ≤ get_or t.pages k 0 → least ≤ get_or t.pages k 0)
    → from ≤ word / 1024 → word / 1024 < least → count_at t word ≡ 0
zero_before t from least word is each h below =
    sym (count_none t word is (by_side (below_or (place_of t (word / 1024)) (length t.pages))))
  where
    by_side : (place_of t (word / 1024) < length t.pages) ⊎ (length t.pages ≤ place_of t (word / 1024)) → place_of t (word / 1024) ≡ length t.pages
    by_side (inl there) =
        let page = page_there t (word / 1024) there in
        let later = each (place_of t (word / 1024)) there (omega (arith, page)) in
        absurd (omega (arith, page, later))
    by_side (inr there) = let most = place_within t (word / 1024) in omega (arith, most)
