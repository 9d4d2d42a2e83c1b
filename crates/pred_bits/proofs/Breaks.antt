-- Breaks, by the bits up to a place.
use Rattle.std.proofs.Common.{◌≡◌, ◌≢◌, ◌<◌, ℕ, Bool, true, false, ◌&&◌, ◌||◌, nat_eq, if◌then◌else◌, Option, Some, None, List, length, get_or, set, replicate, inl, inr, refl, sym, ap, ◌∙◌, arith}
use Rattle.std.proofs.lemmas.Bool.{cases_eq}
use Rattle.std.proofs.lemmas.Bool.Decides.{nat_tests}
use Rattle.std.proofs.lemmas.List.{length-set, get_or-set_same, get_or-set_other}
use Rattle.std.proofs.lemmas.List.FromFn.{fill_by_all}
use Rattle.lane_model.specs.Bits.{is_set, active, lanes_of}
use Rattle.lane_model.specs.Lists.{each}
use Rattle.lane_model.proofs.Bits.{each_bit_same, get_or-each_bit}
use Rattle.lane_model.specs.declared.predicates.LogicOp.TheVariants.{And, Sel}
use Rattle.lane_model.specs.FirstLast.{first_where}
use Rattle.lane_model.specs.Predicate.{is_at, is_upto, first_set, last_is_set, unbroken, logic, broken, broken_pair, broken_next, with_first_active}
use Rattle.pred_bits.proofs.Bytes.{first_byte, first_set_byte, last_set_byte, each_again, all_clear}

-- ---- brka, brkb

part_is : (inclusive : Bool) (m n : ℕ) (g a : List Bool) (place : Option ℕ) → place ≡ first_set (lanes_of 8 m) (active 8 g) (active 8 a) → m ≡ n → each n (is_upto inclusive place) ≡ each m (unbroken inclusive m g a)
part_is inclusive m n g a place e s =
    ap (λ (o : Option ℕ). each n (is_upto inclusive o)) (e ∙ first_set_byte m g a) ∙ ap (λ i. each i (unbroken inclusive m g a)) (sym s)

both : (g x : Bool) → (g && (x && x)) ≡ (if g then x else false)
both true true = refl
both true false = refl
both false x = refl

kept : (m : ℕ) (g old : List Bool) (f : ℕ → Bool) → logic Sel m g (each m f) old ≡ each m (λ k. if is_set g k then f k else (true && is_set old k))
kept m g old f = each_bit_same m _ _ (λ k h. ap (λ b. if is_set g k then b else is_set old k) (get_or-each_bit m f k false h))

cut : (m : ℕ) (g old : List Bool) (f : ℕ → Bool) → logic And m g (each m f) (each m f) ≡ each m (λ k. if is_set g k then f k else (false && is_set old k))
cut m g old f = each_bit_same m _ _ (λ k h. ap (λ b. is_set g k && (b && b)) (get_or-each_bit m f k false h) ∙ both (is_set g k) (f k))

module _ (inclusive : Bool) (m n : ℕ) (g a old part : List Bool) (place : Option ℕ) (found : place ≡ first_set (lanes_of 8 m) (active 8 g) (active 8 a)) (same : m ≡ n) (is : part ≡ each n (is_upto inclusive place)) where
  pub broken_kept : logic Sel m g part old ≡ broken inclusive true m g a old
  broken_kept = ap (λ (p : List Bool). logic Sel m g p old) (is ∙ part_is inclusive m n g a place found same) ∙ kept m g old (unbroken inclusive m g a)

  pub broken_cut : logic And m g part part ≡ broken inclusive false m g a old
  broken_cut = ap (λ (p : List Bool). logic And m g p p) (is ∙ part_is inclusive m n g a place found same) ∙ cut m g old (unbroken inclusive m g a)

-- ---- brkpa, brkpb, brkn

module _ (m : ℕ) (g a : List Bool) (last : Bool) (is : last ≡ last_is_set (lanes_of 8 m) (active 8 g) (active 8 a)) where
  last_bit : last ≡ last_is_set m (is_set g) (is_set a)
  last_bit = is ∙ last_set_byte m g a

  chosen : (g x : Bool) → (if g then x else false) ≡ (g && x)
  chosen true x = refl
  chosen false x = refl

  pub pair_goes_on : (inclusive : Bool) (b : List Bool) → last ≡ true → broken inclusive false m g b b ≡ broken_pair inclusive m g a b
  pair_goes_on inclusive b e =
      each_bit_same m _ _ (λ k h. chosen (is_set g k) (unbroken inclusive m g b k))
      ∙ ap (λ t. each m (λ k. t && (is_set g k && unbroken inclusive m g b k))) (sym e ∙ last_bit)

  pub pair_stops : (inclusive : Bool) (b : List Bool) → last ≡ false → replicate m false ≡ broken_pair inclusive m g a b
  pair_stops inclusive b e = all_clear m (λ k. false) (λ k h. refl) ∙ ap (λ t. each m (λ k. t && (is_set g k && unbroken inclusive m g b k))) (sym e ∙ last_bit)

  pub next_goes_on : (old : List Bool) → length old ≡ m → last ≡ true → old ≡ broken_next m g a old
  next_goes_on old count e = each_again m old count ∙ ap (λ t. each m (λ k. t && is_set old k)) (sym e ∙ last_bit)

  pub next_stops : (old : List Bool) → last ≡ false → replicate m false ≡ broken_next m g a old
  next_stops old e = all_clear m (λ k. false) (λ k h. refl) ∙ ap (λ t. each m (λ k. t && is_set old k)) (sym e ∙ last_bit)

-- ---- pfirst

module _ (m : ℕ) (g old : List Bool) (count : length old ≡ m) (place : Option ℕ) (is : place ≡ first_where (lanes_of 8 m) (active 8 g)) where
  first_bit : place ≡ first_where m (is_set g)
  first_bit = is ∙ first_byte m g

  here : (k : ℕ) → true ≡ nat_eq k k
  here k = grind (arith, nat_tests)

  elsewhere : (k j : ℕ) → j ≢ k → nat_eq j k ≡ false
  elsewhere k j other = grind (arith, nat_tests)

  written : (k : ℕ) → k < m → (j : ℕ) → j < m → get_or (set old k true) j false ≡ (nat_eq j k || is_set old j)
  written k within j h = elim (cases_eq j k) [
    | inl same ↦
        let there : k < length old = omega arith in
        ap (λ i. get_or (set old k true) i false) same ∙ get_or-set_same old k true false there ∙ ap (λ b. b || is_set old k) (here k) ∙ ap (λ i. nat_eq i k || is_set old i) (sym same)
    | inr other ↦ get_or-set_other old k j true false other ∙ ap (λ b. b || is_set old j) (sym (elsewhere k j other))
  ]

  pub first_written : (k : ℕ) → place ≡ Some k → k < m → set old k true ≡ with_first_active m g old
  first_written k e within =
      fill_by_all (λ j. nat_eq j k || is_set old j) (set old k true) m false (length-set old k true ∙ count) (written k within)
      ∙ ap (λ (o : Option ℕ). each m (λ j. is_at o j || is_set old j)) (sym e ∙ first_bit)

  pub none_written : place ≡ None → old ≡ with_first_active m g old
  none_written e = each_again m old count ∙ ap (λ (o : Option ℕ). each m (λ j. is_at o j || is_set old j)) (sym e ∙ first_bit)
