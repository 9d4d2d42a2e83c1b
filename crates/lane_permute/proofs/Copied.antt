-- Runs of lanes that are copied.
use Rattle.std.proofs.Common.{◌≡◌, ◌<◌, ◌≤◌, ◌+◌, ◌-◌, ℕ, zero, suc, Bool, true, false, nat_eq, nat_lt, if◌then◌else◌, List, [], ◌∷◌, ◌++◌, map, length, take, drop, set, get_or, refl, sym, ap, ap₂, ◌∙◌, arith}
use Rattle.std.proofs.lemmas.Bool.Decides.{nat_tests}
use Rattle.std.proofs.lemmas.List.{take-map, drop-map, map-append, length-map, length-take, length-drop, get_or-take, get_or-drop, get_or-append_right}
use Rattle.std.proofs.Math.ListN.{get_or-append}
use Rattle.lane_model.specs.declared.places.LaneSource.TheVariants.{FirstLane, SecondLane, Scalar}
use Rattle.lane_model.specs.Permute.{taken, concatenated, spliced, insr_place}
use Rattle.lane_permute.specs.Slices.{number_at}

-- ---- numbers

-- a run of one list, then another list
module _ (a b : List ℕ) (from count rest : ℕ) where
  run : List ℕ
  run = take count (drop from a) ++ take rest b

  run_front : (k : ℕ) → from + count ≤ length a → k < count → get_or run k 0 ≡ get_or a (from + k) 0
  unfolding run
  run_front k room h =
      let there : k < length (take count (drop from a)) = omega (arith, length-take count (drop from a), length-drop from a) in
      get_or-append (take count (drop from a)) (take rest b) 0 k there ∙ get_or-take count (drop from a) k 0 h ∙ get_or-drop from a k 0

  run_back : (k : ℕ) → from + count ≤ length a → count ≤ k → k - count < rest → get_or run k 0 ≡ get_or b (k - count) 0
  unfolding run
  run_back k room h within =
      let long : length (take count (drop from a)) ≡ count = omega (arith, length-take count (drop from a), length-drop from a) in
      get_or-append_right (take count (drop from a)) (take rest b) count k 0 long h ∙ get_or-take rest b (k - count) 0 within

  run_lane : (t : Bool) (k : ℕ) → nat_lt k count ≡ t → from + count ≤ length a → k < count + rest
      → get_or (take count (drop from a) ++ take rest b) k 0 ≡ taken (λ j. get_or a j 0) (λ j. get_or b j 0) 0 0 (if t then FirstLane (from + k) else SecondLane (k - count))
  unfolding run
  run_lane true k e room h = let below : k < count = grind (arith, nat_tests) in run_front k room below
  run_lane false k e room h = let above : count ≤ k = grind (arith, nat_tests) in let within : k - count < rest = omega arith in run_back k room above within

-- ---- lanes

module _ {T : Type 0} (f : T → ℕ) where
  mapped_run : (a b : List T) (from count rest : ℕ) → map f (take count (drop from a) ++ take rest b) ≡ take count (drop from (map f a)) ++ take rest (map f b)
  mapped_run a b from count rest =
      map-append f (take count (drop from a)) (take rest b)
      ∙ ap₂ (λ (x y : List ℕ). x ++ y) (sym (ap (λ (x : List ℕ). take count x) (drop-map f from a) ∙ take-map f count (drop from a))) (sym (take-map f rest b))

  -- a run of one source, then the other source
  pub run_is : (a b out : List T) (from count n : ℕ) → length a ≡ n → from + count ≤ n → out ≡ take count (drop from a) ++ take (n - count) b
      → (k : ℕ) → k < n → number_at f out k ≡ taken (number_at f a) (number_at f b) 0 0 (spliced from count k)
  run_is a b out from count n long room is k h =
      let inside : from + count ≤ length (map f a) = omega (arith, length-map a f) in
      let within : k < count + (n - count) = omega arith in
      ap (λ (xs : List T). number_at f xs k) is
      ∙ ap (λ (xs : List ℕ). get_or xs k 0) (mapped_run a b from count (n - count))
      ∙ run_lane (map f a) (map f b) from count (n - count) (nat_lt k count) k refl inside within

  -- as many lanes of two sources one after the other as each has
  pub window_is : (a b above out : List T) (from n : ℕ) → length a ≡ n → length b ≡ n → from ≤ n → out ≡ take n (drop from (a ++ (b ++ above)))
      → (k : ℕ) → k < n → number_at f out k ≡ taken (number_at f a) (number_at f b) 0 0 (concatenated n (from + k))
  window_is a b above out from n count_a count_b room is k h =
      let all : map f (a ++ (b ++ above)) ≡ map f a ++ (map f b ++ map f above)
      = map-append f a (b ++ above) ∙ ap (λ (x : List ℕ). map f a ++ x) (map-append f b above) in
      ap (λ (xs : List T). number_at f xs k) is
      ∙ ap (λ (xs : List ℕ). get_or xs k 0) (sym (ap (λ (x : List ℕ). take n x) (drop-map f from (a ++ (b ++ above))) ∙ take-map f n (drop from (a ++ (b ++ above)))))
      ∙ get_or-take n (drop from (map f (a ++ (b ++ above)))) k 0 h ∙ get_or-drop from (map f (a ++ (b ++ above))) k 0
      ∙ ap (λ (xs : List ℕ). get_or xs (from + k) 0) all
      ∙ by_test (nat_lt (from + k) n) refl where
        by_test : (t : Bool) → nat_lt (from + k) n ≡ t
            → get_or (map f a ++ (map f b ++ map f above)) (from + k) 0 ≡ taken (number_at f a) (number_at f b) 0 0 (if t then FirstLane (from + k) else SecondLane (from + k - n))
        by_test true e =
            let below : from + k < n = grind (arith, nat_tests) in
            let there : from + k < length (map f a) = omega (arith, length-map a f) in
            get_or-append (map f a) (map f b ++ map f above) 0 (from + k) there
        by_test false e =
            let least : n ≤ from + k = grind (arith, nat_tests) in
            let long : length (map f a) ≡ n = omega (arith, length-map a f) in
            let there : from + k - n < length (map f b) = omega (arith, length-map b f) in
            get_or-append_right (map f a) (map f b ++ map f above) n (from + k) 0 long least ∙ get_or-append (map f b) (map f above) 0 (from + k - n) there

  pub one_written : (xs : List T) (low : T) → length xs ≡ 1 → set xs 0 low ≡ low ∷ []
  one_written [] low h = absurd (omega arith)
  one_written (x ∷ []) low h = refl
  one_written (x ∷ y ∷ xs) low h = absurd (omega arith)

  -- one lane, then a run
  pub moved_up : (a out : List T) (low : T) (n : ℕ) → out ≡ low ∷ take (n - 1) a → (k : ℕ) → k < n → number_at f out k ≡ taken (number_at f a) (number_at f a) (f low) 0 (insr_place k)
  moved_up a out low n is zero h = ap (λ (xs : List T). number_at f xs zero) is
  moved_up a out low n is (suc k) h =
      let within : k < n - 1 = omega arith in
      let same : suc k - 1 ≡ k = omega arith in
      let test : nat_eq (suc k) 0 ≡ false = grind (arith, nat_tests) in
      ap (λ (xs : List T). number_at f xs (suc k)) is
      ∙ ap (λ (xs : List ℕ). get_or xs k 0) (sym (take-map f (n - 1) a))
      ∙ get_or-take (n - 1) (map f a) k 0 within
      ∙ ap (λ j. get_or (map f a) j 0) (sym same)
      ∙ ap (λ t. taken (number_at f a) (number_at f a) (f low) 0 (if t then Scalar else FirstLane (suc k - 1))) (sym test)

-- from lane `from` on of both sources one after the other: a run up to the end of the first
pub joined_run : (a b : ℕ → ℕ) (n from k : ℕ) → from ≤ n → taken a b 0 0 (spliced from (n - from) k) ≡ taken a b 0 0 (concatenated n (from + k))
joined_run a b n from k h = by_test (nat_lt k (n - from)) (nat_lt (from + k) n) refl refl where
  by_test : (t s : Bool) → nat_lt k (n - from) ≡ t → nat_lt (from + k) n ≡ s
      → taken a b 0 0 (if t then FirstLane (from + k) else SecondLane (k - (n - from))) ≡ taken a b 0 0 (if s then FirstLane (from + k) else SecondLane (from + k - n))
  by_test true true e d = refl
  by_test true false e d = absurd (grind (arith, nat_tests))
  by_test false true e d = absurd (grind (arith, nat_tests))
  by_test false false e d = let above : n - from ≤ k = grind (arith, nat_tests) in let same : k - (n - from) ≡ from + k - n = omega arith in ap b same
