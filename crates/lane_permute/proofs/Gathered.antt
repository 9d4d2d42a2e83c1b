-- Active lanes, one after the other, and what stands behind them.
use Rattle.std.proofs.Common.{◌≡◌, ◌<◌, ◌+◌, ℕ, Bool, true, false, nat_lt, if◌then◌else◌, List, [], ◌∷◌, ◌++◌, length, set, get_or, refl, sym, ◌∙◌, ap, arith, length-append}
use Rattle.std.proofs.lemmas.Bool.Decides.{nat_tests}
use Rattle.std.proofs.Math.ListN.{get_or-append}
use Rattle.std.proofs.Math.Seq.{get_or-append_seam}
use Rattle.lane_model.specs.declared.places.LaneSource.TheVariants.{FirstLane, Zero}
use Rattle.lane_model.specs.Permute.{taken, active_lanes, compact_place}
use Rattle.lane_model.proofs.ActiveLanes.{active_lanes-more}
use Rattle.lane_permute.specs.Slices.{number_at, HasLanes}
use Rattle.lane_permute.proofs.Written.{written_more}

-- one number behind others
at_end : (xs : List ℕ) (k : ℕ) → get_or (xs ++ (k ∷ [])) (length xs) 0 ≡ k
at_end xs k = get_or-append_seam xs k [] 0

count_more : (xs : List ℕ) (k : ℕ) → length xs + 1 ≡ length (xs ++ (k ∷ []))
count_more xs k = omega (arith, length-append xs (k ∷ []))

count_here : (b : Bool) (xs : List ℕ) (k : ℕ) → (if b then length xs + 1 else length xs) ≡ length (xs ++ (if b then k ∷ [] else []))
count_here true xs k = count_more xs k
count_here false xs k = let none : List ℕ = [] in omega (arith, length-append xs none)

-- how many active lanes there are, with lane k
pub gathered_count : (active : ℕ → Bool) (k count : ℕ) → count ≡ length (active_lanes active k) → (if active k then count + 1 else count) ≡ length (active_lanes active (k + 1))
gathered_count active k count e = rw (active_lanes-more active k, e) (count_here (active k) (active_lanes active k) k)

module _ {T : Type 0} (f : T → ℕ) (a : List T) where
  lane_more : (xs : List ℕ) (out : List T) (k : ℕ) (x : T) → length xs < length out → f x ≡ number_at f a k → HasLanes f a xs out
      → (i : ℕ) → i < length xs + 1 → number_at f (set out (length xs) x) i ≡ number_at f a (get_or (xs ++ (k ∷ [])) i 0)
  lane_more xs out k x within is has =
      written_more f (λ i. number_at f a (get_or (xs ++ (k ∷ [])) i 0)) out (length xs) x within
      (λ i h. has i h ∙ ap (number_at f a) (sym (get_or-append xs (k ∷ []) 0 i h)))
      (is ∙ ap (number_at f a) (sym (at_end xs k)))

  lane_here : (b : Bool) (xs : List ℕ) (out : List T) (k : ℕ) (x : T) → length xs < length out → f x ≡ number_at f a k → HasLanes f a xs out
      → HasLanes f a (xs ++ (if b then k ∷ [] else [])) (if b then set out (length xs) x else out)
  lane_here true xs out k x within is has = λ i h. lane_more xs out k x within is has i (let e : length xs + 1 ≡ length (xs ++ (k ∷ [])) = count_more xs k in omega arith)
  lane_here false xs out k x within is has =
      let none : List ℕ = [] in
      λ i h. let here : i < length xs = omega (arith, length-append xs none) in has i here ∙ ap (number_at f a) (sym (get_or-append xs none 0 i here))

  -- lane k, where it is active
  pub gathered_more : (active : ℕ → Bool) (k count : ℕ) (out : List T) (x : T) → count ≡ length (active_lanes active k) → count < length out → f x ≡ number_at f a k → HasLanes f a (active_lanes active k) out
      → HasLanes f a (active_lanes active (k + 1)) (if active k then set out count x else out)
  gathered_more active k count out x e within is has =
      let here : length (active_lanes active k) < length out = omega arith in
      rw (active_lanes-more active k, e) (lane_here (active k) (active_lanes active k) out k x here is has)

  -- 0 behind them
  pub compacted : (active : ℕ → Bool) (n count : ℕ) (gathered out : List T) → count ≡ length (active_lanes active n) → HasLanes f a (active_lanes active n) gathered
      → ((i : ℕ) → i < n → number_at f out i ≡ (if nat_lt i count then number_at f gathered i else 0))
      → (i : ℕ) → i < n → number_at f out i ≡ taken (number_at f a) (number_at f a) 0 0 (compact_place active n i)
  compacted active n count gathered out e has cleared i h = let c : length (active_lanes active n) ≡ count = sym e in cleared i h ∙ rw c (by_test (nat_lt i count) refl) where
    by_test : (b : Bool) → nat_lt i count ≡ b → (if b then number_at f gathered i else 0) ≡ taken (number_at f a) (number_at f a) 0 0 (if b then FirstLane (get_or (active_lanes active n) i 0) else Zero)
    by_test true t = has i (grind (arith, nat_tests))
    by_test false t = refl
