-- A fold that takes a start in place of each lane that isn't active is the fold of the active ones.
use Rattle.std.proofs.Common.{◌≡◌, ◌<◌, ◌+◌, ℕ, zero, suc, Bool, true, false, cond, List, [], ◌∷◌, length, map, get_or, if◌then◌else◌, refl, ap, ap₂, ◌∙◌, arith}
use Rattle.lane_kernels.specs.Chunks.{taken}
use Rattle.sve_effects.specs.LaneLoop.{folded}

-- the first of two numbers where a flag is set
pub picked_as : (t s : Bool) (x y a b : ℕ) → t ≡ s → x ≡ a → y ≡ b → cond t x y ≡ (if s then a else b)
picked_as t s x y a b e p q = ap₂ (cond t) p q ∙ ap (λ c. cond c a b) e ∙ same s where
  same : (s : Bool) → cond s a b ≡ (if s then a else b)
  same true = refl
  same false = refl

module _ {A : Type 0} (number : A → ℕ) (takes : ℕ → A → ℕ) (step : ℕ → ℕ → ℕ) (law : (n : ℕ) (x : A) → takes n x ≡ step n (number x)) (on : ℕ → Bool) (start : ℕ) (value : ℕ → ℕ)
    (start_kept : step start start ≡ start) (step_kept : (n x : ℕ) → step (step n x) start ≡ step n x) where
  choice_kept : (t : Bool) (n x : ℕ) → step n start ≡ n → step (if t then step n x else n) start ≡ (if t then step n x else n)
  choice_kept true n x h = step_kept n x
  choice_kept false n x h = h

  -- the start leaves what the first lanes made as it is
  kept : (a : ℕ) → step (folded on step start value a) start ≡ folded on step start value a
  unfolding folded
  kept zero = start_kept
  kept (suc a) = choice_kept (on a) (folded on step start value a) (value a) (kept a)

  chosen : (t : Bool) (n x : ℕ) → step n start ≡ n → step n (if t then x else start) ≡ (if t then step n x else n)
  chosen true n x h = refl
  chosen false n x h = h

  one_more : (a m : ℕ) (x : A) → m ≡ folded on step start value a → number x ≡ (if on a then value a else start) → takes m x ≡ folded on step start value (suc a)
  unfolding folded
  one_more a m x is lane = law m x ∙ ap₂ step is lane ∙ chosen (on a) (folded on step start value a) (value a) (kept a)

  pub all_folded : (a m : ℕ) (ms : List Bool) (xs : List A) → length ms ≡ length xs → ((j : ℕ) → j < length xs → get_or ms j false ≡ true) → m ≡ folded on step start value a
      → ((j : ℕ) → j < length xs → get_or (map number xs) j 0 ≡ (if on (a + j) then value (a + j) else start)) → taken takes m ms xs ≡ folded on step start value (a + length xs)
  all_folded a m [] [] e all is g = is ∙ ap (folded on step start value) (omega arith)
  all_folded a m [] (x ∷ xs) e all is g = absurd (omega arith)
  all_folded a m (t ∷ ms) [] e all is g = absurd (omega arith)
  all_folded a m (t ∷ ms) (x ∷ xs) e all is g =
      let some : 0 < length (x ∷ xs) = omega arith in
      let z : a + 0 ≡ a = omega arith in
      let s : suc a ≡ a + 1 = omega arith in
      let next : a + 1 + length xs ≡ a + suc (length xs) = omega arith in
      let at : (j : ℕ) → a + suc j ≡ a + 1 + j = λ j. omega arith in
      let lane : number x ≡ (if on a then value a else start) = g 0 some ∙ ap (λ (k : ℕ). if on k then value k else start) z in
      let one : cond t (takes m x) m ≡ folded on step start value (a + 1) = ap (λ c. cond c (takes m x) m) (all 0 some) ∙ one_more a m x is lane ∙ ap (folded on step start value) s in
      all_folded (a + 1) (cond t (takes m x) m) ms xs (omega arith)
      (λ j b. let n : suc j < length (x ∷ xs) = omega arith in all (suc j) n)
      one
      (λ j b. let n : suc j < length (x ∷ xs) = omega arith in g (suc j) n ∙ ap (λ (k : ℕ). if on k then value k else start) (at j))
      ∙ ap (folded on step start value) next

  pub none_folded : folded on step start value 0 ≡ start
  unfolding folded
  none_folded = refl
