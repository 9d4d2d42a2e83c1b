-- Operations on lists, lane by lane.
use Rattle.std.proofs.Common.{◌≡◌, List, [], ◌∷◌, refl, ap}
use Rattle.std.specs.Simd.Lanes.{zip2}
use Rattle.lane_kernels.specs.Chunks.{zip3}

-- two operations of two lanes are one of three
pub nested : {A B C D E : Type 0} (f : A → B → D) (h : D → C → E) (xs : List A) (ys : List B) (zs : List C) → zip2 h (zip2 f xs ys) zs ≡ zip3 (λ x y z. h (f x y) z) xs ys zs
nested f h [] ys zs = refl
nested f h (x ∷ xs) [] zs = refl
nested f h (x ∷ xs) (y ∷ ys) [] = refl
nested f h (x ∷ xs) (y ∷ ys) (z ∷ zs) = ap (λ r. h (f x y) z ∷ r) (nested f h xs ys zs)
