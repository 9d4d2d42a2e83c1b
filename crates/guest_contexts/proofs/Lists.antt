-- Lists of contexts of which one is replaced by another that a test can't tell from it.
use Rattle.std.proofs.Common.{◌≡◌, ◌<◌, ℕ, zero, suc, ◌+◌, Bool, ◌||◌, ◌&&◌, cond, List, [], ◌∷◌, ◌++◌, length, get_or, set, refl, sym, ap, ◌∙◌, arith}
use Rattle.std.specs.Prelude.{filter}
use Rattle.std.specs.List.{count_by, list_any, list_all}
use Rattle.std.proofs.lemmas.List.Sums.{sum_by-cons}

module _ {X : Type 0} {A : Type 0} (f : X → A) (d : X) where
  pub same_at : (xs : List X) (i k : ℕ) (x : X) → f x ≡ f (get_or xs i d) → f (get_or (set xs i x) k d) ≡ f (get_or xs k d)
  same_at [] i k x e = refl
  same_at (y ∷ xs) zero zero x e = e
  same_at (y ∷ xs) zero (suc k) x e = refl
  same_at (y ∷ xs) (suc i) zero x e = refl
  same_at (y ∷ xs) (suc i) (suc k) x e = same_at xs i k x e

module _ {X : Type 0} (p : X → Bool) (d : X) where
  pub same_any : (xs : List X) (i : ℕ) (x : X) → p x ≡ p (get_or xs i d) → list_any p (set xs i x) ≡ list_any p xs
  same_any [] i x e = refl
  same_any (y ∷ xs) zero x e = ap (λ (b : Bool). b || list_any p xs) e
  same_any (y ∷ xs) (suc i) x e = ap (λ (b : Bool). p y || b) (same_any xs i x e)

  pub same_all : (xs : List X) (i : ℕ) (x : X) → p x ≡ p (get_or xs i d) → list_all p (set xs i x) ≡ list_all p xs
  same_all [] i x e = refl
  same_all (y ∷ xs) zero x e = ap (λ (b : Bool). b && list_all p xs) e
  same_all (y ∷ xs) (suc i) x e = ap (λ (b : Bool). p y && b) (same_all xs i x e)

pub filter_same : {X : Type 0} (p q : X → Bool) → ((x : X) → p x ≡ q x) → (xs : List X) → filter p xs ≡ filter q xs
filter_same p q e [] = refl
filter_same {X} p q e (x ∷ xs) =
    ap (λ (b : Bool). cond b (x ∷ filter p xs) (filter p xs)) (e x) ∙ ap (λ (l : List X). cond (q x) (x ∷ l) l) (filter_same p q e xs)

pub set_pushed : {X : Type 0} (xs : List X) (i : ℕ) (x y : X) → i < length xs → set (xs ++ y ∷ []) i x ≡ set xs i x ++ y ∷ []
set_pushed [] i x y h = absurd (omega (arith, h))
set_pushed (z ∷ xs) zero x y h = refl
set_pushed {X} (z ∷ xs) (suc i) x y h = ap (λ (l : List X). z ∷ l) (set_pushed xs i x y (omega (arith, h)))

pub get_pushed : {X : Type 0} (xs : List X) (i : ℕ) (y d : X) → i < length xs → get_or (xs ++ y ∷ []) i d ≡ get_or xs i d
get_pushed [] i y d h = absurd (omega (arith, h))
get_pushed (z ∷ xs) zero y d h = refl
get_pushed (z ∷ xs) (suc i) y d h = get_pushed xs i y d (omega (arith, h))

pub count_same : {X : Type 0} (p : X → Bool) (d : X) (xs : List X) (i : ℕ) (x : X) → p x ≡ p (get_or xs i d) → count_by p (set xs i x) ≡ count_by p xs
count_same p d [] i x e = refl
count_same p d (y ∷ xs) zero x e =
    sum_by-cons (λ z. cond (p z) 1 0) x xs ∙ ap (λ (b : Bool). cond b 1 0 + count_by p xs) e ∙ sym (sum_by-cons (λ z. cond (p z) 1 0) y xs)
count_same p d (y ∷ xs) (suc i) x e =
    sum_by-cons (λ z. cond (p z) 1 0) y (set xs i x) ∙ ap (λ (n : ℕ). cond (p y) 1 0 + n) (count_same p d xs i x e) ∙ sym (sum_by-cons (λ z. cond (p z) 1 0) y xs)

pub default_same : {X : Type 0} (xs : List X) (k : ℕ) (d e : X) → k < length xs → get_or xs k d ≡ get_or xs k e
default_same [] k d e h = absurd (omega (arith, h))
default_same (x ∷ xs) zero d e h = refl
default_same (x ∷ xs) (suc k) d e h = default_same xs k d e (omega (arith, h))
