-- The fields of a bitmask with the least rotation: they are found by a search over the bits of the bitmask, which is tried on all
-- fields, and those are the least number that gives the bitmask.
use Rattle.std.proofs.Common.{◌≡◌, ℕ, zero, suc, ◌+◌, ◌-◌, ◌*◌, ◌/◌, ◌%◌, ◌^◌, ◌<◌, ◌≤◌, ◌==◌, ◌||◌, if◌then◌else◌, cond, Bool, true, false, not, Option, Some, None, refl, sym, ap, ◌∙◌, subst, arith, inl, inr}
use Rattle.std.proofs.lemmas.Bool.{cases_Bool, cases_lt, and_from, or_cases, eqb-true, eq-eqb, false≢true, lt-ltb}
use Rattle.std.proofs.lemmas.Nat.{pow_pos}
use Rattle.std.proofs.Math.Nat.{mod-eq_of_lt}
use Rattle.std.specs.Prelude.{is_some, unwrap_or, find}
use Rattle.std.specs.Option.{option_map_or}
use Rattle.std.specs.List.{range_with_len}
use Rattle.emu_bits.specs.Bitmask.{bitmask_of, with_elements, element_log, has_no_value, rotated, repeated}
use Rattle.emu_bits.proofs.AllBelow.{all_below, each_below}
use Rattle.text_model.specs.declared.slots.Kind.TheVariants.{Bitmask}
use Rattle.text_model.specs.Masks.{bitmask_at, bitmask_fields}
use Rattle.text_model.specs.Reading.{is_canonical}

-- ---- the fields of a number

abbrev joined_fields : ℕ → ℕ → ℕ → ℕ
joined_fields n r s = n * 4096 + r * 64 + s

pub n_of : (n r s : ℕ) → r < 64 → s < 64 → (n * 4096 + r * 64 + s) / 4096 ≡ n
n_of n r s h k = omega arith

pub r_of : (n r s : ℕ) → r < 64 → s < 64 → (n * 4096 + r * 64 + s) / 64 % 64 ≡ r
r_of n r s h k = omega arith

pub s_of : (n r s : ℕ) → r < 64 → s < 64 → (n * 4096 + r * 64 + s) % 64 ≡ s
s_of n r s h k = omega arith

parts : (v : ℕ) → v / 4096 * 4096 + v / 64 % 64 * 64 + v % 64 ≡ v
parts v = omega arith

-- ---- a rotation modulo the element's size gives the same

abbrev pub size : ℕ → ℕ → ℕ
size n s = 2 ^ unwrap_or (element_log n s) 0

mod_mod : (r m : ℕ) → 0 < m → r % m % m ≡ r % m
mod_mod r m h = mod-eq_of_lt (omega arith)

same_elements : (w n r s : ℕ) (o : Option ℕ) → with_elements w n (r % 2 ^ unwrap_or o 0) s o ≡ with_elements w n r s o
same_elements w n r s None = refl
same_elements w n r s (Some h) =
    ap (λ (x : ℕ). cond (has_no_value w n s h) None (Some (repeated (2 ^ h) (rotated (2 ^ h) (2 ^ (s % 2 ^ h + 1) - 1) x) (w / 2 ^ h)))) (mod_mod r (2 ^ h) (pow_pos h))

pub same_mask : (w n r s : ℕ) → bitmask_of w n (r % size n s) s ≡ bitmask_of w n r s
unfolding bitmask_of
same_mask w n r s = same_elements w n r s (element_log n s)

pub size_some : (n s : ℕ) → 0 < size n s
size_some n s = pow_pos (unwrap_or (element_log n s) 0)

-- ---- fields of the least rotation

pub some_is : (o : Option ℕ) (m : ℕ) → o ≡ Some m → (is_some o ≡ true) × (unwrap_or o 0 ≡ m)
some_is o m e = (ap is_some e, ap (λ (x : Option ℕ). unwrap_or x 0) e)

pub canonical_of : (w v : ℕ) (m : ℕ) → bitmask_at w v ≡ Some m → v / 64 % 64 < size (v / 4096) (v % 64) → is_canonical (Bitmask w) v ≡ true
canonical_of w v m e l = and_from _ _ (some_is (bitmask_at w v) m e).0 (lt-ltb _ _ l)

-- the same fields, the rotation within the element's size
pub reduced : ℕ → ℕ
reduced v = joined_fields (v / 4096) (v / 64 % 64 % size (v / 4096) (v % 64)) (v % 64)

reduced_small : (v : ℕ) → v / 64 % 64 % size (v / 4096) (v % 64) < 64
reduced_small v =
    let r : ℕ = v / 64 % 64 in
    let p : 0 < size (v / 4096) (v % 64) = size_some (v / 4096) (v % 64) in
    omega (arith, p)

module _ (v : ℕ) where
  pub reduced_mask : (w m : ℕ) → bitmask_at w v ≡ Some m → bitmask_at w (reduced v) ≡ Some m
  unfolding reduced
  reduced_mask w m e =
      let l : v / 64 % 64 % size (v / 4096) (v % 64) < 64 = reduced_small v in
      let k : v % 64 < 64 = omega arith in
      let n : ℕ = v / 4096 in
      let s : ℕ = v % 64 in
      let q : ℕ = v / 64 % 64 % size n s in
      ap (λ (x : ℕ). bitmask_of w x (joined_fields n q s / 64 % 64) (joined_fields n q s % 64)) (n_of n q s l k)
      ∙ ap (λ (x : ℕ). bitmask_of w n x (joined_fields n q s % 64)) (r_of n q s l k)
      ∙ ap (λ (x : ℕ). bitmask_of w n q x) (s_of n q s l k)
      ∙ same_mask w n (v / 64 % 64) s ∙ e

  pub reduced_canonical : (w m : ℕ) → bitmask_at w v ≡ Some m → is_canonical (Bitmask w) (reduced v) ≡ true
  unfolding reduced
  reduced_canonical w m e =
      let n : ℕ = v / 4096 in
      let s : ℕ = v % 64 in
      let q : ℕ = v / 64 % 64 % size n s in
      let l : q < 64 = reduced_small v in
      let k : s < 64 = omega arith in
      let p : 0 < size n s = size_some n s in
      let b : q < size n s = omega (arith, p) in
      canonical_of w (reduced v) m (reduced_mask w m e)
      (subst (λ (x : ℕ). x < size (joined_fields n q s / 4096) (joined_fields n q s % 64)) (sym (r_of n q s l k))
      (subst (λ (x : ℕ). q < size x (joined_fields n q s % 64)) (sym (n_of n q s l k))
      (subst (λ (x : ℕ). q < size n x) (sym (s_of n q s l k)) b)))

  pub reduced_below : v < 8192 → reduced v < 8192
  unfolding reduced
  reduced_below h =
      let l : v / 64 % 64 % size (v / 4096) (v % 64) < 64 = reduced_small v in
      omega (arith, h, l)

pub reduced_least : (v : ℕ) → reduced v ≤ v
unfolding reduced
reduced_least v =
    let n : ℕ = size (v / 4096) (v % 64) in
    let p : 0 < n = size_some (v / 4096) (v % 64) in
    let l : v / 64 % 64 % n ≤ v / 64 % 64 = omega (arith, p) in
    omega (arith, parts v, l)

-- there is a number, and it is m
abbrev is_some_of : Option ℕ → ℕ → Bool
is_some_of o m = option_map_or (λ x. x == m) o false

pub given_is : (o : Option ℕ) (m : ℕ) → is_some_of o m ≡ true → o ≡ Some m
given_is None m h = absurd (false≢true h)
given_is (Some x) m h = ap (λ (y : ℕ). Some y) (eqb-true x m h)

-- ---- a search over the bits

-- 64 bits are a repetition of their lowest e bits
abbrev repeats : ℕ → ℕ → Bool
repeats m e = m % 2 ^ e * ((2 ^ 64 - 1) / (2 ^ e - 1)) == m

-- the least element that 64 bits repeat has 2 to this power bits
abbrev element_power : ℕ → ℕ
element_power m = if repeats m 2 then 1 else (if repeats m 4 then 2 else (if repeats m 8 then 3 else (if repeats m 16 then 4 else (if repeats m 32 then 5 else 6))))

-- how many of the lowest k bits are 1
abbrev ones : ℕ → ℕ → ℕ
ones zero x = 0
ones (suc k) x = x % 2 + ones k (x / 2)

-- the first rotation, of the last k, of y within e bits that is x
abbrev rotation : ℕ → ℕ → ℕ → ℕ → ℕ
rotation zero e x y = 0
rotation (suc k) e x y = if rotated e y (e - suc k) == x then e - suc k else rotation k e x y

-- the fields of an element x of 2^h bits, c of which are 1
abbrev element_fields : ℕ → ℕ → ℕ → ℕ
element_fields h x c = (if h == 6 then 4096 else 0) + rotation (2 ^ h) (2 ^ h) x (2 ^ c - 1) * 64 + (if h == 6 then c - 1 else 64 - 2 * 2 ^ h + (c - 1))

-- the fields of 64 bits
abbrev fields_of : ℕ → ℕ
fields_of m = let h = element_power m in let x = m % 2 ^ 2 ^ h in element_fields h x (ones (2 ^ h) x)

-- canonical fields are found again
is_found_again : ℕ → ℕ → Bool
is_found_again w v = not (is_canonical (Bitmask w) v) || (let m = unwrap_or (bitmask_at w v) 0 in fields_of (if w == 32 then m * (2 ^ 32 + 1) else m) == v)

short_masks : all_below 8192 (is_found_again 32) ≡ true
unfolding bitmask_of is_found_again
short_masks = refl

long_masks : all_below 8192 (is_found_again 64) ≡ true
unfolding bitmask_of is_found_again
long_masks = refl

all_found : (w : ℕ) → (w == 64 || w == 32) ≡ true → all_below 8192 (is_found_again w) ≡ true
all_found w g = elim (or_cases (w == 64) (w == 32) g) [
  | inl e ↦ ap (λ (x : ℕ). all_below 8192 (is_found_again x)) (eqb-true w 64 e) ∙ long_masks
  | inr e ↦ ap (λ (x : ℕ). all_below 8192 (is_found_again x)) (eqb-true w 32 e) ∙ short_masks
]

found_again : (w v m : ℕ) → (w == 64 || w == 32) ≡ true → v < 8192 → bitmask_at w v ≡ Some m → is_canonical (Bitmask w) v ≡ true
    → fields_of (if w == 32 then m * (2 ^ 32 + 1) else m) ≡ v
unfolding is_found_again
found_again w v m g h e c =
    let f = λ (x : ℕ). fields_of (if w == 32 then x * (2 ^ 32 + 1) else x) in
    elim (or_cases (not (is_canonical (Bitmask w) v)) (f (unwrap_or (bitmask_at w v) 0) == v) (each_below 8192 (is_found_again w) v (all_found w g) h)) [
      | inl n ↦ absurd (false≢true (sym (ap not c) ∙ n))
      | inr n ↦ ap f (sym (some_is (bitmask_at w v) m e).1) ∙ eqb-true _ _ n
    ]

-- so a bitmask has one canonical number
one_canonical : (w u v m : ℕ) → (w == 64 || w == 32) ≡ true → u < 8192 → v < 8192 → bitmask_at w u ≡ Some m → bitmask_at w v ≡ Some m
    → is_canonical (Bitmask w) u ≡ true → is_canonical (Bitmask w) v ≡ true → u ≡ v
one_canonical w u v m g h k d e b c = sym (found_again w u m g h d b) ∙ found_again w v m g k e c

-- ---- the first number

first_is : (p : ℕ → Bool) (v k u : ℕ) → v ≤ u → u < v + k → p u ≡ true → ((x : ℕ) → x < u → p x ≡ false) → find p (range_with_len v k) ≡ Some u
first_is p v zero u l h t f = absurd (omega (arith, l, h))
first_is p v (suc k) u l h t f =
    let g = λ (b : Bool). cond b (Some v) (find p (range_with_len (v + 1) k)) in
    elim (cases_Bool (p v)) [
      | inl e ↦ elim (cases_lt v u) [
        | inl s ↦ absurd (false≢true (sym (f v s) ∙ e))
        | inr s ↦ (let q : v ≡ u = omega (arith, l, s) in ap g e ∙ ap (λ (x : ℕ). Some x) q)
      ]
      | inr e ↦ elim (cases_lt v u) [
        | inl s ↦ ap g e ∙ first_is p (v + 1) k u (omega (arith, s)) (omega (arith, h)) t f
        | inr s ↦ (let q : u ≡ v = omega (arith, l, s) in absurd (false≢true (sym e ∙ ap p (sym q) ∙ t)))
      ]
    ]

none_first : (p : ℕ → Bool) (v k : ℕ) → ((x : ℕ) → x < v + k → p x ≡ false) → find p (range_with_len v k) ≡ None
none_first p v zero f = refl
none_first p v (suc k) f =
    ap (λ (b : Bool). cond b (Some v) (find p (range_with_len (v + 1) k))) (f v (omega arith)) ∙ none_first p (v + 1) k (λ x h. f x (omega (arith, h)))

other_mask : (o : Option ℕ) (m : ℕ) → (o ≡ Some m → ⊥) → is_some_of o m ≡ false
other_mask o m h = elim (cases_Bool (is_some_of o m)) [
  | inl e ↦ absurd (h (given_is o m e))
  | inr e ↦ e
]

has_mask : (o : Option ℕ) (m : ℕ) → o ≡ Some m → is_some_of o m ≡ true
has_mask o m e = ap (λ (x : Option ℕ). is_some_of x m) e ∙ eq-eqb m m refl

-- canonical fields that give a bitmask are those that it tells
pub mask_told : (w v m : ℕ) → (w == 64 || w == 32) ≡ true → v < 8192 → bitmask_at w v ≡ Some m → is_canonical (Bitmask w) v ≡ true → bitmask_fields w m ≡ v
unfolding bitmask_fields
mask_told w v m g h e c = ap (λ (o : Option ℕ). unwrap_or o 0) (first_is (λ x. is_some_of (bitmask_at w x) m) 0 8192 v (omega arith) h (has_mask (bitmask_at w v) m e)
    (λ x l. other_mask (bitmask_at w x) m (λ d.
    let k : x < 8192 = omega (arith, l, h) in
    let q : reduced x ≡ v = one_canonical w (reduced x) v m g (reduced_below x k) h (reduced_mask x w m d) e (reduced_canonical x w m d) c in
    let r : reduced x ≤ x = reduced_least x in
    omega (arith, q, r, l))))

-- and where no fields give it, it tells 0
pub none_told : (w m : ℕ) → ((v : ℕ) → v < 8192 → bitmask_at w v ≡ Some m → ⊥) → bitmask_fields w m ≡ 0
unfolding bitmask_fields
none_told w m h = ap (λ (o : Option ℕ). unwrap_or o 0) (none_first (λ x. is_some_of (bitmask_at w x) m) 0 8192 (λ x l. other_mask (bitmask_at w x) m (h x l)))
