-- Bits of shifted words, and bits in other places.
use Rattle.std.proofs.Common.{◌≡◌, ◌<◌, ◌≤◌, ◌+◌, ◌-◌, ◌*◌, ◌/◌, ◌%◌, ◌^◌, ℕ, zero, suc, Bool, true, false, not, ◌&&◌, ◌||◌, nat_eq, nat_lt, nat_le, if◌then◌else◌, bit_and, bit_or, min, max, inl, inr, refl, sym, ap, ◌∙◌, arith}
use Rattle.std.specs.Int.{bit_at}
use Rattle.std.proofs.lemmas.Bool.{cases_lt, le-leb, lt-leb, ltb-true, eqb-true, false≢true, agree_below, agree_below_at}
use Rattle.std.proofs.lemmas.Nat.{div-add-mod', pow_pos}
use Rattle.std.proofs.lemmas.Nat.Bits.{bit_at_and, bit_at_or, bit_at-lt, bit_at_cat_low, bit_at_cat_high, bit_at-zero}
use Rattle.lane_permute.specs.Places.{is_one, Comes}

-- ---- logic

min_test : (x y : ℕ) → x < 2 → y < 2 → nat_eq (min x y) 1 ≡ (nat_eq x 1 && nat_eq y 1)
min_test zero zero p q = refl
min_test zero (suc zero) p q = refl
min_test (suc zero) zero p q = refl
min_test (suc zero) (suc zero) p q = refl
min_test (suc (suc x)) y p q = absurd (omega arith)
min_test x (suc (suc y)) p q = absurd (omega arith)

max_test : (x y : ℕ) → x < 2 → y < 2 → nat_eq (max x y) 1 ≡ (nat_eq x 1 || nat_eq y 1)
max_test zero zero p q = refl
max_test zero (suc zero) p q = refl
max_test (suc zero) zero p q = refl
max_test (suc zero) (suc zero) p q = refl
max_test (suc (suc x)) y p q = absurd (omega arith)
max_test x (suc (suc y)) p q = absurd (omega arith)

pub and_bit : (a b s : ℕ) → is_one (bit_and a b) s ≡ (is_one a s && is_one b s)
and_bit a b s = ap (λ x. nat_eq x 1) (bit_at_and a b s) ∙ min_test (bit_at a s) (bit_at b s) (bit_at-lt a s) (bit_at-lt b s)

pub or_bit : (a b s : ℕ) → is_one (bit_or a b) s ≡ (is_one a s || is_one b s)
or_bit a b s = ap (λ x. nat_eq x 1) (bit_at_or a b s) ∙ max_test (bit_at a s) (bit_at b s) (bit_at-lt a s) (bit_at-lt b s)

-- ---- shifts

-- the low bits of a number
pub bit_of_low : (x k s : ℕ) → s < k → bit_at (x % 2 ^ k) s ≡ bit_at x s
bit_of_low x k s h = sym (bit_at_cat_low (x / 2 ^ k) k (x % 2 ^ k) s h) ∙ ap (λ y. bit_at y s) (div-add-mod' x (2 ^ k))

pub up_bit : (x by s : ℕ) → s < 64 → is_one (x * 2 ^ by % 2 ^ 64) s ≡ (nat_le by s && is_one x (s - by))
up_bit x by s h =
    ap (λ y. nat_eq y 1) (bit_of_low (x * 2 ^ by) 64 s h) ∙ ap (λ y. is_one y s) zero_more
    ∙ elim (cases_lt s by) [
      | inl less ↦ ap (λ y. nat_eq y 1) (bit_at_cat_low x by 0 s less ∙ bit_at-zero s) ∙ sym (ap (λ t. t && is_one x (s - by)) (lt-leb by s less))
      | inr most ↦ ap (λ y. nat_eq y 1) (bit_at_cat_high x by 0 s some most) ∙ sym (ap (λ t. t && is_one x (s - by)) (le-leb by s most))
    ] where
      zero_more : x * 2 ^ by ≡ x * 2 ^ by + 0
      zero_more = omega arith

      some : 0 < 2 ^ by
      some = pow_pos by

pub down_bit : (x by s : ℕ) → is_one (x / 2 ^ by) s ≡ is_one x (s + by)
down_bit x by s =
    let whole : x / 2 ^ by * 2 ^ by + x % 2 ^ by ≡ x = div-add-mod' x (2 ^ by) in
    let low : x % 2 ^ by < 2 ^ by = omega (arith, pow_pos by) in
    let above : by ≤ s + by = omega arith in
    let place : s + by - by ≡ s = omega arith in
    sym (ap (λ y. is_one y (s + by)) (sym whole) ∙ ap (λ y. nat_eq y 1) (bit_at_cat_high (x / 2 ^ by) by (x % 2 ^ by) (s + by) low above) ∙ ap (is_one (x / 2 ^ by)) place)

-- ---- places

-- one of the two bits of an exchange, or the bit itself
abbrev pub exchanged : ℕ → ℕ → ℕ → ℕ → ℕ → Bool
exchanged x stay low by s = (is_one stay s && is_one x s) || ((nat_le by s && (is_one low (s - by) && is_one x (s - by))) || (is_one low s && is_one x (s + by)))

pub exchange_bit : (x stay low by s : ℕ) → s < 64 →
    is_one (bit_or (bit_and stay x) (bit_or (bit_and low x * 2 ^ by % 2 ^ 64) (bit_and low (x / 2 ^ by)))) s ≡ exchanged x stay low by s
exchange_bit x stay low by s h =
    or_bit (bit_and stay x) (bit_or (bit_and low x * 2 ^ by % 2 ^ 64) (bit_and low (x / 2 ^ by))) s
    ∙ ap (λ t. t || is_one (bit_or (bit_and low x * 2 ^ by % 2 ^ 64) (bit_and low (x / 2 ^ by))) s) (and_bit stay x s)
    ∙ ap (λ t. (is_one stay s && is_one x s) || t) (
    or_bit (bit_and low x * 2 ^ by % 2 ^ 64) (bit_and low (x / 2 ^ by)) s
    ∙ ap (λ t. t || is_one (bit_and low (x / 2 ^ by)) s) (up_bit (bit_and low x) by s h ∙ ap (λ t. nat_le by s && t) (and_bit low x (s - by)))
    ∙ ap (λ t. (nat_le by s && (is_one low (s - by) && is_one x (s - by))) || t) (and_bit low (x / 2 ^ by) s ∙ ap (λ t. is_one low s && t) (down_bit x by s))
    )

-- whether p is the place that the bit comes from: s itself, a below it or b above it
abbrev pub is_from : Bool → Bool → Bool → Bool → ℕ → ℕ → ℕ → ℕ → Bool
is_from stays reaches up down p s a b =
    if stays then not (reaches && up) && (not down && nat_eq p s)
    else if (reaches && up) then (not down && nat_eq p a)
    else (down && nat_eq p b)

pub or_false : (x : Bool) → (x || false) ≡ x
or_false true = refl
or_false false = refl

picked : (f : ℕ → Bool) (p s a b : ℕ) (stays reaches up down : Bool) → is_from stays reaches up down p s a b ≡ true
    → ((stays && f s) || ((reaches && (up && f a)) || (down && f b))) ≡ f p
picked f p s a b true true true down e = absurd (false≢true e)
picked f p s a b true true false true e = absurd (false≢true e)
picked f p s a b true true false false e = or_false (f s) ∙ ap f (sym (eqb-true p s e))
picked f p s a b true false up true e = absurd (false≢true e)
picked f p s a b true false up false e = or_false (f s) ∙ ap f (sym (eqb-true p s e))
picked f p s a b false true true true e = absurd (false≢true e)
picked f p s a b false true true false e = or_false (f a) ∙ ap f (sym (eqb-true p a e))
picked f p s a b false true false true e = ap f (sym (eqb-true p b e))
picked f p s a b false true false false e = absurd (false≢true e)
picked f p s a b false false up true e = ap f (sym (eqb-true p b e))
picked f p s a b false false up false e = absurd (false≢true e)

-- an exchange by masks that are told
pub comes_by : (r x stay low by : ℕ) (place : ℕ → ℕ) → ((s : ℕ) → s < 64 → is_one r s ≡ exchanged x stay low by s)
    → agree_below (λ s. is_from (is_one stay s) (nat_le by s) (is_one low (s - by)) (is_one low s) (place s) s (s - by) (s + by)) (λ s. true) 64 ≡ true
    → Comes r x place
comes_by r x stay low by place is table s h =
    is s h
    ∙ picked (is_one x) (place s) s (s - by) (s + by) (is_one stay s) (nat_le by s) (is_one low (s - by)) (is_one low s)
    (agree_below_at (λ s. is_from (is_one stay s) (nat_le by s) (is_one low (s - by)) (is_one low s) (place s) s (s - by) (s + by)) (λ s. true) 64 s table h)

-- places that are alike below 64
pub are_alike : (f g : ℕ → ℕ) → agree_below (λ s. nat_eq (f s) (g s)) (λ s. true) 64 ≡ true → (s : ℕ) → s < 64 → f s ≡ g s
are_alike f g e s h = eqb-true (f s) (g s) (agree_below_at (λ s. nat_eq (f s) (g s)) (λ s. true) 64 s e h)

pub are_within : (f : ℕ → ℕ) → agree_below (λ s. nat_lt (f s) 64) (λ s. true) 64 ≡ true → (s : ℕ) → s < 64 → f s < 64
are_within f e s h = ltb-true (f s) 64 (agree_below_at (λ s. nat_lt (f s) 64) (λ s. true) 64 s e h)

-- one move behind the other
pub moved_twice : (x y z : ℕ) (p q r : ℕ → ℕ) → Comes y x p → Comes z y q
    → agree_below (λ s. nat_lt (q s) 64) (λ s. true) 64 ≡ true → agree_below (λ s. nat_eq (p (q s)) (r s)) (λ s. true) 64 ≡ true → Comes z x r
moved_twice x y z p q r first second inside same s h =
    second s h ∙ first (q s) (are_within q inside s h) ∙ ap (is_one x) (are_alike (λ s. p (q s)) r same s h)
