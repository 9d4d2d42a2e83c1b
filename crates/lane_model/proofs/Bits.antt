-- Lists of bits, fields of lanes, and words of zeros.
use Rattle.std.proofs.Common.{◌≡◌, ◌<◌, ◌+◌, ◌*◌, ◌/◌, ◌%◌, ◌^◌, ℕ, zero, suc, Bool, false, nat_eq, if◌then◌else◌, List, length, get_or, replicate, refl, ap, sym, ◌∙◌, arith}
use Rattle.std.proofs.lemmas.Bool.Decides.{nat_tests}
use Rattle.std.proofs.lemmas.List.FromFn.{fill_by_all, get_or-map-range_with_len, length-map-range_with_len}
use Rattle.std.proofs.lemmas.Nat.{div-mul-add, mod-mul-add}
use Rattle.lane_model.specs.Bits.{field_bit}
use Rattle.lane_model.specs.Lists.{each}
use Rattle.lane_model.specs.WordBits.{bit_of}

-- ---- bits one by one

pub length-each_bit : (n : ℕ) (f : ℕ → Bool) → length (each n f) ≡ n
length-each_bit n f = length-map-range_with_len f 0 n

pub get_or-each_bit : (n : ℕ) (f : ℕ → Bool) (i : ℕ) (d : Bool) → i < n → get_or (each n f) i d ≡ f i
get_or-each_bit n f i d h = get_or-map-range_with_len f 0 n i i d h (omega arith)

pub each_bit_same : (n : ℕ) (f g : ℕ → Bool) → ((j : ℕ) → j < n → f j ≡ g j) → each n f ≡ each n g
each_bit_same n f g h = fill_by_all g (each n f) n false (length-each_bit n f) (λ k b. get_or-each_bit n f k false b ∙ h k b)

-- ---- fields

pub at_start : (k w : ℕ) (f : ℕ → Bool) → 0 < w → field_bit w f (k * w) ≡ f k
at_start k w f some =
    let z : k * w + 0 ≡ k * w = omega arith in
    let q : k * w / w ≡ k = ap (λ x. x / w) (sym z) ∙ div-mul-add k w 0 some in
    let r : k * w % w ≡ 0 = ap (λ x. x % w) (sym z) ∙ mod-mul-add k w 0 some in
    ap (λ x. if nat_eq x 0 then f (k * w / w) else false) r ∙ ap f q

positive : (r : ℕ) → 0 < r → nat_eq r 0 ≡ false
positive r h = grind (arith, nat_tests)

pub between : (w j : ℕ) (f : ℕ → Bool) → 0 < j % w → field_bit w f j ≡ false
between w j f h = ap (λ t. if t then f (j / w) else false) (positive (j % w) h)

-- ---- words of zeros

zero_word : (n i : ℕ) → let xs : List ℕ = replicate n 0 in get_or xs i 0 ≡ 0
zero_word zero i = refl
zero_word (suc n) zero = refl
zero_word (suc n) (suc i) = zero_word n i

nothing : (x : ℕ) → 0 / x ≡ 0
nothing zero = refl
nothing (suc x) = omega arith

pub zero_bit : (n j : ℕ) → bit_of (replicate n 0) j ≡ false
zero_bit n j = ap (λ x. nat_eq (x / 2 ^ (j % 64) % 2) 1) (zero_word n (j / 64)) ∙ ap (λ x. nat_eq (x % 2) 1) (nothing (2 ^ (j % 64)))
