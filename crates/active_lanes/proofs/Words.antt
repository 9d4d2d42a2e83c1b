-- The bytes of words that are made of lanes.
use Rattle.std.proofs.Common.{◌≡◌, ◌<◌, ◌≤◌, ◌+◌, ◌-◌, ◌*◌, ◌/◌, ◌%◌, ◌^◌, ℕ, zero, suc, Bool, false, List, [], ◌∷◌, length, take, drop, get_or, set, inl, inr, refl, sym, ap, subst, ◌∙◌, arith}
use Rattle.std.proofs.Math.Nat.{mod-lt, div-div-eq-div-mul}
use Rattle.std.proofs.lemmas.Bool.{cases_lt}
use Rattle.std.proofs.lemmas.List.{get_or-set_same, get_or-set_other}
use Rattle.std.proofs.lemmas.Nat.{pow_pos, pow-add, mul-add-lt, div-add-mod'}
use Rattle.byteorder.specs.Endian.{little_number}
use Rattle.emu_model.specs.Lists.{each}
use Rattle.emu_model.specs.ListLaws.{length-each, get_or-each}
use Rattle.emu_model.specs.WithinPage.{number_in}
use Rattle.emu_model.proofs.LittleEndian.{number_of_part}
use Rattle.emu_model.specs.Lanes.{byte_in}
use Rattle.emu_model.specs.LaneSizes.{IsLaneSize}
use Rattle.vec_regs.specs.Packed.{packed}
use Rattle.vec_regs.specs.Words.{byte_of}
use Rattle.vec_regs.proofs.PackedLanes.{byte_in_packed, packed_back, grown, room}
use Rattle.active_lanes.specs.Placed.{lane_at}

-- ---- sizes

some_bytes : (e : ℕ) → IsLaneSize e → 0 < e / 8
some_bytes e (inl s) = rw s (omega arith)
some_bytes e (inr (inl s)) = rw s (omega arith)
some_bytes e (inr (inr (inl s))) = rw s (omega arith)
some_bytes e (inr (inr (inr s))) = rw s (omega arith)

eight_bits : (e : ℕ) → IsLaneSize e → 8 * (e / 8) ≡ e
eight_bits e (inl s) = rw s refl
eight_bits e (inr (inl s)) = rw s refl
eight_bits e (inr (inr (inl s))) = rw s refl
eight_bits e (inr (inr (inr s))) = rw s refl

whole_lanes : (e : ℕ) → IsLaneSize e → 64 / e * e ≤ 64
whole_lanes e (inl s) = rw s (omega arith)
whole_lanes e (inr (inl s)) = rw s (omega arith)
whole_lanes e (inr (inr (inl s))) = rw s (omega arith)
whole_lanes e (inr (inr (inr s))) = rw s (omega arith)

lane_within : (e t : ℕ) → IsLaneSize e → t < 8 → t / (e / 8) < 64 / e
lane_within e t (inl s) h = rw s (omega arith)
lane_within e t (inr (inl s)) h = rw s (omega arith)
lane_within e t (inr (inr (inl s))) h = rw s (omega arith)
lane_within e t (inr (inr (inr s))) h = rw s (omega arith)

-- the first lane of a word
pub lanes_few : (e i : ℕ) → IsLaneSize e → i < 32 → i * (64 / e) ≤ 256
lanes_few e i (inl s) h = rw s (omega arith)
lanes_few e i (inr (inl s)) h = rw s (omega arith)
lanes_few e i (inr (inr (inl s))) h = rw s (omega arith)
lanes_few e i (inr (inr (inr s))) h = rw s (omega arith)

pub lane_below : (i q count per : ℕ) → i < count → q < per → i * per + q < count * per
lane_below i q count per h b =
    let turned : per * count ≡ count * per = omega arith in
    subst (λ x. i * per + q < x) turned (mul-add-lt i per q count h b)

-- ---- one word

nothing_dropped : (xs : List ℕ) → drop 0 xs ≡ xs
nothing_dropped [] = refl
nothing_dropped (x ∷ xs) = refl

packed_byte : (e : ℕ) (xs : List ℕ) (t : ℕ) → IsLaneSize e → packed e xs / 2 ^ (8 * t) % 256 ≡ byte_of (e / 8) xs t
packed_byte e xs t size = subst (λ n. packed n xs / 2 ^ (8 * t) % 256 ≡ byte_of (e / 8) xs t) (eight_bits e size) (byte_in_packed (e / 8) (some_bytes e size) xs t)

pub word_bytes : (e q x : ℕ) (f : ℕ → ℕ) → IsLaneSize e → q ≡ 0 → x ≡ packed e (drop q (each (64 / e) f)) → (t : ℕ) → t < 8 → x / 2 ^ (8 * t) % 256 ≡ byte_in (e / 8) f t
word_bytes e q x f size none is t h =
    ap (λ x. x / 2 ^ (8 * t) % 256) (is ∙ ap (λ n. packed e (drop n (each (64 / e) f))) none ∙ ap (λ (xs : List ℕ). packed e xs) (nothing_dropped (each (64 / e) f)))
    ∙ packed_byte e (each (64 / e) f) t size
    ∙ ap (λ x. x / 2 ^ (8 * (t % (e / 8))) % 256) (get_or-each (64 / e) f (t / (e / 8)) 0 (lane_within e t size h))

pub word_starts : (e : ℕ) (f : ℕ → ℕ) → 0 ≡ packed e (drop (64 / e) (each (64 / e) f))
word_starts e f = sym (ap (λ (xs : List ℕ). packed e xs) (all_dropped (each (64 / e) f) (64 / e) (length-each (64 / e) f)))
  where
    all_dropped : (xs : List ℕ) (n : ℕ) → length xs ≡ n → drop n xs ≡ []
    all_dropped [] zero h = refl
    all_dropped [] (suc n) h = refl
    all_dropped (x ∷ xs) zero h = absurd (omega arith)
    all_dropped (x ∷ xs) (suc n) h = all_dropped xs n (omega arith)

pub word_more : (e q x v m : ℕ) (f : ℕ → ℕ) → 0 < q → q ≤ 64 / e → m ≡ 2 ^ e → v ≡ f (q - 1) → x ≡ packed e (drop q (each (64 / e) f)) → x * m + v % m ≡ packed e (drop (q - 1) (each (64 / e) f))
word_more e q x v m f some most modulus is so_far =
    let xs : List ℕ = each (64 / e) f in
    let long : length (each (64 / e) f) ≡ 64 / e = length-each (64 / e) f in
    let within : q - 1 < 64 / e = omega arith in
    let here : v ≡ get_or (each (64 / e) f) (q - 1) 0 = is ∙ sym (get_or-each (64 / e) f (q - 1) 0 within) in
    ap (λ m. x * m + v % m) modulus
    ∙ ap (λ x. x * 2 ^ e + v % 2 ^ e) so_far
    ∙ ap (λ v. packed e (drop q xs) * 2 ^ e + v % 2 ^ e) here
    ∙ sym (packed_back e xs q some (omega (arith, long)))

pub word_small : (e q x v m : ℕ) → 0 < q → q ≤ 64 / e → m ≡ 2 ^ e → x < 2 ^ ((64 / e - q) * e) → x * m + v % m < 2 ^ ((64 / e - (q - 1)) * e)
word_small e q x v m some most modulus small =
    subst (λ m. x * m + v % m < 2 ^ ((64 / e - (q - 1)) * e)) (sym modulus) (grown e x (v % 2 ^ e) (64 / e) q small (mod-lt v (pow_pos e)) some most)

pub word_fits : (e q x v m : ℕ) → IsLaneSize e → 0 < q → q ≤ 64 / e → m ≡ 2 ^ e → x < 2 ^ ((64 / e - q) * e) → x * m + v % m < 2 ^ 64
word_fits e q x v m size some most modulus small =
    subst (λ m. x * m + v % m < 2 ^ 64) (sym modulus) (room e x (v % 2 ^ e) (64 / e) q small (mod-lt v (pow_pos e)) some most (whole_lanes e size))

-- ---- the words of a register

place : (e i j : ℕ) → IsLaneSize e → j / 8 ≡ i → i * (64 / e) + j % 8 / (e / 8) ≡ j / (e / 8)
place e i j (inl s) h = rw s (omega arith)
place e i j (inr (inl s)) h = rw s (omega arith)
place e i j (inr (inr (inl s))) h = rw s (omega arith)
place e i j (inr (inr (inr s))) h = rw s (omega arith)

rest : (e j : ℕ) → IsLaneSize e → j % 8 % (e / 8) ≡ j % (e / 8)
rest e j (inl s) = rw s (omega arith)
rest e j (inr (inl s)) = rw s (omega arith)
rest e j (inr (inr (inl s))) = rw s (omega arith)
rest e j (inr (inr (inr s))) = rw s (omega arith)

pub one_more_word : (e i x : ℕ) (f : ℕ → ℕ) (ws : List ℕ) → IsLaneSize e → i < length ws → ((t : ℕ) → t < 8 → x / 2 ^ (8 * t) % 256 ≡ byte_in (e / 8) (λ q. f (i * (64 / e) + q)) t)
    → ((j : ℕ) → j < 8 * i → byte_of 8 ws j ≡ byte_in (e / 8) f j)
    → (j : ℕ) → j < 8 * (i + 1) → byte_of 8 (set ws i x) j ≡ byte_in (e / 8) f j
one_more_word e i x f ws size within here before j b = elim (cases_lt j (8 * i)) [
  | inl h ↦ (let other : j / 8 ≡ i → ⊥ = λ s. omega arith in
      ap (λ x. x / 2 ^ (8 * (j % 8)) % 256) (get_or-set_other ws i (j / 8) x 0 other) ∙ before j h)
  | inr h ↦ (let q : j / 8 ≡ i = omega arith in let r : j % 8 < 8 = omega arith in
      ap (λ k. get_or (set ws i x) k 0 / 2 ^ (8 * (j % 8)) % 256) q
      ∙ ap (λ x. x / 2 ^ (8 * (j % 8)) % 256) (get_or-set_same ws i x 0 within)
      ∙ here (j % 8) r
      ∙ ap (λ k. f k / 2 ^ (8 * (j % 8 % (e / 8))) % 256) (place e i j size q)
      ∙ ap (λ s. f (j / (e / 8)) / 2 ^ (8 * s) % 256) (rest e j size))
]

pub kept_above : (i x : ℕ) (first ws : List ℕ) → ((k : ℕ) → i ≤ k → get_or ws k 0 ≡ get_or first k 0) → (k : ℕ) → i + 1 ≤ k → get_or (set ws i x) k 0 ≡ get_or first k 0
kept_above i x first ws h k b = let other : k ≡ i → ⊥ = λ s. omega arith in let le : i ≤ k = omega arith in get_or-set_other ws i k x 0 other ∙ h k le

-- the same of sizes that are told apart
pub same_lanes : (e n a b count : ℕ) (s : Bool) (bs words : List ℕ) (at step : ℕ) → e ≡ a → n ≡ b
    → ((j : ℕ) → j < 8 * count → byte_of 8 words j ≡ byte_in (a / 8) (lane_at s a b bs at step) j) → (j : ℕ) → j < 8 * count → byte_of 8 words j ≡ byte_in (e / 8) (lane_at s e n bs at step) j
same_lanes e n a b count s bs words at step p q h j c =
    h j c ∙ ap (λ a. byte_in (a / 8) (lane_at s a b bs at step) j) (sym p) ∙ ap (λ b. byte_in (e / 8) (lane_at s e b bs at step) j) (sym q)

pub same_room : (e n a b count long at step : ℕ) → e ≡ a → n ≡ b → ((k : ℕ) → k < count * (64 / e) → at + k * step + n ≤ long) → (k : ℕ) → k < count * (64 / a) → at + k * step + b ≤ long
same_room e n a b count long at step p q h k c =
    let here : k < count * (64 / e) = subst (λ a. k < count * (64 / a)) (sym p) c in
    subst (λ n. at + k * step + n ≤ long) q (h k here)

-- ---- elements one behind the other

eight_more : (i : ℕ) → 2 ^ (8 * suc i) ≡ 256 * 2 ^ (8 * i)
eight_more i = let e : 8 * suc i ≡ 8 + 8 * i = omega arith in ap (λ n. 2 ^ n) e ∙ pow-add 2 8 (8 * i)

pub byte_of_number : (bs : List ℕ) → ((k : ℕ) → get_or bs k 0 < 256) → (n at t : ℕ) → t < n → number_in bs at n / 2 ^ (8 * t) % 256 ≡ get_or bs (at + t) 0
byte_of_number bs small zero at t h = absurd (omega arith)
byte_of_number bs small (suc n) at zero h =
    let e : at ≡ at + 0 = omega arith in let b : get_or bs at 0 < 256 = small at in
    let d : (get_or bs at 0 + 256 * number_in bs (at + 1) n) / 2 ^ (8 * 0) % 256 ≡ get_or bs at 0 = omega arith in
    d ∙ ap (λ k. get_or bs k 0) e
byte_of_number bs small (suc n) at (suc t) h =
    let b : get_or bs at 0 < 256 = small at in
    let e : at + 1 + t ≡ at + suc t = omega arith in
    let q : (get_or bs at 0 + 256 * number_in bs (at + 1) n) / 256 ≡ number_in bs (at + 1) n = omega arith in
    ap (λ m. (get_or bs at 0 + 256 * number_in bs (at + 1) n) / m % 256) (eight_more t)
    ∙ ap (λ y. y % 256) (sym (div-div-eq-div-mul (get_or bs at 0 + 256 * number_in bs (at + 1) n) 256 (2 ^ (8 * t))))
    ∙ ap (λ y. y / 2 ^ (8 * t) % 256) q
    ∙ byte_of_number bs small n (at + 1) t (omega arith)
    ∙ ap (λ k. get_or bs k 0) e

pub one_more_copied : (at i x : ℕ) (bs ws : List ℕ) → ((k : ℕ) → get_or bs k 0 < 256) → i < length ws → x ≡ little_number 8 (take (at + 8 * i + 8 - (at + 8 * i)) (drop (at + 8 * i) bs))
    → ((j : ℕ) → j < 8 * i → byte_of 8 ws j ≡ get_or bs (at + j) 0) → (j : ℕ) → j < 8 * (i + 1) → byte_of 8 (set ws i x) j ≡ get_or bs (at + j) 0
one_more_copied at i x bs ws small within is before j b = elim (cases_lt j (8 * i)) [
  | inl h ↦ (let other : j / 8 ≡ i → ⊥ = λ s. omega arith in
      ap (λ x. x / 2 ^ (8 * (j % 8)) % 256) (get_or-set_other ws i (j / 8) x 0 other) ∙ before j h)
  | inr h ↦ (let q : j / 8 ≡ i = omega arith in let r : j % 8 < 8 = omega arith in let s : at + 8 * i + j % 8 ≡ at + j = omega arith in
      let count : at + 8 * i + 8 - (at + 8 * i) ≡ 8 = omega arith in
      ap (λ k. get_or (set ws i x) k 0 / 2 ^ (8 * (j % 8)) % 256) q
      ∙ ap (λ x. x / 2 ^ (8 * (j % 8)) % 256) (get_or-set_same ws i x 0 within ∙ is ∙ ap (λ n. little_number 8 (take n (drop (at + 8 * i) bs))) count ∙ number_of_part bs (at + 8 * i) 8 8 (omega arith))
      ∙ byte_of_number bs small 8 (at + 8 * i) (j % 8) r
      ∙ ap (λ k. get_or bs k 0) s)
]

pub copied_lanes : (e n at j : ℕ) (bs : List ℕ) → IsLaneSize e → e ≡ 8 * n → ((k : ℕ) → get_or bs k 0 < 256) → get_or bs (at + j) 0 ≡ byte_in (e / 8) (lane_at false e n bs at n) j
copied_lanes e n at j bs size same small =
    let w : e / 8 ≡ n = omega arith in
    let some : 0 < n = subst (λ x. 0 < x) w (some_bytes e size) in
    let b : j % n < n = mod-lt j some in
    let whole : j / n * n + j % n ≡ j = div-add-mod' j n in
    let there : at + j / n * n + j % n ≡ at + j = omega (arith, whole) in
    ap (λ k. get_or bs k 0) (sym there)
    ∙ sym (byte_of_number bs small n (at + j / n * n) (j % n) b)
    ∙ ap (λ x. byte_in x (lane_at false e n bs at n) j) (sym w)

pub word_room : (e n at i count long : ℕ) → IsLaneSize e → e ≡ 8 * n → i < count → ((k : ℕ) → k < count * (64 / e) → at + k * n + n ≤ long) → at + 8 * i + 8 ≤ long
word_room e n at i count long (inl s) same b h = let w : n ≡ 1 = omega arith in let at_last : at + (i * 8 + 7) * n + n ≤ long = h (i * 8 + 7) (rw s (omega arith)) in let here : at + (i * 8 + 7) * 1 + 1 ≤ long = subst (λ n. at + (i * 8 + 7) * n + n ≤ long) w at_last in omega (arith, here)
word_room e n at i count long (inr (inl s)) same b h = let w : n ≡ 2 = omega arith in let at_last : at + (i * 4 + 3) * n + n ≤ long = h (i * 4 + 3) (rw s (omega arith)) in let here : at + (i * 4 + 3) * 2 + 2 ≤ long = subst (λ n. at + (i * 4 + 3) * n + n ≤ long) w at_last in omega (arith, here)
word_room e n at i count long (inr (inr (inl s))) same b h = let w : n ≡ 4 = omega arith in let at_last : at + (i * 2 + 1) * n + n ≤ long = h (i * 2 + 1) (rw s (omega arith)) in let here : at + (i * 2 + 1) * 4 + 4 ≤ long = subst (λ n. at + (i * 2 + 1) * n + n ≤ long) w at_last in omega (arith, here)
word_room e n at i count long (inr (inr (inr s))) same b h = let w : n ≡ 8 = omega arith in let at_last : at + i * n + n ≤ long = h i (rw s (omega arith)) in let here : at + i * 8 + 8 ≤ long = subst (λ n. at + i * n + n ≤ long) w at_last in omega (arith, here)

-- the number of bytes of an element, by the rest of the sizes
pub last_size : (e n : ℕ) → IsLaneSize e → e ≡ 8 * n → (n ≡ 1 → ⊥) → (n ≡ 2 → ⊥) → (n ≡ 4 → ⊥) → n ≡ 8
last_size e n (inl s) same a b c = absurd (a (omega arith))
last_size e n (inr (inl s)) same a b c = absurd (b (omega arith))
last_size e n (inr (inr (inl s))) same a b c = absurd (c (omega arith))
last_size e n (inr (inr (inr s))) same a b c = omega arith
