-- Lanes of bytes that come from wider numbers.
use Rattle.std.proofs.Common.{◌≡◌, ◌<◌, ◌≤◌, ℕ, zero, suc, List, length, take, drop, get_or, ◌+◌, ◌*◌, ◌/◌, ◌%◌, ◌^◌, inl, inr, refl, sym, ap, ◌∙◌, arith, drop-cons}
use Rattle.std.proofs.lemmas.Nat.{mod-pow-add, shr-shr, div-mul-add, mod-mul-add, div-add-mod'}
use Rattle.emu_model.specs.Lists.{each}
use Rattle.emu_model.specs.ListLaws.{length-each, get_or-each}
use Rattle.emu_model.specs.Lanes.{number, byte_in, lane}
use Rattle.emu_model.specs.LaneSizes.{IsLaneSize}

-- the low bytes of a number, one byte more
one_more : (y w : ℕ) → y % 2 ^ (8 * suc w) ≡ y % 256 + 256 * (y / 2 ^ 8 % 2 ^ (8 * w))
one_more y w = let e : 8 * suc w ≡ 8 * w + 8 = omega arith in rw (e, mod-pow-add y (8 * w) 8) (omega arith)

-- the next byte of the same number of c bytes
next_at : (c i : ℕ) → i % c + 2 ≤ c → i + 1 ≡ i / c * c + (i % c + 1)
next_at c i h = let e : i / c * c + i % c ≡ i = div-add-mod' i c in omega arith

next_quotient : (c i : ℕ) → i % c + 2 ≤ c → (i + 1) / c ≡ i / c
next_quotient c i h = let b : i % c + 1 < c = omega arith in ap (λ x. x / c) (next_at c i h) ∙ div-mul-add (i / c) c (i % c + 1) b

next_rest_at : (c i : ℕ) → i % c + 2 ≤ c → (i + 1) % c ≡ i % c + 1
next_rest_at c i h = let b : i % c + 1 < c = omega arith in ap (λ x. x % c) (next_at c i h) ∙ mod-mul-add (i / c) c (i % c + 1) b

module _ (f : ℕ → ℕ) (c n : ℕ) where
  bytes : List ℕ
  bytes = each n (byte_in c f)

  byte_is : (i : ℕ) → i < n → get_or bytes i 0 ≡ byte_in c f i
  unfolding bytes
  byte_is i h = get_or-each n (byte_in c f) i 0 h

  bytes_length : length bytes ≡ n
  unfolding bytes
  bytes_length = length-each n (byte_in c f)

  -- what is left of a number from byte i on
  rest_of : ℕ → ℕ
  rest_of i = f (i / c) / 2 ^ (8 * (i % c))

  byte_of_rest : (i : ℕ) → byte_in c f i ≡ rest_of i % 256
  unfolding rest_of
  byte_of_rest i = refl

  next_rest : (i : ℕ) → i % c + 2 ≤ c → rest_of (i + 1) ≡ rest_of i / 2 ^ 8
  unfolding rest_of
  next_rest i h =
      let d : (i + 1) / c ≡ i / c = next_quotient c i h in
      let m : 8 * ((i + 1) % c) ≡ 8 * (i % c) + 8 = omega (arith, next_rest_at c i h) in
      rw (d, m) (sym (shr-shr (f (i / c)) (8 * (i % c)) 8))

  field : (w i : ℕ) → i % c + w ≤ c → i + w ≤ n → number (take w (drop i bytes)) ≡ rest_of i % 2 ^ (8 * w)
  field zero i h le = omega arith
  field (suc zero) i h le =
      let within : i < length bytes = omega (arith, bytes_length) in
      let below : i < n = omega arith in
      rw (drop-cons bytes i 0 within, byte_is i below, byte_of_rest i) (omega arith)
  field (suc (suc w)) i h le =
      let within : i < length bytes = omega (arith, bytes_length) in
      let below : i < n = omega arith in
      let s : suc i ≡ i + 1 = omega arith in
      let two : i % c + 2 ≤ c = omega arith in
      let more : (i + 1) % c + suc w ≤ c = omega (arith, next_rest_at c i two) in
      let rest : number (take (suc w) (drop (suc i) bytes)) ≡ rest_of i / 2 ^ 8 % 2 ^ (8 * suc w)
      = ap (λ j. number (take (suc w) (drop j bytes))) s ∙ field (suc w) (i + 1) more (omega arith) ∙ ap (λ r. r % 2 ^ (8 * suc w)) (next_rest i two) in
      ap (λ (b : List ℕ). number (take (suc (suc w)) b)) (drop-cons bytes i 0 within)
      ∙ ap (λ x. x + 256 * number (take (suc w) (drop (suc i) bytes))) (byte_is i below ∙ byte_of_rest i)
      ∙ ap (λ x. rest_of i % 256 + 256 * x) rest
      ∙ sym (one_more (rest_of i) (suc w))

  pub field_is : (w i : ℕ) → i % c + w ≤ c → i + w ≤ n → number (take w (drop i (each n (byte_in c f)))) ≡ f (i / c) / 2 ^ (8 * (i % c)) % 2 ^ (8 * w)
  unfolding bytes rest_of
  field_is w i h le = field w i h le

-- a lane lies within a word
pub in_word : (e k : ℕ) → IsLaneSize e → (k * (e / 8)) % 8 + e / 8 ≤ 8
in_word e k (inl s) = rw s (omega arith)
in_word e k (inr (inl s)) = rw s (omega arith)
in_word e k (inr (inr (inl s))) = rw s (omega arith)
in_word e k (inr (inr (inr s))) = rw s (omega arith)

pub whole_bytes : (e : ℕ) → IsLaneSize e → 8 * (e / 8) ≡ e
whole_bytes e (inl s) = rw s refl
whole_bytes e (inr (inl s)) = rw s refl
whole_bytes e (inr (inr (inl s))) = rw s refl
whole_bytes e (inr (inr (inr s))) = rw s refl

pub some_bytes : (e : ℕ) → IsLaneSize e → 0 < e / 8
some_bytes e h = let s : 8 * (e / 8) ≡ e = whole_bytes e h in some e h s where
  some : (e : ℕ) → IsLaneSize e → 8 * (e / 8) ≡ e → 0 < e / 8
  some e (inl s) b = omega arith
  some e (inr (inl s)) b = omega arith
  some e (inr (inr (inl s))) b = omega arith
  some e (inr (inr (inr s))) b = omega arith

pub within_bytes : (e k bits : ℕ) → IsLaneSize e → k < bits / e → k * (e / 8) + e / 8 ≤ bits / 8
within_bytes e k bits (inl s) h = rw s (let g : k < bits / 8 = rw s at h in omega arith)
within_bytes e k bits (inr (inl s)) h = rw s (let g : k < bits / 16 = rw s at h in omega arith)
within_bytes e k bits (inr (inr (inl s))) h = rw s (let g : k < bits / 32 = rw s at h in omega arith)
within_bytes e k bits (inr (inr (inr s))) h = rw s (let g : k < bits / 64 = rw s at h in omega arith)

-- what `with_lanes` writes reads as its lanes
pub lane_of_lanes : (f : ℕ → ℕ) (n e k : ℕ) → IsLaneSize e → k * (e / 8) + e / 8 ≤ n → lane e (each n (byte_in (e / 8) f)) k ≡ f k % 2 ^ e
lane_of_lanes f n e k size le =
    let some : 0 < e / 8 = some_bytes e size in
    let at : (k * (e / 8) + 0) / (e / 8) ≡ k = div-mul-add k (e / 8) 0 some in
    let up : (k * (e / 8) + 0) % (e / 8) ≡ 0 = mod-mul-add k (e / 8) 0 some in
    let z : k * (e / 8) + 0 ≡ k * (e / 8) = omega arith in
    let first : k * (e / 8) / (e / 8) ≡ k = ap (λ x. x / (e / 8)) (sym z) ∙ at in
    let none : k * (e / 8) % (e / 8) ≡ 0 = ap (λ x. x % (e / 8)) (sym z) ∙ up in
    let fits : (k * (e / 8)) % (e / 8) + e / 8 ≤ e / 8 = omega arith in
    field_is f (e / 8) n (e / 8) (k * (e / 8)) fits le
    ∙ ap (λ x. f x / 2 ^ (8 * ((k * (e / 8)) % (e / 8))) % 2 ^ (8 * (e / 8))) first
    ∙ ap (λ x. f k / 2 ^ (8 * x) % 2 ^ (8 * (e / 8))) none
    ∙ ap (λ x. x % 2 ^ (8 * (e / 8))) (whole_number (f k))
    ∙ ap (λ p. f k % 2 ^ p) (whole_bytes e size) where
      whole_number : (x : ℕ) → x / 2 ^ (8 * 0) ≡ x
      whole_number x = omega arith
