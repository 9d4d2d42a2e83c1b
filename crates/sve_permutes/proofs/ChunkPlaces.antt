-- Permutes of 128 bits among those of whole registers: lane j of the i-th w lanes is lane i * w + j.
use Rattle.std.proofs.Common.{◌≡◌, ◌<◌, ◌≤◌, ◌+◌, ◌-◌, ◌*◌, ◌/◌, ◌%◌, ℕ, zero, suc, Bool, true, false, nat_eq, nat_lt, if◌then◌else◌, inl, inr, refl, sym, ap, subst, ◌∙◌, arith}
use Rattle.std.proofs.Math.Nat.{mod-lt}
use Rattle.std.proofs.lemmas.Bool.Decides.{nat_tests}
use Rattle.std.proofs.lemmas.Nat.{div-add-mod', div_below}
use Rattle.emu_bits.specs.Fields.{bit}
use Rattle.emu_model.specs.SoundState.{IsVectorLength}
use Rattle.lane_model.specs.declared.places.LaneSource.TheVariants.{FirstLane, SecondLane, Scalar}
use Rattle.sve_effects.specs.Permute.{taken, by_parity, concatenated, zip_place, uzp_place, trn_place, insr_place}
use Rattle.emu_model.specs.LaneSizes.{IsLaneSize}

pub bit_small : (b : Bool) → bit b ≤ 1
bit_small true = omega arith
bit_small false = omega arith

-- ---- how many lanes there are

pub even_quad : (e w : ℕ) → IsLaneSize e → w * e ≡ 128 → w % 2 ≡ 0
even_quad e w (inl s) whole = let q : w * 8 ≡ 128 = rw s at whole in omega arith
even_quad e w (inr (inl s)) whole = let q : w * 16 ≡ 128 = rw s at whole in omega arith
even_quad e w (inr (inr (inl s))) whole = let q : w * 32 ≡ 128 = rw s at whole in omega arith
even_quad e w (inr (inr (inr s))) whole = let q : w * 64 ≡ 128 = rw s at whole in omega arith

pub quads_of_lanes : (e w bits : ℕ) → IsLaneSize e → w * e ≡ 128 → IsVectorLength bits → bits / e ≡ bits / 128 * w
quads_of_lanes e w bits (inl s) whole l = let m : bits % 128 ≡ 0 = l.multiple in let q : w * 8 ≡ 128 = rw s at whole in let t : w ≡ 16 = omega arith in rw (s, t) (omega arith)
quads_of_lanes e w bits (inr (inl s)) whole l = let m : bits % 128 ≡ 0 = l.multiple in let q : w * 16 ≡ 128 = rw s at whole in let t : w ≡ 8 = omega arith in rw (s, t) (omega arith)
quads_of_lanes e w bits (inr (inr (inl s))) whole l = let m : bits % 128 ≡ 0 = l.multiple in let q : w * 32 ≡ 128 = rw s at whole in let t : w ≡ 4 = omega arith in rw (s, t) (omega arith)
quads_of_lanes e w bits (inr (inr (inr s))) whole l = let m : bits % 128 ≡ 0 = l.multiple in let q : w * 64 ≡ 128 = rw s at whole in let t : w ≡ 2 = omega arith in rw (s, t) (omega arith)

pub some_lanes : (w e : ℕ) → w * e ≡ 128 → 0 < w
some_lanes zero e h = absurd (omega arith)
some_lanes (suc w) e h = omega arith

pub some_product : (q w : ℕ) → 0 < q → 0 < w → 0 < q * w
some_product zero w p q = absurd (omega arith)
some_product (suc q) zero p r = absurd (omega arith)
some_product (suc q) (suc w) p r = omega arith

-- 128 bits that begin in the first of two registers, and those behind them
pub quad_below : (w q i start : ℕ) → 0 < w → start < q * w → i < q → i + start / w + 1 < 2 * q
quad_below w q i start some h b = let part : start / w < q = div_below start w q some h in omega arith

-- ---- lanes in turn

module _ (a b x y : ℕ → ℕ) (m : ℕ) where
  turned : (t : Bool) (j u : ℕ) → x j ≡ a u % m → y j ≡ b u % m → taken x y 0 0 (if t then FirstLane j else SecondLane j) ≡ taken a b 0 0 (if t then FirstLane u else SecondLane u) % m
  turned true j u p q = p
  turned false j u p q = q

  in_step : (j k t u : ℕ) → j % 2 ≡ k % 2 → x t ≡ a u % m → y t ≡ b u % m → taken x y 0 0 (by_parity j t) ≡ taken a b 0 0 (by_parity k u) % m
  in_step j k t u e p q = turned (nat_eq (j % 2) 0) t u p q ∙ ap (λ r. taken a b 0 0 (if nat_eq r 0 then FirstLane u else SecondLane u) % m) e

-- lanes of halves of 128 bits: h is the half, of which p tells whether it is a high one
half_spot : (p second : Bool) (c q i h j : ℕ) → h ≡ bit second * q + i → h % 2 ≡ bit p → h / 2 * (2 * c) + (bit p * (2 * c / 2) + j / 2) ≡ bit second * (q * (2 * c) / 2) + (i * (2 * c) + j) / 2
half_spot true true c q i h j e d = let w : h ≡ 2 * (h / 2) + 1 = omega arith in let f : h * c ≡ (2 * (h / 2) + 1) * c = ap (λ x. x * c) w in let o : h * c ≡ (1 * q + i) * c = ap (λ x. x * c) e in omega arith
half_spot true false c q i h j e d = let w : h ≡ 2 * (h / 2) + 1 = omega arith in let f : h * c ≡ (2 * (h / 2) + 1) * c = ap (λ x. x * c) w in let o : h * c ≡ (0 * q + i) * c = ap (λ x. x * c) e in omega arith
half_spot false true c q i h j e d = let w : h ≡ 2 * (h / 2) = omega arith in let f : h * c ≡ 2 * (h / 2) * c = ap (λ x. x * c) w in let o : h * c ≡ (1 * q + i) * c = ap (λ x. x * c) e in omega arith
half_spot false false c q i h j e d = let w : h ≡ 2 * (h / 2) = omega arith in let f : h * c ≡ 2 * (h / 2) * c = ap (λ x. x * c) w in let o : h * c ≡ (0 * q + i) * c = ap (λ x. x * c) e in omega arith

half_room : (p : Bool) (c j : ℕ) → j < 2 * c → bit p * (2 * c / 2) + j / 2 < 2 * c
half_room true c j h = omega arith
half_room false c j h = omega arith

pub odd_half : (h : ℕ) → h % 2 ≡ bit (nat_eq (h % 2) 1)
odd_half h = by_test (nat_eq (h % 2) 1) refl where
  by_test : (t : Bool) → nat_eq (h % 2) 1 ≡ t → h % 2 ≡ bit t
  by_test true e = grind (arith, nat_tests)
  by_test false e = grind (arith, nat_tests)

module _ (a b x y : ℕ → ℕ) (m : ℕ) where
  zip_halves : (p second : Bool) (c q i h j : ℕ) → h ≡ bit second * q + i → h % 2 ≡ bit p
      → ((t : ℕ) → t < 2 * c → x t ≡ a (h / 2 * (2 * c) + t) % m) → ((t : ℕ) → t < 2 * c → y t ≡ b (h / 2 * (2 * c) + t) % m) → j < 2 * c
      → taken x y 0 0 (zip_place p (2 * c) j) ≡ taken a b 0 0 (zip_place second (q * (2 * c)) (i * (2 * c) + j)) % m
  zip_halves p second c q i h j e d xs ys within =
      let t : ℕ = bit p * (2 * c / 2) + j / 2 in
      let room : bit p * (2 * c / 2) + j / 2 < 2 * c = half_room p c j within in
      let spot = half_spot p second c q i h j e d in
      in_step a b x y m j (i * (2 * c) + j) t (bit second * (q * (2 * c) / 2) + (i * (2 * c) + j) / 2) (omega arith)
      (xs t room ∙ ap (λ u. a u % m) spot) (ys t room ∙ ap (λ u. b u % m) spot)

  pub zip_chunk : (p second : Bool) (w q i h j n : ℕ) → w % 2 ≡ 0 → n ≡ q * w → h ≡ bit second * q + i → h % 2 ≡ bit p
      → ((t : ℕ) → t < w → x t ≡ a (h / 2 * w + t) % m) → ((t : ℕ) → t < w → y t ≡ b (h / 2 * w + t) % m) → j < w
      → taken x y 0 0 (zip_place p w j) ≡ taken a b 0 0 (zip_place second n (i * w + j)) % m
  zip_chunk p second w q i h j n even count e d xs ys within =
      let P : ℕ → Type 0 = λ w. ((t : ℕ) → t < w → x t ≡ a (h / 2 * w + t) % m) → ((t : ℕ) → t < w → y t ≡ b (h / 2 * w + t) % m) → j < w
      → taken x y 0 0 (zip_place p w j) ≡ taken a b 0 0 (zip_place second (q * w) (i * w + j)) % m in
      let twice : 2 * (w / 2) ≡ w = omega arith in
      subst P twice (zip_halves p second (w / 2) q i h j e d) xs ys within
      ∙ ap (λ n. taken a b 0 0 (zip_place second n (i * w + j)) % m) (sym count)

  trn_pairs : (second : Bool) (c i j : ℕ) → ((t : ℕ) → t < 2 * c → x t ≡ a (i * (2 * c) + t) % m) → ((t : ℕ) → t < 2 * c → y t ≡ b (i * (2 * c) + t) % m) → j < 2 * c
      → taken x y 0 0 (trn_place second j) ≡ taken a b 0 0 (trn_place second (i * (2 * c) + j)) % m
  trn_pairs second c i j xs ys within =
      let t : ℕ = 2 * (j / 2) + bit second in
      let room : 2 * (j / 2) + bit second < 2 * c = omega (arith, bit_small second) in
      let spot : i * (2 * c) + (2 * (j / 2) + bit second) ≡ 2 * ((i * (2 * c) + j) / 2) + bit second = omega arith in
      in_step a b x y m j (i * (2 * c) + j) t (2 * ((i * (2 * c) + j) / 2) + bit second) (omega arith) (xs t room ∙ ap (λ u. a u % m) spot) (ys t room ∙ ap (λ u. b u % m) spot)

  pub trn_chunk : (second : Bool) (w i j : ℕ) → w % 2 ≡ 0 → ((t : ℕ) → t < w → x t ≡ a (i * w + t) % m) → ((t : ℕ) → t < w → y t ≡ b (i * w + t) % m) → j < w
      → taken x y 0 0 (trn_place second j) ≡ taken a b 0 0 (trn_place second (i * w + j)) % m
  trn_chunk second w i j even xs ys within =
      let P : ℕ → Type 0 = λ w. ((t : ℕ) → t < w → x t ≡ a (i * w + t) % m) → ((t : ℕ) → t < w → y t ≡ b (i * w + t) % m) → j < w → taken x y 0 0 (trn_place second j) ≡ taken a b 0 0 (trn_place second (i * w + j)) % m in
      let twice : 2 * (w / 2) ≡ w = omega arith in
      subst P twice (trn_pairs second (w / 2) i j) xs ys within

  -- two numbers in turn
  pub turn_chunk : (low high w i j : ℕ) → w % 2 ≡ 0 → ((t : ℕ) → t < w → x t ≡ low % m) → ((t : ℕ) → t < w → y t ≡ high % m) → j < w
      → taken x y 0 0 (zip_place false w j) ≡ (if nat_eq ((i * w + j) % 2) 0 then low else high) % m
  turn_chunk low high w i j even xs ys within =
      let room : 0 * (w / 2) + j / 2 < w = omega arith in
      by_test (nat_eq (j % 2) 0) (xs (0 * (w / 2) + j / 2) room) (ys (0 * (w / 2) + j / 2) room) ∙ ap (λ r. (if nat_eq r 0 then low else high) % m) (parity (w / 2) (omega arith)) where
        by_test : (t : Bool) → x (0 * (w / 2) + j / 2) ≡ low % m → y (0 * (w / 2) + j / 2) ≡ high % m
            → taken x y 0 0 (if t then FirstLane (0 * (w / 2) + j / 2) else SecondLane (0 * (w / 2) + j / 2)) ≡ (if t then low else high) % m
        by_test true p q = p
        by_test false p q = q

        parity : (c : ℕ) → w ≡ 2 * c → j % 2 ≡ (i * w + j) % 2
        parity c e = let s : i * w ≡ i * (2 * c) = ap (λ w. i * w) e in omega arith

-- ---- lanes of two one after the other

module _ (v x y : ℕ → ℕ) (m : ℕ) where
  pub uzp_chunk : (second : Bool) (w i j : ℕ) → ((t : ℕ) → t < w → x t ≡ v (2 * i * w + t) % m) → ((t : ℕ) → t < w → y t ≡ v ((2 * i + 1) * w + t) % m) → j < w
      → taken x y 0 0 (uzp_place second w j) ≡ v (2 * (i * w + j) + bit second) % m
  uzp_chunk second w i j xs ys within = by_test (nat_lt (2 * j + bit second) w) refl where
    by_test : (t : Bool) → nat_lt (2 * j + bit second) w ≡ t
        → taken x y 0 0 (if t then FirstLane (2 * j + bit second) else SecondLane (2 * j + bit second - w)) ≡ v (2 * (i * w + j) + bit second) % m
    by_test true e =
        let below : 2 * j + bit second < w = grind (arith, nat_tests) in
        let spot : 2 * i * w + (2 * j + bit second) ≡ 2 * (i * w + j) + bit second = omega arith in
        xs (2 * j + bit second) below ∙ ap (λ u. v u % m) spot
    by_test false e =
        let above : w ≤ 2 * j + bit second = grind (arith, nat_tests) in
        let room : 2 * j + bit second - w < w = omega (arith, bit_small second) in
        let spot : (2 * i + 1) * w + (2 * j + bit second - w) ≡ 2 * (i * w + j) + bit second = omega arith in
        ys (2 * j + bit second - w) room ∙ ap (λ u. v u % m) spot

  pub ext_chunk : (w i start j : ℕ) → ((t : ℕ) → t < w → x t ≡ v ((i + start / w) * w + t) % m) → ((t : ℕ) → t < w → y t ≡ v ((i + start / w + 1) * w + t) % m) → j < w
      → taken x y 0 0 (concatenated w (start % w + j)) ≡ v (start + (i * w + j)) % m
  ext_chunk w i start j xs ys within = by_test (nat_lt (start % w + j) w) refl where
    all : start / w * w + start % w ≡ start
    all = div-add-mod' start w

    by_test : (t : Bool) → nat_lt (start % w + j) w ≡ t → taken x y 0 0 (if t then FirstLane (start % w + j) else SecondLane (start % w + j - w)) ≡ v (start + (i * w + j)) % m
    by_test true e =
        let below : start % w + j < w = grind (arith, nat_tests) in
        let spot : (i + start / w) * w + (start % w + j) ≡ start + (i * w + j) = omega (arith, all) in
        xs (start % w + j) below ∙ ap (λ u. v u % m) spot
    by_test false e =
        let above : w ≤ start % w + j = grind (arith, nat_tests) in
        let some : 0 < w = omega arith in
        let room : start % w + j - w < w = omega (arith, mod-lt start some) in
        let spot : (i + start / w + 1) * w + (start % w + j - w) ≡ start + (i * w + j) = omega (arith, all) in
        ys (start % w + j - w) room ∙ ap (λ u. v u % m) spot

module _ (a b : ℕ → ℕ) where
  pub joined_low : (n k : ℕ) → k < n → a k ≡ taken a b 0 0 (concatenated n k)
  joined_low n k h = let t : true ≡ nat_lt k n = grind (arith, nat_tests) in ap (λ t. taken a b 0 0 (if t then FirstLane k else SecondLane (k - n))) t

  pub joined_high : (n k u : ℕ) → n ≤ k → u ≡ k - n → b u ≡ taken a b 0 0 (concatenated n k)
  joined_high n k u h e = let t : false ≡ nat_lt k n = grind (arith, nat_tests) in ap b e ∙ ap (λ t. taken a b 0 0 (if t then FirstLane k else SecondLane (k - n))) t

-- lane t of the at-th w lanes, of two sources of q times w
pub high_spot : (at q w t : ℕ) → q ≤ at → (at - q) * w + t ≡ at * w + t - q * w
high_spot at q w t h = spot (at - q) (omega arith) where
  spot : (d : ℕ) → at ≡ d + q → d * w + t ≡ at * w + t - q * w
  spot d e = let p : at * w ≡ (d + q) * w = ap (λ x. x * w) e in omega arith

pub high_room : (at q w t : ℕ) → q ≤ at → q * w ≤ at * w + t
high_room at q w t h = room (at - q) (omega arith) where
  room : (d : ℕ) → at ≡ d + q → q * w ≤ at * w + t
  room d e = let p : at * w ≡ (d + q) * w = ap (λ x. x * w) e in omega arith

pub low_room : (at q w t : ℕ) → at < q → t < w → at * w + t < q * w
low_room at q w t h b = room (q - 1 - at) (omega arith) where
  room : (d : ℕ) → q ≡ d + at + 1 → at * w + t < q * w
  room d e = let p : q * w ≡ (d + at + 1) * w = ap (λ x. x * w) e in omega arith

-- ---- lanes of one source

pub rev_spot : (q w i j : ℕ) → i < q → j < w → (q - 1 - i) * w + (w - 1 - j) ≡ q * w - 1 - (i * w + j)
rev_spot q w i j h b = spot (q - 1 - i) (omega arith) where
  spot : (d : ℕ) → q ≡ d + i + 1 → d * w + (w - 1 - j) ≡ q * w - 1 - (i * w + j)
  spot d e = let p : q * w ≡ (d + i + 1) * w = ap (λ x. x * w) e in omega arith

module _ (a x : ℕ → ℕ) (scalar low m : ℕ) where
  pub insr_chunk : (w i j : ℕ) → ((t : ℕ) → t < w → x t ≡ a (i * w + t) % m) → low ≡ taken a a scalar 0 (insr_place (i * w)) % m → j < w
      → taken x x low 0 (insr_place j) ≡ taken a a scalar 0 (insr_place (i * w + j)) % m
  insr_chunk w i zero xs is within = is ∙ ap (λ k. taken a a scalar 0 (insr_place k) % m) (omega arith)
  insr_chunk w i (suc j) xs is within =
      let here : nat_eq (suc j) 0 ≡ false = grind (arith, nat_tests) in
      let there : false ≡ nat_eq (i * w + suc j) 0 = grind (arith, nat_tests) in
      let room : suc j - 1 < w = omega arith in
      let spot : i * w + (suc j - 1) ≡ i * w + suc j - 1 = omega arith in
      ap (λ t. taken x x low 0 (if t then Scalar else FirstLane (suc j - 1))) here
      ∙ xs (suc j - 1) room
      ∙ ap (λ u. a u % m) spot
      ∙ ap (λ t. taken a a scalar 0 (if t then Scalar else FirstLane (i * w + suc j - 1)) % m) there
