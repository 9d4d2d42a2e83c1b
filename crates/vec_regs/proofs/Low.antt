-- The lowest 128 bits of registers.
use Rattle.std.proofs.Common.{◌≡◌, ◌<◌, ◌≤◌, ◌+◌, ◌-◌, ◌*◌, ◌/◌, ◌%◌, ◌^◌, ℕ, zero, suc, Bool, List, [], ◌∷◌, map, length, take, get_or, set, replicate, min, inl, inr, refl, sym, ap, ◌∙◌, arith, length-append}
use Rattle.std.specs.List.{All}
use Rattle.std.proofs.Math.Nat.{div-eq_of_lt, lt_of_lt_of_le, pow-le-pow_right}
use Rattle.std.proofs.lemmas.Bool.{cases_lt}
use Rattle.std.proofs.lemmas.List.{get_or-map, get_or-take, get_or-set_other, get_or_append_left, get_or-append_right, length-replicate, length-take, length-map}
use Rattle.std.proofs.lemmas.List.Edits.{fill_by_more}
use Rattle.std.proofs.lemmas.List.FromFn.{fill_by_all}
use Rattle.std.proofs.lemmas.Nat.{shr-shr}
use Rattle.emu_model.specs.Lists.{each}
use Rattle.emu_model.specs.ListLaws.{length-each, get_or-each, each_same}
use Rattle.emu_model.specs.State.{Vectors}
use Rattle.emu_model.specs.AfterCall.{low_bytes, cleared}
use Rattle.emu_model.specs.Lanes.{lane, with_z, with_low}
use Rattle.vec_regs.specs.Packed.{number_words, low_words}
use Rattle.vec_regs.specs.Shown.{shown}
use Rattle.vec_regs.specs.Words.{byte_of, bytes_of, bits_of, AreZeroFrom}
use Rattle.vec_regs.specs.declared.VecRegs.TheInside.{Inside}
use Rattle.vec_regs.proofs.Parts.{same_part, lower_to}
use Rattle.vec_regs.proofs.Views.{zero_word, zero_bits, nothing}

-- ---- 128 bits are read as two lanes of 64

pub low_is : (bs : List ℕ) → lane 128 bs 0 ≡ lane 64 bs 0 + 2 ^ 64 * lane 64 bs 1
low_is [] = refl
low_is (a ∷ []) = omega arith
low_is (a ∷ b ∷ []) = omega arith
low_is (a ∷ b ∷ c ∷ []) = omega arith
low_is (a ∷ b ∷ c ∷ d ∷ []) = omega arith
low_is (a ∷ b ∷ c ∷ d ∷ e ∷ []) = omega arith
low_is (a ∷ b ∷ c ∷ d ∷ e ∷ f ∷ []) = omega arith
low_is (a ∷ b ∷ c ∷ d ∷ e ∷ f ∷ g ∷ []) = omega arith
low_is (a ∷ b ∷ c ∷ d ∷ e ∷ f ∷ g ∷ h ∷ rest) = omega arith

pub ruleset low_read = (low_is)

-- ---- two words with zeros above

above_two : (x y q : ℕ) → 2 ≤ q → get_or (x ∷ (y ∷ replicate 30 0)) q 0 ≡ 0
above_two x y zero h = absurd (omega arith)
above_two x y (suc zero) h = absurd (omega arith)
above_two x y (suc (suc q)) h = zero_word 30 q

no_byte : (x y j : ℕ) → 16 ≤ j → byte_of 8 (x ∷ (y ∷ replicate 30 0)) j ≡ 0
no_byte x y j h =
    let high : 2 ≤ j / 8 = omega arith in
    ap (λ w. w / 2 ^ (8 * (j % 8)) % 256) (above_two x y (j / 8) high) ∙ ap (λ w. w % 256) (nothing (2 ^ (8 * (j % 8))))

-- ---- a number below 2^128

pub number_zero : (x : ℕ) → AreZeroFrom 2 (number_words x)
number_zero x q h = above_two (x % 2 ^ 64) (x / 2 ^ 64) q h

no_part : (x j : ℕ) → x < 2 ^ 128 → 16 ≤ j → x / 2 ^ (8 * j) % 256 ≡ 0
no_part x j small h =
    let two : 0 < 2 = omega arith in
    let far : 128 ≤ 8 * j = omega arith in
    let less : x < 2 ^ (8 * j) = lt_of_lt_of_le small (pow-le-pow_right two far) in
    ap (λ y. y % 256) (div-eq_of_lt less)

number_byte : (x j : ℕ) → x < 2 ^ 128 → byte_of 8 (number_words x) j ≡ x / 2 ^ (8 * j) % 256
number_byte x j small = elim (cases_lt j 8) [
  | inl h ↦
      (let q : j / 8 ≡ 0 = omega arith in
      let r : j % 8 ≡ j = omega arith in
      let le : 64 ≤ 64 = omega arith in
      let within : 8 * j + 8 ≤ 64 = omega arith in
      ap (λ i. get_or (number_words x) i 0 / 2 ^ (8 * (j % 8)) % 256) q
      ∙ ap (λ i. x % 2 ^ 64 / 2 ^ (8 * i) % 256) r
      ∙ same_part (x % 2 ^ 64) x 64 (8 * j) 8 (lower_to x 64 64 le) within)
  | inr h ↦ elim (cases_lt j 16) [
    | inl below ↦
        (let q : j / 8 ≡ 1 = omega arith in
        let d : 64 + 8 * (j % 8) ≡ 8 * j = omega arith in
        ap (λ i. get_or (number_words x) i 0 / 2 ^ (8 * (j % 8)) % 256) q
        ∙ ap (λ y. y % 256) (shr-shr x 64 (8 * (j % 8)))
        ∙ ap (λ p. x / 2 ^ p % 256) d)
    | inr far ↦ no_byte (x % 2 ^ 64) (x / 2 ^ 64) j far ∙ sym (no_part x j small far)
  ]
]

pub low_written_is : (v : Vectors) (bits x y r : ℕ) (words : List ℕ) → y < 2 ^ 128 → y ≡ x % 2 ^ bits → words ≡ number_words y → with_z v r (bytes_of (v.bits / 8) words) ≡ with_low bits x r v
low_written_is v bits x y r words small part is =
    ap (λ (ws : List ℕ). with_z v r (bytes_of (v.bits / 8) ws)) is
    ∙ ap (with_z v r) (each_same (v.bits / 8) (byte_of 8 (number_words y)) (λ j. y / 2 ^ (8 * j) % 256) 0 (λ j b. number_byte y j small))
    ∙ ap (λ z. with_z v r (each (v.bits / 8) (λ j. z / 2 ^ (8 * j) % 256))) part

pub ruleset low_written = (low_written_is)

-- ---- registers that keep their low words

kept_word : (words : List ℕ) (q : ℕ) → q < 2 → get_or (low_words words) q 0 ≡ get_or words q 0
kept_word words zero h = refl
kept_word words (suc zero) h = refl
kept_word words (suc (suc q)) h = absurd (omega arith)

pub low_above : (n : ℕ) (words : List ℕ) → 2 ≤ n → AreZeroFrom n (low_words words)
low_above n words h q le = let high : 2 ≤ q = omega arith in above_two (get_or words 0 0) (get_or words 1 0) q high

kept_byte : (words : List ℕ) (j : ℕ) → j < 16 → byte_of 8 (low_words words) j ≡ byte_of 8 words j
kept_byte words j h =
    let low : j / 8 < 2 = omega arith in
    ap (λ w. w / 2 ^ (8 * (j % 8)) % 256) (kept_word words (j / 8) low)

low_length : (n bits : ℕ) (bytes : List ℕ) → 16 ≤ n → 16 ≤ bits / 8 → length bytes ≡ n → length (low_bytes bits bytes) ≡ bits / 8
low_length n bits bytes h more count =
    let e : length (low_bytes bits bytes) ≡ min 16 (length bytes) + (bits / 8 - 16) = simp (length-append, length-take, length-replicate) in
    omega arith

first_length : (n : ℕ) (bytes : List ℕ) → 16 ≤ n → length bytes ≡ n → length (take 16 bytes) ≡ 16
first_length n bytes h count = let e : length (take 16 bytes) ≡ min 16 (length bytes) = length-take 16 bytes in omega arith

low_byte : (n bits : ℕ) (words : List ℕ) → 16 ≤ n → (k : ℕ) → k < bits / 8 → get_or (low_bytes bits (bytes_of n words)) k 0 ≡ byte_of 8 (low_words words) k
low_byte n bits words h k b =
    let count : length (bytes_of n words) ≡ n = length-each n (byte_of 8 words) in
    let first : length (take 16 (bytes_of n words)) ≡ 16 = first_length n (bytes_of n words) h count in
    elim (cases_lt k 16) [
      | inl low ↦
          (let within : k < length (take 16 (bytes_of n words)) = omega arith in
          get_or_append_left (take 16 (bytes_of n words)) (replicate (bits / 8 - 16) 0) 0 k within
          ∙ get_or-take 16 (bytes_of n words) k 0 low
          ∙ get_or-each n (byte_of 8 words) k 0 (omega arith)
          ∙ sym (kept_byte words k low))
      | inr high ↦
          (get_or-append_right (take 16 (bytes_of n words)) (replicate (bits / 8 - 16) 0) 16 k 0 first high
          ∙ zero_word (bits / 8 - 16) (k - 16)
          ∙ sym (no_byte (get_or words 0 0) (get_or words 1 0) k high))
    ]

low_one : (n bits : ℕ) (words : List ℕ) → 16 ≤ n → 16 ≤ bits / 8 → bytes_of (bits / 8) (low_words words) ≡ low_bytes bits (bytes_of n words)
low_one n bits words h more =
    sym (fill_by_all (byte_of 8 (low_words words)) (low_bytes bits (bytes_of n words)) (bits / 8) 0 (low_length n bits (bytes_of n words) h more (length-each n (byte_of 8 words))) (low_byte n bits words h))

low_all : (n bits : ℕ) → 16 ≤ n → 16 ≤ bits / 8 → (zs : List (List ℕ)) → map (bytes_of (bits / 8)) (map low_words zs) ≡ map (low_bytes bits) (map (bytes_of n) zs)
low_all n bits h more [] = refl
low_all n bits h more (z ∷ zs) =
    ap (λ (bs : List ℕ). bs ∷ map (bytes_of (bits / 8)) (map low_words zs)) (low_one n bits z h more) ∙ ap (λ (bs : List (List ℕ)). low_bytes bits (bytes_of n z) ∷ bs) (low_all n bits h more zs)

-- ---- registers cleared in a length

abbrev pub cleared_inside : ℕ → List (List ℕ) → Inside → Inside
cleared_inside bits z a = record a { z = z; p = replicate 16 (replicate 4 0); ffr = replicate 4 0; length = bits }

cleared_is : (a : Inside) (bits : ℕ) → 16 ≤ a.length / 8 → 16 ≤ bits / 8 → shown (cleared_inside bits (map low_words a.z) a) ≡ cleared bits (shown a)
cleared_is a bits h more =
    let f : List (List ℕ) → List Bool → Vectors = λ z p. record { most = a.most; bits = bits; z = z; p = replicate 16 p; ffr = p } in
    ap (λ (z : List (List ℕ)). f z (bits_of (bits / 8) (replicate 4 0))) (low_all (a.length / 8) bits h more a.z)
    ∙ ap (f (map (low_bytes bits) (map (bytes_of (a.length / 8)) a.z))) (zero_bits (bits / 8) 4)

pub cleared_shown : (a : Inside) (bits : ℕ) (v : Vectors) (z : List (List ℕ)) → shown a ≡ v → 16 ≤ a.length / 8 → 16 ≤ bits / 8 → z ≡ map low_words a.z → shown (cleared_inside bits z a) ≡ cleared bits v
cleared_shown a bits v z e h more is = ap (λ (z : List (List ℕ)). shown (cleared_inside bits z a)) is ∙ cleared_is a bits h more ∙ ap (cleared bits) e

pub zero_above : (m n : ℕ) (zs : List (List ℕ)) → m ≤ n → All (AreZeroFrom m) zs → All (AreZeroFrom n) zs
zero_above m n zs more all = λ k d within q h. all k d within q (omega (arith, more, h))

-- ---- the loop over registers

pub kept_more : (old z : List (List ℕ)) (r : ℕ) (x : List ℕ) → r < length z → x ≡ low_words (get_or z r []) → ((k : ℕ) → k < r → get_or z k [] ≡ low_words (get_or old k [])) → ((k : ℕ) → r ≤ k → get_or z k [] ≡ get_or old k [])
    → (k : ℕ) → k < r + 1 → get_or (set z r x) k [] ≡ low_words (get_or old k [])
kept_more old z r x within is done rest k b =
    let le : r ≤ r = omega arith in
    let now : x ≡ low_words (get_or old r []) = is ∙ ap low_words (rest r le) in
    ap (λ (y : List ℕ). get_or (set z r y) k []) now ∙ fill_by_more (λ k. low_words (get_or old k [])) z r [] within done k b

pub same_more : (from z : List (List ℕ)) (r : ℕ) (x : List ℕ) → r < length z → x ≡ get_or from r [] → ((k : ℕ) → k < r → get_or z k [] ≡ get_or from k []) → (k : ℕ) → k < r + 1 → get_or (set z r x) k [] ≡ get_or from k []
same_more from z r x within is done k b = ap (λ (y : List ℕ). get_or (set z r y) k []) is ∙ fill_by_more (λ k. get_or from k []) z r [] within done k b

pub kept_rest : (old z : List (List ℕ)) (r : ℕ) (x : List ℕ) → ((k : ℕ) → r ≤ k → get_or z k [] ≡ get_or old k []) → (k : ℕ) → r + 1 ≤ k → get_or (set z r x) k [] ≡ get_or old k []
kept_rest old z r x rest k h =
    let other : k ≡ r → ⊥ = λ s. omega arith in
    let le : r ≤ k = omega arith in
    get_or-set_other z r k x [] other ∙ rest k le

pub kept_all : (old z : List (List ℕ)) → length z ≡ 32 → length old ≡ 32 → ((k : ℕ) → k < 32 → get_or z k [] ≡ low_words (get_or old k [])) → z ≡ map low_words old
kept_all old z count same done =
    fill_by_all (λ k. low_words (get_or old k [])) z 32 [] count done
    ∙ sym (fill_by_all (λ k. low_words (get_or old k [])) (map low_words old) 32 [] (length-map old low_words ∙ same) (λ k h. let within : k < length old = omega arith in get_or-map low_words old k [] [] within))
