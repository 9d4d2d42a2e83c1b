-- Fields of predicates in other places, by the words of the predicates.
use Rattle.std.proofs.Common.{◌≡◌, ◌<◌, ◌≤◌, ◌+◌, ◌-◌, ◌*◌, ◌/◌, ◌%◌, ℕ, zero, suc, Bool, true, false, ◌&&◌, nat_eq, nat_lt, if◌then◌else◌, List, length, get_or, replicate, inl, inr, refl, sym, ap, ◌∙◌, arith}
use Rattle.std.proofs.lemmas.Bool.{cases_lt, cases_eq, lt-ltb, le-ltb, eqb-true, true≢false, false≢true}
use Rattle.std.proofs.lemmas.List.{get_or_past}
use Rattle.emu_bits.specs.Fields.{bit}
use Rattle.emu_model.specs.SoundState.{IsVectorLength}
use Rattle.emu_model.specs.ListLaws.{length-each, get_or-each, each_same}
use Rattle.emu_model.specs.State.{Vectors}
use Rattle.lane_permute.specs.Places.{IsField, zipped, every_second, joined, transposed}
use Rattle.lane_permute.proofs.FourWords.{trn_end}
use Rattle.lane_model.specs.declared.places.LaneSource.{LaneSource}
use Rattle.lane_model.specs.declared.places.LaneSource.TheVariants.{FirstLane, SecondLane, Scalar, Zero}
use Rattle.sve_effects.specs.LaneLoop.{is_active}
use Rattle.lane_model.specs.Permute.{taken, zip_place, uzp_place, trn_place}
use Rattle.sve_effects.specs.PermuteRows.{with_p_places, after_unpack_p, is_high_p}
use Rattle.sve_effects.specs.PermuteRows as model
use Rattle.sve_insn.specs.declared.ops.UnpackPOp.{UnpackPOp}
use Rattle.pred_permutes.specs.Fields.{bit_of_field}
use Rattle.emu_model.proofs.FieldBits.{at_start}
use Rattle.emu_model.specs.Lanes.{read_p, with_p, field_bit}
use Rattle.emu_model.specs.LaneSizes.{IsLaneSize}
use Rattle.vec_regs.proofs.Views.{zero_bit}
use Rattle.vec_regs.specs.Words.{bit_of, bits_of, AreClearFrom}

-- ---- fields of a register's lanes

pub field_size : (e : ℕ) → IsLaneSize e → IsField (e / 8)
field_size e (inl s) = inl (rw s refl)
field_size e (inr (inl s)) = inr (inl (rw s refl))
field_size e (inr (inr (inl s))) = inr (inr (inl (rw s refl)))
field_size e (inr (inr (inr s))) = inr (inr (inr (rw s refl)))

pub lanes_are : (e bits : ℕ) → IsLaneSize e → bits / 8 / (e / 8) ≡ bits / e
lanes_are e bits (inl s) = rw s (omega arith)
lanes_are e bits (inr (inl s)) = rw s (omega arith)
lanes_are e bits (inr (inr (inl s))) = rw s (omega arith)
lanes_are e bits (inr (inr (inr s))) = rw s (omega arith)

-- ---- where a bit comes from

-- one of two bits, by a test of its place
by_test : (w i p q k l : ℕ) (a b : ℕ → Bool) (t u : Bool) → t ≡ u → (t ≡ true → p ≡ k * w + i) → (t ≡ false → q ≡ l * w + i)
    → (if t then a p else b q) ≡ taken (λ k. a (k * w + i)) (λ k. b (k * w + i)) false false (if u then FirstLane k else SecondLane l)
by_test w i p q k l a b true true same first second = ap a (first refl)
by_test w i p q k l a b true false same first second = absurd (true≢false same)
by_test w i p q k l a b false true same first second = absurd (false≢true same)
by_test w i p q k l a b false false same first second = ap b (second refl)

odd_by : (y : ℕ) → y < 2 → nat_eq y 0 ≡ false → y ≡ 1
odd_by zero h e = absurd (true≢false e)
odd_by (suc zero) h e = refl
odd_by (suc (suc y)) h e = absurd (omega arith)

not_below : (x y : ℕ) → nat_lt x y ≡ false → y ≤ x
not_below x y e = elim (cases_lt x y) [ inl h ↦ absurd (false≢true (sym e ∙ lt-ltb x y h)) | inr m ↦ m ]

zip_low : (w bits j from : ℕ) → IsField w → from ≡ 0 * (bits / 2) → from + (j / (2 * w) * w + j % w) ≡ (0 * (bits / w / 2) + j / w / 2) * w + j % w
zip_low w bits j from (inl s) is = rw s (omega arith)
zip_low w bits j from (inr (inl s)) is = rw s (omega arith)
zip_low w bits j from (inr (inr (inl s))) is = rw s (omega arith)
zip_low w bits j from (inr (inr (inr s))) is = rw s (omega arith)

zip_high : (w bits j from : ℕ) → IsField w → bits % 16 ≡ 0 → from ≡ 1 * (bits / 2) → from + (j / (2 * w) * w + j % w) ≡ (1 * (bits / w / 2) + j / w / 2) * w + j % w
zip_high w bits j from (inl s) whole is = rw s (omega arith)
zip_high w bits j from (inr (inl s)) whole is = rw s (omega arith)
zip_high w bits j from (inr (inr (inl s))) whole is = rw s (omega arith)
zip_high w bits j from (inr (inr (inr s))) whole is = rw s (omega arith)

zip_spot : (w bits j from : ℕ) (second : Bool) → IsField w → bits % 16 ≡ 0 → from ≡ bit second * (bits / 2)
    → from + (j / (2 * w) * w + j % w) ≡ (bit second * (bits / w / 2) + j / w / 2) * w + j % w
zip_spot w bits j from false field whole is = zip_low w bits j from field is
zip_spot w bits j from true field whole is = zip_high w bits j from field whole is

pub zip_field : (w bits j from : ℕ) (second : Bool) (r a b : ℕ → Bool) → IsField w → bits % 16 ≡ 0 → from ≡ bit second * (bits / 2) → j < bits
    → ((j : ℕ) → r j ≡ (nat_lt j bits && zipped w from a b j))
    → r j ≡ taken (λ k. a (k * w + j % w)) (λ k. b (k * w + j % w)) false false (zip_place second (bits / w) (j / w))
zip_field w bits j from second r a b field whole at h is =
    let spot = zip_spot w bits j from second field whole at in
    is j ∙ ap (λ t. t && zipped w from a b j) (lt-ltb j bits h)
    ∙ by_test w (j % w) (from + (j / (2 * w) * w + j % w)) (from + (j / (2 * w) * w + j % w)) (bit second * (bits / w / 2) + j / w / 2) (bit second * (bits / w / 2) + j / w / 2) a b
    (nat_eq (j / w % 2) 0) (nat_eq (j / w % 2) 0) refl (λ t. spot) (λ t. spot)

pub zip_above : (w bits from : ℕ) (r a b : ℕ → Bool) → ((j : ℕ) → r j ≡ (nat_lt j bits && zipped w from a b j)) → (j : ℕ) → bits ≤ j → r j ≡ false
zip_above w bits from r a b is j h = is j ∙ ap (λ t. t && zipped w from a b j) (le-ltb j bits h)

uzp_low : (w bits j : ℕ) → IsField w → bits % 16 ≡ 0 → j < bits / 2 → 2 * (j / w) + 1 < bits / w
uzp_low w bits j (inl s) whole h = rw s (omega arith)
uzp_low w bits j (inr (inl s)) whole h = rw s (omega arith)
uzp_low w bits j (inr (inr (inl s))) whole h = rw s (omega arith)
uzp_low w bits j (inr (inr (inr s))) whole h = rw s (omega arith)

uzp_high : (w bits j : ℕ) → IsField w → bits % 16 ≡ 0 → bits / 2 ≤ j → bits / w ≤ 2 * (j / w)
uzp_high w bits j (inl s) whole h = rw s (omega arith)
uzp_high w bits j (inr (inl s)) whole h = rw s (omega arith)
uzp_high w bits j (inr (inr (inl s))) whole h = rw s (omega arith)
uzp_high w bits j (inr (inr (inr s))) whole h = rw s (omega arith)

at_most_one : (t : Bool) → bit t ≤ 1
at_most_one false = omega arith
at_most_one true = omega arith

uzp_test : (w bits j : ℕ) (second : Bool) → IsField w → bits % 16 ≡ 0 → nat_lt j (bits / 2) ≡ nat_lt (2 * (j / w) + bit second) (bits / w)
uzp_test w bits j second field whole = elim (cases_lt j (bits / 2)) [
  | inl less ↦
      let one : bit second ≤ 1 = at_most_one second in
      let within : 2 * (j / w) + bit second < bits / w = omega (arith, one, uzp_low w bits j field whole less) in
      lt-ltb j (bits / 2) less ∙ sym (lt-ltb (2 * (j / w) + bit second) (bits / w) within)
  | inr most ↦
      let past : bits / w ≤ 2 * (j / w) + bit second = omega (arith, uzp_high w bits j field whole most) in
      le-ltb j (bits / 2) most ∙ sym (le-ltb (2 * (j / w) + bit second) (bits / w) past)
]

-- t is 0 or 1
uzp_first : (w j skip t : ℕ) → IsField w → skip ≡ t * w → j / w * (2 * w) + skip + j % w ≡ (2 * (j / w) + t) * w + j % w
uzp_first w j skip t (inl s) is = let k : skip ≡ t * 1 = rw s at is in rw s (omega (arith, k))
uzp_first w j skip t (inr (inl s)) is = let k : skip ≡ t * 2 = rw s at is in rw s (omega (arith, k))
uzp_first w j skip t (inr (inr (inl s))) is = let k : skip ≡ t * 4 = rw s at is in rw s (omega (arith, k))
uzp_first w j skip t (inr (inr (inr s))) is = let k : skip ≡ t * 8 = rw s at is in rw s (omega (arith, k))

uzp_second : (w bits j skip t : ℕ) → IsField w → bits % 16 ≡ 0 → skip ≡ t * w → bits / 2 ≤ j
    → (j - bits / 2) / w * (2 * w) + skip + (j - bits / 2) % w ≡ (2 * (j / w) + t - bits / w) * w + j % w
uzp_second w bits j skip t (inl s) whole is h = let k : skip ≡ t * 1 = rw s at is in rw s (omega (arith, k))
uzp_second w bits j skip t (inr (inl s)) whole is h = let k : skip ≡ t * 2 = rw s at is in rw s (omega (arith, k))
uzp_second w bits j skip t (inr (inr (inl s))) whole is h = let k : skip ≡ t * 4 = rw s at is in rw s (omega (arith, k))
uzp_second w bits j skip t (inr (inr (inr s))) whole is h = let k : skip ≡ t * 8 = rw s at is in rw s (omega (arith, k))

pub uzp_field : (w bits j skip : ℕ) (second : Bool) (r a b : ℕ → Bool) → IsField w → bits % 16 ≡ 0 → skip ≡ bit second * w → j < bits
    → ((j : ℕ) → j < bits → r j ≡ joined (bits / 2) (every_second w skip a) (every_second w skip b) j)
    → r j ≡ taken (λ k. a (k * w + j % w)) (λ k. b (k * w + j % w)) false false (uzp_place second (bits / w) (j / w))
uzp_field w bits j skip second r a b field whole at h is =
    is j h
    ∙ by_test w (j % w) (j / w * (2 * w) + skip + j % w) ((j - bits / 2) / w * (2 * w) + skip + (j - bits / 2) % w) (2 * (j / w) + bit second) (2 * (j / w) + bit second - bits / w) a b
    (nat_lt j (bits / 2)) (nat_lt (2 * (j / w) + bit second) (bits / w)) (uzp_test w bits j second field whole)
    (λ e. uzp_first w j skip (bit second) field at) (λ e. uzp_second w bits j skip (bit second) field whole at (not_below j (bits / 2) e))

trn_even : (w j skip t : ℕ) → IsField w → skip ≡ t * w → j / w % 2 ≡ 0 → j + skip ≡ (2 * (j / w / 2) + t) * w + j % w
trn_even w j skip t (inl s) is even = let k : skip ≡ t * 1 = rw s at is in let v : j / 1 % 2 ≡ 0 = rw s at even in rw s (omega (arith, k, v))
trn_even w j skip t (inr (inl s)) is even = let k : skip ≡ t * 2 = rw s at is in let v : j / 2 % 2 ≡ 0 = rw s at even in rw s (omega (arith, k, v))
trn_even w j skip t (inr (inr (inl s))) is even = let k : skip ≡ t * 4 = rw s at is in let v : j / 4 % 2 ≡ 0 = rw s at even in rw s (omega (arith, k, v))
trn_even w j skip t (inr (inr (inr s))) is even = let k : skip ≡ t * 8 = rw s at is in let v : j / 8 % 2 ≡ 0 = rw s at even in rw s (omega (arith, k, v))

trn_odd : (w j skip t : ℕ) → IsField w → skip ≡ t * w → j / w % 2 ≡ 1 → j - w + skip ≡ (2 * (j / w / 2) + t) * w + j % w
trn_odd w j skip t (inl s) is odd = let k : skip ≡ t * 1 = rw s at is in let v : j / 1 % 2 ≡ 1 = rw s at odd in rw s (omega (arith, k, v))
trn_odd w j skip t (inr (inl s)) is odd = let k : skip ≡ t * 2 = rw s at is in let v : j / 2 % 2 ≡ 1 = rw s at odd in rw s (omega (arith, k, v))
trn_odd w j skip t (inr (inr (inl s))) is odd = let k : skip ≡ t * 4 = rw s at is in let v : j / 4 % 2 ≡ 1 = rw s at odd in rw s (omega (arith, k, v))
trn_odd w j skip t (inr (inr (inr s))) is odd = let k : skip ≡ t * 8 = rw s at is in let v : j / 8 % 2 ≡ 1 = rw s at odd in rw s (omega (arith, k, v))

pub trn_field : (w bits j skip : ℕ) (second : Bool) (r a b : ℕ → Bool) → IsField w → skip ≡ bit second * w
    → ((j : ℕ) → r j ≡ transposed w skip a b j)
    → r j ≡ taken (λ k. a (k * w + j % w)) (λ k. b (k * w + j % w)) false false (trn_place second (j / w))
trn_field w bits j skip second r a b field at is =
    is j
    ∙ by_test w (j % w) (j + skip) (j - w + skip) (2 * (j / w / 2) + bit second) (2 * (j / w / 2) + bit second) a b (nat_eq (j / w % 2) 0) (nat_eq (j / w % 2) 0) refl
    (λ e. trn_even w j skip (bit second) field at (eqb-true (j / w % 2) 0 e)) (λ e. trn_odd w j skip (bit second) field at (odd_by (j / w % 2) (omega arith) e))

pub trn_above : (w skip bits : ℕ) (r a b : ℕ → Bool) → IsField w → bits % 16 ≡ 0 → ((j : ℕ) → bits ≤ j → a j ≡ false) → ((j : ℕ) → bits ≤ j → b j ≡ false)
    → ((j : ℕ) → r j ≡ transposed w skip a b j) → (j : ℕ) → bits ≤ j → r j ≡ false
trn_above w skip bits r a b field whole none_a none_b is j h = is j ∙ trn_end w skip bits j a b field whole none_a none_b h

-- ---- words that are written

word_bit : (n k : ℕ) (p : List Bool) (words : List ℕ) → p ≡ bits_of n words → AreClearFrom n words → get_or p k false ≡ bit_of words k
word_bit n k p words is clear = ap (λ (p : List Bool). get_or p k false) is ∙ elim (cases_lt k n) [
  | inl h ↦ get_or-each n (bit_of words) k false h
  | inr h ↦
      let past : length (bits_of n words) ≤ k = omega (arith, length-each n (bit_of words)) in
      get_or_past (bits_of n words) k false past ∙ sym (clear k h)
]

taken_same : (a b x y : ℕ → Bool) → ((k : ℕ) → x k ≡ a k) → ((k : ℕ) → y k ≡ b k) → (p : LaneSource) → taken a b false false p ≡ taken x y false false p
taken_same a b x y first second (FirstLane k) = sym (first k)
taken_same a b x y first second (SecondLane k) = sym (second k)
taken_same a b x y first second Scalar = refl
taken_same a b x y first second Zero = refl

whole_field : (f : ℕ → Bool) (j : ℕ) → field_bit 1 f j ≡ f j
whole_field f j =
    let some : 0 < 1 = omega arith in
    let place : j ≡ j * 1 = omega arith in
    ap (field_bit 1 f) place ∙ at_start j 1 f some

pub fields_written : (e bits pn pm pd : ℕ) (place : ℕ → ℕ → LaneSource) (v : Vectors) (a b r : List ℕ) → IsLaneSize e → bits ≡ v.bits / 8
    → read_p v pn ≡ bits_of (v.bits / 8) a → AreClearFrom (v.bits / 8) a → read_p v pm ≡ bits_of (v.bits / 8) b → AreClearFrom (v.bits / 8) b
    → ((j : ℕ) → j < bits → bit_of r j ≡ taken (bit_of_field (e / 8) (j % (e / 8)) a) (bit_of_field (e / 8) (j % (e / 8)) b) false false (place (bits / (e / 8)) (j / (e / 8))))
    → with_p v pd (bits_of (v.bits / 8) r) ≡ with_p_places e (place (v.bits / e)) pn pm pd v
fields_written e bits pn pm pd place v a b r size count is_a clear_a is_b clear_b is =
    ap (with_p v pd) (each_same (v.bits / 8) (bit_of r) (field_bit 1 f) false at) where
      f : ℕ → Bool
      f j = taken (model.bit_of_field (e / 8) (j % (e / 8)) (read_p v pn)) (model.bit_of_field (e / 8) (j % (e / 8)) (read_p v pm)) false false (place (v.bits / e) (j / (e / 8)))

      at : (j : ℕ) → j < v.bits / 8 → bit_of r j ≡ field_bit 1 f j
      at j h =
          let w : ℕ = e / 8 in
          let within : j < bits = omega arith in
          let lanes : bits / (e / 8) ≡ v.bits / e = ap (λ x. x / (e / 8)) count ∙ lanes_are e v.bits size in
          is j within
          ∙ ap (λ n. taken (bit_of_field (e / 8) (j % (e / 8)) a) (bit_of_field (e / 8) (j % (e / 8)) b) false false (place n (j / (e / 8)))) lanes
          ∙ taken_same (bit_of_field (e / 8) (j % (e / 8)) a) (bit_of_field (e / 8) (j % (e / 8)) b) (model.bit_of_field (e / 8) (j % (e / 8)) (read_p v pn)) (model.bit_of_field (e / 8) (j % (e / 8)) (read_p v pm))
          (λ k. word_bit (v.bits / 8) (k * (e / 8) + j % (e / 8)) (read_p v pn) a is_a clear_a) (λ k. word_bit (v.bits / 8) (k * (e / 8) + j % (e / 8)) (read_p v pm) b is_b clear_b)
          (place (v.bits / e) (j / (e / 8)))
          ∙ sym (whole_field f j)

half_spot : (from start j : ℕ) → from ≡ start → from + (j / 2 * 1 + j % 1) ≡ (start + j / 2) * 1
half_spot from start j is = omega (arith, is)

-- the bits of a half, each below a bit that is 0
pub half_written : (op : UnpackPOp) (bits from pn pd : ℕ) (v : Vectors) (a r : List ℕ) → IsVectorLength v.bits → bits ≡ v.bits / 8 → from ≡ bit (is_high_p op) * (bits / 2)
    → read_p v pn ≡ bits_of (v.bits / 8) a → AreClearFrom (v.bits / 8) a
    → ((j : ℕ) → bit_of r j ≡ (nat_lt j bits && zipped 1 from (bit_of a) (bit_of (replicate 4 0)) j))
    → with_p v pd (bits_of (v.bits / 8) r) ≡ after_unpack_p op pn pd v
half_written op bits from pn pd v a r l count is_from is_a clear is = ap (with_p v pd) (each_same (v.bits / 8) (bit_of r) (field_bit 2 f) false at) where
  f : ℕ → Bool
  f k = is_active 8 v pn (bit (is_high_p op) * (v.bits / 16) + k)

  spot : (j : ℕ) → from + (j / 2 * 1 + j % 1) ≡ (bit (is_high_p op) * (v.bits / 16) + j / 2) * 1
  spot j =
      let half : bits / 2 ≡ v.bits / 16 = omega (arith, count) in
      half_spot from (bit (is_high_p op) * (v.bits / 16)) j (is_from ∙ ap (λ x. bit (is_high_p op) * x) half)

  at : (j : ℕ) → j < v.bits / 8 → bit_of r j ≡ field_bit 2 f j
  at j h =
      let within : j < bits = omega arith in
      let one : j / 1 ≡ j = omega arith in
      is j ∙ ap (λ t. t && zipped 1 from (bit_of a) (bit_of (replicate 4 0)) j) (lt-ltb j bits within)
      ∙ ap (λ x. if nat_eq (x % 2) 0 then bit_of a (from + (j / 2 * 1 + j % 1)) else bit_of (replicate 4 0) (from + (j / 2 * 1 + j % 1))) one
      ∙ elim (cases_eq (j % 2) 0) [
        | inl even ↦
            ap (λ x. if nat_eq x 0 then bit_of a (from + (j / 2 * 1 + j % 1)) else bit_of (replicate 4 0) (from + (j / 2 * 1 + j % 1))) even
            ∙ ap (bit_of a) (spot j) ∙ sym (word_bit (v.bits / 8) ((bit (is_high_p op) * (v.bits / 16) + j / 2) * 1) (read_p v pn) a is_a clear)
            ∙ sym (ap (λ x. if nat_eq x 0 then f (j / 2) else false) even)
        | inr odd ↦
            let rest : j % 2 ≡ 1 = omega arith in
            ap (λ x. if nat_eq x 0 then bit_of a (from + (j / 2 * 1 + j % 1)) else bit_of (replicate 4 0) (from + (j / 2 * 1 + j % 1))) rest
            ∙ zero_bit 4 (from + (j / 2 * 1 + j % 1))
            ∙ sym (ap (λ x. if nat_eq x 0 then f (j / 2) else false) rest)
      ]
