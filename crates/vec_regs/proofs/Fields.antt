-- Flags packed as the lowest bits of fields.
use Rattle.std.proofs.Common.{◌≡◌, ◌<◌, ◌≤◌, ◌+◌, ◌*◌, ◌/◌, ◌%◌, ℕ, suc, Bool, false, List, length, get_or, set, nat_eq, if◌then◌else◌, inl, inr, ap, sym, subst, ◌∙◌, arith}
use Rattle.std.proofs.Math.Nat.{mul-le-mul_right}
use Rattle.std.proofs.lemmas.Bool.{cases_eq, cases_lt}
use Rattle.emu_model.specs.Lists.{each}
use Rattle.emu_model.specs.ListLaws.{get_or-each, each_same}
use Rattle.emu_model.proofs.FieldBits.{at_start, inside}
use Rattle.emu_model.specs.Lanes.{field_bit}
use Rattle.emu_model.specs.LaneSizes.{IsLaneSize}
use Rattle.vec_regs.specs.Packed.{put}
use Rattle.vec_regs.specs.Words.{bit_of, bits_of}
use Rattle.emu_model.specs.SoundState.{IsVectorLength}
use Rattle.vec_regs.proofs.PackedLanes.{below_quotient}
use Rattle.vec_regs.proofs.Parts.{changed, changed_same, changed_bit_other, bit_is}
use Rattle.vec_regs.proofs.SetParts.{one_place}

pub place_fits : (k n w : ℕ) → k < n → n * w ≤ 256 → 0 < w → k * w < 256
place_fits k n w h few some = let m : suc k * w ≤ n * w = mul-le-mul_right w h in let s : suc k * w ≡ k * w + w = omega arith in omega arith

pub fields_more : (w k b x : ℕ) (f : ℕ → Bool) (words : List ℕ) → 0 < w → b < 2 → nat_eq b 1 ≡ f k → k * w / 64 < length words → x ≡ put (get_or words (k * w / 64) 0) ((k * w) % 64) 1 b
    → ((i : ℕ) → i < k * w → bit_of words i ≡ field_bit w f i) → ((i : ℕ) → k * w ≤ i → bit_of words i ≡ false)
    → (i : ℕ) → i < (k + 1) * w → bit_of (set words (k * w / 64) x) i ≡ field_bit w f i
fields_more w k b x f words some small flag inner is done rest i h =
    let s : (k + 1) * w ≡ k * w + w = omega arith in
    ap (λ (ws : List ℕ). bit_of ws i) (one_place words (k * w) b x is)
    ∙ elim (cases_eq i (k * w)) [
      | inl e ↦
          (let P : ℕ → Type 0 = λ i. bit_of (changed 1 64 words (k * w) b) i ≡ field_bit w f i in
          subst P (sym e) (bit_is (changed 1 64 words (k * w) b) (k * w) ∙ ap (λ x. nat_eq x 1) (changed_same 1 64 words (k * w) b small inner) ∙ flag ∙ sym (at_start k w f some)))
      | inr other ↦ (changed_bit_other words (k * w) b i small inner other ∙ elim (cases_lt i (k * w)) [
        | inl p ↦ done i p
        | inr p ↦ (let beyond : k * w < i = omega arith in let top : i < k * w + w = omega arith in rest i p ∙ sym (inside k w i f beyond top))
      ])
    ]

pub fields_still : (w k b x : ℕ) (words : List ℕ) → 0 < w → b < 2 → k * w / 64 < length words → x ≡ put (get_or words (k * w / 64) 0) ((k * w) % 64) 1 b
    → ((i : ℕ) → k * w ≤ i → bit_of words i ≡ false) → (i : ℕ) → (k + 1) * w ≤ i → bit_of (set words (k * w / 64) x) i ≡ false
fields_still w k b x words some small inner is rest i h =
    let s : (k + 1) * w ≡ k * w + w = omega arith in
    let other : i ≡ k * w → ⊥ = λ e. omega arith in
    let le : k * w ≤ i = omega arith in
    ap (λ (ws : List ℕ). bit_of ws i) (one_place words (k * w) b x is) ∙ changed_bit_other words (k * w) b i small inner other ∙ rest i le

pub whole_fields : (e bits : ℕ) → IsLaneSize e → IsVectorLength bits → bits / e * (e / 8) ≡ bits / 8
whole_fields e bits (inl s) l = rw s (omega (arith, l.multiple))
whole_fields e bits (inr (inl s)) l = rw s (omega (arith, l.multiple))
whole_fields e bits (inr (inr (inl s))) l = rw s (omega (arith, l.multiple))
whole_fields e bits (inr (inr (inr s))) l = rw s (omega (arith, l.multiple))

-- flags packed are the fields, of a predicate and of FFR
pub field_bits : (e bits : ℕ) (flags : List Bool) (words : List ℕ) (f : ℕ → Bool) → IsLaneSize e → IsVectorLength bits → length flags ≡ bits / e → flags ≡ each (bits / e) f
    → ((i : ℕ) → i < length flags * (e / 8) → bit_of words i ≡ field_bit (e / 8) (λ k. get_or flags k false) i)
    → bits_of (bits / 8) words ≡ each (bits / 8) (field_bit (e / 8) f)
field_bits e bits flags words f size l many given h =
    let count : length flags * (e / 8) ≡ bits / 8 = ap (λ n. n * (e / 8)) many ∙ whole_fields e bits size l in
    each_same (bits / 8) (bit_of words) (field_bit (e / 8) f) false (λ i b.
    h i (subst (λ n. i < n) (sym count) b)
    ∙ ap (λ t. if nat_eq (i % (e / 8)) 0 then t else false) (ap (λ (xs : List Bool). get_or xs (i / (e / 8)) false) given ∙ get_or-each (bits / e) f (i / (e / 8)) false (below_quotient e bits i size l b)))
