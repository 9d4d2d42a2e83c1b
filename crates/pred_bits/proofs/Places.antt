-- The first and the last bit that is 1.
use Rattle.std.proofs.Common.{◌≡◌, ◌<◌, ◌≤◌, ◌+◌, ◌-◌, ◌*◌, ◌/◌, ◌^◌, ℕ, suc, false, nat_eq, List, get_or, w64, inl, inr, ap, subst, ◌∙◌, arith}
use Rattle.std.specs.Int.{bit_at, trailing_zeros, leading_zeros}
use Rattle.std.proofs.Math.Nat.{pow-suc}
use Rattle.std.proofs.lemmas.Bool.{cases_lt}
use Rattle.std.proofs.lemmas.Nat.{leading_top, pow_pos, le-div, div_below}
use Rattle.std.proofs.lemmas.Nat.Bits.{bit_at-trailing_zeros, bit_at_above, bit_at-zero}
use Rattle.lane_model.specs.WordBits.{bit_of}
use Rattle.lane_model.specs.FirstLastLaws.{IsFirst, IsLast}
use Rattle.pred_bits.proofs.Made.{bit_placed}

-- a word of zeros
pub zero_word : (words : List ℕ) (i b : ℕ) → get_or words i 0 ≡ 0 → 64 * i ≤ b → b < 64 * i + 64 → bit_of words b ≡ false
zero_word words i b zero p q =
    let s : ℕ = b - 64 * i in
    let e : b ≡ 64 * i + (b - 64 * i) = omega arith in
    ap (bit_of words) e ∙ bit_placed words i (b - 64 * i) (omega arith) ∙ ap (λ x. nat_eq (bit_at x (b - 64 * i)) 1) zero ∙ ap (λ x. nat_eq x 1) (bit_at-zero (b - 64 * i))

pub first_found : (words : List ℕ) (i x : ℕ) → get_or words i 0 ≡ x → i < 4 → 0 < x → x < 2 ^ 64 → ((b : ℕ) → b < 64 * i → bit_of words b ≡ false)
    → IsFirst 256 (bit_of words) (64 * i + trailing_zeros w64 x)
first_found words i x word within some small below =
    let t : ℕ = trailing_zeros w64 x in
    let it = bit_at-trailing_zeros w64 x some small in
    let inside : trailing_zeros w64 x < 64 = it.0 in
    record {
      within = omega arith;
      meets = bit_placed words i (trailing_zeros w64 x) inside ∙ ap (λ y. nat_eq (bit_at y (trailing_zeros w64 x)) 1) word ∙ ap (λ y. nat_eq y 1) it.1;
      before = λ b h. elim (cases_lt b (64 * i)) [
        | inl q ↦ below b q
        | inr q ↦
            let e : b ≡ 64 * i + (b - 64 * i) = omega arith in
            ap (bit_of words) e ∙ bit_placed words i (b - 64 * i) (omega arith) ∙ ap (λ y. nat_eq (bit_at y (b - 64 * i)) 1) word ∙ ap (λ y. nat_eq y 1) (it.2 (b - 64 * i) (omega arith))
      ];
    }

top_bit : (x j : ℕ) → 2 ^ j ≤ x → x < 2 ^ suc j → bit_at x j ≡ 1
top_bit x j p q =
    let one : 1 * 2 ^ j ≤ x = omega arith in
    let least : 1 ≤ x / 2 ^ j = le-div 1 x (2 ^ j) (pow_pos j) one in
    let twice : x < 2 * 2 ^ j = omega (arith, pow-suc 2 j) in
    let most : x / 2 ^ j < 2 = div_below x (2 ^ j) 2 (pow_pos j) twice in
    omega arith

pub last_found : (words : List ℕ) (i x : ℕ) → get_or words i 0 ≡ x → i < 4 → 0 < x → x < 2 ^ 64 → ((b : ℕ) → 64 * (i + 1) ≤ b → b < 256 → bit_of words b ≡ false)
    → IsLast 256 (bit_of words) (64 * i + (63 - leading_zeros w64 x))
last_found words i x word within some small above =
    let top = leading_top 64 x some small in
    let j : ℕ = 63 - leading_zeros w64 x in
    let place : leading_zeros w64 x + suc top.0 ≡ 64 = top.1 in
    let same : top.0 ≡ 63 - leading_zeros w64 x = omega arith in
    let least : 2 ^ (63 - leading_zeros w64 x) ≤ x = subst (λ n. 2 ^ n ≤ x) same top.2 in
    let most : x < 2 ^ suc (63 - leading_zeros w64 x) = subst (λ n. x < 2 ^ suc n) same top.3 in
    record {
      within = omega arith;
      meets = bit_placed words i (63 - leading_zeros w64 x) (omega arith) ∙ ap (λ y. nat_eq (bit_at y (63 - leading_zeros w64 x)) 1) word ∙ ap (λ y. nat_eq y 1) (top_bit x (63 - leading_zeros w64 x) least most);
      behind = λ b h l. elim (cases_lt b (64 * (i + 1))) [
        | inl q ↦
            let e : b ≡ 64 * i + (b - 64 * i) = omega arith in
            ap (bit_of words) e ∙ bit_placed words i (b - 64 * i) (omega arith) ∙ ap (λ y. nat_eq (bit_at y (b - 64 * i)) 1) word
            ∙ ap (λ y. nat_eq y 1) (bit_at_above x (suc (63 - leading_zeros w64 x)) (b - 64 * i) most (omega arith))
        | inr q ↦ above b q l
      ];
    }
