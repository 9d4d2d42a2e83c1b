-- Logical operations on the words of predicates.
use Rattle.std.proofs.Common.{◌≡◌, ◌<◌, ◌≤◌, ◌/◌, ◌%◌, ℕ, Bool, false, List, length, inl, inr, refl, sym, ap, ◌∙◌, arith}
use Rattle.std.proofs.lemmas.Bool.{cases_lt}
use Rattle.lane_model.specs.Bits.{is_set}
use Rattle.lane_model.specs.Lists.{each}
use Rattle.lane_model.specs.WordBits.{AreClearFrom, bit_of, bits_of}
use Rattle.lane_model.proofs.Bits.{each_bit_same}
use Rattle.lane_model.specs.declared.predicates.LogicOp.{LogicOp}
use Rattle.lane_model.specs.declared.predicates.LogicOp.TheVariants.{And, Bic, Eor, Orr, Orn, Nor, Nand, Sel}
use Rattle.lane_model.specs.Predicate.{logic_bit, logic}
use Rattle.pred_bits.proofs.Made.{bit_in, bit_past}
use Rattle.pred_bits.proofs.Views.{length_shown, get_shown}

none_of : (op : LogicOp) → logic_bit op false false false ≡ false
none_of And = refl
none_of Bic = refl
none_of Eor = refl
none_of Orr = refl
none_of Orn = refl
none_of Nor = refl
none_of Nand = refl
none_of Sel = refl

module _ (op : LogicOp) (words gs os bs : List ℕ) (count : length words ≡ 4)
    (done : (j i : ℕ) → j < 4 → i < 64 → bit_in words j i ≡ logic_bit op (bit_in gs j i) (bit_in os j i) (bit_in bs j i)) where
  bit_is : (j : ℕ) → j < 256 → bit_of words j ≡ logic_bit op (bit_of gs j) (bit_of os j) (bit_of bs j)
  bit_is j h = done (j / 64) (j % 64) (omega arith) (omega arith)

  three : (x y z u v w : Bool) → x ≡ u → y ≡ v → z ≡ w → logic_bit op x y z ≡ logic_bit op u v w
  three x y z u v w e f g = ap (λ t. logic_bit op t y z) e ∙ ap (λ t. logic_bit op u t z) f ∙ ap (λ t. logic_bit op u v t) g

  pub logic_above : (n : ℕ) → AreClearFrom n gs → AreClearFrom n os → AreClearFrom n bs → AreClearFrom n words
  logic_above n g a b j le = elim (cases_lt j 256) [
    | inl h ↦ bit_is j h ∙ three (bit_of gs j) (bit_of os j) (bit_of bs j) false false false (g j le) (a j le) (b j le) ∙ none_of op
    | inr h ↦ bit_past words j count h
  ]

  pub logic_shown : (n na nb : ℕ) (g a b : List Bool) → n ≤ 256 → bits_of n gs ≡ g → bits_of na os ≡ a → bits_of nb bs ≡ b → length a ≡ length g → length b ≡ length g
      → bits_of n words ≡ logic op (length g) g a b
  logic_shown n na nb g a b few eg ea eb la lb =
      let lg : length g ≡ n = length_shown n gs g eg in
      each_bit_same n (bit_of words) (λ k. logic_bit op (is_set g k) (is_set a k) (is_set b k)) (λ k h.
      let kg : k < length g = omega arith in
      let ka : k < length a = omega arith in
      let kb : k < length b = omega arith in
      bit_is k (omega arith)
      ∙ three (bit_of gs k) (bit_of os k) (bit_of bs k) (is_set g k) (is_set a k) (is_set b k) (sym (get_shown n gs g k eg kg)) (sym (get_shown na os a k ea ka)) (sym (get_shown nb bs b k eb kb)))
      ∙ ap (λ m. each m (λ k. logic_bit op (is_set g k) (is_set a k) (is_set b k))) (sym lg)
