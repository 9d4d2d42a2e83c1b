-- Each arm has the lines that its bits leave.
use Rattle.std.proofs.Common.{inl, inr, ◌≡◌, ◌/◌, ℕ, ◌∙◌, sym, arith}
use Rattle.emu_bits.specs.Fields.{field}
use Rattle.a64_rows.proofs.Narrowed.{find_at_8, find_at_9, find_at_10, find_at_11, find_at_12, find_at_13, find_at_14, find_at_15, find_at_16, find_at_17, find_at_18, find_at_19, find_at_20, find_at_21, find_at_22, find_at_23, find_at_24, find_at_25, find_at_26, find_at_27, find_at_28, find_at_29, find_at_30, find_at_31, find_at_others}
use Rattle.a64_rows.proofs.dispatch.find.Goals as goal

pub returns-in-8 : goal.returns-in-8
returns-in-8 g c = elim c.in-8.is [
  | inl e ↦ c.words_of_pairs_and_exclusives.ensures ∙ sym (find_at_8 c.args.w (sym c.bits.ensures ∙ e))
  | inr e ↦ c.words_of_pairs_and_exclusives.ensures ∙ sym (find_at_12 c.args.w (sym c.bits.ensures ∙ e))
]

pub returns-in-9 : goal.returns-in-9
returns-in-9 g c = elim c.in-9.is [
  | inl e ↦ c.pair.ensures ∙ sym (find_at_9 c.args.w (sym c.bits.ensures ∙ e))
  | inr e ↦ c.pair.ensures ∙ sym (find_at_13 c.args.w (sym c.bits.ensures ∙ e))
]

pub returns-in-10 : goal.returns-in-10
returns-in-10 g c = c.logic_reg.ensures ∙ sym (find_at_10 c.args.w (sym c.bits.ensures ∙ c.in-10.is))

pub returns-in-11 : goal.returns-in-11
returns-in-11 g c = c.words_of_register_sums.ensures ∙ sym (find_at_11 c.args.w (sym c.bits.ensures ∙ c.in-11.is))

pub returns-in-15 : goal.returns-in-15
returns-in-15 g c = c.move_imm.ensures ∙ sym (find_at_15 c.args.w (sym c.bits.ensures ∙ c.in-15.is))

pub returns-in-16 : goal.returns-in-16
returns-in-16 g c = c.adr.ensures ∙ sym (find_at_16 c.args.w (sym c.bits.ensures ∙ c.in-16.is))

pub returns-in-17 : goal.returns-in-17
returns-in-17 g c = c.add_imm.ensures ∙ sym (find_at_17 c.args.w (sym c.bits.ensures ∙ c.in-17.is))

pub returns-in-18 : goal.returns-in-18
returns-in-18 g c = c.words_of_logic_and_moves.ensures ∙ sym (find_at_18 c.args.w (sym c.bits.ensures ∙ c.in-18.is))

pub returns-in-19 : goal.returns-in-19
returns-in-19 g c = c.words_of_bitfields.ensures ∙ sym (find_at_19 c.args.w (sym c.bits.ensures ∙ c.in-19.is))

pub returns-in-20 : goal.returns-in-20
returns-in-20 g c = c.words_10100.ensures ∙ sym (find_at_20 c.args.w (sym c.bits.ensures ∙ c.in-20.is))

pub returns-in-21 : goal.returns-in-21
returns-in-21 g c = c.words_10101.ensures ∙ sym (find_at_21 c.args.w (sym c.bits.ensures ∙ c.in-21.is))

pub returns-in-22 : goal.returns-in-22
returns-in-22 g c = c.words_10110.ensures ∙ sym (find_at_22 c.args.w (sym c.bits.ensures ∙ c.in-22.is))

pub returns-in-23 : goal.returns-in-23
returns-in-23 g c = c.words_10111.ensures ∙ sym (find_at_23 c.args.w (sym c.bits.ensures ∙ c.in-23.is))

pub returns-in-24 : goal.returns-in-24
returns-in-24 g c = elim c.in-24.is [
  | inl e ↦ c.words_of_accesses.ensures ∙ sym (find_at_24 c.args.w (sym c.bits.ensures ∙ e))
  | inr e ↦ c.words_of_accesses.ensures ∙ sym (find_at_28 c.args.w (sym c.bits.ensures ∙ e))
]

pub returns-in-25 : goal.returns-in-25
returns-in-25 g c = elim c.in-25.is [
  | inl e ↦ c.ls_unsigned.ensures ∙ sym (find_at_25 c.args.w (sym c.bits.ensures ∙ e))
  | inr e ↦ c.ls_unsigned.ensures ∙ sym (find_at_29 c.args.w (sym c.bits.ensures ∙ e))
]

pub returns-in-26 : goal.returns-in-26
returns-in-26 g c = elim c.in-26.is [
  | inl e ↦ c.words_11_10.ensures ∙ sym (find_at_26 c.args.w (sym c.bits.ensures ∙ e))
  | inr e ↦ c.words_11_10.ensures ∙ sym (find_at_30 c.args.w (sym c.bits.ensures ∙ e))
]

pub returns-in-27 : goal.returns-in-27
returns-in-27 g c = c.words_of_products.ensures ∙ sym (find_at_27 c.args.w (sym c.bits.ensures ∙ c.in-27.is))

pub returns-in-14 : goal.returns-in-14
returns-in-14 g c = sym (find_at_14 c.args.w (sym c.bits.ensures ∙ c.in-14.is))

pub returns-in-31 : goal.returns-in-31
returns-in-31 g c = sym (find_at_31 c.args.w (sym c.bits.ensures ∙ c.in-31.is))

high_of : (w : ℕ) → field w 27 2 ≡ field w 24 5 / 8
high_of w = omega arith

pub returns-in_default : goal.returns-in_default
returns-in_default g c =
    let high = high_of c.args.w in
    sym (find_at_others c.args.w ((λ e. grind (arith, e, high)), ((λ e. grind (arith, e, high)), ((λ e. grind (arith, e, high)), tt))))
