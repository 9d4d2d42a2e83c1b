-- Bits 28 to 27 tell the two tables apart.
use Rattle.sve_insn.specs.Table.{sve_table}
use Rattle.sve_insn.specs.Opened.{lines_open}
use Rattle.std.proofs.Common.{◌≡◌, ℕ, zero, suc, ◌⊎◌, inl, inr, refl, [], ◌∷◌, Option, Some, None, sym, ap, ◌∙◌, arith}
use Rattle.emu_bits.specs.Fields.{field}
use Rattle.emu_bits.specs.Rows.{◌to◌, Row, decode as decode_in, formed, instruction}
use Rattle.emu_bits.specs.RowLaws.{OneRow}
use Rattle.emu_bits.proofs.Computed.{IsNoneOf}
use Rattle.emu_bits.proofs.Encoding.{narrow_field, narrow_others}
use Rattle.a64_insn.specs.declared.form.A64Form.{A64Form}
use Rattle.a64_insn.specs.Table.{a64_table}
use Rattle.a64_insn.specs.Opened.{lines_open as a64_lines_open}
use Rattle.sve_insn.specs.declared.form.SveForm.{SveForm}
use Rattle.emu_run.specs.declared.insn.Insn.{Insn}
use Rattle.emu_run.specs.declared.insn.Insn.TheVariants.{A64, Sve}
use Rattle.std.specs.Option.{option_or}
use Rattle.emu_run.specs.ByTable.{a64, sve}
use Rattle.emu_run.specs.Step.{decode}
use Rattle.insn_decode.specs.OneRow.{OneRowOfAll}

-- ---- which table a word may be in

no_a64 : (w : ℕ) → field w 27 2 ≡ 0 → decode_in a64_table w ≡ None
unfolding a64_lines_open a64_table
no_a64 w e = narrow_field (28 to 27) 0 a64_table w refl e

no_sve : (w : ℕ) → IsNoneOf (field w 27 2) (0 ∷ []) → decode_in sve_table w ≡ None
unfolding lines_open
no_sve w n = narrow_others (28 to 27) (0 ∷ []) sve_table w refl n

zero_or_not : (x : ℕ) → (x ≡ 0) ⊎ IsNoneOf x (0 ∷ [])
zero_or_not zero = inl refl
zero_or_not (suc k) = inr ((λ e. omega (arith, e)), tt)

-- a word of a row of SVE has 0 there
sve_bits : (w : ℕ) (r : Row SveForm) → decode_in sve_table w ≡ Some r → field w 27 2 ≡ 0
sve_bits w r is =
    elim (zero_or_not (field w 27 2)) [
      | inl e ↦ e
      | inr n ↦ absurd (let h = sym (no_sve w n) ∙ is in cc)
    ]

-- ---- the instruction of a word

first_alone : (i : Option Insn) → option_or i None ≡ i
first_alone None = refl
first_alone (Some i) = refl

pub of_sve : (w : ℕ) → field w 27 2 ≡ 0 → sve (instruction sve_table w) ≡ decode w
of_sve w e = ap (λ (r : Option (Row A64Form)). option_or (a64 (formed r)) (sve (instruction sve_table w))) (sym (no_a64 w e))

pub of_a64 : (w : ℕ) → IsNoneOf (field w 27 2) (0 ∷ []) → a64 (instruction a64_table w) ≡ decode w
of_a64 w n =
    sym (first_alone (a64 (instruction a64_table w)))
    ∙ ap (λ (r : Option (Row SveForm)). option_or (a64 (instruction a64_table w)) (sve (formed r))) (sym (no_sve w n))

-- ---- the word of an instruction

pub a64_again : (w : ℕ) (f : A64Form) → instruction a64_table w ≡ Some f → decode w ≡ Some (A64 f)
a64_again w f is = ap (λ (o : Option A64Form). option_or (a64 o) (sve (instruction sve_table w))) is

pub sve_again : (w : ℕ) (r : Row SveForm) (f : SveForm) → decode_in sve_table w ≡ Some r → instruction sve_table w ≡ Some f → decode w ≡ Some (Sve f)
sve_again w r f row is = sym (of_sve w (sve_bits w r row)) ∙ ap sve is

-- ---- no word is in two rows

pub one_row_of_all : OneRow a64_table → OneRow sve_table → OneRowOfAll
one_row_of_all base vectors = record {
  base = base;
  vectors = vectors;
  apart = λ j k l m w r s at_j in_l at_k in_m.
      let zero_bits = sve_bits w s (vectors.at k m w s at_k in_m) in
      let h = sym (no_a64 w zero_bits) ∙ base.at j l w r at_j in_l in cc;
}
