-- The laws of the table.
use Rattle.std.proofs.Common.{◌≡◌, ℕ, true, Option, Some, None, IfSome, ◌<◌, ◌^◌, ◌∙◌, ap, sym, refl}
use Rattle.emu_bits.specs.Rows.{decode, encode, formed, instruction}
use Rattle.emu_bits.specs.RowLaws.{IsShape, OneRow}
use Rattle.emu_bits.proofs.Encoding.{decode_encoded, encode_decoded, one_row_of}
use Rattle.sve_insn.specs.declared.form.SveForm.{SveForm}
use Rattle.sve_insn.specs.Table.{sve_table}
use Rattle.sve_insn.specs.Rows.{row_of, meets_form, line_number}
use Rattle.sve_insn.specs.Seen.{seen}
use Rattle.sve_insn.proofs.Forms.{form_again}
use Rattle.sve_rows.proofs.Listed.{listed}
use Rattle.sve_rows.proofs.Alone.{sound, alone}

pub back : (f : SveForm) → IsShape (row_of f) → meets_form f ≡ true → decode sve_table (encode (row_of f)) ≡ Some (row_of f)
back f v m = decode_encoded sve_table (line_number f) (row_of f) sound alone (listed f) (record { numbered = v.numbered; fits = v.fits; met = m })

-- the same with the form in place of its row
pub form_back : (f : SveForm) (w : ℕ) → decode sve_table w ≡ Some (row_of f) → instruction sve_table w ≡ Some f
form_back f w e = ap formed e ∙ ap (λ (g : SveForm). Some g) (form_again f)

formed_again : (o : Option SveForm) → formed (seen o) ≡ o
formed_again None = refl
formed_again (Some f) = ap (λ (g : SveForm). Some g) (form_again f)

pub form_found : (o : Option SveForm) (w : ℕ) → seen o ≡ decode sve_table w → o ≡ instruction sve_table w
form_found o w e = sym (formed_again o) ∙ ap formed e

pub word_again : (w : ℕ) (o : Option SveForm) → w < 2 ^ 32 → seen o ≡ decode sve_table w → IfSome o (λ i. encode (row_of i) ≡ w)
word_again w None h e = tt
word_again w (Some i) h e = encode_decoded sve_table w (row_of i) sound h (sym e)

pub one_row : OneRow sve_table
one_row = one_row_of sve_table alone
