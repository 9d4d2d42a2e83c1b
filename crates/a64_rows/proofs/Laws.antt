-- What is computed over the table, and the laws.
use Rattle.std.proofs.Common.{◌≡◌, ℕ, true, refl, Option, Some, None, IfSome, ◌<◌, ◌^◌, ◌∙◌, ap, sym, arith}
use Rattle.emu_bits.specs.Rows.{decode, encode, formed, instruction}
use Rattle.emu_bits.specs.RowLaws.{line_at, IsShape, OneRow}
use Rattle.emu_bits.proofs.Computed.{are_sound, are_alone}
use Rattle.emu_bits.proofs.Encoding.{Alone, alone_of, decode_encoded, encode_decoded, one_row_of}
use Rattle.a64_insn.specs.declared.form.A64Form.{A64Form}
use Rattle.a64_insn.specs.declared.form.A64Form.TheVariants.{Adr}
use Rattle.a64_insn.specs.Table.{a64_table}
use Rattle.a64_insn.specs.Opened.{lines_open}
use Rattle.a64_insn.specs.Rows.{row_of, meets_form, line_number}
use Rattle.a64_insn.proofs.Forms.{form_again}
use Rattle.a64_insn.specs.declared.lines.TheConstants as line
use Rattle.a64_rows_memory.specs.Seen.{seen}

pub sound : are_sound a64_table ≡ true
unfolding lines_open a64_table
sound = refl

alone_test : are_alone a64_table ≡ true
unfolding lines_open a64_table
alone_test = refl

pub alone : Alone a64_table
alone = alone_of a64_table alone_test

listed : (f : A64Form) → line_at a64_table (line_number f) ≡ Some (row_of f).line
unfolding a64_table
listed (Adr op immlo immhi rd) = refl
listed _ = refl

pub is_listed : (f : A64Form) → line_number f < line.LINES
is_listed (Adr op immlo immhi rd) = omega arith
is_listed _ = omega arith

pub back : (f : A64Form) → IsShape (row_of f) → meets_form f ≡ true → decode a64_table (encode (row_of f)) ≡ Some (row_of f)
back f v m = decode_encoded a64_table (line_number f) (row_of f) sound alone (listed f) (record { numbered = v.numbered; fits = v.fits; met = m })

-- the same with the form in place of its row
pub form_back : (f : A64Form) (w : ℕ) → decode a64_table w ≡ Some (row_of f) → instruction a64_table w ≡ Some f
form_back f w e = ap formed e ∙ ap (λ (g : A64Form). Some g) (form_again f)

formed_again : (o : Option A64Form) → formed (seen o) ≡ o
formed_again None = refl
formed_again (Some f) = ap (λ (g : A64Form). Some g) (form_again f)

pub form_found : (o : Option A64Form) (w : ℕ) → seen o ≡ decode a64_table w → o ≡ instruction a64_table w
form_found o w e = sym (formed_again o) ∙ ap formed e

pub word_again : (w : ℕ) (o : Option A64Form) → w < 2 ^ 32 → seen o ≡ decode a64_table w → IfSome o (λ i. encode (row_of i) ≡ w)
word_again w None h e = tt
word_again w (Some i) h e = encode_decoded a64_table w (row_of i) sound h (sym e)

pub one_row : OneRow a64_table
one_row = one_row_of a64_table alone
