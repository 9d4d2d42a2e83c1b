-- What the reader of statements found, as an SVE instruction.
use Rattle.std.proofs.Common.{◌≡◌, ℕ, Option, Some, Ok, Err, List, sym, ap, ◌∙◌}
use Rattle.emu_bits.specs.Rows.{instruction}
use Rattle.sve_insn.specs.declared.form.SveForm.{SveForm}
use Rattle.sve_insn.specs.Table.{sve_table}
use Rattle.asm_tokens.specs.Tokens.{tokens}
use Rattle.text_model.specs.declared.slots.Refusal.{Refusal}
use Rattle.text_model.specs.Statement.{Destination, reads_tokens}
use Rattle.text_model.specs.Writing.{flat}
use Rattle.text_code.specs.declared.reading.Found.{Found}
use Rattle.asm_tokens.specs.declared.fault.AsmFault.{AsmFault}
use Rattle.text_code.specs.Faults.{fault_of}
use Rattle.text_code.specs.Reads.{statement_of}
use Rattle.asm_sve.specs.Law.{in_table}
use Rattle.asm_sve.specs.Table.{sve_lines, sve_patterns}
use Rattle.asm_sve.proofs.Untargeted.{sve_target}
use Rattle.asm_sve.specs.Lines.{IsRead, IsRefused}

pub found_read : (name rest : List ℕ) (f : Found) (i : SveForm) → reads_tokens in_table (flat sve_lines) name (tokens rest) ≡ Ok (statement_of rest f)
    → Some i ≡ instruction sve_table f.word → IsRead name rest i
unfolding sve_patterns
found_read name rest f i h e = record {
  word = f.word;
  read = h ∙ ap (λ (o : Option Destination). Ok (record { word = f.word; target = o })) (sve_target in_table name (tokens rest) (statement_of rest f) h);
  insn = sym e;
}

pub found_refused : (name rest : List ℕ) (r : Refusal) (e : AsmFault) → reads_tokens in_table (flat sve_lines) name (tokens rest) ≡ Err r → e ≡ fault_of r → IsRefused name rest e
unfolding sve_patterns
found_refused name rest r e h f = record { refusal = r; refused = h; fault = f }
