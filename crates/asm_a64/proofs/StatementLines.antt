-- What a statement is read as, from what was found in its text.
use Rattle.std.proofs.Common.{◌≡◌, ◌⊎◌, ℕ, Option, Some, Result, Ok, Err, List, sym, ap, ◌∙◌, inl}
use Rattle.std.specs.Prelude.{IfOk, IfErr}
use Rattle.emu_bits.specs.Rows.{instruction}
use Rattle.a64_insn.specs.Table.{a64_table}
use Rattle.text_model.specs.Statement.{Destination}
use Rattle.asm_tokens.specs.declared.fault.AsmFault.{AsmFault}
use Rattle.asm_tokens.specs.declared.fault.AsmFault.TheVariants.{OutOfMemory}
use Rattle.text_code.specs.declared.reading.Found.{Found}
use Rattle.text_code.specs.Reads.{aim_of, statement_of}
use Rattle.asm_a64.specs.declared.statements.A64Line.{A64Line}
use Rattle.asm_a64.specs.Lines.{a64_reads, destination_of, EndsInLabel, GoesToLabel, IsRead, IsRefused}

pub read_from : (name rest : List ℕ) (f : Found) (r : Result A64Line AsmFault) → a64_reads name rest ≡ Ok (statement_of rest f) → IfOk r (λ l. instruction a64_table f.word ≡ Some l.insn)
    → IfOk r (λ l. destination_of l.target ≡ aim_of rest f.target) → IfOk r (λ l. IsRead name rest l)
read_from name rest f (Ok l) h i t = record { word = f.word; read = h ∙ ap (λ (d : Option Destination). Ok (record { word = f.word; target = d })) (sym t); insn = i }
read_from name rest f (Err e) h i t = tt

pub refused_from : (name rest : List ℕ) (r : Result A64Line AsmFault) → IfErr r (λ e. e ≡ OutOfMemory) → IfErr r (λ e. e ≡ OutOfMemory ⊎ IsRefused name rest e)
refused_from name rest (Ok l) h = tt
refused_from name rest (Err e) h = inl h

-- ---- want of memory

pub ends_in_label : (name rest : List ℕ) (f : Found) → a64_reads name rest ≡ Ok (statement_of rest f) → GoesToLabel f.word (aim_of rest f.target) → EndsInLabel name rest
ends_in_label name rest f h g = record {
  word = f.word;
  form = g.form;
  label = g.label;
  read = h ∙ ap (λ (d : Option Destination). Ok (record { word = f.word; target = d })) g.is;
  insn = g.insn;
}
