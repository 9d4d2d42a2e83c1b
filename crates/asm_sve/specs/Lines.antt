-- A statement as an SVE instruction.
use Rattle.std.specs.Prelude.{◌≡◌, ℕ, Some, None, Result, Ok, Err, List}
use Rattle.emu_bits.specs.Rows.{instruction}
use Rattle.sve_insn.specs.declared.form.SveForm.{SveForm}
use Rattle.sve_insn.specs.Table.{sve_table}
use Rattle.asm_tokens.specs.Tokens.{tokens}
use Rattle.text_model.specs.declared.slots.Refusal.{Refusal}
use Rattle.text_model.specs.Statement.{Statement, reads_tokens}
use Rattle.asm_tokens.specs.declared.fault.AsmFault.{AsmFault}
use Rattle.text_code.specs.Faults.{fault_of}
use Rattle.asm_sve.specs.Law.{in_table}
use Rattle.asm_sve.specs.Table.{sve_patterns}

-- what the SVE patterns make of a name and the text behind it
abbrev pub sve_reads : List ℕ → List ℕ → Result Statement Refusal
sve_reads name rest = reads_tokens in_table sve_patterns name (tokens rest)

-- The statement is read as the word of this instruction, without a target.
pub record IsRead (name rest : List ℕ) (i : SveForm) : Type 0 where
  pub word : ℕ
  pub read : sve_reads name rest ≡ Ok (record { word = word; target = None })
  pub insn : instruction sve_table word ≡ Some i

-- The patterns refuse the statement so.
pub record IsRefused (name rest : List ℕ) (e : AsmFault) : Type 0 where
  pub refusal : Refusal
  pub refused : sve_reads name rest ≡ Err refusal
  pub fault : e ≡ fault_of refusal
