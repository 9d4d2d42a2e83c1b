-- A statement as an A64 instruction.
use Rattle.std.specs.Prelude.{◌≡◌, ℕ, Option, Some, None, Result, Ok, Err, List}
use Rattle.emu_bits.specs.Rows.{instruction}
use Rattle.a64_insn.specs.declared.form.A64Form.{A64Form}
use Rattle.a64_insn.specs.Table.{a64_table}
use Rattle.asm_tokens.specs.Tokens.{tokens}
use Rattle.text_model.specs.declared.slots.Refusal.{Refusal}
use Rattle.text_model.specs.Statement.{Destination, to_label, to_address, Statement, reads_tokens}
use Rattle.asm_tokens.specs.declared.target.Target.{Target}
use Rattle.asm_tokens.specs.declared.target.Target.TheVariants.{Label, Address}
use Rattle.asm_tokens.specs.declared.fault.AsmFault.{AsmFault}
use Rattle.text_code.specs.Faults.{fault_of}
use Rattle.asm_a64.specs.Law.{in_table}
use Rattle.asm_a64.specs.Table.{a64_patterns}
use Rattle.asm_a64.specs.declared.statements.A64Line.{A64Line}

-- what the A64 patterns make of a name and the text behind it
abbrev pub a64_reads : List ℕ → List ℕ → Result Statement Refusal
a64_reads name rest = reads_tokens in_table a64_patterns name (tokens rest)

abbrev pub destination_of : Option Target → Option Destination
destination_of None = None
destination_of (Some (Label name)) = Some (to_label name)
destination_of (Some (Address a)) = Some (to_address a)

-- The statement is read as the word of this instruction, and with this target.
pub record IsRead (name rest : List ℕ) (l : A64Line) : Type 0 where
  pub word : ℕ
  pub read : a64_reads name rest ≡ Ok (record { word = word; target = destination_of l.target })
  pub insn : instruction a64_table word ≡ Some l.insn

-- The patterns refuse the statement so.
pub record IsRefused (name rest : List ℕ) (e : AsmFault) : Type 0 where
  pub refusal : Refusal
  pub refused : a64_reads name rest ≡ Err refusal
  pub fault : e ≡ fault_of refusal

-- What a statement goes to is a label.
pub record IsLabel (d : Option Destination) : Type 0 where
  pub label : List ℕ
  pub is : d ≡ Some (to_label label)

-- A word is an instruction, and what it goes to is a label.
pub record GoesToLabel (word : ℕ) (d : Option Destination) : Type 0 where
  pub form : A64Form
  pub insn : instruction a64_table word ≡ Some form
  pub label : List ℕ
  pub is : d ≡ Some (to_label label)

-- The statement is read as an instruction that goes to a label, which stands at its end.
pub record EndsInLabel (name rest : List ℕ) : Type 0 where
  pub word : ℕ
  pub form : A64Form
  pub label : List ℕ
  pub read : a64_reads name rest ≡ Ok (record { word = word; target = Some (to_label label) })
  pub insn : instruction a64_table word ≡ Some form
