-- Refusals of a statement as faults of a line.
use Rattle.text_model.specs.declared.slots.Refusal.{Refusal}
use Rattle.text_model.specs.declared.slots.Refusal.TheVariants as refusal
use Rattle.asm_tokens.specs.declared.fault.AsmFault.{AsmFault}
use Rattle.asm_tokens.specs.declared.fault.AsmFault.TheVariants.{UnknownName, BadOperands, OutOfRange}

abbrev pub fault_of : Refusal → AsmFault
fault_of refusal.UnknownName = UnknownName
fault_of refusal.BadOperands = BadOperands
fault_of refusal.OutOfRange = OutOfRange
