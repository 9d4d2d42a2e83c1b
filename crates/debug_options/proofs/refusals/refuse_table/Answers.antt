use Rattle.std.proofs.Common.{inl, inr, refl}
use Rattle.command_lines.specs.declared.ending.Ending.TheVariants.{FileFault}
use Rattle.debug_options.proofs.Endings.{said_refused}
use Rattle.debug_options.proofs.refusals.refuse_table.Goals as goal

pub returns-in-Err-clause-said : goal.returns-in-Err-clause-said
returns-in-Err-clause-said g c = inl refl

pub returns-in-Ok-clause-kind : goal.returns-in-Ok-clause-kind
returns-in-Ok-clause-kind g c = said_refused FileFault c.say.result c.say.ensures refl

pub returns-in-Ok-clause-said : goal.returns-in-Ok-clause-said
returns-in-Ok-clause-said g c = inr c.say.ensures
