use Rattle.std.proofs.Common.{refl}
use Rattle.command_lines.specs.Outcome.{file_limit}
use Rattle.command_lines.specs.declared.ending.Ending.TheVariants.{TooLong}
use Rattle.debug_options.proofs.Endings.{said_refused}
use Rattle.debug_options.proofs.refusals.refuse_long_file.Goals as goal

pub returns-clause-kind : goal.returns-clause-kind
returns-clause-kind g c = said_refused (TooLong file_limit) c.say.result c.say.ensures refl

pub returns-clause-said : goal.returns-clause-said
returns-clause-said g c = c.say.ensures
