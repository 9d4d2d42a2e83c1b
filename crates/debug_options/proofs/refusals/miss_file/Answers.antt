use Rattle.std.proofs.Common.{refl}
use Rattle.command_lines.specs.declared.ending.Ending.TheVariants.{FileFault}
use Rattle.debug_options.proofs.Endings.{said_refused}
use Rattle.debug_options.proofs.refusals.miss_file.Goals as goal

pub returns-clause-kind : goal.returns-clause-kind
returns-clause-kind g c = said_refused FileFault c.say.result c.say.ensures refl
