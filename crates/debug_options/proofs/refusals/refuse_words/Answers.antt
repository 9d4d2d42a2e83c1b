use Rattle.std.proofs.Common.{refl}
use Rattle.command_lines.specs.declared.ending.Ending.TheVariants.{WordsRefused}
use Rattle.debug_options.proofs.Endings.{said_refused}
use Rattle.debug_options.proofs.refusals.refuse_words.Goals as goal

pub returns-clause-kind : goal.returns-clause-kind
returns-clause-kind g c = said_refused (WordsRefused c.args.fault.now) c.say_word.result c.say_word.ensures refl
