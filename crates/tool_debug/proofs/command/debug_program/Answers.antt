use Rattle.tool_debug.proofs.Endings.{refused_may}
use Rattle.tool_debug.proofs.command.debug_program.Goals as goal

pub returns-in-Err-clause-kind : goal.returns-in-Err-clause-kind
returns-in-Err-clause-kind g c = refused_may c.refuse_words.result c.refuse_words.ensures.kind
