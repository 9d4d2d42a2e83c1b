use Rattle.std.proofs.Common.{refl}
use Rattle.command_lines.specs.declared.ending.Ending.TheVariants.{ImageRefused, OutOfMemory}
use Rattle.debug_options.proofs.Endings.{said_refused}
use Rattle.tool_debug.proofs.Endings.{refused_so, session_so}
use Rattle.tool_debug.proofs.command.debug_bytes.Goals as goal

pub returns-in-Err : goal.returns-in-Err
returns-in-Err g c = refused_so c.refuse_image.result (said_refused (ImageRefused c.in-Err.fault) c.refuse_image.result c.refuse_image.ensures refl) refl refl

pub returns-in-Err-arguments : goal.returns-in-Err-arguments
returns-in-Err-arguments g c = session_so OutOfMemory refl

pub returns-in-Ok-arguments : goal.returns-in-Ok-arguments
returns-in-Ok-arguments g c = session_so c.debug_image.result c.debug_image.ensures
