use Rattle.std.proofs.Common.{refl}
use Rattle.command_lines.specs.declared.ending.Ending.TheVariants.{OutOfMemory}
use Rattle.tool_debug.proofs.Endings.{refused_so, session_so}
use Rattle.tool_debug.proofs.command.debug_line.Goals as goal

pub returns-in-Ok : goal.returns-in-Ok
returns-in-Ok g c = c.in-Ok.ensures.ends

pub returns-in-Err : goal.returns-in-Err
returns-in-Err g c = refused_so c.in-Err.ending c.in-Err.ensures.refused c.in-Err.ensures.untaken c.in-Err.ensures.unwritten

pub returns-in_default : goal.returns-in_default
returns-in_default g c = session_so OutOfMemory refl
