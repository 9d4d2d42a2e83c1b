use Rattle.std.proofs.Common.{sym}
use Rattle.debug_moves.proofs.Staying.{ok_then, still_on, walks_in}
use Rattle.tool_debug.proofs.talk.obey_all.Goals as goal

pub obey_file-requires : goal.obey_file-requires
obey_file-requires g c = record { walks = walks_in (sym c.in_ok-obey_line.ensures.input) (still_on c.in_ok-obey_line.ensures.stays c.requires.walks) }

pub returns-in-File-clause-stays : goal.returns-in-File-clause-stays
returns-in-File-clause-stays g c = ok_then c.obey_file.result c.obey_file.new.machine c.obey_file.new.trail c.in_ok-obey_line.ensures.input c.in_ok-obey_line.ensures.stays c.obey_file.ensures.stays
