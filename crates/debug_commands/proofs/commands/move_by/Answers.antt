use Rattle.std.proofs.Common.{sym}
use Rattle.debug_moves.proofs.Staying.{ok_then, still_on, walks_in}
use Rattle.debug_commands.proofs.commands.move_by.Goals as goal

pub put_stop-requires : goal.put_stop-requires
put_stop-requires g c = record { walks = walks_in (sym c.in_ok-reached.ensures.input) (still_on c.in_ok-reached.ensures.stays c.requires.walks) }

pub returns-clause-stays : goal.returns-clause-stays
returns-clause-stays g c = ok_then c.put_stop.result c.put_stop.new.machine c.put_stop.new.trail c.in_ok-reached.ensures.input c.in_ok-reached.ensures.stays c.put_stop.ensures.stays
