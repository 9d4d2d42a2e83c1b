use Rattle.std.proofs.Common.{sym}
use Rattle.debug_moves.proofs.Staying.{ok_then, still_on, walks_in}
use Rattle.debug_moves.proofs.line_moves.enter_call.Goals as goal

pub seek-requires-2 : goal.seek-requires-2
seek-requires-2 g c = record { walks = walks_in (sym c.in_ok-reached.ensures.input) (still_on c.in_ok-reached.ensures.stays c.requires.walks) }

pub returns-clause-stays : goal.returns-clause-stays
returns-clause-stays g c = ok_then c.seek-2.result c.seek-2.new.machine c.seek-2.new.trail c.in_ok-reached.ensures.input c.in_ok-reached.ensures.stays c.seek-2.ensures.stays
