use Rattle.std.proofs.Common.{refl}
use Rattle.debug_moves.proofs.Staying.{ok_then, still_on}
use Rattle.debug_commands.proofs.commands.reach.Goals as goal

pub seek-requires : goal.seek-requires
seek-requires g c = record { walks = still_on c.in_ok-go-in-Run.ensures.stays c.requires.walks }

pub returns-in_ok-go-in-Run-clause-stays : goal.returns-in_ok-go-in-Run-clause-stays
returns-in_ok-go-in-Run-clause-stays g c = ok_then c.seek.result c.seek.new.machine c.seek.new.trail refl c.in_ok-go-in-Run.ensures.stays c.seek.ensures.stays
