use Rattle.std.proofs.Common.{refl}
use Rattle.debug_moves.proofs.Staying.{ok_then, still_on}
use Rattle.debug_commands.proofs.commands.last_write.Goals as goal

pub put_stop-requires : goal.put_stop-requires
put_stop-requires g c = record { walks = still_on c.in_ok-found.ensures.stays c.requires.walks }

pub returns-then-found : goal.returns-then-found
returns-then-found g c = record { stays = ok_then c.put_stop.result c.put_stop.new.machine c.put_stop.new.trail refl c.in_ok-found.ensures.stays c.put_stop.ensures.stays }
