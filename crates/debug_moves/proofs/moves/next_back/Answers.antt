use Rattle.debug_moves.proofs.Staying.{stays_then, still_on}
use Rattle.debug_moves.proofs.moves.next_back.Goals as goal

pub seek_back-requires : goal.seek_back-requires
seek_back-requires g c = record { walks = still_on c.in_ok-go.ensures.stays c.requires.walks }

pub returns-then-is_return : goal.returns-then-is_return
returns-then-is_return g c = record {
  stays = stays_then c.in_ok-go.ensures.stays c.seek_back.ensures.stays;
  input = c.seek_back.ensures.input;
  met = c.seek_back.ensures.met;
}
