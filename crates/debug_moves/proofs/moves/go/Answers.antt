use Rattle.std.proofs.Common.{refl, sym, ◌∙◌}
use Rattle.debug_moves.proofs.Staying.{stays_in, stays_same, stays_then, still_on, walks_in}
use Rattle.debug_moves.proofs.moves.go.Goals as goal

pub moves-init : goal.moves-init
moves-init g c = record { stays = stays_same; input = refl; met = tt }

pub once-requires : goal.once-requires
once-requires g c = record { walks = walks_in (sym c.moves.invariant.input) (still_on c.moves.invariant.stays c.requires.walks) }

pub moves-preserved : goal.moves-preserved
moves-preserved g c = record {
  stays = stays_then c.moves.invariant.stays (stays_in c.moves.invariant.input c.in_ok-reached.ensures.stays);
  input = c.in_ok-reached.ensures.input ∙ c.moves.invariant.input;
  met = c.in_ok-reached.ensures.met;
}

pub returns-then-not-goes_on : goal.returns-then-not-goes_on
returns-then-not-goes_on g c = record {
  stays = stays_then c.moves.invariant.stays (stays_in c.moves.invariant.input c.in_ok-reached.ensures.stays);
  input = c.in_ok-reached.ensures.input ∙ c.moves.invariant.input;
  met = c.in_ok-reached.ensures.met;
}

pub returns : goal.returns
returns g c = record { stays = c.moves.invariant.stays; input = c.moves.invariant.input; met = c.moves.invariant.met }
