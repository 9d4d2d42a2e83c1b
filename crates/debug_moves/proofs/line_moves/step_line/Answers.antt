use Rattle.std.proofs.Common.{refl, sym, ◌∙◌}
use Rattle.debug_moves.proofs.Staying.{stays_in, stays_same, stays_then, still_on, walks_in}
use Rattle.debug_moves.proofs.line_moves.step_line.Goals as goal

pub rows-init : goal.rows-init
rows-init g c = record { stays = stays_same; input = refl }

pub pass_row-requires : goal.pass_row-requires
pass_row-requires g c = record { walks = walks_in (sym c.rows.invariant.input) (still_on c.rows.invariant.stays c.requires.walks) }

pub rows-preserved : goal.rows-preserved
rows-preserved g c = record {
  stays = stays_then c.rows.invariant.stays (stays_in c.rows.invariant.input c.in_ok-reached.ensures.stays);
  input = c.in_ok-reached.ensures.input ∙ c.rows.invariant.input;
}

pub returns-then-is_stopped-clause-stays : goal.returns-then-is_stopped-clause-stays
returns-then-is_stopped-clause-stays g c = stays_then c.rows.invariant.stays (stays_in c.rows.invariant.input c.in_ok-reached.ensures.stays)
