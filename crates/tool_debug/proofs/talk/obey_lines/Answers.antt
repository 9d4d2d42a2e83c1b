use Rattle.std.proofs.Common.{refl, sym, ◌∙◌}
use Rattle.debug_moves.proofs.Staying.{stays_in, stays_same, stays_then, still_on, walks_in}
use Rattle.tool_debug.proofs.talk.obey_lines.Goals as goal

pub lines-init : goal.lines-init
lines-init g c = record { stays = stays_same; input = refl }

pub obey_line-requires : goal.obey_line-requires
obey_line-requires g c = record { walks = walks_in (sym c.lines.invariant.input) (still_on c.lines.invariant.stays c.requires.walks) }

pub lines-preserved : goal.lines-preserved
lines-preserved g c = record {
  stays = stays_then c.lines.invariant.stays (stays_in c.lines.invariant.input c.in_ok-obey_line.ensures.stays);
  input = c.in_ok-obey_line.ensures.input ∙ c.lines.invariant.input;
}

pub returns-in-End-clause-stays : goal.returns-in-End-clause-stays
returns-in-End-clause-stays g c = stays_then c.lines.invariant.stays (stays_in c.lines.invariant.input c.in_ok-obey_line.ensures.stays)
