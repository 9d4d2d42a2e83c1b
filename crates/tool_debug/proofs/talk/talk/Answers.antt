use Rattle.std.proofs.Common.{refl, sym, ◌∙◌}
use Rattle.debug_moves.proofs.Staying.{stays_in, stays_same, stays_then, still_on, walks_in}
use Rattle.tool_debug.proofs.talk.talk.Goals as goal

pub lines-init : goal.lines-init
lines-init g c = record { stays = stays_same; input = refl }

pub obey_all-requires : goal.obey_all-requires
obey_all-requires g c = record { walks = walks_in (sym c.lines.invariant.input) (still_on c.lines.invariant.stays c.requires.walks) }

pub lines-preserved : goal.lines-preserved
lines-preserved g c = record {
  stays = stays_then c.lines.invariant.stays (stays_in c.lines.invariant.input c.in_ok-obey_all.ensures.stays);
  input = c.in_ok-obey_all.ensures.input ∙ c.lines.invariant.input;
}

pub returns-then-not-branch : goal.returns-then-not-branch
returns-then-not-branch g c = record { stays = stays_then c.lines.invariant.stays (stays_in c.lines.invariant.input c.in_ok-obey_all.ensures.stays) }
