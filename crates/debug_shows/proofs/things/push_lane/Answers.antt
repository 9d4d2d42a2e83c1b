use Rattle.std.proofs.Common.{codes}
use Rattle.emu_run.specs.Text.{newline}
use Rattle.debug_texts.specs.Registers.{lane_name}
use Rattle.debug_shows.specs.Things.{lane_noted}
use Rattle.debug_shows.proofs.Pieces.{ok_four, pushed}
use Rattle.debug_shows.proofs.things.push_lane.Goals as goal

pub returns : goal.returns
returns c =
    ok_four c.push_str-2.result _ _ _ _ _ (lane_name c.args.lane.now) (codes " = ") (lane_noted c.args.notation c.args.vec.now c.args.lane.now) newline
    c.in_ok-push_lane_name.ensures c.in_ok-push_str.ensures.bytes c.in_ok-push_lane_value.ensures (pushed c.push_str-2.result _ _ _ c.push_str-2.ensures.bytes)
