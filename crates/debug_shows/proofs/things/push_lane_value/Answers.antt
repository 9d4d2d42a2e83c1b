use Rattle.std.proofs.Common.{ℕ, ap, ◌∙◌}
use Rattle.emu_bits.specs.Flags.{size_of}
use Rattle.debug_texts.specs.Registers.{noted}
use Rattle.debug_shows.proofs.Pieces.{ok_text}
use Rattle.debug_shows.proofs.things.push_lane_value.Goals as goal

pub returns : goal.returns
returns c =
    ok_text c.push_noted.result _ _ _ _
    (ap (λ (b : ℕ). noted c.args.notation b c.lane_value.result) c.bits.ensures ∙ ap (λ (v : ℕ). noted c.args.notation (size_of c.args.lane.now.size) v) c.lane_value.ensures.value)
    c.push_noted.ensures
