use Rattle.std.proofs.Common.{◌≤◌, ◌*◌, ◌/◌, length, ◌∙◌, arith}
use Rattle.emu_bits.specs.Flags.{size_of}
use Rattle.lane_model.specs.Bits.{active, lanes_of}
use Rattle.lane_model.specs.WordBits.{bit_of}
use Rattle.pred_bits.proofs.Fields.{some_bits, lanes_room}
use Rattle.pred_bits.proofs.LaneWords.{last_answer}
use Rattle.pred_bits.proofs.lanes.last_is_set.Goals as goal

pub returns : goal.returns
returns c =
    let room : lanes_of (size_of c.args.e) (length c.args.g.now) * (size_of c.args.e / 8) ≤ 256 = lanes_room c.args.e (length c.args.g.now) (omega (arith, c.bits-bits.ensures.few, c.bits-bits.ensures.value)) in
    c.last_is_in.ensures
    ∙ last_answer (size_of c.args.e / 8) (lanes_of (size_of c.args.e) (length c.args.g.now)) (active (size_of c.args.e) c.args.g.now) (active (size_of c.args.e) c.args.a.now)
    (bit_of c.lane_words-on.result) (bit_of c.lane_words-set.result) (some_bits c.args.e) room c.lane_words-on.ensures c.lane_words-set.ensures
