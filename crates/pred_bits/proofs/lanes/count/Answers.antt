use Rattle.std.proofs.Common.{◌≤◌, ◌*◌, ◌/◌, ◌&&◌, ℕ, Bool, length, ◌∙◌, arith}
use Rattle.emu_bits.specs.Flags.{size_of}
use Rattle.lane_model.specs.Bits.{active, lanes_of}
use Rattle.lane_model.specs.WordBits.{bit_of}
use Rattle.pred_bits.proofs.Counted.{count_of_words}
use Rattle.pred_bits.proofs.Fields.{some_bits, lanes_room}
use Rattle.pred_bits.proofs.lanes.count.Goals as goal

pub returns-clause-value : goal.returns-clause-value
returns-clause-value c =
    let test : ℕ → Bool = λ k. active (size_of c.args.e) c.args.g.now k && active (size_of c.args.e) c.args.a.now k in
    let room : lanes_of (size_of c.args.e) (length c.args.g.now) * (size_of c.args.e / 8) ≤ 256 = lanes_room c.args.e (length c.args.g.now) (omega (arith, c.bits-bits.ensures.few, c.bits-bits.ensures.value)) in
    c.count_bits.ensures.value ∙ count_of_words (size_of c.args.e / 8) (lanes_of (size_of c.args.e) (length c.args.g.now)) test (bit_of c.lane_words.result) (some_bits c.args.e) room c.lane_words.ensures
