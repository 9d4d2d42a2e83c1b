use Rattle.std.proofs.Common.{◌∙◌, arith}
use Rattle.emu_bits.specs.Flags.{size_of}
use Rattle.lane_model.specs.Bits.{lanes_of}
use Rattle.pred_bits.proofs.Fields.{below_clear, below_fields, all_end}
use Rattle.pred_bits.proofs.lanes.all_lanes.Goals as goal

pub of_words-requires-clause-above : goal.of_words-requires-clause-above
of_words-requires-clause-above c = below_clear c.args.e c.args.bits c.args.bits c.starts_below.result (omega arith) c.starts_below.ensures

pub returns : goal.returns
returns c =
    c.of_words.ensures
    ∙ below_fields c.args.e c.args.bits (lanes_of (size_of c.args.e) c.args.bits) c.args.bits c.starts_below.result c.requires.few (all_end c.args.e c.args.bits c.requires.few c.requires.whole) c.starts_below.ensures
