use Rattle.std.proofs.Common.{refl, sym}
use Rattle.emu_bits.specs.Flags.{size_of}
use Rattle.sve_effects.specs.LaneLoop.{lane_bits}
use Rattle.sve_pred.proofs.Compared.{same_told}
use Rattle.sve_pred.proofs.compares.compared_lanes.Goals as goal

pub compared-requires-clause-told : goal.compared-requires-clause-told
compared-requires-clause-told c =
    same_told (lane_bits c.args.size) (size_of c.esize.result) c.args.zn c.args.test c.args.test c.args.operand.now c.args.operand.now c.args.vec.now c.args.words.now (sym c.esize.ensures) refl refl c.requires.told
