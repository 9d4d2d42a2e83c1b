use Rattle.std.proofs.Common.{length}
use Rattle.emu_bits.specs.declared.flags.Esize.TheVariants.{B}
use Rattle.sve_pred.proofs.Lengths.{some_lane}
use Rattle.sve_pred.proofs.registers.test_all_bits.Goals as goal

pub test_all-requires : goal.test_all-requires
test_all-requires c = some_lane B (length c.args.outcome.now) c.requires
