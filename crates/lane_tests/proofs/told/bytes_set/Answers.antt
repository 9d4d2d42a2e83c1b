use Rattle.std.proofs.Common.{refl, arith}
use Rattle.lane_tests.proofs.ToldBits.{byte_flags}
use Rattle.lane_tests.proofs.told.bytes_set.Goals as goal

pub returns : goal.returns
returns c s h = byte_flags c.mask_of.result c.args.low c.args.high s _ (omega arith) (omega arith) refl refl c.mask_of.ensures.value h
