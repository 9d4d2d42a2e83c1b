use Rattle.std.proofs.Common.{arith}
use Rattle.active_lanes.proofs.Kept.{most_lanes}
use Rattle.sve_loads.proofs.AtOnce.{active_stored, fits_register}
use Rattle.sve_loads.proofs.at_once.store_first.Goals as goal

pub store_lanes-requires-clause-few : goal.store_lanes-requires-clause-few
store_lanes-requires-clause-few c = fits_register c.args.e c.args.vec.now.bits c.args.n c.requires.size c.length-length.ensures.length c.requires.few

pub store_lanes-requires-clause-lanes : goal.store_lanes-requires-clause-lanes
store_lanes-requires-clause-lanes c = most_lanes c.args.e c.args.vec.now.bits c.args.n c.requires.size c.length-length.ensures.length c.requires.few

pub returns-clause-stored : goal.returns-clause-stored
returns-clause-stored c = λ is.
    active_stored c.args.base c.args.pg c.args.n c.args.zt c.args.rn c.args.e c.args.vec.now c.requires.size c.length-length.ensures.length c.requires.few
    c.requires.leading (omega (arith, c.get-number.ensures.small, c.get-number.ensures.value))
    c.args.core.now c.args.mem.now.memory c.store_lanes.new.mem.memory c.z_words-words.result.now c.store_lanes.new.log.items
    (c.is_aligned.ensures.aligned c.if-not-is_aligned.false) c.ranges.base.fits (c.store_lanes.ensures.allowed is) c.z_words-words.ensures.words (c.store_lanes.ensures.stored is) (c.store_lanes.ensures.logged is)
