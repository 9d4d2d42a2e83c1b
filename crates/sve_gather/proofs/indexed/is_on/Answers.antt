use Rattle.std.proofs.Common.{◌∙◌}
use Rattle.sve_gather.proofs.Indexes.{lane_is_on, lane_within, size_is}
use Rattle.sve_gather.proofs.indexed.is_on.Goals as goal

pub is_active-requires-clause-size : goal.is_active-requires-clause-size
is_active-requires-clause-size c = size_is c.args.plan.now c.args.vec.now c.args.e c.requires.plan c.requires.bits

pub is_active-requires-clause-within : goal.is_active-requires-clause-within
is_active-requires-clause-within c = lane_within c.args.plan.now c.args.vec.now c.args.e c.args.k c.requires.plan c.requires.bits c.requires.within

pub returns : goal.returns
returns c = c.is_active.ensures ∙ lane_is_on c.args.index.now c.args.plan.now c.args.vec.now c.args.e c.args.k c.requires.index c.requires.bits
