use Rattle.std.proofs.Common.{◌+◌, ◌*◌, ap, sym, ◌∙◌}
use Rattle.emu_model.specs.Access as access
use Rattle.sve_effects.specs.LaneLoop.{lane_of}
use Rattle.sve_gather.specs.Indexing.{offset_of}
use Rattle.sve_gather.proofs.Indexes.{lane_within, size_is}
use Rattle.sve_gather.proofs.indexed.address.Goals as goal

pub lane-lane-requires-clause-size : goal.lane-lane-requires-clause-size
lane-lane-requires-clause-size c = size_is c.args.plan.now c.args.vec.now c.args.e c.requires.plan c.requires.bits

pub lane-lane-requires-clause-within : goal.lane-lane-requires-clause-within
lane-lane-requires-clause-within c = lane_within c.args.plan.now c.args.vec.now c.args.e c.args.k c.requires.plan c.requires.bits c.requires.within

pub returns : goal.returns
returns c =
    c.scaled.ensures
    ∙ ap (λ x. access.address (c.args.index.now.offsets.base + x * c.args.index.now.offsets.scale))
    (c.offset.ensures ∙ ap (offset_of c.args.index.now.offsets.width) (c.lane-lane.ensures.value ∙ ap (λ e. lane_of e c.args.vec.now c.args.index.now.offsets.register c.args.k) c.requires.bits))
    ∙ sym (c.requires.index.offsets c.args.plan.now.bits c.args.plan.now.bytes c.args.plan.now.registers c.args.vec.now c.args.k)
