use Rattle.std.proofs.Common.{◌∙◌}
use Rattle.vec_regs.proofs.Views.{zero_word}
use Rattle.register_lanes.proofs.RegisterWords.{register_is}
use Rattle.register_lanes.proofs.loops.permuted.Goals as goal

pub register_of-requires-clause-zeros : goal.register_of-requires-clause-zeros
register_of-requires-clause-zeros g c k = zero_word 32 k

pub returns : goal.returns
returns g c =
    c.set_z_words.ensures
    ∙ register_is c.args.e c.args.zd c.args.vec.now (g.L.Gives.value c.args.lanes.now c.args.e c.args.vec.now) c.register_of.new.words c.requires c.length-length.ensures.length c.register_of.ensures.words
