use Rattle.std.proofs.Common.{◌∙◌}
use Rattle.sve_data.proofs.SameRows.{copied_same}
use Rattle.sve_data.proofs.copies.prefix_p.Goals as goal

pub returns : goal.returns
returns c = c.copied.ensures ∙ copied_same c.args.m _ _ _ _ c.args.zn c.args.zd c.args.vec.now c.lane_bits.ensures.value c.register.ensures
