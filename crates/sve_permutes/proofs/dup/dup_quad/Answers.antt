use Rattle.std.proofs.Common.{◌<◌, ◌/◌, arith}
use Rattle.sve_permutes.proofs.Quads.{quad_there}
use Rattle.sve_permutes.proofs.dup.dup_quad.Goals as goal

pub returns-then-i-bits : goal.returns-then-i-bits
returns-then-i-bits c =
    let within : c.args.i < c.args.vec.now.bits / 128 = omega arith in
    quad_there c.args.i c.args.zn c.args.zd c.args.vec.now c.in_turn.new.vec c.lane-low.result c.lane-high.result within c.lane-low.ensures.small c.lane-low.ensures.value c.lane-high.ensures.value c.in_turn.ensures
