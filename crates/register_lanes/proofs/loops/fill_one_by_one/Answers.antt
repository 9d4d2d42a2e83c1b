use Rattle.std.proofs.Common.{◌∙◌, ◌≤◌, ◌/◌, ℕ, refl, arith}
use Rattle.register_lanes.proofs.InPlace.{none_written, all_written}
use Rattle.register_lanes.proofs.loops.fill_one_by_one.Goals as goal

pub loop-i-init : goal.loop-i-init
loop-i-init g c =
    let e = g.T.Lane.BITS in
    let f : ℕ → ℕ = g.L.Gives.value c.args.lanes.now e c.args.vec.now in
    record { bits = refl; written = none_written e c.args.zd f c.args.vec.now c.z_words-words.result.now c.z_words-words.ensures.words }

pub returns : goal.returns
returns g c =
    let e = g.T.Lane.BITS in
    let f : ℕ → ℕ = g.L.Gives.value c.args.lanes.now e c.args.vec.now in
    let end : c.args.vec.now.bits / 128 ≤ c.loop-i.i = omega arith in
    c.loop-i.invariant.written ∙ all_written e c.args.zd c.loop-i.i f c.args.vec.now c.length.ensures.length end
