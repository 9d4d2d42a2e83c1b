use Rattle.std.proofs.Common.{◌≡◌, ◌∙◌, ◌≤◌, ◌*◌, ◌/◌, ◌%◌, ℕ, refl, arith}
use Rattle.register_lanes.proofs.InPlace.{none_written, all_written}
use Rattle.register_lanes.proofs.loops.fill_by_fours.Goals as goal

pub loop-n-init : goal.loop-n-init
loop-n-init g c =
    let e = g.T.Lane.BITS in
    let f : ℕ → ℕ = g.L.Gives.value c.args.lanes.now e c.args.vec.now in
    record { bits = refl; written = none_written e c.args.zd f c.args.vec.now c.z_words-words.result.now c.z_words-words.ensures.words }

pub returns : goal.returns
returns g c =
    let e = g.T.Lane.BITS in
    let f : ℕ → ℕ = g.L.Gives.value c.args.lanes.now e c.args.vec.now in
    let whole : c.args.vec.now.bits / 128 % 4 ≡ 0 = c.requires in
    let end : c.args.vec.now.bits / 128 ≤ 4 * c.loop-n.n = omega (arith, whole) in
    c.loop-n.invariant.written ∙ all_written e c.args.zd (4 * c.loop-n.n) f c.args.vec.now c.length.ensures.length end
