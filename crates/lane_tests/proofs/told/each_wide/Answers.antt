use Rattle.std.proofs.Common.{◌≡◌, ◌∙◌, ◌<◌, ◌*◌, ◌/◌, ℕ, Bool, false, length, map, get_or, set, sym, ap, ap₂, below_more, length-set, arith}
use Rattle.std.proofs.lemmas.List.{get_or-map, get_or-set_same, get_or-set_other}
use Rattle.sve_effects.specs.Lane.{extended_by}
use Rattle.lane_tests.proofs.told.each_wide.Goals as goal

pub loop-j-preserved : goal.loop-j-preserved
loop-j-preserved g c =
    let e = g.T.Lane.BITS in
    let j = c.loop-j.j in
    let a = c.args.a.now in
    let x = c.index-a-j.result in
    let answer : ℕ → Bool = λ k. g.F.LaneWiseTest2.entry c.args.op.now 64 (extended_by c.args.signed 64 g.T.Lane.BITS (get_or (map g.T.Lane.number c.args.a.now) k 0)) (get_or c.args.b (k * g.T.Lane.BITS / 64) 0) in
    let within : c.loop-j.j < length c.loop-j.told = omega (arith, c.loop-j.invariant.count) in
    let inside : c.loop-j.j < length c.args.a.now = omega arith in
    let lane : g.T.Lane.number c.index-a-j.result ≡ get_or (map g.T.Lane.number c.args.a.now) c.loop-j.j 0
    = ap g.T.Lane.number c.index-a-j.is ∙ sym (get_or-map g.T.Lane.number a j x 0 inside) in
    record {
      count = length-set c.loop-j.told j c.one.result ∙ c.loop-j.invariant.count;
      done = below_more (λ k. get_or (set c.loop-j.told j c.one.result) k false ≡ answer k) j
          (λ k h. get_or-set_other c.loop-j.told j k c.one.result false (omega arith) ∙ c.loop-j.invariant.done k h)
          (get_or-set_same c.loop-j.told j c.one.result false within ∙ c.one.ensures
          ∙ ap₂ (g.F.LaneWiseTest2.entry c.args.op.now 64) (c.extended.ensures ∙ ap (extended_by c.args.signed 64 e) lane) (ap (λ n. get_or c.args.b (j * n / 64) 0) c.BITS.ensures));
    }
