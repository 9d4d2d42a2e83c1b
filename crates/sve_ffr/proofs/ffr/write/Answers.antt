use Rattle.std.proofs.Common.{◌≡◌, ◌<◌, ◌≤◌, ◌/◌, ℕ, List, get_or, if◌then◌else◌, ap, subst, ◌∙◌, arith}
use Rattle.emu_model.specs.Lists.{each}
use Rattle.emu_model.specs.ListLaws.{get_or-each}
use Rattle.sve_effects.specs.FirstFault as model
use Rattle.element_loops.proofs.Writes.{push_each, same_where}
use Rattle.sve_ffr.proofs.ffr.write.Goals as goal

pub loop-k-preserved : goal.loop-k-preserved
loop-k-preserved c = record {
  count = omega (arith, c.push.ensures.len);
  values = λ f h given agree.
      let n : ℕ = c.args.vec.now.bits / c.args.e in
      let within : c.loop-k.k < n = subst (λ n. c.loop-k.k < n / c.args.e) (c.bits.ensures.value ∙ c.length.ensures.value) c.loop-k-test.true in
      let here : get_or c.deref.result.now c.loop-k.k 0 ≡ f c.loop-k.k = ap (λ (xs : List ℕ). get_or xs c.loop-k.k 0) (c.deref.ensures.0 ∙ given) ∙ get_or-each n f c.loop-k.k 0 within in
      push_each c.loop-k.k (λ k. if model.is_before c.args.end k then h k else 0) c.value_before.result c.loop-k.out.items c.push.new.self.items c.push.ensures.items (c.loop-k.invariant.values f h given agree)
      (c.value_before.ensures ∙ same_where (model.is_before c.args.end c.loop-k.k) (get_or c.deref.result.now c.loop-k.k 0) (h c.loop-k.k) (λ before. here ∙ agree c.loop-k.k before));
}

pub returns : goal.returns
returns c = λ f h given agree.
    let n : c.bits.result / c.args.e ≡ c.args.vec.now.bits / c.args.e = ap (λ n. n / c.args.e) (c.bits.ensures.value ∙ c.length.ensures.value) in
    let most : c.loop-k.k ≤ c.bits.result / c.args.e = c.loop-k.auto.k-end in
    let least : c.bits.result / c.args.e ≤ c.loop-k.k = c.loop-k-test.false in
    let all : c.loop-k.k ≡ c.args.vec.now.bits / c.args.e = omega arith in
    c.set_lanes.ensures (λ k. if model.is_before c.args.end k then h k else 0)
    (c.deref-2.ensures.0 ∙ c.loop-k.invariant.values f h given agree ∙ ap (λ n. each n (λ k. if model.is_before c.args.end k then h k else 0)) all)
