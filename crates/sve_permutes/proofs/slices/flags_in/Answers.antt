use Rattle.std.proofs.Common.{◌≡◌, ◌<◌, ◌≤◌, ◌/◌, ◌∙◌, ℕ, Bool, false, length, inl, inr, sym, ap, arith}
use Rattle.std.proofs.lemmas.Bool.{cases_lt}
use Rattle.std.proofs.lemmas.List.{length-replicate, length-set}
use Rattle.sve_effects.specs.LaneLoop.{is_active}
use Rattle.emu_model.specs.Lanes.{read_p}
use Rattle.sve_permutes.proofs.LaneArrays.{active_behind, flag_set, flags_still, lanes_few, no_flags}
use Rattle.sve_permutes.proofs.slices.flags_in.Goals as goal

pub returns-clause-above : goal.returns-clause-above
returns-clause-above g c k h = active_behind c.args.e c.args.vec.now.bits k (read_p c.args.vec.now c.args.pg) c.p_words-words.result.now c.requires.size c.length.ensures.length c.p_words-words.ensures.words h

pub returns-clause-flags : goal.returns-clause-flags
returns-clause-flags g c k =
    let n : c.bits.result / c.args.e ≡ c.args.vec.now.bits / c.args.e = ap (λ x. x / c.args.e) (c.bits.ensures.value ∙ c.length.ensures.value) in
    elim (cases_lt k (c.args.vec.now.bits / c.args.e)) [
      | inl h ↦ (let below : k < c.loop-k.k = omega arith in c.loop-k.invariant.done k below)
      | inr h ↦ (let above : c.loop-k.k ≤ k = omega arith in c.loop-k.invariant.rest k above ∙ sym (returns-clause-above g c k h))
    ]

pub loop-k-init : goal.loop-k-init
loop-k-init g c = record {
  count = length-replicate g.row.N false;
  done = λ i h. absurd (omega arith);
  rest = λ i _. no_flags g.row.N i;
}

pub loop-k-preserved : goal.loop-k-preserved
loop-k-preserved g c =
    let on : ℕ → Bool = is_active c.args.e c.args.vec.now c.args.pg in
    let k = c.loop-k.k in
    let flags = c.loop-k.flags in
    let few : c.args.vec.now.bits / c.args.e ≤ g.row.N = lanes_few c.args.e g.row.N c.args.vec.now.bits c.requires.size c.length.ensures.length c.requires.whole in
    let n : c.bits.result / c.args.e ≡ c.args.vec.now.bits / c.args.e = ap (λ x. x / c.args.e) (c.bits.ensures.value ∙ c.length.ensures.value) in
    let count : length c.loop-k.flags ≡ g.row.N = c.loop-k.invariant.count in
    let room : c.loop-k.k < length c.loop-k.flags = omega (arith, few, n, count) in
    record {
      count = length-set flags k c.is_active.result ∙ count;
      done = flag_set on flags k c.is_active.result room c.is_active.ensures c.loop-k.invariant.done;
      rest = flags_still on flags k c.is_active.result c.loop-k.invariant.rest;
    }
