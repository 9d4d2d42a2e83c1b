use Rattle.std.proofs.Common.{◌≡◌, ◌<◌, ◌+◌, length, ℕ, Bool, sym, subst, ap, ◌∙◌, arith}
use Rattle.lane_model.specs.Permute.{active_lanes}
use Rattle.lane_model.proofs.ActiveLanes.{active_count}
use Rattle.lane_model.specs.Bits.{is_set}
use Rattle.lane_permute.specs.Slices.{HasLanes}
use Rattle.lane_permute.proofs.Gathered.{gathered_count, gathered_more}
use Rattle.lane_permute.proofs.Written.{number_read}
use Rattle.lane_permute.proofs.by_active.gather.Goals as goal

pub put_active-count-requires : goal.put_active-count-requires
put_active-count-requires g c = let e : c.loop-k.count ≡ length (active_lanes (is_set c.args.mask.now) c.loop-k.k) = c.loop-k.invariant.count in omega (arith, active_count (is_set c.args.mask.now) c.loop-k.k)

pub loop-k-preserved : goal.loop-k-preserved
loop-k-preserved g c =
    let active : ℕ → Bool = is_set c.args.mask.now in
    let k : ℕ = c.loop-k.k in
    let e : c.loop-k.count ≡ length (active_lanes active k) = c.loop-k.invariant.count in
    let within : c.loop-k.count < length c.loop-k.out = omega (arith, active_count active k) in
    let there : k < length c.args.a.now = omega arith in
    record {
      count = c.put_active-count.ensures.count ∙ gathered_count active k c.loop-k.count c.loop-k.invariant.count;
      lanes = subst (λ out. HasLanes g.T.Lane.number c.args.a.now (active_lanes active (k + 1)) out) (sym c.put_active-count.ensures.lanes)
          (gathered_more g.T.Lane.number c.args.a.now active k c.loop-k.count c.loop-k.out c.index-a-k.result c.loop-k.invariant.count within
          (ap g.T.Lane.number c.index-a-k.is ∙ sym (number_read g.T.Lane.number c.args.a.now k c.index-a-k.result there)) c.loop-k.invariant.lanes);
    }
