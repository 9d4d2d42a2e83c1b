use Rattle.std.proofs.Common.{◌≡◌, ℕ, sym, ap, ◌∙◌, arith}
use Rattle.tool_sites.specs.Nearby.{first_of, least_below}
use Rattle.tool_sites.proofs.Steps.{least_below-more, least_below-none}
use Rattle.tool_sites.proofs.nearby.least_below.Goals as goal

pub loop-k-init : goal.loop-k-init
loop-k-init c = record { value = sym (least_below-none c.args.memory.now.memory c.args.address); most = omega arith }

pub loop-k-preserved : goal.loop-k-preserved
loop-k-preserved c = record {
  value = c.first_of-found.ensures.value ∙ ap (λ (f : ℕ). first_of f c.place_below.result) c.loop-k.invariant.value
      ∙ ap (λ (k : ℕ). first_of (least_below c.args.memory.now.memory c.args.address c.loop-k.k) k) c.place_below.ensures.value
      ∙ sym (least_below-more c.args.memory.now.memory c.args.address c.loop-k.k);
  most = c.first_of-found.ensures.most;
}
