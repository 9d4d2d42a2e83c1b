use Rattle.std.proofs.Common.{◌≡◌, ℕ, sym, ap, ◌∙◌, arith}
use Rattle.tool_sites.specs.Nearby.{first_of, least_above}
use Rattle.tool_sites.proofs.Steps.{least_above-more, least_above-none}
use Rattle.tool_sites.proofs.nearby.least_above.Goals as goal

pub loop-k-init : goal.loop-k-init
loop-k-init c = record { value = sym (least_above-none c.args.memory.now.memory c.args.address); most = omega arith }

pub loop-k-preserved : goal.loop-k-preserved
loop-k-preserved c = record {
  value = c.first_of-found.ensures.value ∙ ap (λ (f : ℕ). first_of f c.place_above.result) c.loop-k.invariant.value
      ∙ ap (λ (k : ℕ). first_of (least_above c.args.memory.now.memory c.args.address c.loop-k.k) k) c.place_above.ensures.value
      ∙ sym (least_above-more c.args.memory.now.memory c.args.address c.loop-k.k);
  most = c.first_of-found.ensures.most;
}
