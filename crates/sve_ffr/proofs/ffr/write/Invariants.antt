use Rattle.std.proofs.Common.{◌≡◌, ◌/◌, ℕ, true, length, if◌then◌else◌}
use Rattle.emu_model.specs.Lists.{each}
use Rattle.sve_effects.specs.FirstFault as model
use Rattle.sve_ffr.proofs.ffr.write.Given as goal

abbrev pub invariant-loop-k : goal.invariant-loop-k
invariant-loop-k l = record {
  count : length l.out.items ≡ l.k;
  values : (f h : ℕ → ℕ) → l.values.items ≡ each (l.vec.bits / l.e) f → ((k : ℕ) → model.is_before l.end k ≡ true → f k ≡ h k)
      → l.out.items ≡ each l.k (λ k. if model.is_before l.end k then h k else 0);
}
