use Rattle.std.proofs.Common.{◌≡◌, None, not}
use Rattle.emu_model.specs.Active.{active}
use Rattle.sve_effects.specs.FirstLast.{first_where}
use Rattle.sve_ffr.proofs.ffr.first_cleared.Given as goal

abbrev pub invariant-loop-k : goal.invariant-loop-k
invariant-loop-k l = first_where l.k (λ k. not (active l.e l.vec.ffr k)) ≡ None
