use Rattle.std.proofs.Common.{◌/◌, ◌∙◌, ℕ, List, ap, sym, subst}
use Rattle.vec_regs.specs.Shown.{IsInside, shown}
use Rattle.vec_regs.proofs.Low.{zero_above}
use Rattle.vec_regs.proofs.VecRegs.set.Goals as goal

pub copy_registers-requires-clause-zero_to : goal.copy_registers-requires-clause-zero_to
copy_registers-requires-clause-zero_to c = zero_above (c.self.inside.length / 64) c.words_of-count.result c.self.inside.z c.words_of-count.ensures.here c.self.invariant.z

pub copy_registers-requires-clause-zero_from : goal.copy_registers-requires-clause-zero_from
copy_registers-requires-clause-zero_from c = zero_above (c.other.inside.length / 64) c.words_of-count.result c.other.inside.z c.words_of-count.ensures.there c.other.invariant.z

pub invariant_of-self : goal.invariant_of-self
invariant_of-self c = subst (λ (z : List (List ℕ)). IsInside (record c.other.inside { z = z })) (sym c.copy_registers.ensures) c.other.invariant

pub returns : goal.returns
returns c = ap (λ (z : List (List ℕ)). shown (record c.other.inside { z = z })) c.copy_registers.ensures ∙ c.other.view_is
