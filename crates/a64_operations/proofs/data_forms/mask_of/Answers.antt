use Rattle.std.proofs.Common.{ℕ, ◌<◌, ◌^◌, Option, unwrap_or, sym, ap, subst, ◌∙◌}
use Rattle.a64_operations.proofs.Masks.{mask_below}
use Rattle.a64_operations.proofs.data_forms.mask_of.Goals as goal

pub returns-else-sf-clause-small : goal.returns-else-sf-clause-small
returns-else-sf-clause-small c = λ _.
    subst (λ (x : ℕ). x < 2 ^ 32) (sym (c.unwrap_or-else-sf.ensures ∙ ap (λ (o : Option ℕ). unwrap_or o 0) c.bitmask-else-sf.ensures)) (mask_below _ _ _)
