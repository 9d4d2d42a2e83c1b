-- What is left of a data instruction that was done by its operation.
use Rattle.std.proofs.Common.{◌≡◌, Option, Some, None, true, sym, ap, unwrap_or, ◌∙◌}
use Rattle.std.specs.FinMap.{empty}
use Rattle.emu_model.specs.declared.trap.Effect.{Effect}
use Rattle.emu_model.specs.declared.trap.Effect.TheVariants.{Next}
use Rattle.emu_model.specs.Access.{Memory}
use Rattle.emu_model.specs.Done.{Done}
use Rattle.emu_model.specs.State.{Core, zero_vectors}
use Rattle.a64_effects.specs.declared.groups.Group.TheVariants.{Data}
use Rattle.a64_effects.specs.Groups.{computed, group, same_group}
use Rattle.a64_effects.specs.Operations.{Operation, computes, flows, transfers, exchanges, copies}
use Rattle.a64_operations.specs.Groups.{IsQuiet}

any_memory : Memory
any_memory = record { pages = empty; limit = 0 }

pub data_done : (o : Operation) (r : Option Effect) (e : Effect) (c d : Core) → same_group Data (group o) ≡ true → r ≡ Some e → IsQuiet o r c d → (d ≡ computed o c) × (e ≡ Next)
data_done o None e c d own is quiet = absurd (cc)
data_done (computes after) (Some x) e c d own is quiet =
    let whole = quiet (zero_vectors 128) any_memory in
    (sym (ap (λ (h : Done). h.core) whole), ap (λ (o : Option Effect). unwrap_or o Next) (sym is) ∙ sym (ap (λ (h : Done). h.effect) whole))
data_done (flows after effect) (Some x) e c d own is quiet = absurd (cc)
data_done (transfers row) (Some x) e c d own is quiet = absurd (cc)
data_done (exchanges row) (Some x) e c d own is quiet = absurd (cc)
data_done (copies after) (Some x) e c d own is quiet = absurd (cc)
