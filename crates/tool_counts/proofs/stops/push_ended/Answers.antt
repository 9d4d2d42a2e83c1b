use Rattle.std.proofs.Common.{◌≡◌, ℕ, List, ◌++◌, Option, Some, sym, ap, ◌∙◌}
use Rattle.emu_model.specs.declared.trap.Ended.{Ended}
use Rattle.emu_model.specs.declared.trap.Ended.TheVariants.{Trap as Trapped}
use Rattle.emu_model.specs.declared.trap.Trap.{Trap}
use Rattle.emu_run.specs.Reports.{trap_text}
use Rattle.tool_counts.specs.Counted.{ended_text}
use Rattle.tool_counts.proofs.stops.push_ended.Goals as goal

of_trap : (ended : Option Ended) (t : Trap) (pc : ℕ) → ended ≡ Some (Trapped t) → trap_text t pc ≡ ended_text ended pc
of_trap ended t pc e = ap (λ (o : Option Ended). ended_text o pc) (sym e)

pub returns-in-Some-Trap-clause-text : goal.returns-in-Some-Trap-clause-text
returns-in-Some-Trap-clause-text c =
    c.push_trap.ensures.text
    ∙ ap (λ (xs : List ℕ). c.args.text.now ++ xs) (of_trap c.args.ended c.in-Some-Trap.trap c.args.pc (c.in-Some-Trap.is ∙ ap (λ (x : Ended). Some x) (let d = c.in-Some-Trap.field-0-is in rw c.in-Some-Trap.is at d)))
