use Rattle.std.proofs.Common.{◌≡◌, ℕ, List, ◌++◌, Option, Some, sym, ap, ◌∙◌}
use Rattle.emu_model.specs.declared.trap.Ended.{Ended}
use Rattle.emu_model.specs.declared.trap.Ended.TheVariants.{Trap as Trapped}
use Rattle.emu_model.specs.declared.trap.Trap.{Trap}
use Rattle.emu_model.specs.State.{Core, Parts}
use Rattle.emu_run.specs.Reports.{ending_text, trap_text}
use Rattle.vl_sweep.proofs.line.push_ending.Goals as goal

of_trap : (m : Parts) (ended : Option Ended) (t : Trap) (pc : ℕ) → ended ≡ Some (Trapped t) → pc ≡ m.core.pc → trap_text t pc ≡ ending_text m ended
of_trap m ended t pc e p = ap (λ (a : ℕ). trap_text t a) p ∙ ap (λ (o : Option Ended). ending_text m o) (sym e)

pub returns-in-Some-Trap-clause-text : goal.returns-in-Some-Trap-clause-text
returns-in-Some-Trap-clause-text c =
    let m = c.args.machine.now.parts in
    c.push_trap.ensures.text
    ∙ ap (λ (xs : List ℕ). c.args.text.now ++ xs) (of_trap m m.ended c.in-Some-Trap.trap c.pc.result (let a = c.ending.ensures in let b = c.in-Some-Trap.is in let d = c.in-Some-Trap.field-0-is in let e = c.in-Some-Trap.trap-is in cc)
    (c.pc.ensures.value ∙ ap (λ (k : Core). k.pc) c.core.ensures))
