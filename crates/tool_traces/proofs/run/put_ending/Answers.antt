use Rattle.std.proofs.Common.{◌≡◌, ℕ, Option, Some, ◌++◌, sym, ap, ap₂, ◌∙◌}
use Rattle.emu_model.specs.declared.trap.Ended.{Ended}
use Rattle.emu_model.specs.declared.trap.Ended.TheVariants.{Trap as Trapped}
use Rattle.emu_model.specs.declared.trap.Trap.{Trap}
use Rattle.emu_model.specs.State.{Core, Parts}
use Rattle.emu_run.specs.Reports.{after_steps, ending_line, trap_text}
use Rattle.emu_report.proofs.Puts.{puts_equal}
use Rattle.tool_traces.proofs.run.put_ending.Goals as goal

trapped_line : (m : Parts) (ended : Option Ended) (t : Trap) (pc steps : ℕ) → ended ≡ Some (Trapped t) → pc ≡ m.core.pc → steps ≡ m.steps → (trap_text t pc ++ after_steps steps) ≡ ending_line m ended
trapped_line m ended t pc steps e p s = ap₂ (λ (a b : ℕ). trap_text t a ++ after_steps b) p s ∙ ap (λ (o : Option Ended). ending_line m o) (sym e)

pub returns-in-Some-Trap-clause-bytes : goal.returns-in-Some-Trap-clause-bytes
returns-in-Some-Trap-clause-bytes g c =
    let m = c.args.machine.now.parts in
    puts_equal _ _ _ _ c.put_trap.result
    (trapped_line m m.ended c.in-Some-Trap.trap c.pc.result c.steps-in-Some-Trap.result (let a = c.ending.ensures in let b = c.in-Some-Trap.is in let d = c.in-Some-Trap.field-0-is in let e = c.in-Some-Trap.trap-is in cc)
    (c.pc.ensures.value ∙ ap (λ (k : Core). k.pc) c.core.ensures) c.steps-in-Some-Trap.ensures)
    c.put_trap.ensures.bytes
