use Rattle.std.proofs.Common.{◌≡◌, List, ℕ, drop, sym, ap, ap₂, ◌∙◌, arith}
use Rattle.emu_model.specs.declared.access.Access.{Access}
use Rattle.emu_model.specs.State.{Parts}
use Rattle.emu_run.specs.Step.{accesses, step_from}
use Rattle.emu_report.proofs.Puts.{put_equal}
use Rattle.step_traces.specs.Traces.{told_lines}
use Rattle.step_traces.proofs.walk.take_both.Goals as goal

pub take_step-requires-clause-room : goal.take_step-requires-clause-room
take_step-requires-clause-room g c =
    let same : c.args.ahead.now.parts.steps ≡ c.args.machine.now.parts.steps = ap (λ (m : Parts). m.steps) c.requires.same in
    let room = c.requires.room in
    omega (arith, same, room)

pub returns-clause-bytes : goal.returns-clause-bytes
returns-clause-bytes g c =
    let m = c.args.machine.now.parts in
    let rest = drop c.args.source.now.place c.args.source.now.bytes in
    let parts : c.take_step.new.machine.parts ≡ (step_from m rest).parts = c.take_step.ensures.parts ∙ ap₂ (λ (p : Parts) (i : List ℕ). (step_from p i).parts) c.requires.same c.requires.rest in
    let touched : c.take_step.new.machine.accesses ≡ accesses m = c.take_step.ensures.accesses ∙ ap accesses c.requires.same in
    put_equal _ _ _ _ (ap₂ (λ (p : Parts) (xs : List Access). told_lines c.args.shown.now c.args.window.now c.args.stage m p xs) parts touched) c.in_ok-put_at.ensures.bytes

pub returns-clause-same : goal.returns-clause-same
returns-clause-same g c =
    c.take_step.ensures.parts ∙ ap₂ (λ (p : Parts) (i : List ℕ). (step_from p i).parts) c.requires.same c.requires.rest ∙ sym c.take_step-2.ensures.parts

pub returns-clause-rest : goal.returns-clause-rest
returns-clause-rest g c =
    c.take_step.ensures.input ∙ ap₂ (λ (p : Parts) (i : List ℕ). (step_from p i).input) c.requires.same c.requires.rest ∙ sym c.take_step-2.ensures.input
