use Rattle.std.proofs.Common.{◌∷◌, [], IfOk, OnErr, ◌≡◌, refl, sym, ap, ◌∙◌}
use Rattle.emu_model.specs.declared.access.Kind.TheVariants.{Write}
use Rattle.emu_model.specs.Access.{Memory}
use Rattle.emu_model.specs.Marks.{MarkedMemory}
use Rattle.emu_system.specs.SystemCall.{Action, takes, with_buffer}
use Rattle.linux_calls.specs.Replies.{HasBrokenOff, HasTaken, replied}
use Rattle.linux_calls.proofs.Actions.{as_action, of_input, taken_nothing}
use Rattle.linux_calls.proofs.files.read.Goals as goal

pub returns-in-Err-clause-replied : goal.returns-in-Err-clause-replied
returns-in-Err-clause-replied g c v brk =
    taken_nothing c.in-Err.reply _ c.args.mem.now.memory c.buffer.new.mem.memory _ _ _
    (of_input c.args.core.now c.file_of.result (replied c.in-Err.reply) (with_buffer Write takes c.args.core.now c.args.mem.now.memory) c.file_of.ensures c.if-file_of-ne0.false (sym (c.in-Err.ensures.refused takes)))
    (ap (λ (m : MarkedMemory). m.memory) c.in-Err.ensures.unchanged) refl

pub returns-in-Ok-clause-replied : goal.returns-in-Ok-clause-replied
returns-in-Ok-clause-replied g c v brk =
    as_action (λ (a : Action) (m : Memory). IfOk c.take.result (HasTaken a m c.take.new.mem.memory (g.S.Source.left c.args.input.now) (g.S.Source.left c.take.new.input) (c.take.new.input ≡ c.args.input.now))) _ _ _ _
    (of_input c.args.core.now c.file_of.result (takes (c.in-Ok.range ∷ [])) (with_buffer Write takes c.args.core.now c.args.mem.now.memory) c.file_of.ensures c.if-file_of-ne0.false (sym (c.in-Ok.ensures.range takes)))
    (ap (λ (m : MarkedMemory). m.memory) c.in-Ok.ensures.unchanged) c.take.ensures.replied

pub returns-in-Ok-clause-failed : goal.returns-in-Ok-clause-failed
returns-in-Ok-clause-failed g c v brk =
    as_action (λ (a : Action) (m : Memory). OnErr c.take.result (HasBrokenOff a m c.take.new.mem.memory (g.S.Source.left c.args.input.now) (g.S.Source.left c.take.new.input))) _ _ _ _
    (of_input c.args.core.now c.file_of.result (takes (c.in-Ok.range ∷ [])) (with_buffer Write takes c.args.core.now c.args.mem.now.memory) c.file_of.ensures c.if-file_of-ne0.false (sym (c.in-Ok.ensures.range takes)))
    (ap (λ (m : MarkedMemory). m.memory) c.in-Ok.ensures.unchanged) c.take.ensures.failed

pub returns-in-Err-clause-marks : goal.returns-in-Err-clause-marks
returns-in-Err-clause-marks g c = ap (λ (m : MarkedMemory). m.marks) c.in-Err.ensures.unchanged

pub returns-in-Ok-clause-marks : goal.returns-in-Ok-clause-marks
returns-in-Ok-clause-marks g c = c.take.ensures.marks ∙ ap (λ (m : MarkedMemory). m.marks) c.in-Ok.ensures.unchanged
