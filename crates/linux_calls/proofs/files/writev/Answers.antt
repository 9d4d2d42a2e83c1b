use Rattle.std.proofs.Common.{◌≡◌, ℕ, refl, sym, ap, ◌∙◌}
use Rattle.emu_model.specs.declared.access.Kind.TheVariants.{Read}
use Rattle.emu_model.specs.Access.{Memory}
use Rattle.emu_model.specs.Marks.{MarkedMemory}
use Rattle.emu_system.specs.SystemCall.{Action, puts, file_of, with_vector}
use Rattle.linux_calls.specs.declared.reply.Reply.TheVariants.{Error}
use Rattle.linux_calls.specs.Puts.{HasWritten}
use Rattle.linux_calls.specs.Replies.{replied}
use Rattle.linux_calls.proofs.Actions.{as_action}
use Rattle.linux_calls.proofs.Written.{of_sink, written_nothing}
use Rattle.linux_calls.proofs.files.writev.Goals as goal

pub returns-in-Err-clause-written : goal.returns-in-Err-clause-written
returns-in-Err-clause-written g c v brk =
    let core = c.args.core.now in
    written_nothing c.args.mem.now.memory _ _ _ _ _ _ (Error c.in-Err.error) _
    (of_sink core c.file_of-file.result (replied (Error c.in-Err.error)) (with_vector Read (puts (file_of core)) core c.args.mem.now.memory) c.file_of-file.ensures c.if-not-is_sink.ensures (sym (c.in-Err.ensures.refused (puts (file_of core)))))
    refl refl

pub returns-in-Ok-clause-written : goal.returns-in-Ok-clause-written
returns-in-Ok-clause-written g c v brk =
    let core = c.args.core.now in let file = c.file_of-file.result in let e = c.put.ensures in
    as_action (λ (a : Action) (m : Memory). HasWritten a m (g.O.Sink.held c.args.output.now) (g.O.Sink.held c.put.new.output) (c.put.new.output ≡ c.args.output.now) (g.E.Sink.held c.args.errors.now) (g.E.Sink.held c.put.new.errors) (c.put.new.errors ≡ c.args.errors.now) c.put.result)
    (puts file c.as_slice.result.now) _ _ _
    (of_sink core file (puts file c.as_slice.result.now) (with_vector Read (puts (file_of core)) core c.args.mem.now.memory) c.file_of-file.ensures c.if-not-is_sink.ensures (ap (λ (f : ℕ). puts f c.as_slice.result.now) c.file_of-file.ensures ∙ ap (puts (file_of core)) c.as_slice.ensures.value ∙ sym (c.in-Ok.ensures.ranges (puts (file_of core)))))
    (ap (λ (m : MarkedMemory). m.memory) c.in-Ok.ensures.unchanged) (record { replied = e.replied; failed = e.failed; output = e.output; errors = e.errors })
