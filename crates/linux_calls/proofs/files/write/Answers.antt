use Rattle.std.proofs.Common.{◌∷◌, [], ◌≡◌, ℕ, refl, sym, ap, ◌∙◌}
use Rattle.emu_model.specs.declared.access.Kind.TheVariants.{Read}
use Rattle.emu_model.specs.Access.{Memory}
use Rattle.emu_model.specs.Marks.{MarkedMemory}
use Rattle.emu_system.specs.SystemCall.{Action, puts, file_of, with_buffer}
use Rattle.linux_calls.specs.Puts.{HasWritten}
use Rattle.linux_calls.specs.Replies.{replied}
use Rattle.linux_calls.proofs.Actions.{as_action}
use Rattle.linux_calls.proofs.Written.{of_sink, written_nothing}
use Rattle.linux_calls.proofs.files.write.Goals as goal

pub returns-in-Err-clause-written : goal.returns-in-Err-clause-written
returns-in-Err-clause-written g c v brk =
    let core = c.args.core.now in
    written_nothing c.args.mem.now.memory _ _ _ _ _ _ c.in-Err.reply _
    (of_sink core c.file_of-file.result (replied c.in-Err.reply) (with_buffer Read (puts (file_of core)) core c.args.mem.now.memory) c.file_of-file.ensures c.if-not-is_sink.ensures (sym (c.in-Err.ensures.refused (puts (file_of core)))))
    refl refl

pub returns-in-Ok-clause-written : goal.returns-in-Ok-clause-written
returns-in-Ok-clause-written g c v brk =
    let core = c.args.core.now in let file = c.file_of-file.result in let e = c.put.ensures in
    as_action (λ (a : Action) (m : Memory). HasWritten a m (g.O.Sink.held c.args.output.now) (g.O.Sink.held c.put.new.output) (c.put.new.output ≡ c.args.output.now) (g.E.Sink.held c.args.errors.now) (g.E.Sink.held c.put.new.errors) (c.put.new.errors ≡ c.args.errors.now) c.put.result)
    (puts file (c.in-Ok.range ∷ [])) _ _ _
    (of_sink core file (puts file (c.in-Ok.range ∷ [])) (with_buffer Read (puts (file_of core)) core c.args.mem.now.memory) c.file_of-file.ensures c.if-not-is_sink.ensures (ap (λ (f : ℕ). puts f (c.in-Ok.range ∷ [])) c.file_of-file.ensures ∙ sym (c.in-Ok.ensures.range (puts (file_of core)))))
    (ap (λ (m : MarkedMemory). m.memory) c.in-Ok.ensures.unchanged) (record { replied = e.replied; failed = e.failed; output = e.output; errors = e.errors })
