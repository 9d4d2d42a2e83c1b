use Rattle.std.proofs.Common.{◌≡◌, inl, inr, refl, sym, ap, subst}
use Rattle.emu_model.specs.Marks.{MarkedMemory}
use Rattle.emu_system.specs.declared.system_call.CallName.{CallName}
use Rattle.emu_system.specs.declared.system_call.CallName.TheVariants.{Read, Write, Readv, Writev, Prctl}
use Rattle.emu_system.specs.SystemCall.{Action, number_of_call}
use Rattle.linux_calls.specs.declared.end.CallEnd.{CallEnd}
use Rattle.linux_calls.specs.declared.end.CallEnd.TheVariants.{Returned, ReadFault, WriteFault, ErrorsFault}
use Rattle.linux_calls.specs.Ends.{is_fault}
use Rattle.linux_calls.specs.Names.{HasNumber}
use Rattle.linux_calls.specs.Done.{Around, IsDone}
use Rattle.linux_calls.proofs.Accounted.{accounted, accounted_put, accounted_read, none_caused}
use Rattle.linux_calls.proofs.Finished.{done_failed, done_length, done_replied, done_still, done_taken, done_unwritten, done_written, named}
use Rattle.linux_calls.proofs.calling.make.Goals as goal

pub returns-in-Ok-clause-done : goal.returns-in-Ok-clause-done
returns-in-Ok-clause-done g c =
    named (λ (a : Action) (e : CallEnd). IsDone a (record { core = c.args.core.now; vectors = c.args.vec.now; memory = c.args.mem.now.memory; brk = c.args.brk.now; left = g.I.Source.left c.args.input.now; output = g.O.Sink.held c.args.output.now; errors = g.E.Sink.held c.args.errors.now }) (record { core = c.answer.new.core; vectors = c.answer.new.vec; memory = c.read.new.mem.memory; brk = c.args.brk.now; left = (g.I.Source.left c.read.new.input); output = (g.O.Sink.held c.args.output.now); errors = (g.E.Sink.held c.args.errors.now) }) (c.read.new.input ≡ c.args.input.now) (c.args.output.now ≡ c.args.output.now) (c.args.errors.now ≡ c.args.errors.now) e) c.args.core.now c.args.vec.now c.args.mem.now.memory c.args.brk.now c.args.name Read c.answer.result Returned c.in-Read.is c.answer.ensures.end
    (done_taken c.args.core.now c.args.vec.now c.args.mem.now.memory c.args.brk.now (g.I.Source.left c.args.input.now) (g.O.Sink.held c.args.output.now) (g.E.Sink.held c.args.errors.now) (c.read.new.input ≡ c.args.input.now) (c.args.output.now ≡ c.args.output.now) (c.args.errors.now ≡ c.args.errors.now) c.answer.new.core c.answer.new.vec c.read.new.mem.memory c.args.brk.now (g.I.Source.left c.read.new.input) (g.O.Sink.held c.args.output.now) (g.E.Sink.held c.args.errors.now) c.requires.sound c.answer.ensures.vectors
    refl (λ e. ap g.I.Source.left e) refl refl refl refl _ c.in-Ok.reply (c.in-Ok.ensures.replied c.args.vec.now c.args.brk.now) c.answer.ensures.core)

pub returns-in-Err-clause-done : goal.returns-in-Err-clause-done
returns-in-Err-clause-done g c =
    named (λ (a : Action) (e : CallEnd). IsDone a (record { core = c.args.core.now; vectors = c.args.vec.now; memory = c.args.mem.now.memory; brk = c.args.brk.now; left = g.I.Source.left c.args.input.now; output = g.O.Sink.held c.args.output.now; errors = g.E.Sink.held c.args.errors.now }) (record { core = c.args.core.now; vectors = c.args.vec.now; memory = c.read.new.mem.memory; brk = c.args.brk.now; left = (g.I.Source.left c.read.new.input); output = (g.O.Sink.held c.args.output.now); errors = (g.E.Sink.held c.args.errors.now) }) (c.read.new.input ≡ c.args.input.now) (c.args.output.now ≡ c.args.output.now) (c.args.errors.now ≡ c.args.errors.now) e) c.args.core.now c.args.vec.now c.args.mem.now.memory c.args.brk.now c.args.name Read ReadFault ReadFault c.in-Read.is refl
    (done_failed c.args.core.now c.args.vec.now c.args.mem.now.memory c.args.brk.now (g.I.Source.left c.args.input.now) (g.O.Sink.held c.args.output.now) (g.E.Sink.held c.args.errors.now) (c.read.new.input ≡ c.args.input.now) (c.args.output.now ≡ c.args.output.now) (c.args.errors.now ≡ c.args.errors.now) c.read.new.mem.memory (g.I.Source.left c.read.new.input) (g.O.Sink.held c.args.output.now) (g.E.Sink.held c.args.errors.now) c.requires.sound _ (c.in-Err.ensures.failed c.args.vec.now c.args.brk.now) refl refl refl refl)

pub returns-in-Ok-readv-clause-done : goal.returns-in-Ok-readv-clause-done
returns-in-Ok-readv-clause-done g c =
    named (λ (a : Action) (e : CallEnd). IsDone a (record { core = c.args.core.now; vectors = c.args.vec.now; memory = c.args.mem.now.memory; brk = c.args.brk.now; left = g.I.Source.left c.args.input.now; output = g.O.Sink.held c.args.output.now; errors = g.E.Sink.held c.args.errors.now }) (record { core = c.answer-in-Ok-readv.new.core; vectors = c.answer-in-Ok-readv.new.vec; memory = c.readv.new.mem.memory; brk = c.args.brk.now; left = (g.I.Source.left c.readv.new.input); output = (g.O.Sink.held c.args.output.now); errors = (g.E.Sink.held c.args.errors.now) }) (c.readv.new.input ≡ c.args.input.now) (c.args.output.now ≡ c.args.output.now) (c.args.errors.now ≡ c.args.errors.now) e) c.args.core.now c.args.vec.now c.args.mem.now.memory c.args.brk.now c.args.name Readv c.answer-in-Ok-readv.result Returned c.in-Readv.is c.answer-in-Ok-readv.ensures.end
    (done_taken c.args.core.now c.args.vec.now c.args.mem.now.memory c.args.brk.now (g.I.Source.left c.args.input.now) (g.O.Sink.held c.args.output.now) (g.E.Sink.held c.args.errors.now) (c.readv.new.input ≡ c.args.input.now) (c.args.output.now ≡ c.args.output.now) (c.args.errors.now ≡ c.args.errors.now) c.answer-in-Ok-readv.new.core c.answer-in-Ok-readv.new.vec c.readv.new.mem.memory c.args.brk.now (g.I.Source.left c.readv.new.input) (g.O.Sink.held c.args.output.now) (g.E.Sink.held c.args.errors.now) c.requires.sound c.answer-in-Ok-readv.ensures.vectors
    refl (λ e. ap g.I.Source.left e) refl refl refl refl _ c.in-Ok-readv.reply (c.in-Ok-readv.ensures.replied c.args.vec.now c.args.brk.now) c.answer-in-Ok-readv.ensures.core)

pub returns-in-Err-readv-clause-done : goal.returns-in-Err-readv-clause-done
returns-in-Err-readv-clause-done g c =
    named (λ (a : Action) (e : CallEnd). IsDone a (record { core = c.args.core.now; vectors = c.args.vec.now; memory = c.args.mem.now.memory; brk = c.args.brk.now; left = g.I.Source.left c.args.input.now; output = g.O.Sink.held c.args.output.now; errors = g.E.Sink.held c.args.errors.now }) (record { core = c.args.core.now; vectors = c.args.vec.now; memory = c.readv.new.mem.memory; brk = c.args.brk.now; left = (g.I.Source.left c.readv.new.input); output = (g.O.Sink.held c.args.output.now); errors = (g.E.Sink.held c.args.errors.now) }) (c.readv.new.input ≡ c.args.input.now) (c.args.output.now ≡ c.args.output.now) (c.args.errors.now ≡ c.args.errors.now) e) c.args.core.now c.args.vec.now c.args.mem.now.memory c.args.brk.now c.args.name Readv ReadFault ReadFault c.in-Readv.is refl
    (done_failed c.args.core.now c.args.vec.now c.args.mem.now.memory c.args.brk.now (g.I.Source.left c.args.input.now) (g.O.Sink.held c.args.output.now) (g.E.Sink.held c.args.errors.now) (c.readv.new.input ≡ c.args.input.now) (c.args.output.now ≡ c.args.output.now) (c.args.errors.now ≡ c.args.errors.now) c.readv.new.mem.memory (g.I.Source.left c.readv.new.input) (g.O.Sink.held c.args.output.now) (g.E.Sink.held c.args.errors.now) c.requires.sound _ (c.in-Err-readv.ensures.failed c.args.vec.now c.args.brk.now) refl refl refl refl)

pub returns-in-Ok-write-clause-done : goal.returns-in-Ok-write-clause-done
returns-in-Ok-write-clause-done g c =
    named (λ (a : Action) (e : CallEnd). IsDone a (record { core = c.args.core.now; vectors = c.args.vec.now; memory = c.args.mem.now.memory; brk = c.args.brk.now; left = g.I.Source.left c.args.input.now; output = g.O.Sink.held c.args.output.now; errors = g.E.Sink.held c.args.errors.now }) (record { core = c.answer-in-Ok-write.new.core; vectors = c.answer-in-Ok-write.new.vec; memory = c.write.new.mem.memory; brk = c.args.brk.now; left = (g.I.Source.left c.args.input.now); output = (g.O.Sink.held c.write.new.output); errors = (g.E.Sink.held c.write.new.errors) }) (c.args.input.now ≡ c.args.input.now) (c.write.new.output ≡ c.args.output.now) (c.write.new.errors ≡ c.args.errors.now) e) c.args.core.now c.args.vec.now c.args.mem.now.memory c.args.brk.now c.args.name Write c.answer-in-Ok-write.result Returned c.in-Write.is c.answer-in-Ok-write.ensures.end
    (done_written c.args.core.now c.args.vec.now c.args.mem.now.memory c.args.brk.now (g.I.Source.left c.args.input.now) (g.O.Sink.held c.args.output.now) (g.E.Sink.held c.args.errors.now) (c.args.input.now ≡ c.args.input.now) (c.write.new.output ≡ c.args.output.now) (c.write.new.errors ≡ c.args.errors.now) c.answer-in-Ok-write.new.core c.answer-in-Ok-write.new.vec c.write.new.mem.memory c.args.brk.now (g.I.Source.left c.args.input.now) (g.O.Sink.held c.write.new.output) (g.E.Sink.held c.write.new.errors) c.requires.sound c.answer-in-Ok-write.ensures.vectors
    refl (ap (λ (m : MarkedMemory). m.memory) c.in-Ok-write.ensures.unchanged) refl (λ e. ap g.O.Sink.held e) (λ e. ap g.E.Sink.held e) refl _ c.in-Ok-write.reply (c.in-Ok-write.ensures.written c.args.vec.now c.args.brk.now) c.answer-in-Ok-write.ensures.core)

pub returns-in-Err-write-clause-done : goal.returns-in-Err-write-clause-done
returns-in-Err-write-clause-done g c =
    named (λ (a : Action) (e : CallEnd). IsDone a (record { core = c.args.core.now; vectors = c.args.vec.now; memory = c.args.mem.now.memory; brk = c.args.brk.now; left = g.I.Source.left c.args.input.now; output = g.O.Sink.held c.args.output.now; errors = g.E.Sink.held c.args.errors.now }) (record { core = c.args.core.now; vectors = c.args.vec.now; memory = c.write.new.mem.memory; brk = c.args.brk.now; left = (g.I.Source.left c.args.input.now); output = (g.O.Sink.held c.write.new.output); errors = (g.E.Sink.held c.write.new.errors) }) (c.args.input.now ≡ c.args.input.now) (c.write.new.output ≡ c.args.output.now) (c.write.new.errors ≡ c.args.errors.now) e) c.args.core.now c.args.vec.now c.args.mem.now.memory c.args.brk.now c.args.name Write c.in-Err-write.end c.in-Err-write.end c.in-Write.is refl
    (done_unwritten c.args.core.now c.args.vec.now c.args.mem.now.memory c.args.brk.now (g.I.Source.left c.args.input.now) (g.O.Sink.held c.args.output.now) (g.E.Sink.held c.args.errors.now) (c.args.input.now ≡ c.args.input.now) (c.write.new.output ≡ c.args.output.now) (c.write.new.errors ≡ c.args.errors.now) c.write.new.mem.memory (g.I.Source.left c.args.input.now) (g.O.Sink.held c.write.new.output) (g.E.Sink.held c.write.new.errors) c.requires.sound _ c.in-Err-write.end (c.in-Err-write.ensures.written c.args.vec.now c.args.brk.now) (ap (λ (m : MarkedMemory). m.memory) c.in-Err-write.ensures.unchanged) (λ e. ap g.O.Sink.held e) (λ e. ap g.E.Sink.held e) refl)

pub returns-in-Ok-writev-clause-done : goal.returns-in-Ok-writev-clause-done
returns-in-Ok-writev-clause-done g c =
    named (λ (a : Action) (e : CallEnd). IsDone a (record { core = c.args.core.now; vectors = c.args.vec.now; memory = c.args.mem.now.memory; brk = c.args.brk.now; left = g.I.Source.left c.args.input.now; output = g.O.Sink.held c.args.output.now; errors = g.E.Sink.held c.args.errors.now }) (record { core = c.answer-in-Ok-writev.new.core; vectors = c.answer-in-Ok-writev.new.vec; memory = c.writev.new.mem.memory; brk = c.args.brk.now; left = (g.I.Source.left c.args.input.now); output = (g.O.Sink.held c.writev.new.output); errors = (g.E.Sink.held c.writev.new.errors) }) (c.args.input.now ≡ c.args.input.now) (c.writev.new.output ≡ c.args.output.now) (c.writev.new.errors ≡ c.args.errors.now) e) c.args.core.now c.args.vec.now c.args.mem.now.memory c.args.brk.now c.args.name Writev c.answer-in-Ok-writev.result Returned c.in-Writev.is c.answer-in-Ok-writev.ensures.end
    (done_written c.args.core.now c.args.vec.now c.args.mem.now.memory c.args.brk.now (g.I.Source.left c.args.input.now) (g.O.Sink.held c.args.output.now) (g.E.Sink.held c.args.errors.now) (c.args.input.now ≡ c.args.input.now) (c.writev.new.output ≡ c.args.output.now) (c.writev.new.errors ≡ c.args.errors.now) c.answer-in-Ok-writev.new.core c.answer-in-Ok-writev.new.vec c.writev.new.mem.memory c.args.brk.now (g.I.Source.left c.args.input.now) (g.O.Sink.held c.writev.new.output) (g.E.Sink.held c.writev.new.errors) c.requires.sound c.answer-in-Ok-writev.ensures.vectors
    refl (ap (λ (m : MarkedMemory). m.memory) c.in-Ok-writev.ensures.unchanged) refl (λ e. ap g.O.Sink.held e) (λ e. ap g.E.Sink.held e) refl _ c.in-Ok-writev.reply (c.in-Ok-writev.ensures.written c.args.vec.now c.args.brk.now) c.answer-in-Ok-writev.ensures.core)

pub returns-in-Err-writev-clause-done : goal.returns-in-Err-writev-clause-done
returns-in-Err-writev-clause-done g c =
    named (λ (a : Action) (e : CallEnd). IsDone a (record { core = c.args.core.now; vectors = c.args.vec.now; memory = c.args.mem.now.memory; brk = c.args.brk.now; left = g.I.Source.left c.args.input.now; output = g.O.Sink.held c.args.output.now; errors = g.E.Sink.held c.args.errors.now }) (record { core = c.args.core.now; vectors = c.args.vec.now; memory = c.writev.new.mem.memory; brk = c.args.brk.now; left = (g.I.Source.left c.args.input.now); output = (g.O.Sink.held c.writev.new.output); errors = (g.E.Sink.held c.writev.new.errors) }) (c.args.input.now ≡ c.args.input.now) (c.writev.new.output ≡ c.args.output.now) (c.writev.new.errors ≡ c.args.errors.now) e) c.args.core.now c.args.vec.now c.args.mem.now.memory c.args.brk.now c.args.name Writev c.in-Err-writev.end c.in-Err-writev.end c.in-Writev.is refl
    (done_unwritten c.args.core.now c.args.vec.now c.args.mem.now.memory c.args.brk.now (g.I.Source.left c.args.input.now) (g.O.Sink.held c.args.output.now) (g.E.Sink.held c.args.errors.now) (c.args.input.now ≡ c.args.input.now) (c.writev.new.output ≡ c.args.output.now) (c.writev.new.errors ≡ c.args.errors.now) c.writev.new.mem.memory (g.I.Source.left c.args.input.now) (g.O.Sink.held c.writev.new.output) (g.E.Sink.held c.writev.new.errors) c.requires.sound _ c.in-Err-writev.end (c.in-Err-writev.ensures.written c.args.vec.now c.args.brk.now) (ap (λ (m : MarkedMemory). m.memory) c.in-Err-writev.ensures.unchanged) (λ e. ap g.O.Sink.held e) (λ e. ap g.E.Sink.held e) refl)

pub returns-in-Ok-prctl-clause-done : goal.returns-in-Ok-prctl-clause-done
returns-in-Ok-prctl-clause-done g c =
    let core = c.args.core.now in let v = c.args.vec.now in let m = c.args.mem.now.memory in let brk = c.args.brk.now in
    let left = g.I.Source.left c.args.input.now in let output = g.O.Sink.held c.args.output.now in let errors = g.E.Sink.held c.args.errors.now in
    let si = c.args.input.now ≡ c.args.input.now in let so = c.args.output.now ≡ c.args.output.now in let se = c.args.errors.now ≡ c.args.errors.now in
    let new : Around = record { core = c.set_length.new.core; vectors = c.set_length.new.vec; memory = m; brk = brk; left = left; output = output; errors = errors } in
    let old : Around = record { core = core; vectors = v; memory = m; brk = brk; left = left; output = output; errors = errors } in
    named (λ (a : Action) (e : CallEnd). IsDone a old new si so se e) core v m brk c.args.name Prctl c.set_length.result Returned c.in-Prctl.is c.set_length.ensures.end
    (subst (λ (a : Action). IsDone a old new si so se Returned) (sym (c.in-Ok-prctl.ensures.set m brk))
    (done_length core v m brk left output errors si so se c.set_length.new.core c.set_length.new.vec m brk left output errors c.requires.sound refl refl refl refl refl refl
    c.in-Ok-prctl.length c.set_length.ensures.vectors c.set_length.ensures.core refl refl))

pub returns-in-Err-prctl-clause-done : goal.returns-in-Err-prctl-clause-done
returns-in-Err-prctl-clause-done g c =
    let core = c.args.core.now in let v = c.args.vec.now in let m = c.args.mem.now.memory in let brk = c.args.brk.now in
    let left = g.I.Source.left c.args.input.now in let output = g.O.Sink.held c.args.output.now in let errors = g.E.Sink.held c.args.errors.now in
    let si = c.args.input.now ≡ c.args.input.now in let so = c.args.output.now ≡ c.args.output.now in let se = c.args.errors.now ≡ c.args.errors.now in
    let new : Around = record { core = c.answer-in-Err-prctl.new.core; vectors = c.answer-in-Err-prctl.new.vec; memory = m; brk = brk; left = left; output = output; errors = errors } in
    let old : Around = record { core = core; vectors = v; memory = m; brk = brk; left = left; output = output; errors = errors } in
    named (λ (a : Action) (e : CallEnd). IsDone a old new si so se e) core v m brk c.args.name Prctl c.answer-in-Err-prctl.result Returned c.in-Prctl.is c.answer-in-Err-prctl.ensures.end
    (done_replied core v m brk left output errors si so se c.answer-in-Err-prctl.new.core c.answer-in-Err-prctl.new.vec m brk left output errors c.requires.sound refl refl refl refl refl refl
    c.answer-in-Err-prctl.ensures.vectors _ c.in-Err-prctl.reply (c.in-Err-prctl.ensures.replied m brk) refl refl c.answer-in-Err-prctl.ensures.core)

pub returns-in_default-clause-done : goal.returns-in_default-clause-done
returns-in_default-clause-done g c =
    named (λ (a : Action) (e : CallEnd). IsDone a (record { core = c.args.core.now; vectors = c.args.vec.now; memory = c.args.mem.now.memory; brk = c.args.brk.now; left = g.I.Source.left c.args.input.now; output = g.O.Sink.held c.args.output.now; errors = g.E.Sink.held c.args.errors.now }) (record { core = c.answer-in_default.new.core; vectors = c.answer-in_default.new.vec; memory = c.make_still-reply.new.mem.memory; brk = c.make_still-reply.new.brk; left = g.I.Source.left c.args.input.now; output = g.O.Sink.held c.args.output.now; errors = g.E.Sink.held c.args.errors.now }) (c.args.input.now ≡ c.args.input.now) (c.args.output.now ≡ c.args.output.now) (c.args.errors.now ≡ c.args.errors.now) e) c.args.core.now c.args.vec.now c.args.mem.now.memory c.args.brk.now c.args.name c.args.name c.answer-in_default.result Returned refl c.answer-in_default.ensures.end
    (done_still c.args.core.now c.args.vec.now c.args.mem.now.memory c.args.brk.now (g.I.Source.left c.args.input.now) (g.O.Sink.held c.args.output.now) (g.E.Sink.held c.args.errors.now) (c.args.input.now ≡ c.args.input.now) (c.args.output.now ≡ c.args.output.now) (c.args.errors.now ≡ c.args.errors.now) c.answer-in_default.new.core c.answer-in_default.new.vec c.make_still-reply.new.mem.memory c.make_still-reply.new.brk (g.I.Source.left c.args.input.now) (g.O.Sink.held c.args.output.now) (g.E.Sink.held c.args.errors.now) c.make_still-reply.ensures.sound
    refl refl refl refl refl refl c.answer-in_default.ensures.vectors _ c.make_still-reply.result (c.make_still-reply.ensures.done c.args.vec.now) c.answer-in_default.ensures.core)

pub returns-in-Ok-clause-accounted : goal.returns-in-Ok-clause-accounted
returns-in-Ok-clause-accounted g c =
    accounted c.args.core.now c.args.mem.now.memory c.read.new.mem.memory (g.I.Source.faults c.args.input.now) (g.I.Source.faults c.read.new.input) (g.O.Sink.faults c.args.output.now) (g.O.Sink.faults c.args.output.now) (g.E.Sink.faults c.args.errors.now)
    (g.E.Sink.faults c.args.errors.now) c.answer.result (ap is_fault c.answer.ensures.end) c.in-Ok.ensures.cause.kept refl refl

pub returns-in-Err-clause-accounted : goal.returns-in-Err-clause-accounted
returns-in-Err-clause-accounted g c =
    let e = c.in-Err.ensures in
    let number = subst (λ (n : CallName). HasNumber n (number_of_call c.args.core.now)) c.in-Read.is c.requires.number in
    accounted_read c.args.core.now c.args.mem.now.memory c.read.new.mem.memory (g.I.Source.faults c.args.input.now) (g.I.Source.faults c.read.new.input) (g.O.Sink.faults c.args.output.now) (g.O.Sink.faults c.args.output.now) (g.E.Sink.faults c.args.errors.now)
    (g.E.Sink.faults c.args.errors.now) (record { call = inl number; file = e.file }) e.cause.later e.cause.failed refl refl

pub returns-in-Ok-readv-clause-accounted : goal.returns-in-Ok-readv-clause-accounted
returns-in-Ok-readv-clause-accounted g c =
    accounted c.args.core.now c.args.mem.now.memory c.readv.new.mem.memory (g.I.Source.faults c.args.input.now) (g.I.Source.faults c.readv.new.input) (g.O.Sink.faults c.args.output.now) (g.O.Sink.faults c.args.output.now) (g.E.Sink.faults c.args.errors.now)
    (g.E.Sink.faults c.args.errors.now) c.answer-in-Ok-readv.result (ap is_fault c.answer-in-Ok-readv.ensures.end) c.in-Ok-readv.ensures.cause.kept refl refl

pub returns-in-Err-readv-clause-accounted : goal.returns-in-Err-readv-clause-accounted
returns-in-Err-readv-clause-accounted g c =
    let e = c.in-Err-readv.ensures in
    let number = subst (λ (n : CallName). HasNumber n (number_of_call c.args.core.now)) c.in-Readv.is c.requires.number in
    accounted_read c.args.core.now c.args.mem.now.memory c.readv.new.mem.memory (g.I.Source.faults c.args.input.now) (g.I.Source.faults c.readv.new.input) (g.O.Sink.faults c.args.output.now) (g.O.Sink.faults c.args.output.now) (g.E.Sink.faults c.args.errors.now)
    (g.E.Sink.faults c.args.errors.now) (record { call = inr number; file = e.file }) e.cause.later e.cause.failed refl refl

pub returns-in-Ok-write-clause-accounted : goal.returns-in-Ok-write-clause-accounted
returns-in-Ok-write-clause-accounted g c =
    let e = c.in-Ok-write.ensures in
    accounted c.args.core.now c.args.mem.now.memory c.write.new.mem.memory (g.I.Source.faults c.args.input.now) (g.I.Source.faults c.args.input.now) (g.O.Sink.faults c.args.output.now) (g.O.Sink.faults c.write.new.output) (g.E.Sink.faults c.args.errors.now)
    (g.E.Sink.faults c.write.new.errors) c.answer-in-Ok-write.result (ap is_fault c.answer-in-Ok-write.ensures.end) refl
    (none_caused c.in-Ok-write.reply WriteFault _ _ e.write_cause) (none_caused c.in-Ok-write.reply ErrorsFault _ _ e.errors_cause)

pub returns-in-Err-write-clause-accounted : goal.returns-in-Err-write-clause-accounted
returns-in-Err-write-clause-accounted g c =
    let e = c.in-Err-write.ensures in
    let number = subst (λ (n : CallName). HasNumber n (number_of_call c.args.core.now)) c.in-Write.is c.requires.number in
    accounted_put c.args.core.now c.args.mem.now.memory c.write.new.mem.memory (g.I.Source.faults c.args.input.now) (g.I.Source.faults c.args.input.now) (g.O.Sink.faults c.args.output.now) (g.O.Sink.faults c.write.new.output) (g.E.Sink.faults c.args.errors.now)
    (g.E.Sink.faults c.write.new.errors) c.in-Err-write.end (inl number) e.file e.sink (ap (λ (m : MarkedMemory). m.memory) e.unchanged) refl e.write_cause e.errors_cause

pub returns-in-Ok-writev-clause-accounted : goal.returns-in-Ok-writev-clause-accounted
returns-in-Ok-writev-clause-accounted g c =
    let e = c.in-Ok-writev.ensures in
    accounted c.args.core.now c.args.mem.now.memory c.writev.new.mem.memory (g.I.Source.faults c.args.input.now) (g.I.Source.faults c.args.input.now) (g.O.Sink.faults c.args.output.now) (g.O.Sink.faults c.writev.new.output) (g.E.Sink.faults c.args.errors.now)
    (g.E.Sink.faults c.writev.new.errors) c.answer-in-Ok-writev.result (ap is_fault c.answer-in-Ok-writev.ensures.end) refl
    (none_caused c.in-Ok-writev.reply WriteFault _ _ e.write_cause) (none_caused c.in-Ok-writev.reply ErrorsFault _ _ e.errors_cause)

pub returns-in-Err-writev-clause-accounted : goal.returns-in-Err-writev-clause-accounted
returns-in-Err-writev-clause-accounted g c =
    let e = c.in-Err-writev.ensures in
    let number = subst (λ (n : CallName). HasNumber n (number_of_call c.args.core.now)) c.in-Writev.is c.requires.number in
    accounted_put c.args.core.now c.args.mem.now.memory c.writev.new.mem.memory (g.I.Source.faults c.args.input.now) (g.I.Source.faults c.args.input.now) (g.O.Sink.faults c.args.output.now) (g.O.Sink.faults c.writev.new.output) (g.E.Sink.faults c.args.errors.now)
    (g.E.Sink.faults c.writev.new.errors) c.in-Err-writev.end (inr number) e.file e.sink (ap (λ (m : MarkedMemory). m.memory) e.unchanged) refl e.write_cause e.errors_cause

pub returns-in-Ok-prctl-clause-accounted : goal.returns-in-Ok-prctl-clause-accounted
returns-in-Ok-prctl-clause-accounted g c =
    accounted c.args.core.now c.args.mem.now.memory c.args.mem.now.memory (g.I.Source.faults c.args.input.now) (g.I.Source.faults c.args.input.now) (g.O.Sink.faults c.args.output.now) (g.O.Sink.faults c.args.output.now) (g.E.Sink.faults c.args.errors.now)
    (g.E.Sink.faults c.args.errors.now) c.set_length.result (ap is_fault c.set_length.ensures.end) refl refl refl

pub returns-in-Err-prctl-clause-accounted : goal.returns-in-Err-prctl-clause-accounted
returns-in-Err-prctl-clause-accounted g c =
    accounted c.args.core.now c.args.mem.now.memory c.args.mem.now.memory (g.I.Source.faults c.args.input.now) (g.I.Source.faults c.args.input.now) (g.O.Sink.faults c.args.output.now) (g.O.Sink.faults c.args.output.now) (g.E.Sink.faults c.args.errors.now)
    (g.E.Sink.faults c.args.errors.now) c.answer-in-Err-prctl.result (ap is_fault c.answer-in-Err-prctl.ensures.end) refl refl refl

pub returns-in_default-clause-accounted : goal.returns-in_default-clause-accounted
returns-in_default-clause-accounted g c =
    accounted c.args.core.now c.args.mem.now.memory c.make_still-reply.new.mem.memory (g.I.Source.faults c.args.input.now) (g.I.Source.faults c.args.input.now) (g.O.Sink.faults c.args.output.now) (g.O.Sink.faults c.args.output.now) (g.E.Sink.faults c.args.errors.now)
    (g.E.Sink.faults c.args.errors.now) c.answer-in_default.result (ap is_fault c.answer-in_default.ensures.end) refl refl refl
