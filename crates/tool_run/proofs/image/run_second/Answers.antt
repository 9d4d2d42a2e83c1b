use Rattle.std.proofs.Common.{Err, map, string_bytes, sym, ap, ◌∙◌}
use Rattle.command_lines.specs.declared.ending.Ending.{Ending}
use Rattle.tool_run.specs.Stops.{IsTold}
use Rattle.tool_run.proofs.Reading.{unread_file}
use Rattle.tool_run.proofs.Seconds.{met_alone, met_read, met_second, missed_second, next, stopped_alone, stopped_read}
use Rattle.tool_run.proofs.Still.{still_caused, still_exit, still_line, untouched}
use Rattle.tool_run.proofs.image.run_second.Goals as goal

pub returns-in-None-clause-outcome : goal.returns-in-None-clause-outcome
returns-in-None-clause-outcome g c = met_alone (map string_bytes c.args.words.now) c.args.program.now c.args.bytes.now
    (g.F.Images.named c.args.files.now) c.args.second c.run_image.result.ending _ _ c.in-None.is
    c.run_image.ensures.outcome

pub returns-in-None-clause-stopped : goal.returns-in-None-clause-stopped
returns-in-None-clause-stopped g c = stopped_alone (map string_bytes c.args.words.now) c.args.program.now
    c.args.bytes.now (g.F.Images.named c.args.files.now) (IsTold (string_bytes c.run_image.result.said) c.args.wanted
    c.run_image.result.report_failed
    (g.R.Sink.held c.args.registers.now) (g.R.Sink.held c.run_image.new.registers)) c.args.second (g.I.Source.left
    c.args.input.now)
    c.run_image.result.ending c.in-None.is c.run_image.ensures.stopped

pub returns-in-None-clause-file_cause : goal.returns-in-None-clause-file_cause
returns-in-None-clause-file_cause g c = λ fault. absurd (c.run_image.ensures.no_file fault)

pub returns-in-Ok-clause-outcome : goal.returns-in-Ok-clause-outcome
returns-in-Ok-clause-outcome g c =
    met_read (map string_bytes c.args.words.now) c.args.program.now c.args.bytes.now (g.F.Images.named c.args.files.now)
    c.args.second c.in-Some.place c.word-name.result.now c.deref.result.now c.in-Ok.text.items c.in-Some.is
    c.word-name.ensures c.deref.ensures.value c.in-Ok.ensures.content c.run_image-in-Ok.result.ending _ _
    c.run_image-in-Ok.ensures.outcome

pub returns-in-Ok-clause-stopped : goal.returns-in-Ok-clause-stopped
returns-in-Ok-clause-stopped g c =
    stopped_read (map string_bytes c.args.words.now) c.args.program.now c.args.bytes.now (g.F.Images.named
    c.args.files.now) c.args.second c.in-Some.place c.word-name.result.now c.deref.result.now c.in-Ok.text.items
    c.in-Some.is c.word-name.ensures c.deref.ensures.value c.in-Ok.ensures.content
    (IsTold (string_bytes c.run_image-in-Ok.result.said) c.args.wanted c.run_image-in-Ok.result.report_failed
    (g.R.Sink.held c.args.registers.now) (g.R.Sink.held c.run_image-in-Ok.new.registers)) (g.I.Source.left
    c.args.input.now) c.run_image-in-Ok.result.ending c.run_image-in-Ok.ensures.stopped

pub returns-in-Ok-clause-file_cause : goal.returns-in-Ok-clause-file_cause
returns-in-Ok-clause-file_cause g c = λ fault. absurd (c.run_image-in-Ok.ensures.no_file fault)

pub returns-in-Err-clause-outcome : goal.returns-in-Err-clause-outcome
returns-in-Err-clause-outcome g c =
    let ws = map string_bytes c.args.words.now in
    let told = g.F.Images.named c.args.files.now in
    met_second ws c.args.program.now c.args.bytes.now told c.args.second c.in-Some.place c.unread.result.ending _ _
    c.in-Some.is
    (unread_file (next ws c.args.program.now c.args.bytes.now told c.args.second) told ws c.in-Some.place
    c.word-name.result.now c.in-Err.ending c.unread.result.ending _ _ _ c.unread.ensures.ending c.word-name.ensures
    c.in-Err.ensures.content)

pub returns-in-Err-clause-file_cause : goal.returns-in-Err-clause-file_cause
returns-in-Err-clause-file_cause g c = λ fault.
    missed_second (map string_bytes c.args.words.now) (g.F.Images.named c.args.files.now) c.args.second c.in-Some.place
    c.word-name.result.now _ _ c.in-Some.is c.word-name.ensures
    (c.in-Err.ensures.file_cause (ap (λ (x : Ending). Err x) (sym c.unread.ensures.ending ∙ fault)))

pub returns-in-Err-clause-exit : goal.returns-in-Err-clause-exit
returns-in-Err-clause-exit g c = still_exit c.in-Err.ending c.unread.result.ending _ c.in-Err.ensures.still
    c.unread.ensures.ending

pub returns-in-Err-clause-stopped : goal.returns-in-Err-clause-stopped
returns-in-Err-clause-stopped g c = still_line (g.F.Images.named c.args.files.now) (g.I.Source.left c.args.input.now) _
    c.in-Err.ending c.unread.result.ending c.in-Err.ensures.still c.unread.ensures.ending

pub returns-in-Err-clause-caused : goal.returns-in-Err-clause-caused
returns-in-Err-clause-caused g c = still_caused c.in-Err.ending c.unread.result.ending _ _ c.in-Err.ensures.still
    c.unread.ensures.ending c.unread.ensures.report

pub returns-in-Err-clause-kept : goal.returns-in-Err-clause-kept
returns-in-Err-clause-kept g c = untouched c.args.wanted c.unread.result.ending c.args.registers.now
