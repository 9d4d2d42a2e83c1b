use Rattle.std.proofs.Common.{ℕ, List, Option, Err, map, string_bytes, sym, ap}
use Rattle.std.proofs.Common.{subst, ◌∙◌, IfSome}
use Rattle.command_lines.specs.Outcome.{Outcome, Files}
use Rattle.command_lines.specs.declared.ending.Ending.{Ending}
use Rattle.commands.specs.declared.program.Program.{Program}
use Rattle.tool_run.specs.Seconds.{of_second, StopsTexts}
use Rattle.commands.specs.Meets.{now, Meets}
use Rattle.tool_run.specs.Stops.{HasStopped, IsTold}
use Rattle.tool_run.proofs.Reading.{found_file, unread_file}
use Rattle.tool_run.proofs.Runs.{met_line}
use Rattle.tool_run.proofs.Seconds.{first_cause, second_cause, stopped_lines}
use Rattle.tool_run.proofs.Still.{still_caused, still_exit, still_line, untouched}
use Rattle.tool_run.proofs.Stopping.{stopped_file}
use Rattle.tool_run.proofs.image.run_files.Goals as goal

-- what comes of the bytes of the program's file
abbrev next : Option ℕ → List (List ℕ) → Program → Files → List ℕ → List ℕ → Option Outcome
next second words p files bytes i = of_second second bytes words p files i

pub returns-in-Ok-clause-outcome : goal.returns-in-Ok-clause-outcome
returns-in-Ok-clause-outcome g c =
    let ws = map string_bytes c.args.words.now in
    met_line ws c.args.program.now c.args.second (g.F.Images.named c.args.files.now) c.run_second.result.ending _ _
    (found_file (next c.args.second ws c.args.program.now) (g.F.Images.named c.args.files.now) ws
    c.args.program.now.file c.word-name.result.now c.deref.result.now c.in-Ok.bytes.items _ _
    c.run_second.result.ending c.word-name.ensures c.deref.ensures.value c.in-Ok.ensures.content
    (subst (λ (named : Option Files). IfSome named (λ files. Meets (of_second c.args.second c.deref.result.now ws
    c.args.program.now files) c.run_second.result.ending (now (g.I.Source.left c.args.input.now) (g.O.Sink.held
    c.args.output.now) (g.E.Sink.held c.args.errors.now)) (now (g.I.Source.left c.run_second.new.input) (g.O.Sink.held
    c.run_second.new.output) (g.E.Sink.held c.run_second.new.errors)))) c.whole_bytes.ensures.told
    c.run_second.ensures.outcome))

pub returns-in-Ok-clause-stopped : goal.returns-in-Ok-clause-stopped
returns-in-Ok-clause-stopped g c =
    let ws = map string_bytes c.args.words.now in
    let P = IsTold (string_bytes c.run_second.result.said) c.args.wanted c.run_second.result.report_failed
    (g.R.Sink.held c.args.registers.now) (g.R.Sink.held c.run_second.new.registers) in
    stopped_lines P ws c.args.program.now c.args.second (g.F.Images.named c.args.files.now) (g.I.Source.left
    c.args.input.now) c.run_second.result.ending
    (stopped_file ws c.args.program.now.file (g.F.Images.named c.args.files.now) c.word-name.result.now
    c.deref.result.now c.in-Ok.bytes.items (g.I.Source.left c.args.input.now)
    (λ files i bytes. StopsTexts P c.args.second bytes ws c.args.program.now files i) c.run_second.result.ending
    c.word-name.ensures c.deref.ensures.value c.in-Ok.ensures.content
    (subst (λ (named : Option Files). IfSome named (λ files. IfSome (g.I.Source.left c.args.input.now) (λ i. HasStopped
    c.run_second.result.ending → StopsTexts P c.args.second c.deref.result.now ws c.args.program.now files i)))
    c.whole_bytes.ensures.told c.run_second.ensures.stopped))

pub returns-in-Ok-clause-file_cause : goal.returns-in-Ok-clause-file_cause
returns-in-Ok-clause-file_cause g c = λ fault.
    second_cause (map string_bytes c.args.words.now) c.args.program.now c.args.second (g.F.Images.named
    c.args.files.now) c.word-name.result.now c.in-Ok.bytes.items _ _ _ _ c.word-name.ensures c.in-Ok.ensures.content
    c.whole_bytes.ensures.told c.whole_bytes.ensures.files_later (c.run_second.ensures.file_cause fault)

pub returns-in-Err-clause-outcome : goal.returns-in-Err-clause-outcome
returns-in-Err-clause-outcome g c =
    let ws = map string_bytes c.args.words.now in
    met_line ws c.args.program.now c.args.second (g.F.Images.named c.args.files.now) c.unread.result.ending _ _
    (unread_file (next c.args.second ws c.args.program.now) (g.F.Images.named c.args.files.now) ws
    c.args.program.now.file c.word-name.result.now c.in-Err.ending c.unread.result.ending _ _ _ c.unread.ensures.ending
    c.word-name.ensures c.in-Err.ensures.content)

pub returns-in-Err-clause-exit : goal.returns-in-Err-clause-exit
returns-in-Err-clause-exit g c = still_exit c.in-Err.ending c.unread.result.ending _ c.in-Err.ensures.still
    c.unread.ensures.ending

pub returns-in-Err-clause-stopped : goal.returns-in-Err-clause-stopped
returns-in-Err-clause-stopped g c = still_line (g.F.Images.named c.args.files.now) (g.I.Source.left c.args.input.now) _
    c.in-Err.ending c.unread.result.ending c.in-Err.ensures.still c.unread.ensures.ending

pub returns-in-Err-clause-caused : goal.returns-in-Err-clause-caused
returns-in-Err-clause-caused g c = still_caused c.in-Err.ending c.unread.result.ending _ _ c.in-Err.ensures.still
    c.unread.ensures.ending c.unread.ensures.report

pub returns-in-Err-clause-file_cause : goal.returns-in-Err-clause-file_cause
returns-in-Err-clause-file_cause g c = λ fault.
    first_cause (map string_bytes c.args.words.now) c.args.program.now c.args.second (g.F.Images.named
    c.args.files.now) c.word-name.result.now _ _ c.word-name.ensures
    (c.in-Err.ensures.file_cause (ap (λ (x : Ending). Err x) (sym c.unread.ensures.ending ∙ fault)))

pub returns-in-Err-clause-kept : goal.returns-in-Err-clause-kept
returns-in-Err-clause-kept g c = untouched c.args.wanted c.unread.result.ending c.args.registers.now
