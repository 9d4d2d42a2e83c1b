use Rattle.std.proofs.Common.{map, string_bytes}
use Rattle.command_model.specs.CommandLine.{line}
use Rattle.command_lines.specs.Outcome.{result_of}
use Rattle.commands.specs.Lines.{IsOutcome}
use Rattle.svemu_call.proofs.Complete.{ends_for, settled_of, output_for, errors_for, input_of, complete_command}
use Rattle.svemu_call.proofs.top.svemu.Goals as goal

-- ---- what the command ensures in the same words

pub returns-clause-kind : goal.returns-clause-kind
returns-clause-kind g c = c.command.ensures.kind

pub returns-clause-file_cause : goal.returns-clause-file_cause
returns-clause-file_cause g c = c.command.ensures.file_cause

pub returns-clause-file_kept : goal.returns-clause-file_kept
returns-clause-file_kept g c = c.command.ensures.file_kept

pub returns-clause-missing : goal.returns-clause-missing
returns-clause-missing g c = c.command.ensures.missing

pub returns-clause-missing_first : goal.returns-clause-missing_first
returns-clause-missing_first g c = c.command.ensures.missing_first

pub returns-clause-file_first : goal.returns-clause-file_first
returns-clause-file_first g c = c.command.ensures.file_first

pub returns-clause-files_later : goal.returns-clause-files_later
returns-clause-files_later g c = c.command.ensures.files_later

pub returns-clause-no_file : goal.returns-clause-no_file
returns-clause-no_file g c = c.command.ensures.no_file

pub returns-clause-read_cause : goal.returns-clause-read_cause
returns-clause-read_cause g c = c.command.ensures.read_cause

pub returns-clause-write_cause : goal.returns-clause-write_cause
returns-clause-write_cause g c = c.command.ensures.write_cause

pub returns-clause-errors_cause : goal.returns-clause-errors_cause
returns-clause-errors_cause g c = c.command.ensures.errors_cause

pub returns-clause-memory_first : goal.returns-clause-memory_first
returns-clause-memory_first g c = c.command.ensures.memory_first

pub returns-clause-memory_unwritten : goal.returns-clause-memory_unwritten
returns-clause-memory_unwritten g c = c.command.ensures.memory_unwritten

pub returns-clause-read_unwritten : goal.returns-clause-read_unwritten
returns-clause-read_unwritten g c = c.command.ensures.read_unwritten

pub returns-clause-whole : goal.returns-clause-whole
returns-clause-whole g c = c.command.ensures.whole

pub returns-clause-no_input : goal.returns-clause-no_input
returns-clause-no_input g c = c.command.ensures.no_input

pub returns-clause-no_errors : goal.returns-clause-no_errors
returns-clause-no_errors g c = c.command.ensures.no_errors

pub returns-clause-refused : goal.returns-clause-refused
returns-clause-refused g c = c.command.ensures.refused

pub returns-clause-refused_output : goal.returns-clause-refused_output
returns-clause-refused_output g c = c.command.ensures.refused_output

pub returns-clause-refused_errors : goal.returns-clause-refused_errors
returns-clause-refused_errors g c = c.command.ensures.refused_errors

-- ---- what follows from it where the files tell their bytes

pub returns-clause-ending : goal.returns-clause-ending
returns-clause-ending g c =
    let ws = map string_bytes c.args.words.now in
    ends_for ws c.command.result _ _ _ _ (g.F.Images.named c.args.files.now) (line ws) (g.I.Source.left c.args.input.now) _ c.command.ensures.outcome c.command.ensures.without_input

pub returns-clause-settled : goal.returns-clause-settled
returns-clause-settled g c =
    let ws = map string_bytes c.args.words.now in
    settled_of ws c.command.result _ _ _ _ (g.F.Images.named c.args.files.now) (line ws) (g.I.Source.left c.args.input.now) _ c.command.ensures.outcome

pub returns-clause-output : goal.returns-clause-output
returns-clause-output g c =
    let ws = map string_bytes c.args.words.now in
    output_for ws c.command.result _ _ _ _ (g.F.Images.named c.args.files.now) (line ws) (g.I.Source.left c.args.input.now) _ c.command.ensures.outcome c.command.ensures.without_input

pub returns-clause-errors : goal.returns-clause-errors
returns-clause-errors g c =
    let ws = map string_bytes c.args.words.now in
    errors_for ws c.command.result _ _ _ _ (g.F.Images.named c.args.files.now) (line ws) (g.I.Source.left c.args.input.now) _ c.command.ensures.outcome c.command.ensures.without_input

pub returns-clause-input : goal.returns-clause-input
returns-clause-input g c =
    let ws = map string_bytes c.args.words.now in
    input_of ws c.command.result _ _ _ _ (g.F.Images.named c.args.files.now) (line ws) (g.I.Source.left c.args.input.now) _ c.command.ensures.outcome

pub returns-clause-complete : goal.returns-clause-complete
returns-clause-complete g c =
    let ws = map string_bytes c.args.words.now in
    complete_command ws (g.F.Images.named c.args.files.now) _ _ _ _ _ _ _ _ c.command.result (λ files bytes. IsOutcome (line ws) (g.I.Source.left c.args.input.now) (result_of ws files bytes) bytes)
    (ends_for ws c.command.result _ _ _ _ (g.F.Images.named c.args.files.now) (line ws) (g.I.Source.left c.args.input.now) _ c.command.ensures.outcome c.command.ensures.without_input)
    c.command.ensures.file_cause c.command.ensures.read_cause.rose c.command.ensures.write_cause.rose c.command.ensures.errors_cause.rose
