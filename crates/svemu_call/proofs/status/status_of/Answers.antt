use Rattle.std.proofs.Common.{map, string_bytes}
use Rattle.std.proofs.lemmas.Option.{IfSome_then}
use Rattle.command_model.specs.CommandLine.{line}
use Rattle.command_lines.specs.Outcome.{result_of}
use Rattle.svemu_call.proofs.Statuses.{completes_with, status_of_file, status_of_read, status_of_write, status_of_errors, status_of_refused, status_of_line}
use Rattle.svemu_call.proofs.status.status_of.Goals as goal

pub returns-clause-complete : goal.returns-clause-complete
returns-clause-complete g c =
    let ws = map string_bytes c.args.words.now in
    IfSome_then (g.F.Images.named c.args.files.now) c.svemu.ensures.complete
    (λ files ends bytes of qf qi qo qe. completes_with (result_of ws files bytes) c.svemu.result _ c.status.ensures (ends bytes of qf qi qo qe))

pub returns-clause-file : goal.returns-clause-file
returns-clause-file g c = λ rose. status_of_file _ _ c.svemu.result _ c.status.ensures rose c.svemu.ensures.file_kept

pub returns-clause-read : goal.returns-clause-read
returns-clause-read g c = λ rose. status_of_read _ _ c.svemu.result _ c.status.ensures rose c.svemu.ensures.read_cause.kept

pub returns-clause-write : goal.returns-clause-write
returns-clause-write g c = λ rose. status_of_write _ _ c.svemu.result _ c.status.ensures rose c.svemu.ensures.write_cause.kept

pub returns-clause-errors : goal.returns-clause-errors
returns-clause-errors g c = λ rose. status_of_errors _ _ c.svemu.result _ c.status.ensures rose c.svemu.ensures.errors_cause.kept

pub returns-clause-refused : goal.returns-clause-refused
returns-clause-refused g c = status_of_refused (line (map string_bytes c.args.words.now)) c.svemu.result _ c.status.ensures c.svemu.ensures.refused

pub returns-clause-kind : goal.returns-clause-kind
returns-clause-kind g c = status_of_line (line (map string_bytes c.args.words.now)) c.svemu.result _ c.status.ensures c.svemu.ensures.kind
