use Rattle.std.proofs.Common.{◌≡◌, Ok, Err, refl, true, sym, subst}
use Rattle.io_gate.specs.declared.images.ImagesError.TheVariants as images
use Rattle.command_lines.specs.declared.ending.Ending.TheVariants.{TooLong, FileFault, OutOfMemory}
use Rattle.commands.proofs.NamedFiles.{ends_long, found_is_there, gives_line, gives_nothing, is_there, told_too_long, told_wanting}
use Rattle.commands.proofs.MayEnd.{kind_put}
use Rattle.command_lines.specs.Outcome.{file_limit}
use Rattle.commands.specs.Lines.{stops_any}
use Rattle.command_lines.specs.declared.ending.Ending.{Ending}
use Rattle.command_lines.specs.declared.ending.Ending.TheVariants as ends
use Rattle.commands.proofs.Causing.{ended_cause, ended_other, err_cause, no_cause}
use Rattle.commands.proofs.files.file_bytes.Goals as goal

pub returns-in-Err-Failed-clause-content : goal.returns-in-Err-Failed-clause-content
returns-in-Err-Failed-clause-content g c = gives_nothing (g.F.Images.named c.args.files.now) c.args.name.now FileFault (g.E.Sink.held c.args.errors.now) refl

pub returns-in-Err-Missing-clause-content : goal.returns-in-Err-Missing-clause-content
returns-in-Err-Missing-clause-content g c = gives_nothing (g.F.Images.named c.args.files.now) c.args.name.now FileFault (g.E.Sink.held c.args.errors.now) refl

pub returns-in-Err-TooLong-clause-content : goal.returns-in-Err-TooLong-clause-content
returns-in-Err-TooLong-clause-content g c =
    gives_line (g.F.Images.named c.args.files.now) c.args.name.now c.ending_after_line.result _ _ c.put_too_long.result
    (told_too_long (g.F.Images.named c.args.files.now) c.args.name.now c.read_whole.result c.in-Err-TooLong.field-0 c.in-Err-TooLong.is c.in-Err-TooLong.field-0-is c.read_whole.ensures.content)
    c.ending_after_line.ensures c.put_too_long.ensures.bytes

pub returns-in-Err-TooLong-clause-unread : goal.returns-in-Err-TooLong-clause-unread
returns-in-Err-TooLong-clause-unread g c =
    ends_long (g.F.Images.named c.args.files.now) c.args.name.now c.ending_after_line.result c.put_too_long.result
    (told_too_long (g.F.Images.named c.args.files.now) c.args.name.now c.read_whole.result c.in-Err-TooLong.field-0 c.in-Err-TooLong.is c.in-Err-TooLong.field-0-is c.read_whole.ensures.content)
    c.ending_after_line.ensures

pub returns-in-Err-OutOfMemory-clause-content : goal.returns-in-Err-OutOfMemory-clause-content
returns-in-Err-OutOfMemory-clause-content g c = gives_nothing (g.F.Images.named c.args.files.now) c.args.name.now OutOfMemory (g.E.Sink.held c.args.errors.now) refl

-- a file that is there isn't missing
pub returns-in-Ok-clause-missing : goal.returns-in-Ok-clause-missing
returns-in-Ok-clause-missing g c = λ missing. absurd (found_is_there (g.F.Images.named c.args.files.now) c.args.name.now (Ok c.in-Ok.bytes.items) (λ (e : Ok c.in-Ok.bytes.items ≡ Err images.Missing). cc)
    c.in-Ok.ensures.content missing)

pub returns-in-Err-TooLong-clause-missing : goal.returns-in-Err-TooLong-clause-missing
returns-in-Err-TooLong-clause-missing g c = λ missing. absurd (found_is_there (g.F.Images.named c.args.files.now) c.args.name.now (Err images.TooLong) (λ (e : Err images.TooLong ≡ Err images.Missing). cc)
    (told_too_long (g.F.Images.named c.args.files.now) c.args.name.now c.read_whole.result c.in-Err-TooLong.field-0 c.in-Err-TooLong.is c.in-Err-TooLong.field-0-is c.read_whole.ensures.content) missing)

pub returns-in-Err-OutOfMemory-clause-missing : goal.returns-in-Err-OutOfMemory-clause-missing
returns-in-Err-OutOfMemory-clause-missing g c = λ missing. absurd (is_there (g.F.Images.named c.args.files.now) c.args.name.now
    (told_wanting (g.F.Images.named c.args.files.now) c.args.name.now c.read_whole.result c.in-Err-OutOfMemory.field-0 c.in-Err-OutOfMemory.is c.in-Err-OutOfMemory.field-0-is c.read_whole.ensures.content) missing)

pub returns-in-Err-TooLong-clause-kind : goal.returns-in-Err-TooLong-clause-kind
returns-in-Err-TooLong-clause-kind g c = subst (λ (x : Ending). stops_any x ≡ true) (sym c.ending_after_line.ensures) (kind_put stops_any c.put_too_long.result (TooLong file_limit) refl refl)

pub returns-in-Err-TooLong-clause-errors_cause : goal.returns-in-Err-TooLong-clause-errors_cause
returns-in-Err-TooLong-clause-errors_cause g c = err_cause _ _ _ _ _ refl (ended_cause _ _ c.put_too_long.result (ends.TooLong file_limit) c.ending_after_line.result c.ending_after_line.ensures (λ t. cc) c.put_too_long.ensures.cause)

pub returns-in-Err-TooLong-clause-file_cause : goal.returns-in-Err-TooLong-clause-file_cause
returns-in-Err-TooLong-clause-file_cause g c = λ fault. absurd (ended_other c.put_too_long.result (ends.TooLong file_limit) c.ending_after_line.result ends.FileFault c.ending_after_line.ensures (λ t. cc) (λ t. cc) (let t : c.ending_after_line.result ≡ ends.FileFault = cc in t))

pub returns-in-Err-TooLong-clause-file_still : goal.returns-in-Err-TooLong-clause-file_still
returns-in-Err-TooLong-clause-file_still g c = λ fault. absurd (ended_other c.put_too_long.result (ends.TooLong file_limit) c.ending_after_line.result ends.FileFault c.ending_after_line.ensures (λ t. cc) (λ t. cc) (let t : c.ending_after_line.result ≡ ends.FileFault = cc in t))

pub returns-in-Err-TooLong-clause-memory_still : goal.returns-in-Err-TooLong-clause-memory_still
returns-in-Err-TooLong-clause-memory_still g c = λ wanting. absurd (ended_other c.put_too_long.result (ends.TooLong file_limit) c.ending_after_line.result ends.OutOfMemory c.ending_after_line.ensures (λ t. cc) (λ t. cc) (let t : c.ending_after_line.result ≡ ends.OutOfMemory = cc in t))

pub returns-in-Err-Failed-clause-errors_cause : goal.returns-in-Err-Failed-clause-errors_cause
returns-in-Err-Failed-clause-errors_cause g c = no_cause _ (λ e. cc)

pub returns-in-Err-Missing-clause-errors_cause : goal.returns-in-Err-Missing-clause-errors_cause
returns-in-Err-Missing-clause-errors_cause g c = no_cause _ (λ e. cc)

pub returns-in-Err-OutOfMemory-clause-errors_cause : goal.returns-in-Err-OutOfMemory-clause-errors_cause
returns-in-Err-OutOfMemory-clause-errors_cause g c = no_cause _ (λ e. cc)
