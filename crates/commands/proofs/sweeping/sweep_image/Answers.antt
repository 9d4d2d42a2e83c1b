use Rattle.std.proofs.Common.{◌≡◌, ℕ, List, [], Some, IfSome, map, string_bytes, refl, sym, subst, arith, true}
use Rattle.std.proofs.lemmas.Grind.{common_steps}
use Rattle.elf_image.specs.Images.{seen_image}
use Rattle.io_gate.specs.declared.whole_source.ReadEnd.TheVariants as reads
use Rattle.command_lines.specs.Outcome.{program_arguments}
use Rattle.command_lines.specs.declared.ending.Ending.{Ending}
use Rattle.command_lines.specs.declared.ending.Ending.TheVariants.{TooLong, ReadFault, OutOfMemory}
use Rattle.command_model.specs.Sweep.{stream_limit}
use Rattle.commands.specs.Lines.{ends_sweep}
use Rattle.commands.proofs.MayEnd.{kind_put, swept_no_read, swept_sweep}
use Rattle.commands.proofs.Sweeps.{accepts_it, lines_over, settles_as, takes_all}
use Rattle.commands.proofs.WholeInputs.{long_meets, read_meets, stops_as, unread_meets}
use Rattle.command_lines.specs.declared.ending.Ending.TheVariants as ends
use Rattle.commands.proofs.Causing.{ended_cause, ended_other, no_cause}
use Rattle.commands.proofs.sweeping.sweep_image.Goals as goal

pub returns-in-Ok-clause-outcome : goal.returns-in-Ok-clause-outcome
returns-in-Ok-clause-outcome g c =
    let given : c.deref.result.now ≡ c.in-Ok.given.items = c.deref.ensures.value in
    read_meets (lines_over c.args.bytes.now (program_arguments (map string_bytes c.args.words.now) c.args.program.now.file c.args.program.now.args) c.args.program.now.budget c.args.program.now.pages (seen_image c.args.image.now))
    (takes_all c.args.bytes.now (program_arguments (map string_bytes c.args.words.now) c.args.program.now.file c.args.program.now.args) c.args.program.now.budget c.args.program.now.pages (seen_image c.args.image.now))
    (settles_as c.args.bytes.now (program_arguments (map string_bytes c.args.words.now) c.args.program.now.file c.args.program.now.args) c.args.program.now.budget c.args.program.now.pages (seen_image c.args.image.now))
    (accepts_it c.args.bytes.now (program_arguments (map string_bytes c.args.words.now) c.args.program.now.file c.args.program.now.args) c.args.program.now.budget c.args.program.now.pages (seen_image c.args.image.now))
    c.deref.result.now (g.I.Source.left c.args.input.now) (g.I.Source.left c.read_all.new.input) (g.O.Sink.held c.args.output.now) _ (g.E.Sink.held c.args.errors.now) _ c.sweep_input.result
    (subst (λ (xs : List ℕ). IfSome (g.I.Source.left c.args.input.now) (λ left. (xs ≡ left) × (g.I.Source.left c.read_all.new.input ≡ Some []))) (sym given) c.in-Ok.ensures.content)
    (grind (arith, common_steps, c.in-Ok.ensures, c.deref.ensures))
    c.sweep_input.ensures.outcome c.sweep_input.ensures.kind

pub returns-in-Err-TooLong-clause-outcome : goal.returns-in-Err-TooLong-clause-outcome
returns-in-Err-TooLong-clause-outcome g c =
    long_meets (lines_over c.args.bytes.now (program_arguments (map string_bytes c.args.words.now) c.args.program.now.file c.args.program.now.args) c.args.program.now.budget c.args.program.now.pages (seen_image c.args.image.now))
    (takes_all c.args.bytes.now (program_arguments (map string_bytes c.args.words.now) c.args.program.now.file c.args.program.now.args) c.args.program.now.budget c.args.program.now.pages (seen_image c.args.image.now))
    (settles_as c.args.bytes.now (program_arguments (map string_bytes c.args.words.now) c.args.program.now.file c.args.program.now.args) c.args.program.now.budget c.args.program.now.pages (seen_image c.args.image.now))
    (accepts_it c.args.bytes.now (program_arguments (map string_bytes c.args.words.now) c.args.program.now.file c.args.program.now.args) c.args.program.now.budget c.args.program.now.pages (seen_image c.args.image.now))
    (g.I.Source.left c.args.input.now) (g.I.Source.left c.read_all.new.input)
    (stops_as _ _ stream_limit c.read_all.result c.in-Err-TooLong.field-0 reads.TooLong c.in-Err-TooLong.is c.in-Err-TooLong.field-0-is c.read_all.ensures.content)
    (g.O.Sink.held c.args.output.now) (g.E.Sink.held c.args.errors.now) _ c.put_too_long.result c.ending_after_line.result c.put_too_long.ensures.bytes c.ending_after_line.ensures

pub returns-in-Err-Failed-clause-outcome : goal.returns-in-Err-Failed-clause-outcome
returns-in-Err-Failed-clause-outcome g c =
    unread_meets (lines_over c.args.bytes.now (program_arguments (map string_bytes c.args.words.now) c.args.program.now.file c.args.program.now.args) c.args.program.now.budget c.args.program.now.pages (seen_image c.args.image.now))
    (takes_all c.args.bytes.now (program_arguments (map string_bytes c.args.words.now) c.args.program.now.file c.args.program.now.args) c.args.program.now.budget c.args.program.now.pages (seen_image c.args.image.now))
    (settles_as c.args.bytes.now (program_arguments (map string_bytes c.args.words.now) c.args.program.now.file c.args.program.now.args) c.args.program.now.budget c.args.program.now.pages (seen_image c.args.image.now))
    (accepts_it c.args.bytes.now (program_arguments (map string_bytes c.args.words.now) c.args.program.now.file c.args.program.now.args) c.args.program.now.budget c.args.program.now.pages (seen_image c.args.image.now))
    (g.I.Source.left c.args.input.now) (g.I.Source.left c.read_all.new.input) (g.O.Sink.held c.args.output.now) (g.E.Sink.held c.args.errors.now) ReadFault
    (stops_as _ _ stream_limit c.read_all.result c.in-Err-Failed.field-0 reads.Failed c.in-Err-Failed.is c.in-Err-Failed.field-0-is c.read_all.ensures.content) refl

pub returns-in-Err-OutOfMemory-clause-outcome : goal.returns-in-Err-OutOfMemory-clause-outcome
returns-in-Err-OutOfMemory-clause-outcome g c =
    unread_meets (lines_over c.args.bytes.now (program_arguments (map string_bytes c.args.words.now) c.args.program.now.file c.args.program.now.args) c.args.program.now.budget c.args.program.now.pages (seen_image c.args.image.now))
    (takes_all c.args.bytes.now (program_arguments (map string_bytes c.args.words.now) c.args.program.now.file c.args.program.now.args) c.args.program.now.budget c.args.program.now.pages (seen_image c.args.image.now))
    (settles_as c.args.bytes.now (program_arguments (map string_bytes c.args.words.now) c.args.program.now.file c.args.program.now.args) c.args.program.now.budget c.args.program.now.pages (seen_image c.args.image.now))
    (accepts_it c.args.bytes.now (program_arguments (map string_bytes c.args.words.now) c.args.program.now.file c.args.program.now.args) c.args.program.now.budget c.args.program.now.pages (seen_image c.args.image.now))
    (g.I.Source.left c.args.input.now) (g.I.Source.left c.read_all.new.input) (g.O.Sink.held c.args.output.now) (g.E.Sink.held c.args.errors.now) OutOfMemory
    (stops_as _ _ stream_limit c.read_all.result c.in-Err-OutOfMemory.field-0 reads.OutOfMemory c.in-Err-OutOfMemory.is c.in-Err-OutOfMemory.field-0-is c.read_all.ensures.content) refl

pub returns-in-Ok-clause-kind : goal.returns-in-Ok-clause-kind
returns-in-Ok-clause-kind g c = swept_sweep c.sweep_input.result c.sweep_input.ensures.kind

pub returns-in-Err-TooLong-clause-kind : goal.returns-in-Err-TooLong-clause-kind
returns-in-Err-TooLong-clause-kind g c = subst (λ (x : Ending). ends_sweep x ≡ true) (sym c.ending_after_line.ensures) (kind_put ends_sweep c.put_too_long.result (TooLong stream_limit) refl refl)

pub returns-in-Err-TooLong-clause-write_cause : goal.returns-in-Err-TooLong-clause-write_cause
returns-in-Err-TooLong-clause-write_cause g c = no_cause _ (ended_other c.put_too_long.result (ends.TooLong stream_limit) c.ending_after_line.result ends.WriteFault c.ending_after_line.ensures (λ e. cc) (λ e. cc))

pub returns-in-Err-TooLong-clause-errors_cause : goal.returns-in-Err-TooLong-clause-errors_cause
returns-in-Err-TooLong-clause-errors_cause g c = ended_cause _ _ c.put_too_long.result (ends.TooLong stream_limit) c.ending_after_line.result c.ending_after_line.ensures (λ e. cc) c.put_too_long.ensures.cause

pub returns-in-Err-TooLong-clause-no_file : goal.returns-in-Err-TooLong-clause-no_file
returns-in-Err-TooLong-clause-no_file g c = ended_other c.put_too_long.result (ends.TooLong stream_limit) c.ending_after_line.result ends.FileFault c.ending_after_line.ensures (λ e. cc) (λ e. cc)

pub returns-in-Ok-clause-read_unwritten : goal.returns-in-Ok-clause-read_unwritten
returns-in-Ok-clause-read_unwritten g c = λ e. absurd (swept_no_read c.sweep_input.result c.sweep_input.ensures.kind e)

pub returns-in-Err-TooLong-clause-read_unwritten : goal.returns-in-Err-TooLong-clause-read_unwritten
returns-in-Err-TooLong-clause-read_unwritten g c = λ e. absurd (ended_other c.put_too_long.result (ends.TooLong stream_limit) c.ending_after_line.result ends.ReadFault c.ending_after_line.ensures (λ e. cc) (λ e. cc) e)
