use Rattle.std.proofs.Common.{Some, sym, ap, ◌∙◌, ◌≡◌, true, refl, subst}
use Rattle.elf_image.specs.Images.{seen, seen_image}
use Rattle.emu_system.specs.Image.{elf}
use Rattle.command_model.specs.Load.{load_pages}
use Rattle.command_lines.specs.Outcome.{outcome_of_loaded}
use Rattle.command_lines.specs.declared.ending.Ending.{Ending}
use Rattle.command_lines.specs.declared.ending.Ending.TheVariants.{ImageRefused, OutOfMemory}
use Rattle.commands.specs.Lines.{ends_load}
use Rattle.commands.proofs.LoadPrograms.{lines_put, program_refused}
use Rattle.commands.proofs.MayEnd.{kind_done, kind_put}
use Rattle.commands.proofs.Meetings.{nothing_meets}
use Rattle.command_lines.specs.declared.ending.Ending.TheVariants as ends
use Rattle.commands.proofs.Causing.{done_cause, done_other, ended_cause, ended_loud, ended_other, no_cause}
use Rattle.commands.proofs.loading.load_bytes.Goals as goal

pub returns-in-Ok-load_lines-clause-outcome : goal.returns-in-Ok-load_lines-clause-outcome
returns-in-Ok-load_lines-clause-outcome g c = λ input.
    lines_put c.args.bytes.now (elf c.args.bytes.now load_pages) input (g.O.Sink.held c.args.output.now) (g.E.Sink.held c.args.errors.now) (seen_image c.in-Ok.image) c.kept.result.now _ c.put_all.result c.ending_after_output.result
    (ap seen (sym c.in-Ok.is) ∙ c.read.ensures.image) (c.kept.ensures ∙ c.in-Ok-load_lines.ensures.lines) c.ending_after_output.ensures c.put_all.ensures.bytes

pub returns-in-Err-load_lines-clause-outcome : goal.returns-in-Err-load_lines-clause-outcome
returns-in-Err-load_lines-clause-outcome g c = λ input.
    nothing_meets (λ _. Some (outcome_of_loaded c.args.bytes.now (elf c.args.bytes.now load_pages))) OutOfMemory input (g.O.Sink.held c.args.output.now) (g.E.Sink.held c.args.errors.now) refl

pub returns-in-Err-clause-outcome : goal.returns-in-Err-clause-outcome
returns-in-Err-clause-outcome g c = λ input.
    program_refused c.args.bytes.now (elf c.args.bytes.now load_pages) input (g.O.Sink.held c.args.output.now) (g.E.Sink.held c.args.errors.now) c.in-Err.fault _ c.put_image_refusal.result c.ending_after_line.result
    (ap seen (sym c.in-Err.is) ∙ c.read.ensures.image) c.ending_after_line.ensures c.put_image_refusal.ensures.bytes

pub returns-in-Ok-load_lines-clause-kind : goal.returns-in-Ok-load_lines-clause-kind
returns-in-Ok-load_lines-clause-kind g c = subst (λ (x : Ending). ends_load x ≡ true) (sym c.ending_after_output.ensures) (kind_done ends_load c.put_all.result refl refl)

pub returns-in-Err-clause-kind : goal.returns-in-Err-clause-kind
returns-in-Err-clause-kind g c = subst (λ (x : Ending). ends_load x ≡ true) (sym c.ending_after_line.ensures) (kind_put ends_load c.put_image_refusal.result (ImageRefused c.in-Err.fault) refl refl)

pub returns-in-Err-clause-write_cause : goal.returns-in-Err-clause-write_cause
returns-in-Err-clause-write_cause g c = no_cause _ (ended_other c.put_image_refusal.result (ends.ImageRefused c.in-Err.fault) c.ending_after_line.result ends.WriteFault c.ending_after_line.ensures (λ e. cc) (λ e. cc))

pub returns-in-Err-clause-errors_cause : goal.returns-in-Err-clause-errors_cause
returns-in-Err-clause-errors_cause g c = ended_cause _ _ c.put_image_refusal.result (ends.ImageRefused c.in-Err.fault) c.ending_after_line.result c.ending_after_line.ensures (λ e. cc) c.put_image_refusal.ensures.cause

pub returns-in-Err-clause-no_file : goal.returns-in-Err-clause-no_file
returns-in-Err-clause-no_file g c = ended_other c.put_image_refusal.result (ends.ImageRefused c.in-Err.fault) c.ending_after_line.result ends.FileFault c.ending_after_line.ensures (λ e. cc) (λ e. cc)

pub returns-in-Err-clause-no_read : goal.returns-in-Err-clause-no_read
returns-in-Err-clause-no_read g c = ended_other c.put_image_refusal.result (ends.ImageRefused c.in-Err.fault) c.ending_after_line.result ends.ReadFault c.ending_after_line.ensures (λ e. cc) (λ e. cc)

pub returns-in-Err-clause-memory_first : goal.returns-in-Err-clause-memory_first
returns-in-Err-clause-memory_first g c = λ e. absurd (ended_other c.put_image_refusal.result (ends.ImageRefused c.in-Err.fault) c.ending_after_line.result ends.OutOfMemory c.ending_after_line.ensures (λ e. cc) (λ e. cc) e)

pub returns-in-Err-clause-no_errors : goal.returns-in-Err-clause-no_errors
returns-in-Err-clause-no_errors g c = λ silent. absurd (ended_loud c.put_image_refusal.result (ends.ImageRefused c.in-Err.fault) c.ending_after_line.result c.ending_after_line.ensures refl silent)

pub returns-in-Err-load_lines-clause-write_cause : goal.returns-in-Err-load_lines-clause-write_cause
returns-in-Err-load_lines-clause-write_cause g c = no_cause _ (λ e. cc)

pub returns-in-Err-load_lines-clause-errors_cause : goal.returns-in-Err-load_lines-clause-errors_cause
returns-in-Err-load_lines-clause-errors_cause g c = no_cause _ (λ e. cc)

pub returns-in-Err-load_lines-clause-no_file : goal.returns-in-Err-load_lines-clause-no_file
returns-in-Err-load_lines-clause-no_file g c = λ e. cc

pub returns-in-Err-load_lines-clause-no_read : goal.returns-in-Err-load_lines-clause-no_read
returns-in-Err-load_lines-clause-no_read g c = λ e. cc

pub returns-in-Err-load_lines-clause-no_errors : goal.returns-in-Err-load_lines-clause-no_errors
returns-in-Err-load_lines-clause-no_errors g c = λ _. refl

pub returns-in-Ok-load_lines-clause-write_cause : goal.returns-in-Ok-load_lines-clause-write_cause
returns-in-Ok-load_lines-clause-write_cause g c = done_cause _ _ c.put_all.result c.ending_after_output.result c.ending_after_output.ensures c.put_all.ensures.cause

pub returns-in-Ok-load_lines-clause-errors_cause : goal.returns-in-Ok-load_lines-clause-errors_cause
returns-in-Ok-load_lines-clause-errors_cause g c = no_cause _ (done_other c.put_all.result c.ending_after_output.result ends.ErrorsFault c.ending_after_output.ensures (λ e. cc) (λ e. cc))

pub returns-in-Ok-load_lines-clause-no_file : goal.returns-in-Ok-load_lines-clause-no_file
returns-in-Ok-load_lines-clause-no_file g c = done_other c.put_all.result c.ending_after_output.result ends.FileFault c.ending_after_output.ensures (λ e. cc) (λ e. cc)

pub returns-in-Ok-load_lines-clause-no_read : goal.returns-in-Ok-load_lines-clause-no_read
returns-in-Ok-load_lines-clause-no_read g c = done_other c.put_all.result c.ending_after_output.result ends.ReadFault c.ending_after_output.ensures (λ e. cc) (λ e. cc)

pub returns-in-Ok-load_lines-clause-memory_first : goal.returns-in-Ok-load_lines-clause-memory_first
returns-in-Ok-load_lines-clause-memory_first g c = λ e. absurd (done_other c.put_all.result c.ending_after_output.result ends.OutOfMemory c.ending_after_output.ensures (λ e. cc) (λ e. cc) e)

pub returns-in-Ok-load_lines-clause-no_errors : goal.returns-in-Ok-load_lines-clause-no_errors
returns-in-Ok-load_lines-clause-no_errors g c = λ _. refl
