use Rattle.std.proofs.Common.{sym, ap, ◌∙◌, ◌≡◌, true, refl, subst}
use Rattle.elf_image.specs.Images.{seen, seen_image}
use Rattle.emu_system.specs.Image.{elf}
use Rattle.command_lines.specs.Outcome.{most_pages}
use Rattle.commands.proofs.Disassembling.{words_put, words_refused}
use Rattle.commands.proofs.MayEnd.{kind_done, kind_put}
use Rattle.commands.specs.Lines.{ends_dis}
use Rattle.command_lines.specs.declared.ending.Ending.TheVariants.{ImageRefused}
use Rattle.command_lines.specs.declared.ending.Ending.{Ending}
use Rattle.command_lines.specs.declared.ending.Ending.TheVariants as ends
use Rattle.commands.proofs.Causing.{done_cause, done_other, ended_cause, ended_loud, ended_other, no_cause}
use Rattle.commands.proofs.disassembly.disassemble_bytes.Goals as goal

pub returns-in-Ok-clause-outcome : goal.returns-in-Ok-clause-outcome
returns-in-Ok-clause-outcome g c = λ input.
    words_put c.args.bytes.now (elf c.args.bytes.now most_pages) input (g.O.Sink.held c.args.output.now) (g.E.Sink.held c.args.errors.now) (seen_image c.in-Ok.image) _ c.put_dis.result c.ending_after_output.result
    (ap seen (sym c.in-Ok.is) ∙ c.read.ensures.image) c.ending_after_output.ensures c.put_dis.ensures.bytes

pub returns-in-Err-clause-outcome : goal.returns-in-Err-clause-outcome
returns-in-Err-clause-outcome g c = λ input.
    words_refused c.args.bytes.now (elf c.args.bytes.now most_pages) input (g.O.Sink.held c.args.output.now) (g.E.Sink.held c.args.errors.now) c.in-Err.fault _ c.put_image_refusal.result c.ending_after_line.result
    (ap seen (sym c.in-Err.is) ∙ c.read.ensures.image) c.ending_after_line.ensures c.put_image_refusal.ensures.bytes

pub returns-in-Ok-clause-kind : goal.returns-in-Ok-clause-kind
returns-in-Ok-clause-kind g c = subst (λ (x : Ending). ends_dis x ≡ true) (sym c.ending_after_output.ensures) (kind_done ends_dis c.put_dis.result refl refl)

pub returns-in-Err-clause-kind : goal.returns-in-Err-clause-kind
returns-in-Err-clause-kind g c = subst (λ (x : Ending). ends_dis x ≡ true) (sym c.ending_after_line.ensures) (kind_put ends_dis c.put_image_refusal.result (ImageRefused c.in-Err.fault) refl refl)

pub returns-in-Err-clause-write_cause : goal.returns-in-Err-clause-write_cause
returns-in-Err-clause-write_cause g c = no_cause _ (ended_other c.put_image_refusal.result (ends.ImageRefused c.in-Err.fault) c.ending_after_line.result ends.WriteFault c.ending_after_line.ensures (λ e. cc) (λ e. cc))

pub returns-in-Err-clause-errors_cause : goal.returns-in-Err-clause-errors_cause
returns-in-Err-clause-errors_cause g c = ended_cause _ _ c.put_image_refusal.result (ends.ImageRefused c.in-Err.fault) c.ending_after_line.result c.ending_after_line.ensures (λ e. cc) c.put_image_refusal.ensures.cause

pub returns-in-Err-clause-no_file : goal.returns-in-Err-clause-no_file
returns-in-Err-clause-no_file g c = ended_other c.put_image_refusal.result (ends.ImageRefused c.in-Err.fault) c.ending_after_line.result ends.FileFault c.ending_after_line.ensures (λ e. cc) (λ e. cc)

pub returns-in-Err-clause-no_read : goal.returns-in-Err-clause-no_read
returns-in-Err-clause-no_read g c = ended_other c.put_image_refusal.result (ends.ImageRefused c.in-Err.fault) c.ending_after_line.result ends.ReadFault c.ending_after_line.ensures (λ e. cc) (λ e. cc)

pub returns-in-Err-clause-no_memory : goal.returns-in-Err-clause-no_memory
returns-in-Err-clause-no_memory g c = ended_other c.put_image_refusal.result (ends.ImageRefused c.in-Err.fault) c.ending_after_line.result ends.OutOfMemory c.ending_after_line.ensures (λ e. cc) (λ e. cc)

pub returns-in-Err-clause-no_errors : goal.returns-in-Err-clause-no_errors
returns-in-Err-clause-no_errors g c = λ silent. absurd (ended_loud c.put_image_refusal.result (ends.ImageRefused c.in-Err.fault) c.ending_after_line.result c.ending_after_line.ensures refl silent)

pub returns-in-Ok-clause-write_cause : goal.returns-in-Ok-clause-write_cause
returns-in-Ok-clause-write_cause g c = done_cause _ _ c.put_dis.result c.ending_after_output.result c.ending_after_output.ensures c.put_dis.ensures.cause

pub returns-in-Ok-clause-errors_cause : goal.returns-in-Ok-clause-errors_cause
returns-in-Ok-clause-errors_cause g c = no_cause _ (done_other c.put_dis.result c.ending_after_output.result ends.ErrorsFault c.ending_after_output.ensures (λ e. cc) (λ e. cc))

pub returns-in-Ok-clause-no_file : goal.returns-in-Ok-clause-no_file
returns-in-Ok-clause-no_file g c = done_other c.put_dis.result c.ending_after_output.result ends.FileFault c.ending_after_output.ensures (λ e. cc) (λ e. cc)

pub returns-in-Ok-clause-no_read : goal.returns-in-Ok-clause-no_read
returns-in-Ok-clause-no_read g c = done_other c.put_dis.result c.ending_after_output.result ends.ReadFault c.ending_after_output.ensures (λ e. cc) (λ e. cc)

pub returns-in-Ok-clause-no_memory : goal.returns-in-Ok-clause-no_memory
returns-in-Ok-clause-no_memory g c = done_other c.put_dis.result c.ending_after_output.result ends.OutOfMemory c.ending_after_output.ensures (λ e. cc) (λ e. cc)

pub returns-in-Ok-clause-no_errors : goal.returns-in-Ok-clause-no_errors
returns-in-Ok-clause-no_errors g c = λ _. refl
