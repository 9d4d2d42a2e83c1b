use Rattle.std.proofs.Common.{map, string_bytes, sym, ap, ◌∙◌, refl, ◌≡◌, true, subst}
use Rattle.elf_image.specs.Images.{seen, seen_image}
use Rattle.emu_system.specs.Image.{elf}
use Rattle.command_lines.specs.Outcome.{program_arguments}
use Rattle.command_lines.specs.declared.ending.Ending.{Ending}
use Rattle.command_lines.specs.declared.ending.Ending.TheVariants.{ImageRefused}
use Rattle.commands.specs.Lines.{ends_sweep}
use Rattle.commands.specs.Meets.{now}
use Rattle.commands.proofs.MayEnd.{kind_put}
use Rattle.commands.proofs.Sweeps.{opened_swept, refused_swept}
use Rattle.command_lines.specs.declared.ending.Ending.TheVariants as ends
use Rattle.commands.proofs.Causing.{ended_cause, ended_other, no_cause}
use Rattle.commands.proofs.sweeping.sweep_bytes.Goals as goal

pub returns-in-Err-clause-outcome : goal.returns-in-Err-clause-outcome
returns-in-Err-clause-outcome g c =
    refused_swept c.args.bytes.now (program_arguments (map string_bytes c.args.words.now) c.args.program.now.file c.args.program.now.args) c.args.program.now.budget c.args.program.now.pages (elf c.args.bytes.now c.args.program.now.pages)
    (now (g.I.Source.left c.args.input.now) (g.O.Sink.held c.args.output.now) (g.E.Sink.held c.args.errors.now)) c.in-Err.fault _ c.put_image_refusal.result c.ending_after_line.result
    (ap seen (sym c.in-Err.is) ∙ c.read.ensures.image) c.ending_after_line.ensures c.put_image_refusal.ensures.bytes

pub returns-in-Ok-clause-outcome : goal.returns-in-Ok-clause-outcome
returns-in-Ok-clause-outcome g c =
    opened_swept c.args.bytes.now (program_arguments (map string_bytes c.args.words.now) c.args.program.now.file c.args.program.now.args) c.args.program.now.budget c.args.program.now.pages (elf c.args.bytes.now c.args.program.now.pages)
    (now (g.I.Source.left c.args.input.now) (g.O.Sink.held c.args.output.now) (g.E.Sink.held c.args.errors.now)) (seen_image c.in-Ok.image) _ c.sweep_image.result
    (ap seen (sym c.in-Ok.is) ∙ c.read.ensures.image) c.sweep_image.ensures.outcome

pub returns-in-Err-clause-kind : goal.returns-in-Err-clause-kind
returns-in-Err-clause-kind g c = subst (λ (x : Ending). ends_sweep x ≡ true) (sym c.ending_after_line.ensures) (kind_put ends_sweep c.put_image_refusal.result (ImageRefused c.in-Err.fault) refl refl)

pub returns-in-Err-clause-read_cause : goal.returns-in-Err-clause-read_cause
returns-in-Err-clause-read_cause g c = no_cause _ (ended_other c.put_image_refusal.result (ends.ImageRefused c.in-Err.fault) c.ending_after_line.result ends.ReadFault c.ending_after_line.ensures (λ e. cc) (λ e. cc))

pub returns-in-Err-clause-write_cause : goal.returns-in-Err-clause-write_cause
returns-in-Err-clause-write_cause g c = no_cause _ (ended_other c.put_image_refusal.result (ends.ImageRefused c.in-Err.fault) c.ending_after_line.result ends.WriteFault c.ending_after_line.ensures (λ e. cc) (λ e. cc))

pub returns-in-Err-clause-errors_cause : goal.returns-in-Err-clause-errors_cause
returns-in-Err-clause-errors_cause g c = ended_cause _ _ c.put_image_refusal.result (ends.ImageRefused c.in-Err.fault) c.ending_after_line.result c.ending_after_line.ensures (λ e. cc) c.put_image_refusal.ensures.cause

pub returns-in-Err-clause-no_file : goal.returns-in-Err-clause-no_file
returns-in-Err-clause-no_file g c = ended_other c.put_image_refusal.result (ends.ImageRefused c.in-Err.fault) c.ending_after_line.result ends.FileFault c.ending_after_line.ensures (λ e. cc) (λ e. cc)

pub returns-in-Err-clause-read_unwritten : goal.returns-in-Err-clause-read_unwritten
returns-in-Err-clause-read_unwritten g c = λ e. absurd (ended_other c.put_image_refusal.result (ends.ImageRefused c.in-Err.fault) c.ending_after_line.result ends.ReadFault c.ending_after_line.ensures (λ e. cc) (λ e. cc) e)
