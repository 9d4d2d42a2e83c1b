use Rattle.std.proofs.Common.{map, string_bytes, sym, ap, ◌∙◌, refl, ◌≡◌, true, subst, ℕ, List, Ok, Result, Some, MatchResult}
use Rattle.elf_image.specs.Images.{seen, seen_image}
use Rattle.emu_system.specs.Image.{elf, Image}
use Rattle.emu_machine.specs.declared.machine.Machine.{Machine}
use Rattle.command_lines.specs.Outcome.{program_arguments, Outcome, outcome_of_image, outcome_of_run}
use Rattle.command_lines.specs.declared.ending.Ending.TheVariants.{ImageRefused, OutOfMemory}
use Rattle.commands.specs.Meets.{now}
use Rattle.commands.proofs.Meetings.{nothing_meets}
use Rattle.commands.proofs.Runs.{of_image, refused_image, opened_image}
use Rattle.commands.proofs.MayEnd.{kind_put}
use Rattle.commands.specs.Lines.{ends_run}
use Rattle.command_lines.specs.declared.ending.Ending.{Ending}
use Rattle.command_lines.specs.declared.ending.Ending.TheVariants as ends
use Rattle.commands.proofs.Causing.{ended_cause, ended_other, no_cause}
use Rattle.emu_model.specs.State.{Parts}
use Rattle.emu_run.specs.Run.{run}
use Rattle.emu_system.specs.Start.{with_input}
use Rattle.emu_system.specs.declared.image.ElfFault.{ElfFault}
use Rattle.commands.specs.Programs.{opening_of}
use Rattle.commands.specs.Promises.{output_of}
use Rattle.commands.specs.Whole.{InRun}
use Rattle.commands.specs.Passing.{InFile}
use Rattle.commands.proofs.Keeping.{keeps_as, keeps_ended, keeps_none, none_put}
use Rattle.commands.proofs.run.run_image.Goals as goal

pub returns-in-Err-clause-outcome : goal.returns-in-Err-clause-outcome
returns-in-Err-clause-outcome g c =
    refused_image c.args.bytes.now (program_arguments (map string_bytes c.args.words.now) c.args.program.now.file c.args.program.now.args) c.args.program.now.length c.args.program.now.budget c.args.program.now.pages (elf c.args.bytes.now c.args.program.now.pages)
    (now (g.I.Source.left c.args.input.now) (g.O.Sink.held c.args.output.now) (g.E.Sink.held c.args.errors.now)) c.in-Err.fault _ c.put_image_refusal.result c.ending_after_line.result
    (ap seen (sym c.in-Err.is) ∙ c.read.ensures.image) c.ending_after_line.ensures c.put_image_refusal.ensures.bytes

pub returns-in-Err-open_machine-clause-outcome : goal.returns-in-Err-open_machine-clause-outcome
returns-in-Err-open_machine-clause-outcome g c =
    nothing_meets (of_image c.args.bytes.now (program_arguments (map string_bytes c.args.words.now) c.args.program.now.file c.args.program.now.args) c.args.program.now.length c.args.program.now.budget c.args.program.now.pages (elf c.args.bytes.now c.args.program.now.pages)
    (now (g.I.Source.left c.args.input.now) (g.O.Sink.held c.args.output.now) (g.E.Sink.held c.args.errors.now))) OutOfMemory
    (g.I.Source.left c.args.input.now) (g.O.Sink.held c.args.output.now) (g.E.Sink.held c.args.errors.now) refl

pub returns-in-Ok-open_machine-clause-outcome : goal.returns-in-Ok-open_machine-clause-outcome
returns-in-Ok-open_machine-clause-outcome g c =
    opened_image c.args.bytes.now (program_arguments (map string_bytes c.args.words.now) c.args.program.now.file c.args.program.now.args) c.args.program.now.length c.args.program.now.budget c.args.program.now.pages (elf c.args.bytes.now c.args.program.now.pages)
    (now (g.I.Source.left c.args.input.now) (g.O.Sink.held c.args.output.now) (g.E.Sink.held c.args.errors.now)) (seen_image c.in-Ok.image) c.in-Ok-open_machine.machine.parts _ c.run_machine.result
    (ap seen (sym c.in-Ok.is) ∙ c.read.ensures.image) (ap (λ (x : Machine). x.parts) c.in-Ok-open_machine.ensures) c.run_machine.ensures.outcome

pub returns-in-Err-clause-kind : goal.returns-in-Err-clause-kind
returns-in-Err-clause-kind g c = subst (λ (x : Ending). ends_run x ≡ true) (sym c.ending_after_line.ensures) (kind_put ends_run c.put_image_refusal.result (ImageRefused c.in-Err.fault) refl refl)

pub returns-in-Err-clause-read_cause : goal.returns-in-Err-clause-read_cause
returns-in-Err-clause-read_cause g c = no_cause _ (ended_other c.put_image_refusal.result (ends.ImageRefused c.in-Err.fault) c.ending_after_line.result ends.ReadFault c.ending_after_line.ensures (λ e. cc) (λ e. cc))

pub returns-in-Err-clause-write_cause : goal.returns-in-Err-clause-write_cause
returns-in-Err-clause-write_cause g c = no_cause _ (ended_other c.put_image_refusal.result (ends.ImageRefused c.in-Err.fault) c.ending_after_line.result ends.WriteFault c.ending_after_line.ensures (λ e. cc) (λ e. cc))

pub returns-in-Err-clause-errors_cause : goal.returns-in-Err-clause-errors_cause
returns-in-Err-clause-errors_cause g c = ended_cause _ _ c.put_image_refusal.result (ends.ImageRefused c.in-Err.fault) c.ending_after_line.result c.ending_after_line.ensures (λ e. cc) c.put_image_refusal.ensures.cause

pub returns-in-Err-clause-no_file : goal.returns-in-Err-clause-no_file
returns-in-Err-clause-no_file g c = ended_other c.put_image_refusal.result (ends.ImageRefused c.in-Err.fault) c.ending_after_line.result ends.FileFault c.ending_after_line.ensures (λ e. cc) (λ e. cc)

pub returns-in-Err-clause-memory_first : goal.returns-in-Err-clause-memory_first
returns-in-Err-clause-memory_first g c = λ e. absurd (ended_other c.put_image_refusal.result (ends.ImageRefused c.in-Err.fault) c.ending_after_line.result ends.OutOfMemory c.ending_after_line.ensures (λ e. cc) (λ e. cc) e)

pub returns-in-Err-open_machine-clause-read_cause : goal.returns-in-Err-open_machine-clause-read_cause
returns-in-Err-open_machine-clause-read_cause g c = no_cause _ (λ e. cc)

pub returns-in-Err-open_machine-clause-write_cause : goal.returns-in-Err-open_machine-clause-write_cause
returns-in-Err-open_machine-clause-write_cause g c = no_cause _ (λ e. cc)

pub returns-in-Err-open_machine-clause-errors_cause : goal.returns-in-Err-open_machine-clause-errors_cause
returns-in-Err-open_machine-clause-errors_cause g c = no_cause _ (λ e. cc)

pub returns-in-Err-open_machine-clause-no_file : goal.returns-in-Err-open_machine-clause-no_file
returns-in-Err-open_machine-clause-no_file g c = λ e. cc

pub returns-in-Err-clause-whole : goal.returns-in-Err-clause-whole
returns-in-Err-clause-whole g c =
    keeps_ended (InFile c.args.bytes.now (map string_bytes c.args.words.now) c.args.program.now c.ending_after_line.result (g.I.Source.left c.args.input.now)) (λ i. Some (outcome_of_image c.args.bytes.now (program_arguments (map string_bytes c.args.words.now) c.args.program.now.file c.args.program.now.args) i c.args.program.now.length c.args.program.now.budget c.args.program.now.pages (elf c.args.bytes.now c.args.program.now.pages))) (g.O.Sink.held c.args.output.now) (g.O.Sink.held c.args.output.now) (g.E.Sink.held c.args.errors.now) _ c.put_image_refusal.result (ImageRefused c.in-Err.fault) c.ending_after_line.result (g.I.Source.left c.args.input.now) c.ending_after_line.ensures (λ e. cc) (λ e. cc)
    (none_put (λ i. Some (outcome_of_image c.args.bytes.now (program_arguments (map string_bytes c.args.words.now) c.args.program.now.file c.args.program.now.args) i c.args.program.now.length c.args.program.now.budget c.args.program.now.pages (elf c.args.bytes.now c.args.program.now.pages))) (g.I.Source.left c.args.input.now) (g.O.Sink.held c.args.output.now) (λ i. ap (λ (r : Result Image ElfFault). (outcome_of_image c.args.bytes.now (program_arguments (map string_bytes c.args.words.now) c.args.program.now.file c.args.program.now.args) i c.args.program.now.length c.args.program.now.budget c.args.program.now.pages r).output) (sym (ap seen (sym c.in-Err.is) ∙ c.read.ensures.image))))

pub returns-in-Err-open_machine-clause-whole : goal.returns-in-Err-open_machine-clause-whole
returns-in-Err-open_machine-clause-whole g c = keeps_none (InFile c.args.bytes.now (map string_bytes c.args.words.now) c.args.program.now OutOfMemory (g.I.Source.left c.args.input.now)) (λ i. Some (outcome_of_image c.args.bytes.now (program_arguments (map string_bytes c.args.words.now) c.args.program.now.file c.args.program.now.args) i c.args.program.now.length c.args.program.now.budget c.args.program.now.pages (elf c.args.bytes.now c.args.program.now.pages))) (g.O.Sink.held c.args.output.now) (g.O.Sink.held c.args.output.now) (g.E.Sink.held c.args.errors.now) (g.E.Sink.held c.args.errors.now) OutOfMemory (g.I.Source.left c.args.input.now) (λ e. cc) (λ e. cc) (λ e. cc)

pub returns-in-Ok-open_machine-clause-whole : goal.returns-in-Ok-open_machine-clause-whole
returns-in-Ok-open_machine-clause-whole g c =
    let m : Parts = c.in-Ok-open_machine.machine.parts in
    let budget : ℕ = c.args.program.now.budget in
    let is : Ok (seen_image c.in-Ok.image) ≡ (elf c.args.bytes.now c.args.program.now.pages) = ap seen (sym c.in-Ok.is) ∙ c.read.ensures.image in
    let of : m ≡ opening_of c.args.bytes.now (seen_image c.in-Ok.image) (map string_bytes c.args.words.now) c.args.program.now = ap (λ (x : Machine). x.parts) c.in-Ok-open_machine.ensures in
    keeps_as (InRun m budget c.run_machine.result (g.I.Source.left c.run_machine.new.input)) (InFile c.args.bytes.now (map string_bytes c.args.words.now) c.args.program.now c.run_machine.result (g.I.Source.left c.run_machine.new.input)) (λ i. Some (outcome_of_run i (run (with_input m i) budget))) (λ i. Some (outcome_of_image c.args.bytes.now (program_arguments (map string_bytes c.args.words.now) c.args.program.now.file c.args.program.now.args) i c.args.program.now.length c.args.program.now.budget c.args.program.now.pages (elf c.args.bytes.now c.args.program.now.pages))) c.run_machine.result (g.O.Sink.held c.args.output.now) (g.O.Sink.held c.run_machine.new.output) (g.E.Sink.held c.args.errors.now) (g.E.Sink.held c.run_machine.new.errors) (g.I.Source.left c.args.input.now)
    (λ i st passed. subst (λ (r : Result Image ElfFault). MatchResult r (λ image. InRun (opening_of c.args.bytes.now image (map string_bytes c.args.words.now) c.args.program.now) budget c.run_machine.result (g.I.Source.left c.run_machine.new.input) i st) (λ _. ⊥)) is (subst (λ (x : Parts). InRun x budget c.run_machine.result (g.I.Source.left c.run_machine.new.input) i st) of passed))
    (λ i. ap (λ (x : Parts). Some (outcome_of_run i (run (with_input x i) budget))) of
    ∙ ap (λ (r : Result Image ElfFault). Some (outcome_of_image c.args.bytes.now (program_arguments (map string_bytes c.args.words.now) c.args.program.now.file c.args.program.now.args) i c.args.program.now.length budget c.args.program.now.pages r)) is)
    c.run_machine.ensures.whole
