use Rattle.std.proofs.Common.{map, string_bytes, refl, sym, ap, ◌∙◌}
use Rattle.elf_image.specs.Images.{seen, seen_image}
use Rattle.emu_machine.specs.declared.machine.Machine.{Machine}
use Rattle.emu_system.specs.Image.{elf}
use Rattle.command_lines.specs.declared.ending.Ending.TheVariants as ends
use Rattle.commands.specs.Programs.{arguments_of}
use Rattle.commands.specs.Promises.{is_failure}
use Rattle.commands.proofs.Meetings.{nothing_meets}
use Rattle.tool_run.specs.Stops.{IsTold}
use Rattle.tool_run.proofs.Causes.{is_other}
use Rattle.tool_run.proofs.Runs.{opened_image, refused_image}
use Rattle.tool_run.proofs.Still.{still_caused, still_exit, still_stopped, untouched}
use Rattle.tool_run.proofs.Stopping.{stopped_image}
use Rattle.tool_run.proofs.image.run_image.Goals as goal

pub returns-in-Err-clause-outcome : goal.returns-in-Err-clause-outcome
returns-in-Err-clause-outcome g c =
    refused_image c.args.second c.args.text.now c.args.bytes.now (map string_bytes c.args.words.now)
    c.args.program.now (elf c.args.bytes.now c.args.program.now.pages)
    c.in-Err.fault (g.I.Source.left c.args.input.now) (g.O.Sink.held c.args.output.now) (g.E.Sink.held
    c.args.errors.now) c.with_text.result.ending (ap seen (sym c.in-Err.is) ∙ c.read.ensures.image)
    c.with_text.ensures.ending

pub returns-in-Err-clause-exit : goal.returns-in-Err-clause-exit
returns-in-Err-clause-exit g c = still_exit (ends.ImageRefused c.in-Err.fault) c.with_text.result.ending _ refl
    c.with_text.ensures.ending

pub returns-in-Err-clause-stopped : goal.returns-in-Err-clause-stopped
returns-in-Err-clause-stopped g c = still_stopped (g.I.Source.left c.args.input.now) _ (ends.ImageRefused
    c.in-Err.fault) c.with_text.result.ending refl c.with_text.ensures.ending

pub returns-in-Err-clause-caused : goal.returns-in-Err-clause-caused
returns-in-Err-clause-caused g c = still_caused (ends.ImageRefused c.in-Err.fault) c.with_text.result.ending _ _ refl
    c.with_text.ensures.ending c.with_text.ensures.report

pub returns-in-Err-clause-no_file : goal.returns-in-Err-clause-no_file
returns-in-Err-clause-no_file g c = is_other (ends.ImageRefused c.in-Err.fault) c.with_text.result.ending
    ends.FileFault c.with_text.ensures.ending (λ e. cc)

pub returns-in-Err-open_machine-clause-outcome : goal.returns-in-Err-open_machine-clause-outcome
returns-in-Err-open_machine-clause-outcome g c = nothing_meets _ c.silent.result.ending _ _ _ (ap is_failure
    c.silent.ensures.ending)

pub returns-in-Err-open_machine-clause-exit : goal.returns-in-Err-open_machine-clause-exit
returns-in-Err-open_machine-clause-exit g c = still_exit ends.OutOfMemory c.silent.result.ending _ refl
    c.silent.ensures.ending

pub returns-in-Err-open_machine-clause-stopped : goal.returns-in-Err-open_machine-clause-stopped
returns-in-Err-open_machine-clause-stopped g c = still_stopped (g.I.Source.left c.args.input.now) _ ends.OutOfMemory
    c.silent.result.ending refl c.silent.ensures.ending

pub returns-in-Err-open_machine-clause-caused : goal.returns-in-Err-open_machine-clause-caused
returns-in-Err-open_machine-clause-caused g c = still_caused ends.OutOfMemory c.silent.result.ending _ _ refl
    c.silent.ensures.ending c.silent.ensures.report

pub returns-in-Err-open_machine-clause-no_file : goal.returns-in-Err-open_machine-clause-no_file
returns-in-Err-open_machine-clause-no_file g c = is_other ends.OutOfMemory c.silent.result.ending ends.FileFault
    c.silent.ensures.ending (λ e. cc)

pub returns-in-Ok-open_machine-clause-outcome : goal.returns-in-Ok-open_machine-clause-outcome
returns-in-Ok-open_machine-clause-outcome g c =
    opened_image c.args.second c.args.text.now c.args.bytes.now (map string_bytes c.args.words.now)
    c.args.program.now (elf c.args.bytes.now c.args.program.now.pages)
    (seen_image c.in-Ok.image) c.in-Ok-open_machine.machine.parts _ _ c.run_opened.result.ending
    (ap seen (sym c.in-Ok.is) ∙ c.read.ensures.image) (ap (λ (x : Machine). x.parts)
    c.in-Ok-open_machine.ensures) c.run_opened.ensures.outcome

pub returns-in-Ok-open_machine-clause-stopped : goal.returns-in-Ok-open_machine-clause-stopped
returns-in-Ok-open_machine-clause-stopped g c =
    stopped_image (IsTold (string_bytes c.run_opened.result.said) c.args.wanted c.run_opened.result.report_failed
    (g.R.Sink.held c.args.registers.now) (g.R.Sink.held c.run_opened.new.registers)) c.args.second c.args.text.now
    c.args.bytes.now (arguments_of (map string_bytes c.args.words.now)
    c.args.program.now) c.args.program.now.length c.args.program.now.budget c.args.program.now.pages (elf
    c.args.bytes.now c.args.program.now.pages)
    (seen_image c.in-Ok.image) c.in-Ok-open_machine.machine.parts c.deref.result.now (g.I.Source.left
    c.args.input.now) c.run_opened.result.ending
    (ap seen (sym c.in-Ok.is) ∙ c.read.ensures.image) (ap (λ (x : Machine). x.parts)
    c.in-Ok-open_machine.ensures) c.deref.ensures.0 c.run_opened.ensures.stopped

pub returns-in-Err-clause-kept : goal.returns-in-Err-clause-kept
returns-in-Err-clause-kept g c = untouched c.args.wanted c.with_text.result.ending c.args.registers.now

pub returns-in-Err-open_machine-clause-kept : goal.returns-in-Err-open_machine-clause-kept
returns-in-Err-open_machine-clause-kept g c = untouched c.args.wanted c.silent.result.ending c.args.registers.now
