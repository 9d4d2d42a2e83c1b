use Rattle.std.proofs.Common.{Err, string_bytes, refl, sym, ap, ◌∙◌}
use Rattle.command_lines.specs.declared.ending.Ending.TheVariants as ends
use Rattle.commands.specs.Promises.{is_failure}
use Rattle.commands.proofs.Meetings.{nothing_meets}
use Rattle.commands.proofs.Worlds.{is_refused}
use Rattle.emu_run.specs.Worlds.{opened}
use Rattle.guest_schedule.specs.Schedule.{schedule_of_file}
use Rattle.guest_schedule.specs.declared.schedule.ScheduleFault.{ScheduleFault}
use Rattle.guest_threads.specs.Ends.{WorldHeld}
use Rattle.tool_run.specs.Stops.{IsTold}
use Rattle.tool_run.proofs.Causes.{is_other}
use Rattle.tool_run.proofs.Still.{still_caused, still_exit, still_stopped, untouched}
use Rattle.tool_run.proofs.Worlds.{followed_schedule, followed_stop, refused_schedule}
use Rattle.tool_run.proofs.world.run_schedule.Goals as goal

pub returns-in-Err-Refused-clause-outcome : goal.returns-in-Err-Refused-clause-outcome
returns-in-Err-Refused-clause-outcome g c =
    refused_schedule c.args.budget (opened c.args.machine.parts) (schedule_of_file c.args.text.now) _
    c.with_text.result.ending _ _ _
    (is_refused (schedule_of_file c.args.text.now) c.in-Err-Refused.field-0 c.in-Err-Refused.fault
    c.in-Err-Refused.field-0-is c.in-Err-Refused.ensures ∙ ap (λ (f : ScheduleFault). Err f) (sym
    c.in-Err-Refused.fault-is)) c.with_text.ensures.ending

pub returns-in-Err-Refused-clause-exit : goal.returns-in-Err-Refused-clause-exit
returns-in-Err-Refused-clause-exit g c = still_exit (ends.ScheduleRefused _)
    c.with_text.result.ending _ refl c.with_text.ensures.ending

pub returns-in-Err-Refused-clause-stopped : goal.returns-in-Err-Refused-clause-stopped
returns-in-Err-Refused-clause-stopped g c = still_stopped (g.I.Source.left c.args.input.now) _ (ends.ScheduleRefused
    _) c.with_text.result.ending refl c.with_text.ensures.ending

pub returns-in-Err-Refused-clause-caused : goal.returns-in-Err-Refused-clause-caused
returns-in-Err-Refused-clause-caused g c = still_caused (ends.ScheduleRefused _)
    c.with_text.result.ending _ _ refl c.with_text.ensures.ending c.with_text.ensures.report

pub returns-in-Err-Refused-clause-no_file : goal.returns-in-Err-Refused-clause-no_file
returns-in-Err-Refused-clause-no_file g c = is_other (ends.ScheduleRefused _)
    c.with_text.result.ending ends.FileFault c.with_text.ensures.ending (λ e. cc)

pub returns-in-Err-OutOfMemory-clause-outcome : goal.returns-in-Err-OutOfMemory-clause-outcome
returns-in-Err-OutOfMemory-clause-outcome g c = nothing_meets _ c.silent.result.ending _ _ _ (ap is_failure
    c.silent.ensures.ending)

pub returns-in-Err-OutOfMemory-clause-exit : goal.returns-in-Err-OutOfMemory-clause-exit
returns-in-Err-OutOfMemory-clause-exit g c = still_exit ends.OutOfMemory c.silent.result.ending _ refl
    c.silent.ensures.ending

pub returns-in-Err-OutOfMemory-clause-stopped : goal.returns-in-Err-OutOfMemory-clause-stopped
returns-in-Err-OutOfMemory-clause-stopped g c = still_stopped (g.I.Source.left c.args.input.now) _ ends.OutOfMemory
    c.silent.result.ending refl c.silent.ensures.ending

pub returns-in-Err-OutOfMemory-clause-caused : goal.returns-in-Err-OutOfMemory-clause-caused
returns-in-Err-OutOfMemory-clause-caused g c = still_caused ends.OutOfMemory c.silent.result.ending _ _ refl
    c.silent.ensures.ending c.silent.ensures.report

pub returns-in-Err-OutOfMemory-clause-no_file : goal.returns-in-Err-OutOfMemory-clause-no_file
returns-in-Err-OutOfMemory-clause-no_file g c = is_other ends.OutOfMemory c.silent.result.ending ends.FileFault
    c.silent.ensures.ending (λ e. cc)

pub returns-in-Err-clause-outcome : goal.returns-in-Err-clause-outcome
returns-in-Err-clause-outcome g c = nothing_meets _ c.silent-in-Err.result.ending _ _ _ (ap is_failure
    c.silent-in-Err.ensures.ending)

pub returns-in-Err-clause-exit : goal.returns-in-Err-clause-exit
returns-in-Err-clause-exit g c = still_exit ends.OutOfMemory c.silent-in-Err.result.ending _ refl
    c.silent-in-Err.ensures.ending

pub returns-in-Err-clause-stopped : goal.returns-in-Err-clause-stopped
returns-in-Err-clause-stopped g c = still_stopped (g.I.Source.left c.args.input.now) _ ends.OutOfMemory
    c.silent-in-Err.result.ending refl c.silent-in-Err.ensures.ending

pub returns-in-Err-clause-caused : goal.returns-in-Err-clause-caused
returns-in-Err-clause-caused g c = still_caused ends.OutOfMemory c.silent-in-Err.result.ending _ _ refl
    c.silent-in-Err.ensures.ending c.silent-in-Err.ensures.report

pub returns-in-Err-clause-no_file : goal.returns-in-Err-clause-no_file
returns-in-Err-clause-no_file g c = is_other ends.OutOfMemory c.silent-in-Err.result.ending ends.FileFault
    c.silent-in-Err.ensures.ending (λ e. cc)

pub returns-clause-outcome : goal.returns-clause-outcome
returns-clause-outcome g c =
    followed_schedule c.args.budget (opened c.args.machine.parts) (schedule_of_file c.args.text.now)
    c.in-Ok.schedule c.in-Ok-open.world.world c.run_world.result.ending _ _
    c.in-Ok.ensures (ap (λ (x : WorldHeld). x.world) c.in-Ok-open.ensures) c.run_world.ensures.outcome

pub returns-clause-stopped : goal.returns-clause-stopped
returns-clause-stopped g c =
    followed_stop c.args.budget (opened c.args.machine.parts) (schedule_of_file c.args.text.now)
    (IsTold (string_bytes c.run_world.result.said) c.args.wanted c.run_world.result.report_failed
    (g.R.Sink.held c.args.registers.now) (g.R.Sink.held c.run_world.new.registers)) c.args.bytes.now
    c.args.segments.now c.in-Ok.schedule c.in-Ok-open.world.world (g.I.Source.left c.args.input.now)
    c.run_world.result.ending c.in-Ok.ensures (ap (λ (x : WorldHeld). x.world) c.in-Ok-open.ensures)
    c.run_world.ensures.stopped

pub returns-in-Err-Refused-clause-kept : goal.returns-in-Err-Refused-clause-kept
returns-in-Err-Refused-clause-kept g c = untouched c.args.wanted c.with_text.result.ending c.args.registers.now

pub returns-in-Err-OutOfMemory-clause-kept : goal.returns-in-Err-OutOfMemory-clause-kept
returns-in-Err-OutOfMemory-clause-kept g c = untouched c.args.wanted c.silent.result.ending c.args.registers.now

pub returns-in-Err-clause-kept : goal.returns-in-Err-clause-kept
returns-in-Err-clause-kept g c = untouched c.args.wanted c.silent-in-Err.result.ending c.args.registers.now
