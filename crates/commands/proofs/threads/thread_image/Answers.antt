use Rattle.std.proofs.Common.{◌≡◌, Err, map, string_bytes, ap, refl, sym, ◌∙◌, true, subst, ℕ, List, Ok, Result, Some, MatchResult}
use Rattle.elf_image.specs.Images.{seen_image}
use Rattle.command_lines.specs.declared.ending.Ending.{Ending}
use Rattle.command_lines.specs.declared.ending.Ending.TheVariants.{OutOfMemory}
use Rattle.guest_schedule.specs.Schedule.{schedule_of_file}
use Rattle.guest_schedule.specs.declared.schedule.ScheduleFault.{ScheduleFault}
use Rattle.guest_threads.specs.Ends.{WorldHeld}
use Rattle.emu_run.specs.Worlds.{opened, World}
use Rattle.commands.specs.Lines.{ends_threads}
use Rattle.commands.specs.Programs.{opening_of}
use Rattle.commands.specs.Meets.{now}
use Rattle.commands.proofs.MayEnd.{kind_put}
use Rattle.commands.proofs.Meetings.{nothing_meets}
use Rattle.commands.proofs.Worlds.{followed_schedule, is_refused, of_schedule, refused_schedule}
use Rattle.command_lines.specs.declared.ending.Ending.TheVariants as ends
use Rattle.commands.proofs.Causing.{ended_cause, ended_other, no_cause}
use Rattle.emu_run.specs.Threads.{threads, with_input}
use Rattle.command_lines.specs.Outcome.{outcome_of_schedule, outcome_of_world}
use Rattle.commands.specs.Whole.{InWorld}
use Rattle.commands.specs.Passing.{InSchedule}
use Rattle.commands.proofs.Keeping.{keeps_as, keeps_ended, keeps_none, none_put}
use Rattle.commands.proofs.threads.thread_image.Goals as goal

pub returns-in-Err-Refused-clause-outcome : goal.returns-in-Err-Refused-clause-outcome
returns-in-Err-Refused-clause-outcome g c =
    refused_schedule c.args.program.now.budget (opened (opening_of c.args.bytes.now (seen_image c.args.image.now) (map string_bytes c.args.words.now) c.args.program.now)) (schedule_of_file c.args.text.now)
    (now (g.I.Source.left c.args.input.now) (g.O.Sink.held c.args.output.now) (g.E.Sink.held c.args.errors.now)) _ _ c.put_schedule_refusal.result c.ending_after_line.result
    (is_refused (schedule_of_file c.args.text.now) c.in-Err-Refused.field-0 c.in-Err-Refused.fault c.in-Err-Refused.field-0-is c.in-Err-Refused.ensures ∙ ap (λ (f : ScheduleFault). Err f) (sym c.in-Err-Refused.fault-is)) c.ending_after_line.ensures c.put_schedule_refusal.ensures.bytes

pub returns-in-Err-OutOfMemory-clause-outcome : goal.returns-in-Err-OutOfMemory-clause-outcome
returns-in-Err-OutOfMemory-clause-outcome g c =
    nothing_meets (of_schedule c.args.program.now.budget (opened (opening_of c.args.bytes.now (seen_image c.args.image.now) (map string_bytes c.args.words.now) c.args.program.now)) (schedule_of_file c.args.text.now)
    (now (g.I.Source.left c.args.input.now) (g.O.Sink.held c.args.output.now) (g.E.Sink.held c.args.errors.now))) OutOfMemory (g.I.Source.left c.args.input.now) (g.O.Sink.held c.args.output.now) (g.E.Sink.held c.args.errors.now) refl

pub returns-in-Err-clause-outcome : goal.returns-in-Err-clause-outcome
returns-in-Err-clause-outcome g c =
    nothing_meets (of_schedule c.args.program.now.budget (opened (opening_of c.args.bytes.now (seen_image c.args.image.now) (map string_bytes c.args.words.now) c.args.program.now)) (schedule_of_file c.args.text.now)
    (now (g.I.Source.left c.args.input.now) (g.O.Sink.held c.args.output.now) (g.E.Sink.held c.args.errors.now))) OutOfMemory (g.I.Source.left c.args.input.now) (g.O.Sink.held c.args.output.now) (g.E.Sink.held c.args.errors.now) refl

pub returns-clause-outcome : goal.returns-clause-outcome
returns-clause-outcome g c =
    followed_schedule c.args.program.now.budget (opened (opening_of c.args.bytes.now (seen_image c.args.image.now) (map string_bytes c.args.words.now) c.args.program.now)) (schedule_of_file c.args.text.now)
    (now (g.I.Source.left c.args.input.now) (g.O.Sink.held c.args.output.now) (g.E.Sink.held c.args.errors.now)) c.in-Ok.schedule c.in-Ok-open_world.world.world _ c.run_world.result
    c.in-Ok.ensures (ap (λ (x : WorldHeld). x.world) c.in-Ok-open_world.ensures) c.run_world.ensures.outcome

pub returns-in-Err-Refused-clause-kind : goal.returns-in-Err-Refused-clause-kind
returns-in-Err-Refused-clause-kind g c = subst (λ (x : Ending). ends_threads x ≡ true) (sym c.ending_after_line.ensures) (kind_put ends_threads c.put_schedule_refusal.result _ refl refl)

pub returns-in-Err-Refused-clause-read_cause : goal.returns-in-Err-Refused-clause-read_cause
returns-in-Err-Refused-clause-read_cause g c = no_cause _ (ended_other c.put_schedule_refusal.result (ends.ScheduleRefused _) c.ending_after_line.result ends.ReadFault c.ending_after_line.ensures (λ e. cc) (λ e. cc))

pub returns-in-Err-Refused-clause-write_cause : goal.returns-in-Err-Refused-clause-write_cause
returns-in-Err-Refused-clause-write_cause g c = no_cause _ (ended_other c.put_schedule_refusal.result (ends.ScheduleRefused _) c.ending_after_line.result ends.WriteFault c.ending_after_line.ensures (λ e. cc) (λ e. cc))

pub returns-in-Err-Refused-clause-errors_cause : goal.returns-in-Err-Refused-clause-errors_cause
returns-in-Err-Refused-clause-errors_cause g c = ended_cause _ _ c.put_schedule_refusal.result (ends.ScheduleRefused _) c.ending_after_line.result c.ending_after_line.ensures (λ e. cc) c.put_schedule_refusal.ensures.cause

pub returns-in-Err-Refused-clause-no_file : goal.returns-in-Err-Refused-clause-no_file
returns-in-Err-Refused-clause-no_file g c = ended_other c.put_schedule_refusal.result (ends.ScheduleRefused _) c.ending_after_line.result ends.FileFault c.ending_after_line.ensures (λ e. cc) (λ e. cc)

pub returns-in-Err-Refused-clause-memory_first : goal.returns-in-Err-Refused-clause-memory_first
returns-in-Err-Refused-clause-memory_first g c = λ e. absurd (ended_other c.put_schedule_refusal.result (ends.ScheduleRefused _) c.ending_after_line.result ends.OutOfMemory c.ending_after_line.ensures (λ e. cc) (λ e. cc) e)

pub returns-in-Err-Refused-clause-whole : goal.returns-in-Err-Refused-clause-whole
returns-in-Err-Refused-clause-whole g c =
    let is : schedule_of_file c.args.text.now ≡ Err c.in-Err-Refused.fault = is_refused (schedule_of_file c.args.text.now) c.in-Err-Refused.field-0 c.in-Err-Refused.fault c.in-Err-Refused.field-0-is c.in-Err-Refused.ensures in
    keeps_ended (InSchedule c.args.text.now (opening_of c.args.bytes.now (seen_image c.args.image.now) (map string_bytes c.args.words.now) c.args.program.now) c.args.program.now.budget c.ending_after_line.result (g.I.Source.left c.args.input.now)) (λ i. Some (outcome_of_schedule i c.args.program.now.budget (opened (opening_of c.args.bytes.now (seen_image c.args.image.now) (map string_bytes c.args.words.now) c.args.program.now)) (schedule_of_file c.args.text.now))) (g.O.Sink.held c.args.output.now) (g.O.Sink.held c.args.output.now) (g.E.Sink.held c.args.errors.now) _ c.put_schedule_refusal.result (ends.ScheduleRefused _) c.ending_after_line.result (g.I.Source.left c.args.input.now) c.ending_after_line.ensures (λ e. cc) (λ e. cc)
    (none_put (λ i. Some (outcome_of_schedule i c.args.program.now.budget (opened (opening_of c.args.bytes.now (seen_image c.args.image.now) (map string_bytes c.args.words.now) c.args.program.now)) (schedule_of_file c.args.text.now))) (g.I.Source.left c.args.input.now) (g.O.Sink.held c.args.output.now) (λ i. ap (λ (r : Result (List (ℕ × ℕ)) ScheduleFault). (outcome_of_schedule i c.args.program.now.budget (opened (opening_of c.args.bytes.now (seen_image c.args.image.now) (map string_bytes c.args.words.now) c.args.program.now)) r).output) is))

pub returns-in-Err-OutOfMemory-clause-whole : goal.returns-in-Err-OutOfMemory-clause-whole
returns-in-Err-OutOfMemory-clause-whole g c = keeps_none (InSchedule c.args.text.now (opening_of c.args.bytes.now (seen_image c.args.image.now) (map string_bytes c.args.words.now) c.args.program.now) c.args.program.now.budget OutOfMemory (g.I.Source.left c.args.input.now)) (λ i. Some (outcome_of_schedule i c.args.program.now.budget (opened (opening_of c.args.bytes.now (seen_image c.args.image.now) (map string_bytes c.args.words.now) c.args.program.now)) (schedule_of_file c.args.text.now))) (g.O.Sink.held c.args.output.now) (g.O.Sink.held c.args.output.now) (g.E.Sink.held c.args.errors.now) (g.E.Sink.held c.args.errors.now) OutOfMemory (g.I.Source.left c.args.input.now) (λ e. cc) (λ e. cc) (λ e. cc)

pub returns-in-Err-clause-whole : goal.returns-in-Err-clause-whole
returns-in-Err-clause-whole g c = keeps_none (InSchedule c.args.text.now (opening_of c.args.bytes.now (seen_image c.args.image.now) (map string_bytes c.args.words.now) c.args.program.now) c.args.program.now.budget OutOfMemory (g.I.Source.left c.args.input.now)) (λ i. Some (outcome_of_schedule i c.args.program.now.budget (opened (opening_of c.args.bytes.now (seen_image c.args.image.now) (map string_bytes c.args.words.now) c.args.program.now)) (schedule_of_file c.args.text.now))) (g.O.Sink.held c.args.output.now) (g.O.Sink.held c.args.output.now) (g.E.Sink.held c.args.errors.now) (g.E.Sink.held c.args.errors.now) OutOfMemory (g.I.Source.left c.args.input.now) (λ e. cc) (λ e. cc) (λ e. cc)

pub returns-clause-whole : goal.returns-clause-whole
returns-clause-whole g c =
    let w : World = c.in-Ok-open_world.world.world in
    let turns = c.in-Ok.schedule in
    let budget : ℕ = c.args.program.now.budget in
    let of : w ≡ opened (opening_of c.args.bytes.now (seen_image c.args.image.now) (map string_bytes c.args.words.now) c.args.program.now) = ap (λ (x : WorldHeld). x.world) c.in-Ok-open_world.ensures in
    let is : schedule_of_file c.args.text.now ≡ Ok turns = c.in-Ok.ensures in
    keeps_as (InWorld turns w budget c.run_world.result (g.I.Source.left c.run_world.new.input)) (InSchedule c.args.text.now (opening_of c.args.bytes.now (seen_image c.args.image.now) (map string_bytes c.args.words.now) c.args.program.now) c.args.program.now.budget c.run_world.result (g.I.Source.left c.run_world.new.input)) (λ i. Some (outcome_of_world i (threads turns budget (with_input w i)))) (λ i. Some (outcome_of_schedule i c.args.program.now.budget (opened (opening_of c.args.bytes.now (seen_image c.args.image.now) (map string_bytes c.args.words.now) c.args.program.now)) (schedule_of_file c.args.text.now))) c.run_world.result (g.O.Sink.held c.args.output.now) (g.O.Sink.held c.run_world.new.output) (g.E.Sink.held c.args.errors.now) (g.E.Sink.held c.run_world.new.errors) (g.I.Source.left c.args.input.now)
    (λ i st passed. subst (λ (r : Result (List (ℕ × ℕ)) ScheduleFault). MatchResult r (λ t. InWorld t (opened (opening_of c.args.bytes.now (seen_image c.args.image.now) (map string_bytes c.args.words.now) c.args.program.now)) budget c.run_world.result (g.I.Source.left c.run_world.new.input) i st) (λ _. ⊥)) (sym is) (subst (λ (x : World). InWorld turns x budget c.run_world.result (g.I.Source.left c.run_world.new.input) i st) of passed))
    (λ i. ap (λ (x : World). Some (outcome_of_world i (threads turns budget (with_input x i)))) of
    ∙ ap (λ (r : Result (List (ℕ × ℕ)) ScheduleFault). Some (outcome_of_schedule i budget (opened (opening_of c.args.bytes.now (seen_image c.args.image.now) (map string_bytes c.args.words.now) c.args.program.now)) r)) (sym is))
    c.run_world.ensures.whole
