use Rattle.std.proofs.Common.{◌≡◌, sym, ◌∙◌, refl, true, subst, Some}
use Rattle.command_lines.specs.Outcome.{ending_of_world, outcome_of_world}
use Rattle.command_lines.specs.declared.ending.Ending.{Ending}
use Rattle.command_lines.specs.declared.ending.Ending.TheVariants.{ReadFault, WriteFault}
use Rattle.commands.specs.Lines.{ends_threads}
use Rattle.commands.proofs.MayEnd.{kind_broken, kind_put, kind_stop}
use Rattle.commands.proofs.Worlds.{broken_world, ended_stop, reported_world, stopped_errors, stopped_reads, stopped_writes, fine_not}
use Rattle.emu_run.specs.Threads.{threads, with_input}
use Rattle.commands.specs.Whole.{InWorld}
use Rattle.commands.proofs.Keeping.{keeps_ended, world_keeps, world_whole}
use Rattle.commands.proofs.threads.run_world.Goals as goal

pub returns-in-Err-clause-outcome : goal.returns-in-Err-clause-outcome
returns-in-Err-clause-outcome g c =
    broken_world c.args.schedule.now c.args.budget c.args.world.now.world c.run-end.new.self.world c.run-end.result _ _ _ _ _ _ c.in-Err.ending (sym c.in-Err.is ∙ c.stop_of.ensures)
    c.run-end.ensures.input c.run-end.ensures.output c.run-end.ensures.errors

pub returns-in-Ok-clause-outcome : goal.returns-in-Ok-clause-outcome
returns-in-Ok-clause-outcome g c =
    reported_world c.args.schedule.now c.args.budget c.args.world.now.world c.run-end.new.self.world c.run-end.result _ _ _ _ _ _ _ c.in-Ok.stop c.ending_after_line.result c.put_world.result (sym c.in-Ok.is ∙ c.stop_of.ensures)
    c.run-end.ensures.state c.run-end.ensures.output c.run-end.ensures.errors c.run-end.ensures.end c.put_world.ensures.bytes
    (ended_stop c.put_world.result c.in-Ok.stop c.ending_of_stop.result c.ending_after_line.result c.ending_of_stop.ensures c.ending_after_line.ensures)

pub returns-in-Err-clause-kind : goal.returns-in-Err-clause-kind
returns-in-Err-clause-kind g c = kind_broken c.run-end.result c.in-Err.ending (sym c.in-Err.is ∙ c.stop_of.ensures)

pub returns-in-Ok-clause-kind : goal.returns-in-Ok-clause-kind
returns-in-Ok-clause-kind g c =
    subst (λ (x : Ending). ends_threads x ≡ true) (sym (ended_stop c.put_world.result c.in-Ok.stop c.ending_of_stop.result c.ending_after_line.result c.ending_of_stop.ensures c.ending_after_line.ensures))
    (kind_put ends_threads c.put_world.result (ending_of_world c.in-Ok.stop) refl (kind_stop c.in-Ok.stop))

pub returns-in-Ok-clause-read_cause : goal.returns-in-Ok-clause-read_cause
returns-in-Ok-clause-read_cause g c =
    stopped_reads c.run-end.result c.in-Ok.stop c.put_world.result c.ending_after_line.result _ _ (sym c.in-Ok.is ∙ c.stop_of.ensures)
    (ended_stop c.put_world.result c.in-Ok.stop c.ending_of_stop.result c.ending_after_line.result c.ending_of_stop.ensures c.ending_after_line.ensures) c.run-end.ensures.read_cause

pub returns-in-Ok-clause-write_cause : goal.returns-in-Ok-clause-write_cause
returns-in-Ok-clause-write_cause g c =
    stopped_writes c.run-end.result c.in-Ok.stop c.put_world.result c.ending_after_line.result _ _ (sym c.in-Ok.is ∙ c.stop_of.ensures)
    (ended_stop c.put_world.result c.in-Ok.stop c.ending_of_stop.result c.ending_after_line.result c.ending_of_stop.ensures c.ending_after_line.ensures) c.run-end.ensures.write_cause

pub returns-in-Ok-clause-errors_cause : goal.returns-in-Ok-clause-errors_cause
returns-in-Ok-clause-errors_cause g c =
    stopped_errors c.run-end.result c.in-Ok.stop c.put_world.result c.ending_after_line.result _ _ _ (sym c.in-Ok.is ∙ c.stop_of.ensures)
    (ended_stop c.put_world.result c.in-Ok.stop c.ending_of_stop.result c.ending_after_line.result c.ending_of_stop.ensures c.ending_after_line.ensures) c.run-end.ensures.errors_cause c.put_world.ensures.cause

pub returns-in-Err-clause-whole : goal.returns-in-Err-clause-whole
returns-in-Err-clause-whole g c =
    world_keeps c.args.schedule.now c.args.budget c.args.world.now.world c.run-end.new.self.world c.run-end.result c.in-Err.ending (g.I.Source.left c.run-end.new.input) (g.O.Sink.held c.args.output.now) (g.O.Sink.held c.run-end.new.output) (g.E.Sink.held c.args.errors.now) (g.E.Sink.held c.run-end.new.errors) (sym c.in-Err.is ∙ c.stop_of.ensures)
    c.run-end.ensures.unended c.run-end.ensures.unspent c.run-end.ensures.read_named c.run-end.ensures.write_named c.run-end.ensures.errors_named (λ i. Some (outcome_of_world i (threads c.args.schedule.now c.args.budget (with_input c.args.world.now.world i)))) (g.I.Source.left c.args.input.now) c.run-end.ensures.kept c.run-end.ensures.whole_output c.run-end.ensures.whole_errors

pub returns-in-Ok-clause-whole : goal.returns-in-Ok-clause-whole
returns-in-Ok-clause-whole g c =
    keeps_ended (InWorld c.args.schedule.now c.args.world.now.world c.args.budget c.ending_after_line.result (g.I.Source.left c.run-end.new.input)) (λ i. Some (outcome_of_world i (threads c.args.schedule.now c.args.budget (with_input c.args.world.now.world i)))) (g.O.Sink.held c.args.output.now) (g.O.Sink.held c.run-end.new.output) (g.E.Sink.held c.args.errors.now) _ c.put_world.result (ending_of_world c.in-Ok.stop) c.ending_after_line.result (g.I.Source.left c.args.input.now)
    (ended_stop c.put_world.result c.in-Ok.stop c.ending_of_stop.result c.ending_after_line.result c.ending_of_stop.ensures c.ending_after_line.ensures)
    (fine_not c.in-Ok.stop ReadFault refl) (fine_not c.in-Ok.stop WriteFault refl)
    (world_whole c.args.schedule.now c.args.budget c.args.world.now.world c.run-end.result c.in-Ok.stop (sym c.in-Ok.is ∙ c.stop_of.ensures) (g.I.Source.left c.args.input.now) (g.O.Sink.held c.args.output.now) (g.O.Sink.held c.run-end.new.output) c.run-end.ensures.output)
