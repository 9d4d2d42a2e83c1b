use Rattle.std.proofs.Common.{◌≡◌, string_bytes, false, true, refl, sym, ap, ◌∙◌}
use Rattle.command_lines.specs.declared.ending.Ending.TheVariants.{FileFault, ReadFault, WriteFault, ErrorsFault}
use Rattle.commands.specs.Promises.{is_failure}
use Rattle.commands.proofs.Worlds.{ends_as_world, stops_broken}
use Rattle.tool_run.specs.Still.{is_unreported}
use Rattle.tool_run.specs.Stops.{world_stop}
use Rattle.tool_run.proofs.Causes.{explained_other, explained_silent}
use Rattle.tool_run.proofs.Runs.{explained_meets}
use Rattle.tool_run.proofs.Still.{failed_stopped, stopped_report, untouched, world_reported}
use Rattle.tool_run.proofs.Worlds.{broken_world, fault_reads, fault_writes, fault_errors, fault_no_file, stop_of_world}
use Rattle.tool_run.proofs.Worlds.{told_world, whole_world, world_exit}
use Rattle.tool_run.proofs.world.run_world.Goals as goal

pub put_wanted_world-failed-requires : goal.put_wanted_world-failed-requires
put_wanted_world-failed-requires g c = stop_of_world c.args.schedule.now c.args.budget c.args.world.now.world
    c.run-end.new.self.world c.run-end.result c.in-Ok.stop (sym c.in-Ok.is ∙ c.stop_of.ensures) c.run-end.ensures.end

pub said_of_world-said-requires : goal.said_of_world-said-requires
said_of_world-said-requires g c = stop_of_world c.args.schedule.now c.args.budget c.args.world.now.world
    c.run-end.new.self.world c.run-end.result c.in-Ok.stop (sym c.in-Ok.is ∙ c.stop_of.ensures) c.run-end.ensures.end

pub returns-in-Err-clause-outcome : goal.returns-in-Err-clause-outcome
returns-in-Err-clause-outcome g c =
    broken_world c.args.schedule.now c.args.budget c.args.world.now.world c.run-end.new.self.world c.run-end.result
    _ _ _ _ _ _ c.in-Err.ending c.silent.result.ending (sym c.in-Err.is ∙ c.stop_of.ensures) c.silent.ensures.ending
    c.run-end.ensures.input c.run-end.ensures.output c.run-end.ensures.errors

pub returns-in-Err-clause-exit : goal.returns-in-Err-clause-exit
returns-in-Err-clause-exit g c = λ code is. c.silent.ensures.said

pub returns-in-Err-clause-stopped : goal.returns-in-Err-clause-stopped
returns-in-Err-clause-stopped g c = failed_stopped (g.I.Source.left c.args.input.now) _ c.silent.result.ending (ap
    is_failure c.silent.ensures.ending ∙ (stops_broken c.run-end.result c.in-Err.ending (sym c.in-Err.is ∙
    c.stop_of.ensures)).1)

pub returns-in-Err-clause-caused : goal.returns-in-Err-clause-caused
returns-in-Err-clause-caused g c =
    let is = sym c.in-Err.is ∙ c.stop_of.ensures in
    record {
      read = λ e. c.run-end.ensures.read_cause.rose (fault_reads c.run-end.result c.in-Err.ending is (sym
          c.silent.ensures.ending ∙ e));
      write = λ e. c.run-end.ensures.write_cause.rose (fault_writes c.run-end.result c.in-Err.ending is (sym
          c.silent.ensures.ending ∙ e));
      errors = λ e. c.run-end.ensures.errors_cause.rose (fault_errors c.run-end.result c.in-Err.ending is (sym
          c.silent.ensures.ending ∙ e));
      later = c.run-end.ensures.errors_cause.later;
      registers = λ e. absurd (let t : false ≡ true = sym c.silent.ensures.report ∙ e in cc);
    }

pub returns-in-Err-clause-no_file : goal.returns-in-Err-clause-no_file
returns-in-Err-clause-no_file g c = λ e. fault_no_file c.run-end.result c.in-Err.ending (sym c.in-Err.is ∙
    c.stop_of.ensures) (sym c.silent.ensures.ending ∙ e)

pub returns-in-Ok-clause-outcome : goal.returns-in-Ok-clause-outcome
returns-in-Ok-clause-outcome g c =
    explained_meets _ _ c.said_of_world-said.result _ c.ending_of_stop.result c.with_explanation.result.ending _ _
    c.with_explanation.ensures.said c.with_explanation.ensures.wanting
    (whole_world c.args.schedule.now c.args.budget c.args.world.now.world c.run-end.new.self.world c.run-end.result
    _ _ _ _ _ _ c.in-Ok.stop c.ending_of_stop.result c.ending_of_stop.ensures (sym c.in-Ok.is ∙ c.stop_of.ensures)
    c.run-end.ensures.state c.run-end.ensures.output c.run-end.ensures.errors c.run-end.ensures.end)

pub returns-in-Ok-clause-exit : goal.returns-in-Ok-clause-exit
returns-in-Ok-clause-exit g c =
    let of = stop_of_world c.args.schedule.now c.args.budget c.args.world.now.world c.run-end.new.self.world
    c.run-end.result c.in-Ok.stop (sym c.in-Ok.is ∙ c.stop_of.ensures) c.run-end.ensures.end in
    explained_silent string_bytes c.said_of_world-said.result (world_stop c.args.bytes.now c.args.segments.now
    c.run-end.new.self.world) c.ending_of_stop.result c.with_explanation.result.ending _
    (λ t explained code exit. world_exit c.args.bytes.now c.args.segments.now c.run-end.new.self.world c.in-Ok.stop t of
    explained code (sym c.ending_of_stop.ensures ∙ exit))
    c.said_of_world-said.ensures c.with_explanation.ensures.said c.with_explanation.ensures.wanting

pub returns-in-Ok-clause-stopped : goal.returns-in-Ok-clause-stopped
returns-in-Ok-clause-stopped g c =
    told_world c.args.schedule.now c.args.budget c.args.world.now.world c.run-end.new.self.world c.run-end.result _
    string_bytes c.said_of_world-said.result c.args.bytes.now c.args.segments.now (g.I.Source.left c.args.input.now) _
    c.args.wanted c.put_wanted_world-failed.result c.with_explanation.result.report_failed _ _ c.in-Ok.stop
    c.ending_of_stop.result c.with_explanation.result.ending _
    (sym c.in-Ok.is ∙ c.stop_of.ensures) c.run-end.ensures.state c.said_of_world-said.ensures
    c.with_explanation.ensures.said c.with_explanation.ensures.wanting c.with_explanation.ensures.report
    c.put_wanted_world-failed.ensures.bytes

pub returns-in-Ok-clause-caused : goal.returns-in-Ok-clause-caused
returns-in-Ok-clause-caused g c =
    let fine = ap is_failure c.ending_of_stop.ensures ∙ (ends_as_world c.in-Ok.stop).whole in
    record {
      read = λ e. absurd (explained_other _ _ c.said_of_world-said.result c.ending_of_stop.result
          c.with_explanation.result.ending ReadFault c.with_explanation.ensures.said c.with_explanation.ensures.wanting
          fine refl (λ e. cc) e);
      write = λ e. absurd (explained_other _ _ c.said_of_world-said.result c.ending_of_stop.result
          c.with_explanation.result.ending WriteFault c.with_explanation.ensures.said
          c.with_explanation.ensures.wanting fine refl (λ e. cc) e);
      errors = λ e. absurd (explained_other _ _ c.said_of_world-said.result c.ending_of_stop.result
          c.with_explanation.result.ending ErrorsFault c.with_explanation.ensures.said
          c.with_explanation.ensures.wanting fine refl (λ e. cc) e);
      later = c.run-end.ensures.errors_cause.later;
      registers = λ e. c.put_wanted_world-failed.ensures.cause (sym c.with_explanation.ensures.report ∙ e);
    }

pub returns-in-Ok-clause-no_file : goal.returns-in-Ok-clause-no_file
returns-in-Ok-clause-no_file g c = explained_other _ _ c.said_of_world-said.result c.ending_of_stop.result
    c.with_explanation.result.ending FileFault c.with_explanation.ensures.said c.with_explanation.ensures.wanting (ap
    is_failure c.ending_of_stop.ensures ∙ (ends_as_world c.in-Ok.stop).whole) refl (λ e. cc)

pub returns-in-Err-clause-kept : goal.returns-in-Err-clause-kept
returns-in-Err-clause-kept g c = untouched c.args.wanted c.silent.result.ending c.args.registers.now

pub returns-in-Ok-clause-kept : goal.returns-in-Ok-clause-kept
returns-in-Ok-clause-kept g c =
    stopped_report _ _ c.said_of_world-said.result c.args.wanted c.ending_of_stop.result
    c.with_explanation.result.ending _ c.with_explanation.ensures.said c.with_explanation.ensures.wanting
    (ap is_unreported c.ending_of_stop.ensures ∙ world_reported c.in-Ok.stop) c.put_wanted_world-failed.ensures.unwanted
