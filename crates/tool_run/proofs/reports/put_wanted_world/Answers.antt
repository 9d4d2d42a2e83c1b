use Rattle.std.proofs.Common.{◌≡◌, List, ℕ, ◌++◌, true, false, refl, sym, ap, subst, ◌∙◌}
use Rattle.command_model.specs.WorldReports.{contexts_lines, stop_text, world_report}
use Rattle.emu_run.specs.Reports.{after_steps}
use Rattle.emu_run.specs.declared.thread.WorldEnding.{WorldEnding}
use Rattle.io_gate.specs.Pieces.{PutsAll}
use Rattle.tool_run.proofs.Stopping.{gains_none, gains_put, rose_put}
use Rattle.tool_run.proofs.reports.put_wanted_world.Goals as goal

pub returns-then-not-wanted-clause-bytes : goal.returns-then-not-wanted-clause-bytes
returns-then-not-wanted-clause-bytes g c = gains_none c.args.wanted (g.R.Sink.held c.args.registers.now) (world_report
    c.args.world.now.world) c.if-not-wanted.true

pub returns-clause-bytes : goal.returns-clause-bytes
returns-clause-bytes g c =
    gains_put c.args.wanted c.is_err.result _ _ (world_report c.args.world.now.world)
    c.put_world.result c.if-not-wanted.false c.is_err.ensures.value
    (subst (λ (xs : List ℕ). PutsAll (g.R.Sink.held c.args.registers.now) (g.R.Sink.held c.put_world.new.errors) xs
    c.put_world.result)
    (ap (λ (s : WorldEnding). (stop_text s ++ after_steps c.args.world.now.world.steps) ++ contexts_lines
    c.args.world.now.world)
    c.requires) c.put_world.ensures.bytes)

pub returns-clause-cause : goal.returns-clause-cause
returns-clause-cause g c = rose_put _ _ c.is_err.result c.put_world.result c.is_err.ensures.value
    c.put_world.ensures.cause

pub returns-then-not-wanted-clause-unwanted : goal.returns-then-not-wanted-clause-unwanted
returns-then-not-wanted-clause-unwanted g c = λ _. refl

pub returns-clause-unwanted : goal.returns-clause-unwanted
returns-clause-unwanted g c = λ none. absurd (let t : true ≡ false = sym c.if-not-wanted.false ∙ none in cc)
