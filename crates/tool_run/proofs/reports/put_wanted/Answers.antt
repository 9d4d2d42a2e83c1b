use Rattle.emu_run.specs.Reports.{report}
use Rattle.tool_run.proofs.Stopping.{gains_none, gains_put, rose_put}
use Rattle.std.proofs.Common.{◌≡◌, true, false, refl, sym, ◌∙◌}
use Rattle.tool_run.proofs.reports.put_wanted.Goals as goal

pub returns-then-not-wanted-clause-bytes : goal.returns-then-not-wanted-clause-bytes
returns-then-not-wanted-clause-bytes g c = gains_none c.args.wanted (g.R.Sink.held c.args.registers.now) (report
    c.args.machine.now.parts) c.if-not-wanted.true

pub returns-clause-bytes : goal.returns-clause-bytes
returns-clause-bytes g c = gains_put c.args.wanted c.is_err.result _ _ (report c.args.machine.now.parts)
    c.put_report.result c.if-not-wanted.false c.is_err.ensures.value c.put_report.ensures.bytes

pub returns-clause-cause : goal.returns-clause-cause
returns-clause-cause g c = rose_put _ _ c.is_err.result c.put_report.result c.is_err.ensures.value
    c.put_report.ensures.cause

pub returns-then-not-wanted-clause-unwanted : goal.returns-then-not-wanted-clause-unwanted
returns-then-not-wanted-clause-unwanted g c = λ _. refl

pub returns-clause-unwanted : goal.returns-clause-unwanted
returns-clause-unwanted g c = λ none. absurd (let t : true ≡ false = sym c.if-not-wanted.false ∙ none in cc)
