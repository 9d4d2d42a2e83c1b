use Rattle.std.proofs.Common.{sym, ap}
use Rattle.emu_report.proofs.Puts.{put_equal}
use Rattle.trace_lines.proofs.Putting.{put_none}
use Rattle.trace_options.specs.declared.window.Stage.{Stage}
use Rattle.step_traces.specs.Traces.{told_lines}
use Rattle.step_traces.proofs.Walking.{ok_equal}
use Rattle.step_traces.proofs.walk.put_at.Goals as goal

pub returns-in-Waiting-clause-bytes : goal.returns-in-Waiting-clause-bytes
returns-in-Waiting-clause-bytes g c =
    let a = c.args in
    put_equal _ _ _ _ (ap (λ (s : Stage). told_lines a.shown.now a.window.now s a.old.now.parts a.new.now.parts a.new.now.accesses) (sym c.in-Waiting.is)) (put_none _)

pub returns-in-Telling-clause-bytes : goal.returns-in-Telling-clause-bytes
returns-in-Telling-clause-bytes g c =
    let a = c.args in
    ok_equal _ _ _ _ c.put_told.result (ap (λ (s : Stage). told_lines a.shown.now a.window.now s a.old.now.parts a.new.now.parts a.new.now.accesses) (sym c.in-Telling.is)) c.put_told.ensures.bytes

pub returns-in-Over-clause-bytes : goal.returns-in-Over-clause-bytes
returns-in-Over-clause-bytes g c =
    let a = c.args in
    put_equal _ _ _ _ (ap (λ (s : Stage). told_lines a.shown.now a.window.now s a.old.now.parts a.new.now.parts a.new.now.accesses) (sym c.in-Over.is)) (put_none _)
