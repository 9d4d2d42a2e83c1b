use Rattle.std.proofs.Common.{sym, ◌∙◌}
use Rattle.trace_lines.specs.Lines.{traced_line}
use Rattle.trace_lines.proofs.Putting.{left_out, told_text}
use Rattle.step_traces.specs.Traces.{is_told}
use Rattle.step_traces.proofs.Walking.{ok_equal}
use Rattle.step_traces.proofs.walk.put_told.Goals as goal

pub returns-then-is_told-clause-bytes : goal.returns-then-is_told-clause-bytes
returns-then-is_told-clause-bytes g c =
    let old = c.args.old.now.parts in
    let new = c.args.new.now.parts in
    ok_equal _ _ _ _ c.put_step_line.result (told_text (is_told c.args.window.now old new) (traced_line c.args.shown.now old new c.args.new.now.accesses) (sym c.is_told.ensures ∙ c.if-is_told.true)) c.put_step_line.ensures.bytes

pub returns-else-is_told-clause-bytes : goal.returns-else-is_told-clause-bytes
returns-else-is_told-clause-bytes g c =
    let old = c.args.old.now.parts in
    let new = c.args.new.now.parts in
    left_out _ (traced_line c.args.shown.now old new c.args.new.now.accesses) (is_told c.args.window.now old new) (sym c.is_told.ensures ∙ c.if-is_told.false)
