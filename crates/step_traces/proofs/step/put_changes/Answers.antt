use Rattle.std.proofs.Common.{[], ◌++◌, if◌then◌else◌}
use Rattle.emu_report.proofs.Puts.{put_both}
use Rattle.trace_lines.specs.Lines.{access_texts, scalar_changes, vector_changes}
use Rattle.step_traces.proofs.step.put_changes.Goals as goal

pub returns-clause-bytes : goal.returns-clause-bytes
returns-clause-bytes g c =
    let shown = c.args.shown.now in
    let old = c.args.old.now.parts in
    let new = c.args.new.now.parts in
    let scalars = scalar_changes shown old.core new.core in
    let vectors = vector_changes shown old.vectors new.vectors in
    let touched = if shown.memory then access_texts old.memory new.memory c.args.new.now.accesses else [] in
    put_both _ _ _ (scalars ++ vectors) touched (put_both _ _ _ scalars vectors c.in_ok-put_core.ensures.bytes c.in_ok-put_vec.ensures.bytes) c.in_ok-put_touched.ensures.bytes
