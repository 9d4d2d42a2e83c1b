use Rattle.std.proofs.Common.{◌≡◌, List, ℕ, [], ◌++◌, if◌then◌else◌, sym, ap, ◌∙◌, append_assoc}
use Rattle.emu_model.specs.Access.{value}
use Rattle.emu_run.specs.Text.{newline}
use Rattle.emu_report.proofs.Puts.{put_both, put_equal}
use Rattle.trace_lines.specs.Lines.{access_texts, head_text, scalar_changes, vector_changes}
use Rattle.step_traces.proofs.step.put_step_line.Goals as goal

regroup : (h s v a n : List ℕ) → (h ++ ((s ++ v) ++ a)) ++ n ≡ (((h ++ s) ++ v) ++ a) ++ n
regroup h s v a n = ap (λ (xs : List ℕ). xs ++ n) (sym (append_assoc h (s ++ v) a) ∙ ap (λ (xs : List ℕ). xs ++ a) (sym (append_assoc h s v)))

pub returns-clause-bytes : goal.returns-clause-bytes
returns-clause-bytes g c =
    let shown = c.args.shown.now in
    let old = c.args.old.now.parts in
    let new = c.args.new.now.parts in
    let head = head_text old.steps old.core.pc (value old.memory old.core.pc 4) in
    let scalars = scalar_changes shown old.core new.core in
    let vectors = vector_changes shown old.vectors new.vectors in
    let touched = if shown.memory then access_texts old.memory new.memory c.args.new.now.accesses else [] in
    put_equal _ _ _ _ (regroup head scalars vectors touched newline)
    (put_both _ _ _ (head ++ ((scalars ++ vectors) ++ touched)) newline
    (put_both _ _ _ head ((scalars ++ vectors) ++ touched) c.in_ok-put_place.ensures.bytes c.in_ok-put_changes.ensures.bytes) c.in_ok-put_end.ensures.bytes)
