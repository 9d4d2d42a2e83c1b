use Rattle.std.proofs.Common.{◌+◌, ◌*◌, ◌-◌, ◌++◌, ◌∙◌, List, ℕ, string_bytes, sym, ap, arith}
use Rattle.word_counts.specs.Counts.{count_at}
use Rattle.word_counts.specs.Lines.{lines_from}
use Rattle.word_counts.proofs.Listed.{all_lines, line_told}
use Rattle.word_counts.proofs.lines.push_page.Goals as goal

pub loop-word-preserved : goal.loop-word-preserved
loop-word-preserved c =
    let w = c.loop-word.word in
    let m = 1024 * c.args.page + 1024 - (w + 1) in
    ap (λ (s : List ℕ). s ++ lines_from count_at c.args.tables.now (w + 1) m) c.in_ok-push_word.ensures
    ∙ line_told (string_bytes c.loop-word.text) c.args.tables.now w (1024 * c.args.page + 1024 - w) m (omega arith)
    ∙ c.loop-word.invariant

pub returns : goal.returns
returns c =
    let w = c.loop-word.word in
    sym (all_lines (string_bytes c.loop-word.text) c.args.tables.now w (1024 * c.args.page + 1024 - w) (omega arith)) ∙ c.loop-word.invariant
