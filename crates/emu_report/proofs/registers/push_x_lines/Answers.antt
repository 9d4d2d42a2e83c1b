use Rattle.std.proofs.Common.{ℕ, ◌++◌, ap, codes, get_or, ◌∙◌, arith}
use Rattle.emu_run.specs.Text.{hex}
use Rattle.emu_run.specs.Registers.{numbered, word_line}
use Rattle.emu_report.proofs.Core.{x_read}
use Rattle.emu_report.proofs.Lines.{line_appended, lines_appended}
use Rattle.emu_report.proofs.registers.push_x_lines.Goals as goal

pub registers-preserved : goal.registers-preserved
registers-preserved c =
    let k = c.registers.k in
    let name = numbered (codes "x") k in
    record {
      text = lines_appended _ _ _ (λ k. word_line (numbered (codes "x") k) (get_or c.args.core.now.x k 0)) k c.registers.invariant.text (line_appended _ _ _ name (hex 16 c.x.result) c.push_name.ensures.text c.push_word.ensures.text ∙ ap (λ (v : ℕ). c.registers.text ++ word_line name v) (x_read c.args.core.now k c.at.result c.x.result (omega arith) c.at.ensures c.x.ensures));
      short = omega arith;
    }
