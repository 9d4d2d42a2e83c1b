use Rattle.std.proofs.Common.{◌≡◌, ◌≤◌, ◌+◌, ◌*◌, ◌++◌, length, codes, get_or}
use Rattle.emu_run.specs.Registers.{lines_of, numbered, word_line}
use Rattle.emu_report.proofs.registers.push_x_lines.Given as goal

abbrev pub invariant-registers : goal.invariant-registers
invariant-registers l = record {
  text : l.text ≡ l.fn.text ++ lines_of l.k (λ k. word_line (numbered (codes "x") k) (get_or l.core.x k 0));
  short : length l.text ≤ length l.fn.text + 39 * l.k;
}
