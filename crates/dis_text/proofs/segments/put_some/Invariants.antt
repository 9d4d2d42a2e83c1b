use Rattle.std.proofs.Common.{◌≡◌, ◌+◌, ◌*◌, ◌≤◌, length}
use Rattle.emu_run.specs.Registers.{lines_of}
use Rattle.asm_text.specs.Disassembly.{skipped, line_at}
use Rattle.dis_text.proofs.segments.put_some.Given as goal

abbrev pub invariant-words : goal.invariant-words
invariant-words g l = record {
  text : l.text ≡ lines_of l.k (λ k. line_at l.file l.segment (skipped l.segment.address + 4 * (l.first + k)));
  short : length l.text ≤ 123 * l.k;
}
