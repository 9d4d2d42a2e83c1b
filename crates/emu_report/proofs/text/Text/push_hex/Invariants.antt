use Rattle.std.proofs.Common.{◌≡◌, ◌+◌, ◌++◌, length}
use Rattle.emu_model.specs.Lists.{each}
use Rattle.emu_report.proofs.Digits.{digit_at}
use Rattle.emu_report.proofs.text.Text.push_hex.Given as goal

abbrev pub invariant-digits : goal.invariant-digits
invariant-digits l = record {
  text : l.self-inside.bytes.items ≡ l.fn.self ++ each l.k (digit_at l.digits l.v);
  count : length l.self-inside.bytes.items ≡ length l.fn.self + l.k;
}
