use Rattle.std.proofs.Common.{◌≡◌, ◌+◌, ◌-◌, ◌++◌, length}
use Rattle.emu_model.specs.Lists.{each}
use Rattle.emu_run.specs.Text.{hex_digit}
use Rattle.emu_report.specs.WordDigits.{digit_of}
use Rattle.emu_report.proofs.text.Text.push_words.Given as goal

abbrev pub invariant-digits : goal.invariant-digits
invariant-digits l = record {
  text : l.self-inside.bytes.items ≡ l.fn.self ++ each l.k (λ k. hex_digit (digit_of l.words (l.digits - 1 - k)));
  count : length l.self-inside.bytes.items ≡ length l.fn.self + l.k;
}
