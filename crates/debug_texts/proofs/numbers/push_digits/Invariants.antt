use Rattle.std.proofs.Common.{◌≡◌, ◌++◌, string_bytes}
use Rattle.emu_model.specs.Lists.{each}
use Rattle.emu_report.proofs.Digits.{digit_at}
use Rattle.debug_texts.proofs.numbers.push_digits.Given as goal

abbrev pub invariant-digits : goal.invariant-digits
invariant-digits l = string_bytes l.text ≡ string_bytes l.fn.text ++ each l.k (digit_at l.count l.v)
