use Rattle.std.proofs.Common.{◌≡◌, ◌++◌, ◌-◌, ◌≤◌, string_bytes}
use Rattle.debug_texts.specs.Numbers.{bits_text}
use Rattle.debug_texts.proofs.numbers.push_bits.Given as goal

-- what was appended, and the bits that are left, are all bits
abbrev pub invariant-bits : goal.invariant-bits
invariant-bits l = record {
  left : string_bytes l.text ++ bits_text (l.bits - l.k) l.v ≡ string_bytes l.fn.text ++ bits_text l.bits l.v;
  within : l.k ≤ l.bits;
}
