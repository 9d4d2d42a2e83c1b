use Rattle.std.proofs.Common.{drop}
use Rattle.asm_tokens.proofs.Digits.{Read}
use Rattle.asm_tokens.proofs.numbers.digits.Given as goal

abbrev pub invariant-loop-c : goal.invariant-loop-c
invariant-loop-c l = Read l.base l.bytes (drop l.c-index l.bytes) l.value
