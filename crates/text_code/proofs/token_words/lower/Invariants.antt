use Rattle.std.proofs.Common.{◌≡◌, length, take}
use Rattle.text_model.specs.Statement.{lowered}
use Rattle.text_code.proofs.token_words.lower.Given as goal

abbrev pub invariant-loop-c : goal.invariant-loop-c
invariant-loop-c l = (l.lower.items ≡ lowered (take l.c-index l.token)) × (length l.lower.items ≡ l.c-index)
