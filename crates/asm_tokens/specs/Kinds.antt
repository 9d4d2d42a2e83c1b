-- Kinds of bytes.
use Rattle.std.specs.Prelude.{ℕ, Bool}
use Rattle.asm_tokens.specs.declared.scan.Kind.{Kind}
use Rattle.asm_tokens.specs.declared.scan.Kind.TheVariants.{Word, Blank, Continuation}
use Rattle.asm_tokens.specs.Tokens.{is_word_byte, is_blank, is_continuation}

abbrev pub is_of : Kind → ℕ → Bool
is_of Word c = is_word_byte c
is_of Blank c = is_blank c
is_of Continuation c = is_continuation c
