use Rattle.asm_a64.proofs.Aimed.{aimed_held}
use Rattle.asm_a64.proofs.aimed_words_are_rows.Goals as goal

pub returns : goal.returns
returns c = aimed_held
