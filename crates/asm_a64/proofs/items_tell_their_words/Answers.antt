use Rattle.text_model.proofs.Inverse.{all_tell}
use Rattle.asm_a64.specs.Opened.{printed_patterns}
use Rattle.asm_a64.proofs.Legible.{readable, aimed_well}
use Rattle.asm_a64.proofs.items_tell_their_words.Goals as goal

pub returns : goal.returns
unfolding printed_patterns
returns c = all_tell printed_patterns readable aimed_well
