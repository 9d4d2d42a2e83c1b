use Rattle.text_model.proofs.Inverse.{all_tell}
use Rattle.asm_sve.specs.Table.{sve_patterns}
use Rattle.asm_sve.proofs.Checked.{readable, aimed_well}
use Rattle.asm_sve.proofs.items_tell_their_words.Goals as goal

pub returns : goal.returns
returns c = all_tell sve_patterns readable aimed_well
