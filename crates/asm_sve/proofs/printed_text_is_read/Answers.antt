use Rattle.asm_sve.proofs.ReadBack.{read_back}
use Rattle.asm_sve.proofs.printed_text_is_read.Goals as goal

pub returns : goal.returns
returns c = read_back
