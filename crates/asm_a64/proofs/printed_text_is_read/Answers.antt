use Rattle.asm_a64.proofs.ReadBack.{read_back}
use Rattle.asm_a64.proofs.printed_text_is_read.Goals as goal

pub returns : goal.returns
returns c = read_back
