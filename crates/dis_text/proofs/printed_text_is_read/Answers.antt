use Rattle.dis_text.proofs.ReadBack.{read_back}
use Rattle.dis_text.proofs.printed_text_is_read.Goals as goal

pub returns : goal.returns
returns c = read_back
