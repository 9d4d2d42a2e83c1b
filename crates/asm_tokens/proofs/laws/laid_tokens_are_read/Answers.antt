use Rattle.asm_tokens.proofs.Split.{one_token, split_again}
use Rattle.asm_tokens.proofs.laws.laid_tokens_are_read.Goals as goal

pub returns-clause-one : goal.returns-clause-one
returns-clause-one c = one_token

pub returns-clause-all : goal.returns-clause-all
returns-clause-all c = split_again
