use Rattle.asm_tokens.specs.Tokens.{tokens}
use Rattle.asm_a64.specs.Law as a64
use Rattle.asm_a64.specs.Table.{a64_patterns}
use Rattle.asm_sve.specs.Law as sve
use Rattle.asm_sve.specs.Table.{sve_patterns}
use Rattle.dis_text.proofs.Starts.{none_by_both}
use Rattle.dis_text.proofs.Tested.{apart}
use Rattle.dis_text.proofs.apart.no_statement_is_of_both.Goals as goal

pub returns : goal.returns
returns c = λ name rest s t h k. none_by_both a64.in_table sve.in_table a64_patterns sve_patterns name (tokens rest) s t apart h k
