use Rattle.std.proofs.Common.{sym}
use Rattle.text_code.proofs.Lookup.{long_token}
use Rattle.text_code.proofs.token_words.item_of_word.Goals as goal

pub returns-in_default : goal.returns-in_default
returns-in_default c = sym (long_token c.args.token.now c.in_default.ensures)
