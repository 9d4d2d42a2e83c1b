use Rattle.std.proofs.lemmas.Str.{IsCharBoundary-start}
use Rattle.text_code.proofs.operands.last_label.Goals as goal

pub next_token-requires : goal.next_token-requires
next_token-requires c = IsCharBoundary-start c.args.rest.now c.utf8.rest
