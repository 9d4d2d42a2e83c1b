use Rattle.std.proofs.lemmas.Str.{IsCharBoundary-start}
use Rattle.asm_text.proofs.lines.read_line.Goals as goal

pub next_token-requires : goal.next_token-requires
next_token-requires g c = IsCharBoundary-start c.args.text.now c.utf8.text
