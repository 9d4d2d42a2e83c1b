use Rattle.std.proofs.Common.{ap}
use Rattle.asm_text.specs.Disassembly.{word_text}
use Rattle.debug_shows.proofs.Pieces.{ok_text}
use Rattle.debug_shows.proofs.places.push_word.Goals as goal

pub returns-in-Some : goal.returns-in-Some
returns-in-Some c = ok_text c.push_text.result _ _ _ _ (ap (word_text c.args.word c.args.pc) c.in-Some.ensures.table) c.push_text.ensures

pub returns-in-None : goal.returns-in-None
returns-in-None c = ok_text c.push_plain.result _ _ _ _ (ap (word_text c.args.word c.args.pc) c.in-None.ensures.table) c.push_plain.ensures
