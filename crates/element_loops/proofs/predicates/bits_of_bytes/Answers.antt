use Rattle.element_loops.proofs.PredicateBytes.{bits_of_placed}
use Rattle.element_loops.proofs.predicates.bits_of_bytes.Goals as goal

pub returns : goal.returns
returns c = bits_of_placed c.args.bytes.now c.put_words.new.words c.put_words.ensures.bytes
