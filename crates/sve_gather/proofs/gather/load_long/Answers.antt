use Rattle.sve_gather.proofs.GatheredWords.{no_words}
use Rattle.sve_gather.proofs.gather.load_long.Goals as goal

pub load_words-requires-clause-zero : goal.load_words-requires-clause-zero
load_words-requires-clause-zero g c = no_words c.args.plan.now c.args.vec.now c.args.mem.now.memory
