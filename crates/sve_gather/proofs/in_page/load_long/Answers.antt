use Rattle.sve_gather.proofs.GatheredWords.{no_words}
use Rattle.sve_gather.proofs.in_page.load_long.Goals as goal

pub words_in_page-is_done-requires-clause-zero : goal.words_in_page-is_done-requires-clause-zero
words_in_page-is_done-requires-clause-zero g c = λ m. no_words c.args.plan.now c.args.vec.now m
