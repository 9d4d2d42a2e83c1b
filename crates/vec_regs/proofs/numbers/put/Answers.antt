use Rattle.vec_regs.proofs.Parts.{put_sum_fits, put_all_fits, put_is}
use Rattle.vec_regs.proofs.numbers.put.Goals as goal

pub overflow_add-result : goal.overflow_add-result
overflow_add-result c = record { fits = put_sum_fits c.args.word c.args.at c.args.b c.args.v c.ranges.word.fits c.requires.value c.requires.within }

pub overflow_add-result-2 : goal.overflow_add-result-2
overflow_add-result-2 c = record { fits = put_all_fits c.args.word c.args.at c.args.b c.args.v c.ranges.word.fits c.requires.value c.requires.within c.requires.part.0 }

pub returns : goal.returns
returns c = put_is c.args.word c.args.at c.args.b c.args.v c.ranges.word.fits c.requires.value c.requires.within c.requires.part.0
