use Rattle.sve_gather.proofs.GatheredWords.{words_loaded}
use Rattle.sve_gather.proofs.gather.write.Goals as goal

pub returns : goal.returns
returns c = λ m given.
    words_loaded c.args.plan.now c.args.vec.now m c.args.words.now c.register_at.result c.set_z_words.new.self c.requires.gather c.length-length.ensures.length given c.register_at.ensures c.set_z_words.ensures
