use Rattle.sve_gather.proofs.GatheredWords.{pair_loaded}
use Rattle.sve_gather.proofs.gather.write_pair.Goals as goal

pub returns : goal.returns
returns c = λ m first second.
    pair_loaded c.args.plan.now c.args.vec.now m c.args.low c.args.high c.register_at-register.result c.z_words-words.result.now c.set_z_pair.new.self c.requires.gather c.length-length.ensures.length c.requires.short c.z_words-words.ensures.words
    first second c.register_at-register.ensures c.set_z_pair.ensures
