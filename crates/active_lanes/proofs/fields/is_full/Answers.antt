use Rattle.std.proofs.lemmas.Bool.{eqb-true}
use Rattle.emu_model.specs.Lanes.{read_p}
use Rattle.active_lanes.proofs.LaneBits.{all_seen}
use Rattle.active_lanes.proofs.fields.is_full.Goals as goal

pub returns : goal.returns
returns c = λ is k h.
    all_seen c.p_words-words.result.now (read_p c.args.vec.now c.args.pg) c.bits_between.result c.args.e c.args.vec.now.bits k c.requires c.length-length.ensures.length.most c.p_words-words.ensures.words c.bits_between.ensures
    (eqb-true _ _ is) h
