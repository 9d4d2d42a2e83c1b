use Rattle.std.proofs.Common.{◌∙◌, ◌+◌, ◌*◌, List, Bool, sym, ap}
use Rattle.emu_model.specs.Active.{active}
use Rattle.register_lanes.proofs.PairLanes.{active_by_part}
use Rattle.register_lanes.proofs.sources.part_of.Goals as goal

pub returns : goal.returns
returns c e w j size whole b =
    active_by_part e w c.args.vec.now.bits c.args.i j c.p_words-words.result.now size whole c.length-length.ensures.length c.requires b
    ∙ ap (λ (bits : List Bool). active e bits (c.args.i * w + j)) (sym c.p_words-words.ensures.words)
