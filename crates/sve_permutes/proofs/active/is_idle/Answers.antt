use Rattle.std.proofs.Common.{◌∙◌, ◌+◌, ◌*◌, ◌/◌, List, Bool, ap}
use Rattle.std.proofs.lemmas.Bool.{eqb-true}
use Rattle.emu_model.specs.Active.{active}
use Rattle.sve_permutes.proofs.ActiveWords.{idle_word}
use Rattle.sve_permutes.proofs.active.is_idle.Goals as goal

pub returns : goal.returns
returns c t e j size b =
    ap (λ (bits : List Bool). active e bits (c.args.i * (64 / e) + j)) c.p_words-words.ensures.words
    ∙ idle_word c.args.vec.now.bits c.args.i c.p_words-words.result.now e j size c.requires (eqb-true _ _ t) b
