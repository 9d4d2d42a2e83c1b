use Rattle.std.proofs.Common.{◌≡◌, drop}
use Rattle.text_model.specs.Words.{register_in}
use Rattle.text_code.specs.Tables.{families_of}
use Rattle.text_code.proofs.token_words.register_among.Given as goal

abbrev pub invariant-loop-family : goal.invariant-loop-family
invariant-loop-family l =
    register_in (families_of l.families) l.letter (record { value = l.number; rest = l.suffix })
    ≡ register_in (families_of (drop l.family-index l.families)) l.letter (record { value = l.number; rest = l.suffix })
