use Rattle.std.proofs.Common.{◌∙◌, Bool, length, ap, sym}
use Rattle.sve_effects.specs.Predicate.{broken_pair}
use Rattle.sve_effects.specs.PredicateRows.{predicate_bits, pair_after}
use Rattle.emu_model.specs.Lanes.{read_p}
use Rattle.sve_pred.proofs.Lengths.{length_given, of_three}
use Rattle.sve_pred.proofs.breaks.pair_bits.Goals as goal

pub brkp-requires-clause-first : goal.brkp-requires-clause-first
brkp-requires-clause-first c = c.read-2.ensures.length ∙ sym c.read.ensures.length

pub brkp-requires-clause-second : goal.brkp-requires-clause-second
brkp-requires-clause-second c = c.read-3.ensures.length ∙ sym c.read.ensures.length

pub returns-clause-value : goal.returns-clause-value
returns-clause-value c =
    let v = c.args.vec.now in
    of_three (broken_pair (pair_after c.args.op)) c.brkp.result c.read.result c.read-2.result c.read-3.result (predicate_bits v) (read_p v c.args.pg) (read_p v c.args.pn) (read_p v c.args.pm)
    (c.brkp.ensures ∙ ap (λ (after : Bool). broken_pair after (length c.read.result) c.read.result c.read-2.result c.read-3.result) c.pair_after.ensures)
    c.read.ensures.length c.read.ensures.value c.read-2.ensures.value c.read-3.ensures.value

pub returns-clause-length : goal.returns-clause-length
returns-clause-length c = length_given c.brkp.result _ (predicate_bits c.args.vec.now) _ c.brkp.ensures c.read.ensures.length
