use Rattle.std.proofs.Common.{◌∙◌, Bool, length, ap, sym}
use Rattle.sve_effects.specs.Predicate.{broken}
use Rattle.sve_effects.specs.PredicateRows.{predicate_bits, break_after}
use Rattle.emu_model.specs.Lanes.{read_p}
use Rattle.sve_pred.proofs.Lengths.{length_given, of_three}
use Rattle.sve_pred.proofs.breaks.broken_bits.Goals as goal

pub brk-requires-clause-first : goal.brk-requires-clause-first
brk-requires-clause-first c = c.read-2.ensures.length ∙ sym c.read.ensures.length

pub brk-requires-clause-second : goal.brk-requires-clause-second
brk-requires-clause-second c = c.read-3.ensures.length ∙ sym c.read.ensures.length

pub returns-clause-value : goal.returns-clause-value
returns-clause-value c =
    let v = c.args.vec.now in
    of_three (broken (break_after c.args.op) c.args.m) c.brk.result c.read.result c.read-2.result c.read-3.result (predicate_bits v) (read_p v c.args.pg) (read_p v c.args.pn) (read_p v c.args.pd)
    (c.brk.ensures ∙ ap (λ (after : Bool). broken after c.args.m (length c.read.result) c.read.result c.read-2.result c.read-3.result) c.break_after.ensures)
    c.read.ensures.length c.read.ensures.value c.read-2.ensures.value c.read-3.ensures.value

pub returns-clause-length : goal.returns-clause-length
returns-clause-length c = length_given c.brk.result _ (predicate_bits c.args.vec.now) _ c.brk.ensures c.read.ensures.length
