use Rattle.std.proofs.Common.{◌∙◌, length, ap, sym}
use Rattle.lane_model.specs.declared.predicates.LogicOp.{LogicOp}
use Rattle.sve_effects.specs.Predicate.{logic}
use Rattle.sve_effects.specs.PredicateRows.{predicate_bits, logic_of}
use Rattle.emu_model.specs.Lanes.{read_p}
use Rattle.sve_pred.proofs.Lengths.{length_given, of_three}
use Rattle.sve_pred.proofs.breaks.logic_bits.Goals as goal

pub logic-requires-clause-first : goal.logic-requires-clause-first
logic-requires-clause-first c = c.read-2.ensures.length ∙ sym c.read.ensures.length

pub logic-requires-clause-second : goal.logic-requires-clause-second
logic-requires-clause-second c = c.read-3.ensures.length ∙ sym c.read.ensures.length

pub returns-clause-value : goal.returns-clause-value
returns-clause-value c =
    let v = c.args.vec.now in
    of_three (logic (logic_of c.args.op)) c.logic.result c.read.result c.read-2.result c.read-3.result (predicate_bits v) (read_p v c.args.pg) (read_p v c.args.pn) (read_p v c.args.pm)
    (c.logic.ensures ∙ ap (λ (op : LogicOp). logic op (length c.read.result) c.read.result c.read-2.result c.read-3.result) c.operation.ensures)
    c.read.ensures.length c.read.ensures.value c.read-2.ensures.value c.read-3.ensures.value

pub returns-clause-length : goal.returns-clause-length
returns-clause-length c = length_given c.logic.result _ (predicate_bits c.args.vec.now) _ c.logic.ensures c.read.ensures.length
