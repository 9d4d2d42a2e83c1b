use Rattle.guest_contexts.proofs.Begins.{turn_over, turn_on}
use Rattle.guest_contexts.proofs.begin.next_turn.Goals as goal

pub returns-then-next-turns-clause-is : goal.returns-then-next-turns-clause-is
returns-then-next-turns-clause-is c = turn_over c.args.turns.now c.args.turn c.if-next-turns.true

pub returns-clause-is : goal.returns-clause-is
returns-clause-is c = turn_on c.args.turns.now c.args.turn c.if-next-turns.false
