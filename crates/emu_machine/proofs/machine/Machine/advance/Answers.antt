use Rattle.std.proofs.Common.{[], ap, subst}
use Rattle.guest_contexts.specs.declared.begin.Turn.{Turn}
use Rattle.emu_machine.specs.Advances.{Advances}
use Rattle.emu_machine.proofs.InTurns.{alone}
use Rattle.emu_machine.proofs.machine.Machine.advance.Goals as goal

pub returns-clause-steps : goal.returns-clause-steps
returns-clause-steps c =
    subst (λ n. Advances n c.args.self.now c.advance_in_turns.new.self c.advance_in_turns.result) (ap (λ (t : Turn). t.until) c.alone-turn.ensures)
    (alone [] (record { machine = c.args.self.now; turn = c.alone-turn.result; contexts = [] }) (record { machine = c.advance_in_turns.new.self; turn = c.advance_in_turns.new.turn; contexts = c.advance_in_turns.new.contexts })
    c.advance_in_turns.result c.advance_in_turns.ensures.steps)
