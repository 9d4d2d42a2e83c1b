use Rattle.std.proofs.Common.{◌≡◌, ◌+◌, is_none, true, ap, subst}
use Rattle.emu_machine.specs.Advances.{Advances}
use Rattle.emu_machine.proofs.Advanced.{once_turn, once_kept, once_svc, once_ended, once_counted, once_accesses}
use Rattle.emu_machine.proofs.Runs.{goes}
use Rattle.emu_machine.proofs.machine.Machine.once.Goals.{After-advance}
use Rattle.emu_machine.proofs.machine.Machine.once.Goals as goal

advances : (c : After-advance) → Advances (c.args.self.now.parts.steps + 1) c.args.self.now c.advance.new.self c.advance.result
advances c = subst (λ n. Advances n c.args.self.now c.advance.new.self c.advance.result) (ap (λ n. n + 1) c.steps-steps.ensures) c.advance.ensures.steps

going : (c : After-advance) → is_none c.args.self.now.parts.ended ≡ true
going c = goes c.args.self.now.parts.ended c.args.self.now.failed c.requires.going

pub returns-clause-turn : goal.returns-clause-turn
returns-clause-turn c = once_turn c.args.self.now c.advance.new.self c.advance.result (going c) (advances c)

pub returns-clause-kept : goal.returns-clause-kept
returns-clause-kept c = once_kept c.args.self.now c.advance.new.self c.advance.result (advances c)

pub returns-clause-svc : goal.returns-clause-svc
returns-clause-svc c = once_svc c.args.self.now c.advance.new.self c.advance.result (advances c)

pub returns-clause-ended : goal.returns-clause-ended
returns-clause-ended c = once_ended c.args.self.now c.advance.new.self c.advance.result (advances c)

pub returns-clause-counted : goal.returns-clause-counted
returns-clause-counted c = once_counted c.args.self.now c.advance.new.self c.advance.result (advances c)

pub returns-clause-accesses : goal.returns-clause-accesses
returns-clause-accesses c = once_accesses c.args.self.now c.advance.new.self c.advance.result (going c) (advances c)
