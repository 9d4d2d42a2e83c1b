use Rattle.std.proofs.Common.{List, ap, sym, ◌∙◌}
use Rattle.std.specs.List.{list_any}
use Rattle.guest_contexts.specs.Standings.{has_monitor}
use Rattle.emu_run.specs.Worlds.{Context}
use Rattle.guest_threads.proofs.Quiet.{advances, none_on}
use Rattle.guest_threads.proofs.held.Held.advance.Goals as goal

pub returns-then-self-clause-steps : goal.returns-then-self-clause-steps
returns-then-self-clause-steps c =
    advances c.args.until c.self.inside.machine c.advance.new.self c.self.inside.last c.self.inside.contexts.items c.args.self.now c.self.view_is c.self.invariant.last c.requires.calling.ready
    (c.self.invariant.quiet c.if-self.true) c.advance.result c.has_trapped.result c.has_trapped.ensures c.advance.ensures.steps

pub returns-then-is_some_watching-clause-steps : goal.returns-then-is_some_watching-clause-steps
returns-then-is_some_watching-clause-steps c = none_on c.args.until c.args.self.now c.requires.below

pub returns-clause-steps : goal.returns-clause-steps
returns-clause-steps c =
    advances c.args.until c.self.inside.machine c.advance-2.new.self c.self.inside.last c.self.inside.contexts.items c.args.self.now c.self.view_is c.self.invariant.last c.requires.calling.ready
    (ap (λ (l : List Context). list_any has_monitor l) (sym c.deref.ensures.value) ∙ sym c.is_some_watching.ensures ∙ c.if-is_some_watching.false) c.advance-2.result c.has_trapped-2.result c.has_trapped-2.ensures c.advance-2.ensures.steps
