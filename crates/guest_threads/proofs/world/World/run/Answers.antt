use Rattle.std.proofs.Common.{◌≡◌, ℕ, IfSome, List, true, false, ap, sym, subst, ◌∙◌}
use Rattle.guest_threads.specs.Ends.{WorldHeld, is_broken_off, Becomes, IsKeptAt, TakesWithin, Puts}
use Rattle.emu_run.specs.Threads.{threads, with_input}
use Rattle.guest_threads.proofs.Runs.{all_wait}
use Rattle.guest_threads.proofs.world.World.run.Goals as goal

pub returns-clause-state : goal.returns-clause-state
returns-clause-state g c =
    subst (λ (h : WorldHeld). Becomes (λ st. threads c.args.schedule.now c.args.budget st) h.world c.follow.new.self.world (g.I.Source.left c.args.input.now) (g.I.Source.left c.follow.new.input) (is_broken_off c.follow.result)) c.self.view_is
    (subst (λ (s : List (ℕ × ℕ)). Becomes (λ st. threads s c.args.budget st) c.self.inside.held.world c.follow.new.self.world (g.I.Source.left c.args.input.now) (g.I.Source.left c.follow.new.input) (is_broken_off c.follow.result)) c.turns.ensures.turns c.follow.ensures.state)

pub returns-clause-input : goal.returns-clause-input
returns-clause-input g c =
    subst (λ (h : WorldHeld). TakesWithin (λ st. threads c.args.schedule.now c.args.budget st) h.world (g.I.Source.left c.args.input.now) (g.I.Source.left c.follow.new.input) (is_broken_off c.follow.result)) c.self.view_is
    (subst (λ (s : List (ℕ × ℕ)). TakesWithin (λ st. threads s c.args.budget st) c.self.inside.held.world (g.I.Source.left c.args.input.now) (g.I.Source.left c.follow.new.input) (is_broken_off c.follow.result)) c.turns.ensures.turns c.follow.ensures.input)

pub returns-clause-output : goal.returns-clause-output
returns-clause-output g c =
    subst (λ (h : WorldHeld). Puts (λ st. (threads c.args.schedule.now c.args.budget st).output) h.world (g.I.Source.left c.args.input.now) (g.O.Sink.held c.args.output.now) (g.O.Sink.held c.follow.new.output) (is_broken_off c.follow.result)) c.self.view_is
    (subst (λ (s : List (ℕ × ℕ)). Puts (λ st. (threads s c.args.budget st).output) c.self.inside.held.world (g.I.Source.left c.args.input.now) (g.O.Sink.held c.args.output.now) (g.O.Sink.held c.follow.new.output) (is_broken_off c.follow.result)) c.turns.ensures.turns c.follow.ensures.output)

pub returns-clause-errors : goal.returns-clause-errors
returns-clause-errors g c =
    subst (λ (h : WorldHeld). Puts (λ st. (threads c.args.schedule.now c.args.budget st).errors) h.world (g.I.Source.left c.args.input.now) (g.E.Sink.held c.args.errors.now) (g.E.Sink.held c.follow.new.errors) (is_broken_off c.follow.result)) c.self.view_is
    (subst (λ (s : List (ℕ × ℕ)). Puts (λ st. (threads s c.args.budget st).errors) c.self.inside.held.world (g.I.Source.left c.args.input.now) (g.E.Sink.held c.args.errors.now) (g.E.Sink.held c.follow.new.errors) (is_broken_off c.follow.result)) c.turns.ensures.turns c.follow.ensures.errors)

pub returns-clause-kept : goal.returns-clause-kept
returns-clause-kept g c =
    subst (λ (h : WorldHeld). IfSome (g.I.Source.left c.args.input.now) (λ bytes. is_broken_off c.follow.result ≡ true → IsKeptAt (threads c.args.schedule.now c.follow.new.self.world.steps (with_input h.world bytes)) c.follow.new.self.world (g.I.Source.left c.follow.new.input))) c.self.view_is
    (subst (λ (s : List (ℕ × ℕ)). IfSome (g.I.Source.left c.args.input.now) (λ bytes. is_broken_off c.follow.result ≡ true → IsKeptAt (threads s c.follow.new.self.world.steps (with_input c.self.inside.held.world bytes)) c.follow.new.self.world (g.I.Source.left c.follow.new.input))) c.turns.ensures.turns c.follow.ensures.kept)

pub returns-clause-whole_output : goal.returns-clause-whole_output
returns-clause-whole_output g c = λ fault.
    let n = c.follow.new.self.world.steps in
    subst (λ (h : WorldHeld). Puts (λ st. (threads c.args.schedule.now n st).output) h.world (g.I.Source.left c.args.input.now) (g.O.Sink.held c.args.output.now) (g.O.Sink.held c.follow.new.output) false) c.self.view_is
    (subst (λ (s : List (ℕ × ℕ)). Puts (λ st. (threads s n st).output) c.self.inside.held.world (g.I.Source.left c.args.input.now) (g.O.Sink.held c.args.output.now) (g.O.Sink.held c.follow.new.output) false) c.turns.ensures.turns (c.follow.ensures.whole_output fault))

pub returns-clause-whole_errors : goal.returns-clause-whole_errors
returns-clause-whole_errors g c = λ fault.
    let n = c.follow.new.self.world.steps in
    subst (λ (h : WorldHeld). Puts (λ st. (threads c.args.schedule.now n st).errors) h.world (g.I.Source.left c.args.input.now) (g.E.Sink.held c.args.errors.now) (g.E.Sink.held c.follow.new.errors) false) c.self.view_is
    (subst (λ (s : List (ℕ × ℕ)). Puts (λ st. (threads s n st).errors) c.self.inside.held.world (g.I.Source.left c.args.input.now) (g.E.Sink.held c.args.errors.now) (g.E.Sink.held c.follow.new.errors) false) c.turns.ensures.turns (c.follow.ensures.whole_errors fault))

pub returns-clause-stuck : goal.returns-clause-stuck
returns-clause-stuck g c = λ h.
    all_wait c.follow.new.self.world (c.follow.ensures.living c.self.invariant) (sym h ∙ c.follow.ensures.end (ap is_broken_off h))

pub invariant_of-self : goal.invariant_of-self
invariant_of-self g c = c.follow.ensures.living c.self.invariant
