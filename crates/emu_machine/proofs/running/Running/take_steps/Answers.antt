use Rattle.std.proofs.Common.{◌≡◌, ◌+◌, ℕ, List, true, false, is_none, refl, ap, sym, subst, ◌∙◌, arith}
use Rattle.emu_model.specs.declared.access.Access.{Access}
use Rattle.emu_model.specs.State.{Parts}
use Rattle.emu_system.specs.SystemCall.{call, quiet}
use Rattle.emu_run.specs.Step.{accesses, step_from}
use Rattle.emu_machine.specs.Advances.{IsAhead}
use Rattle.emu_machine.specs.Machines.{MachineState, has_ended, is_at_call, makes_call}
use Rattle.emu_machine.proofs.Advanced.{ahead_on, ahead_start}
use Rattle.emu_machine.proofs.Performed.{not_failed, still_goes}
use Rattle.emu_machine.proofs.Runs.{goes}
use Rattle.emu_machine.proofs.running.Running.take_steps.Goals as goal

-- a step on from `at`, whose log was emptied in `clear`
ahead_by : (old at clear new : MachineState) → clear ≡ at → IsAhead old.parts at.parts old.accesses at.accesses → makes_call clear.parts ≡ false
    → ((input : List ℕ) → step_from clear.parts input ≡ quiet new.parts input) → new.parts.steps ≡ clear.parts.steps + 1 → is_none new.parts.ended ≡ true → new.accesses ≡ accesses clear.parts
    → IsAhead old.parts new.parts old.accesses new.accesses
ahead_by old at clear new same ahead calls turns counted goes_on made =
    subst (λ (log : List Access). IsAhead old.parts new.parts old.accesses log) (sym made)
    (ahead_on old.parts clear.parts new.parts old.accesses at.accesses (subst (λ (m : MachineState). IsAhead old.parts m.parts old.accesses at.accesses) (sym same) ahead) calls turns counted goes_on)

pub loop-init : goal.loop-init
loop-init c = record {
  going = c.requires.going;
  below = c.requires.within;
  marks = refl;
  saved = refl;
  ahead = ahead_start c.args.self.now.parts c.args.self.now.accesses (goes c.args.self.now.parts.ended c.args.self.now.failed c.requires.going);
}

pub plain-requires-clause-room : goal.plain-requires-clause-room
plain-requires-clause-room c =
    let steps = ap (λ (s : MachineState). s.parts.steps) c.self.view_is in
    let below = c.loop.invariant.below in
    omega (arith, steps, below)

pub loop-preserved : goal.loop-preserved
loop-preserved c =
    let now = ap (λ (s : MachineState). s.parts.steps) c.self-in-loop.view_is in
    let less = c.if-self-until.false in
    record {
      going = still_goes c.plain.new.self c.in-GoesOn.ensures.ended c.in-GoesOn.ensures.kept;
      below = omega (arith, now, less);
      marks = c.plain.ensures.marks ∙ ap (λ (s : MachineState). s.marks) c.self.view_is ∙ c.loop.invariant.marks;
      saved = c.plain.ensures.saved ∙ ap (λ (s : MachineState). s.saved) c.self.view_is ∙ c.loop.invariant.saved;
      ahead = ahead_by c.args.self.now c.loop.self _ c.plain.new.self c.self.view_is c.loop.invariant.ahead c.in-GoesOn.ensures.alone c.in-GoesOn.ensures.turn (c.plain.ensures.counted c.in-GoesOn.is) c.in-GoesOn.ensures.ended c.plain.ensures.accesses;
    }

pub returns-then-self-until-clause-steps : goal.returns-then-self-until-clause-steps
returns-then-self-until-clause-steps c =
    let now = ap (λ (s : MachineState). s.parts.steps) c.self-in-loop.view_is in
    let reached = c.if-self-until.true in
    let counted = c.plain.ensures.counted c.in-GoesOn.is in
    let steps = ap (λ (s : MachineState). s.parts.steps) c.self.view_is in
    let below = c.loop.invariant.below in
    record {
      ahead = ahead_by c.args.self.now c.loop.self _ c.plain.new.self c.self.view_is c.loop.invariant.ahead c.in-GoesOn.ensures.alone c.in-GoesOn.ensures.turn counted c.in-GoesOn.ensures.ended c.plain.ensures.accesses;
      spent = omega (arith, now, reached, counted, steps, below);
    }

pub returns-in-AtCall-clause-steps : goal.returns-in-AtCall-clause-steps
returns-in-AtCall-clause-steps c =
    let m = c.plain.new.self in
    let k = ap (λ (s : MachineState). s.parts) c.in-AtCall.ensures.kept in
    let same : m.parts ≡ c.loop.self.parts = k ∙ ap (λ (s : MachineState). s.parts) c.self.view_is in
    let steps = ap (λ (x : Parts). x.steps) same in
    let below = c.loop.invariant.below in
    record {
      log = c.loop.self.accesses;
      ahead = subst (λ (x : Parts). IsAhead c.args.self.now.parts x c.args.self.now.accesses c.loop.self.accesses) (sym same) c.loop.invariant.ahead;
      below = omega (arith, steps, below);
      clear = c.plain.ensures.accesses ∙ ap accesses (sym k);
      calls = λ input. subst (λ (x : Parts). step_from x input ≡ call x input) (sym k) (c.in-AtCall.ensures.turn input);
      svc = ap is_at_call k ∙ c.plain.ensures.svc c.in-AtCall.is;
    }

pub returns-in-AtCall-clause-failed : goal.returns-in-AtCall-clause-failed
returns-in-AtCall-clause-failed c = ap (λ (s : MachineState). s.failed) c.in-AtCall.ensures.kept ∙ ap (λ (s : MachineState). s.failed) c.self.view_is ∙ not_failed c.loop.self c.loop.invariant.going

pub returns-in-AtCall-clause-going : goal.returns-in-AtCall-clause-going
returns-in-AtCall-clause-going c = ap has_ended c.in-AtCall.ensures.kept ∙ ap has_ended c.self.view_is ∙ c.loop.invariant.going

pub returns-in-AtCall-clause-below : goal.returns-in-AtCall-clause-below
returns-in-AtCall-clause-below c =
    let kept = ap (λ (s : MachineState). s.parts.steps) c.in-AtCall.ensures.kept in
    let steps = ap (λ (s : MachineState). s.parts.steps) c.self.view_is in
    let below = c.loop.invariant.below in
    omega (arith, kept, steps, below)

pub returns-in-Trapped-clause-steps : goal.returns-in-Trapped-clause-steps
returns-in-Trapped-clause-steps c = record {
  at = c.loop.self.parts;
  log = c.loop.self.accesses;
  ahead = c.loop.invariant.ahead;
  below = c.loop.invariant.below;
  alone = ap (λ (s : MachineState). makes_call s.parts) (sym c.self.view_is) ∙ c.in-Trapped.ensures.alone;
  turns = λ input. ap (λ (s : MachineState). step_from s.parts input) (sym c.self.view_is) ∙ c.in-Trapped.ensures.turn input;
  accesses = c.plain.ensures.accesses ∙ ap (λ (s : MachineState). accesses s.parts) c.self.view_is;
  ended = c.in-Trapped.ensures.ended;
}
