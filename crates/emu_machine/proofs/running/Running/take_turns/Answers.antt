use Rattle.std.proofs.Common.{◌≡◌, suc, refl, ap, sym, subst, ◌∙◌, arith, Box, Global}
use Rattle.emu_model.specs.State.{Core, Vectors}
use Rattle.guest_contexts.specs.declared.begin.Turn.{Turn}
use Rattle.guest_contexts.specs.Begins.{begins_next}
use Rattle.emu_machine.specs.Advances.{IsSpent}
use Rattle.emu_machine.specs.declared.running.Running.TheInside.{Inside as InRunning}
use Rattle.emu_machine.specs.InTurns.{InTurn}
use Rattle.emu_machine.specs.Machines.{MachineState, has_ended}
use Rattle.emu_machine.proofs.InTurns.{registers_same}
use Rattle.emu_machine.proofs.Performed.{still_goes}
use Rattle.emu_machine.proofs.running.Running.take_turns.Goals as goal

-- a machine that is open, as it is seen
abbrev seen : InRunning → MachineState
seen i = record {
  parts = record { core = i.core.value; vectors = i.vec.value; memory = i.memory.memory; brk = i.brk; steps = i.steps; ended = i.ended };
  accesses = i.log.items;
  failed = i.failed;
  marks = i.memory.marks;
  saved = i.saved.items;
  spare = i.memory.spare;
}

pub loop-contexts-init : goal.loop-contexts-init
loop-contexts-init c = record {
  going = c.requires.going;
  below = c.requires.within;
  marks = refl;
  saved = refl;
  turn = c.requires.turn;
  count = refl;
  budget = refl;
  most = omega arith;
  used = (0, refl);
}

-- no further turn is begun
pub returns-then-not-begin_next-clause-steps : goal.returns-then-not-begin_next-clause-steps
returns-then-not-begin_next-clause-steps c =
    let used = c.loop-contexts.invariant.used in
    let e = c.if-not-begin_next.ensures.turn in
    let s : MachineState = seen c.self.inside in
    let viewed : s ≡ c.take_steps.new.self = c.self.view_is in
    let same : record s { parts = record s.parts { core = c.begin_next.new.core.value; vectors = c.begin_next.new.vec.value } } ≡ c.take_steps.new.self =
    registers_same s c.begin_next.new.core.value c.begin_next.new.vec.value (ap (λ (b : Box Core Global). b.value) e.1) (ap (λ (b : Box Vectors Global). b.value) e.2) ∙ viewed in
    record {
      count = used.0;
      at = record { machine = c.loop-contexts.self; turn = c.loop-contexts.turn; contexts = c.loop-contexts.contexts };
      used = used.1;
      turn = e.0;
      contexts = e.3;
      advances = subst (λ (x : MachineState). IsSpent c.loop-contexts.turn.until c.loop-contexts.self x) (sym same) c.in-GoesOn.ensures.steps;
    }

pub returns-then-not-begin_next-clause-stopped : goal.returns-then-not-begin_next-clause-stopped
returns-then-not-begin_next-clause-stopped c =
    let e = c.if-not-begin_next.ensures.turn in
    let now = c.begin_next.new in
    λ _.
    ap (λ (t : Turn). begins_next c.args.schedule.now c.args.numbers.now (record { turn = t; core = now.core.value; vectors = now.vec.value; contexts = now.contexts })) e.0
    ∙ ap (λ (b : Box Core Global). begins_next c.args.schedule.now c.args.numbers.now (record { turn = c.loop-contexts.turn; core = b.value; vectors = now.vec.value; contexts = now.contexts })) e.1
    ∙ sym c.begin_next.ensures.begins ∙ c.if-not-begin_next.true

-- the next turn begins
pub loop-contexts-preserved : goal.loop-contexts-preserved
loop-contexts-preserved c =
    let i = c.loop-contexts.invariant in
    let s : MachineState = seen c.self.inside in
    let viewed : s ≡ c.take_steps.new.self = c.self.view_is in
    let here : InTurn = record { machine = c.loop-contexts.self; turn = c.loop-contexts.turn; contexts = c.loop-contexts.contexts } in
    let spent : IsSpent c.loop-contexts.turn.until c.loop-contexts.self c.take_steps.new.self = c.in-GoesOn.ensures.steps in
    let counted = ap (λ (x : MachineState). x.parts.steps) viewed ∙ spent.spent in
    let begins = c.if-not-begin_next.ensures.turn in
    let later = begins.later in
    let most = begins.turn.most in
    let budget = begins.budget ∙ i.budget in
    record {
      going = ap has_ended viewed ∙ still_goes c.take_steps.new.self spent.ahead.goes c.take_steps.ensures.failed;
      below = omega (arith, counted, later);
      marks = ap (λ (x : MachineState). x.marks) viewed ∙ c.take_steps.ensures.marks ∙ i.marks;
      saved = ap (λ (x : MachineState). x.saved) viewed ∙ c.take_steps.ensures.saved ∙ i.saved;
      turn = λ _. begins.turn;
      count = begins.count ∙ i.count;
      budget = budget;
      most = omega (arith, most, budget);
      used = (
        suc i.used.0,
        (
          here,
          (
            i.used.1,
            record {
              left = s;
              spent = subst (λ (x : MachineState). IsSpent c.loop-contexts.turn.until c.loop-contexts.self x) (sym viewed) spent;
              begins = begins;
              machine = refl;
            },
          ),
        ),
      );
    }

pub returns-in-AtCall-clause-steps : goal.returns-in-AtCall-clause-steps
returns-in-AtCall-clause-steps c =
    let used = c.loop-contexts.invariant.used in
    record {
      count = used.0;
      at = record { machine = c.loop-contexts.self; turn = c.loop-contexts.turn; contexts = c.loop-contexts.contexts };
      used = used.1;
      turn = refl;
      contexts = refl;
      advances = c.in-AtCall.ensures.steps;
    }

pub returns-in-Trapped-clause-steps : goal.returns-in-Trapped-clause-steps
returns-in-Trapped-clause-steps c =
    let used = c.loop-contexts.invariant.used in
    record {
      count = used.0;
      at = record { machine = c.loop-contexts.self; turn = c.loop-contexts.turn; contexts = c.loop-contexts.contexts };
      used = used.1;
      turn = refl;
      contexts = refl;
      advances = c.in-Trapped.ensures.steps;
    }
