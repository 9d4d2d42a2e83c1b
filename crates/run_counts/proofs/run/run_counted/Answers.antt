use Rattle.std.proofs.Common.{◌≡◌, ◌<◌, ◌≤◌, ◌+◌, ◌-◌, ◌/◌, ℕ, suc, drop, false, true, is_none, nat_eq, if◌then◌else◌, refl, sym, ap, subst, ◌∙◌, arith}
use Rattle.emu_model.specs.State.{Core, Parts}
use Rattle.emu_system.specs.Start.{with_input}
use Rattle.io_gate.specs.Lent.{Lent}
use Rattle.word_counts.specs.Counts.{count_at, IsCounted}
use Rattle.run_counts.proofs.Visited.{comes_first, counts_as, few_more, goes, goes_whole, going_of, has_come, none_trap, not_ended, one_exit, one_going, over_of, over_other, run_over, run_spent_at}
use Rattle.run_counts.proofs.run.run_counted.Goals as goal

pub walk-init : goal.walk-init
walk-init c = record {
  failed = goes_whole c.args.machine.now c.requires.going;
  going = goes c.args.machine.now c.requires.going;
  within = c.requires.within;
  later = omega arith;
  few = λ word. let e = c.requires.none word in omega (arith, e);
  came = comes_first c.args.machine.now.parts c.args.input.now (drop c.new-source.result.place c.new-source.result.bytes) c.args.counts.now (ap (λ (l : Lent). drop l.place l.bytes) c.new-source.ensures) c.requires.none
      (c.args.machine.now.parts.steps - c.args.machine.now.parts.steps) (omega arith);
}

pub take_step-requires-clause-going : goal.take_step-requires-clause-going
take_step-requires-clause-going c = not_ended c.walk.machine c.walk.invariant.going c.walk.invariant.failed

pub walk-preserved : goal.walk-preserved
walk-preserved c =
    let p = c.walk.machine.parts in
    let q = c.take_step.new.machine.parts in
    let n = p.steps - c.args.machine.now.parts.steps in
    let left = drop c.walk.source.place c.walk.source.bytes in
    let later = c.walk.invariant.later in
    let one : q.steps ≡ p.steps + 1 = one_going (with_input p left) q c.take_step.result c.take_step.ensures.parts c.in-Going.is c.take_step.ensures.end in
    let word : c.pc-word.result ≡ p.core.pc = c.pc-word.ensures.value ∙ ap (λ (k : Core). k.pc) c.core.ensures in
    let counted : IsCounted (p.core.pc / 4) c.walk.counts c.add.new.self = subst (λ (w : ℕ). IsCounted (w / 4) c.walk.counts c.add.new.self) word c.in_ok-add-in-Going.ensures.counted in
    let now = c.steps.ensures in
    let test = c.walk-test.true in
    record {
      failed = c.take_step.ensures.failed;
      going = going_of q.ended c.take_step.result c.in-Going.is c.take_step.ensures.end;
      within = omega (arith, one, now, test);
      later = omega (arith, one, later);
      few = λ w. few_more (count_at c.add.new.self w) (count_at c.walk.counts w) (nat_eq w (p.core.pc / 4)) (counted w) p.steps q.steps c.args.machine.now.parts.steps one later (c.walk.invariant.few w);
      came = has_come (with_input c.args.machine.now.parts c.args.input.now) n p q left (drop c.take_step.new.source.place c.take_step.new.source.bytes) c.walk.counts c.walk.invariant.going
          c.take_step.ensures.parts c.take_step.ensures.input c.walk.invariant.came c.add.new.self (q.steps - c.args.machine.now.parts.steps) (omega (arith, one, later)) counted;
    }

pub walk-smaller : goal.walk-smaller
walk-smaller c =
    let p = c.walk.machine.parts in
    let q = c.take_step.new.machine.parts in
    let left = drop c.walk.source.place c.walk.source.bytes in
    let one : q.steps ≡ p.steps + 1 = one_going (with_input p left) q c.take_step.result c.take_step.ensures.parts c.in-Going.is c.take_step.ensures.end in
    let now = c.steps.ensures in
    let test = c.walk-test.true in
    omega (arith, one, now, test)

pub returns-in-Exit : goal.returns-in-Exit
returns-in-Exit c =
    let p = c.walk.machine.parts in
    let q = c.take_step.new.machine.parts in
    let first = c.args.machine.now.parts.steps in
    let n = p.steps - first in
    let start = with_input c.args.machine.now.parts c.args.input.now in
    let left = drop c.walk.source.place c.walk.source.bytes in
    let rest = drop c.take_step.new.source.place c.take_step.new.source.bytes in
    let later = c.walk.invariant.later in
    let now = c.steps.ensures in
    let test = c.walk-test.true in
    let one : q.steps ≡ p.steps + 1 = one_exit (with_input p left) q c.take_step.result c.in-Exit.field-0 c.walk.invariant.going c.take_step.ensures.parts c.in-Exit.is c.take_step.ensures.end in
    let word : c.pc-word.result ≡ p.core.pc = c.pc-word.ensures.value ∙ ap (λ (k : Core). k.pc) c.core.ensures in
    let counted : IsCounted (p.core.pc / 4) c.walk.counts c.add-in-Exit.new.self = subst (λ (w : ℕ). IsCounted (w / 4) c.walk.counts c.add-in-Exit.new.self) word c.in_ok-add-in-Exit.ensures.counted in
    record {
      parts = run_over start n p q left rest c.walk.counts c.walk.invariant.going c.take_step.ensures.parts c.take_step.ensures.input c.walk.invariant.came c.args.budget (omega (arith, later, now, test))
          (over_of q.ended c.take_step.result c.in-Exit.field-0 c.in-Exit.is c.take_step.ensures.end);
      counts = λ w. counts_as start (suc n) (q.steps - first) q rest c.add-in-Exit.new.self (omega (arith, one, later))
          (has_come start n p q left rest c.walk.counts c.walk.invariant.going c.take_step.ensures.parts c.take_step.ensures.input c.walk.invariant.came c.add-in-Exit.new.self (suc n) refl counted) w;
    }

pub returns-in_default : goal.returns-in_default
returns-in_default c =
    let p = c.walk.machine.parts in
    let q = c.take_step.new.machine.parts in
    let first = c.args.machine.now.parts.steps in
    let n = p.steps - first in
    let start = with_input c.args.machine.now.parts c.args.input.now in
    let left = drop c.walk.source.place c.walk.source.bytes in
    let rest = drop c.take_step.new.source.place c.take_step.new.source.bytes in
    let later = c.walk.invariant.later in
    let now = c.steps.ensures in
    let test = c.walk-test.true in
    let none : q.steps ≡ p.steps = none_trap (with_input p left) q c.take_step.result c.walk.invariant.going c.take_step.ensures.parts c.in_default.not-Going (λ code h. c.in_default.not-Exit code h) c.take_step.ensures.end in
    record {
      parts = run_over start n p q left rest c.walk.counts c.walk.invariant.going c.take_step.ensures.parts c.take_step.ensures.input c.walk.invariant.came c.args.budget (omega (arith, later, now, test))
          (over_other q.ended c.take_step.result c.in_default.not-Going c.take_step.ensures.end);
      counts = λ w. counts_as start n (q.steps - first) p left c.walk.counts (omega (arith, none)) c.walk.invariant.came w;
    }

pub returns : goal.returns
returns c =
    let p = c.walk.machine.parts in
    let first = c.args.machine.now.parts.steps in
    let n = p.steps - first in
    let start = with_input c.args.machine.now.parts c.args.input.now in
    let now = c.steps.ensures in
    let test = c.walk-test.false in
    let within = c.walk.invariant.within in
    record {
      parts = run_spent_at start n c.args.budget p (drop c.walk.source.place c.walk.source.bytes) c.walk.counts (omega (arith, now, test, within)) c.walk.invariant.came;
      counts = λ w. c.walk.invariant.came.counted w;
    }
