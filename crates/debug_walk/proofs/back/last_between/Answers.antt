use Rattle.std.proofs.Common.{◌≡◌, ◌<◌, ◌+◌, ◌-◌, ℕ, Bool, true, false, cond, refl, sym, subst, ◌∙◌, arith}
use Rattle.emu_machine.specs.Machines.{has_ended}
use Rattle.dbg_model.specs.Session.{Course, stepped}
use Rattle.dbg_back.specs.Walks.{IsWalk}
use Rattle.debug_walk.specs.Walks.{Tested}
use Rattle.debug_walk.proofs.Backing.{asked_all, asked_here, asked_on, rest_on, rests}
use Rattle.debug_walk.proofs.back.last_between.Goals as goal

pub walk-init : goal.walk-init
walk-init g c = λ start course w. record {
  course = course;
  walk = w;
  rest = refl;
  so = λ within going. record {
    running = c.requires.going;
    behind = omega arith;
    most = within;
    tells = asked_here (g.T.Test.meets c.args.test.now) c.args.least start c.args.input.now course c.args.machine.now c.args.trail.now w c.requires.going c.requires.none c.found_here-found.result c.found_here-found.ensures;
  };
}

pub step_again-from-requires : goal.step_again-from-requires
step_again-from-requires g c =
    let can = c.requires.walks in
    let a = c.walk.invariant can.start can.course can.walk in
    let below = c.is_below.ensures.below c.walk-test.true in
    let most = c.ranges.last in
    record {
      walks = record { start = can.start; course = a.course; walk = a.walk };
      going = c.is_below.ensures.going c.walk-test.true;
      room = omega (arith, below, most);
    }

pub walk-preserved : goal.walk-preserved
walk-preserved g c = λ start course w.
    let test : Tested = g.T.Test.meets c.args.test.now in
    let a = c.walk.invariant start course w in
    let input = c.args.input.now in
    let m = c.walk.machine in
    let t = c.walk.trail in
    let n = c.step_again-from.new.machine in
    let v = c.step_again-from.new.trail in
    let running = c.is_below.ensures.going c.walk-test.true in
    let below = c.is_below.ensures.below c.walk-test.true in
    let there = c.step_again-from.ensures.walks start a.course a.walk in
    record {
      course = stepped a.course;
      walk = there;
      rest = a.rest ∙ rest_on test c.args.least start input a.course m t a.walk running c.args.last below n v there;
      so = λ within going. asked_on test c.args.least start input a.course m t a.walk running c.args.last below n v there
          c.args.machine.now.parts.steps c.step_again-from.result c.walk.found c.found_behind-found.result c.step_again-from.ensures.accesses c.step_again-from.ensures.from c.found_behind-found.ensures within going (a.so within going);
    }

smaller : (a b : Bool) (s u target : ℕ) → a ≡ false → s < target → (b ≡ false → s < u) → cond b 0 (1 + (target - u)) < cond a 0 (1 + (target - s))
smaller true b s u target going below further = cc
smaller false true s u target going below further = omega arith
smaller false false s u target going below further = let more = further refl in omega (arith, below, more)

pub walk-smaller : goal.walk-smaller
walk-smaller g c =
    smaller (has_ended c.walk.machine) (has_ended c.step_again-from.new.machine) c.walk.machine.parts.steps c.step_again-from.new.machine.parts.steps c.args.last (c.is_below.ensures.going c.walk-test.true) (c.is_below.ensures.below c.walk-test.true)
    c.step_again-from.ensures.further

pub returns : goal.returns
returns g c =
    let test : Tested = g.T.Test.meets c.args.test.now in
    let over = c.is_below.ensures.over c.walk-test.false in
    record {
      walks = λ start course w.
          let a = c.walk.invariant start course w in
          subst (λ (d : Course). IsWalk start c.args.input.now d c.walk.machine c.walk.trail) (sym (a.rest ∙ rests c.args.last start c.args.input.now a.course c.walk.machine c.walk.trail over a.walk)) a.walk;
      found = λ start course w within going.
          let a = c.walk.invariant start course w in
          asked_all test c.args.least c.args.machine.now.parts.steps c.args.last start c.walk.machine c.walk.found over (a.so within going);
    }
