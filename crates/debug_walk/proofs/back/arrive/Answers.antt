use Rattle.std.proofs.Common.{◌≡◌, ◌≤◌, ◌<◌, ◌^◌, ℕ, suc, ◌-◌, false, List, is_none, sym, ap, subst, ◌∙◌, arith}
use Rattle.emu_model.specs.State.{Parts, State}
use Rattle.emu_run.specs.Run.{until_end}
use Rattle.emu_run.specs.Step.{accesses}
use Rattle.emu_machine.specs.Machines.{MachineState, has_ended}
use Rattle.dbg_core.proofs.Obeying.{not_ended}
use Rattle.dbg_model.specs.CourseLaws.{moved_one}
use Rattle.dbg_model.specs.Session.{Course, stepped, walked}
use Rattle.dbg_model.specs.SessionEquations.{walked-zero}
use Rattle.dbg_back.specs.declared.trail.Trail.{Trail}
use Rattle.dbg_back.specs.Walks.{IsWalk}
use Rattle.dbg_back.proofs.Streams.{dropped_fine}
use Rattle.debug_walk.specs.Walks.{at_step, made_before}
use Rattle.debug_walk.proofs.Backing.{at_back, placed, placed_on}
use Rattle.debug_walk.proofs.Counting.{IsEarlier, walk_earlier}
use Rattle.debug_walk.proofs.back.arrive.Goals as goal

-- ---- at the start

at_start : (start : State) (input : List ℕ) (c : Course) (k j : ℕ) → k ≡ 0 → j ≤ 0 → (n : MachineState) (v : Trail) → IsWalk start input (placed start j c) n v → IsWalk start input (at_step start k c) n v
at_start start input c k j none first n v there =
    let zero_steps : j ≡ k = omega (arith, none, first) in
    subst (λ (d : Course). IsWalk start input d n v) (ap (λ (i : ℕ). placed start i c) zero_steps ∙ sym (at_back start c k (omega (arith, none)))) there

pub restore_before-requires : goal.restore_before-requires
restore_before-requires c =
    let marks = c.requires.walks.walk.marks in
    record { count = marks.count; saved = marks.count_saved; first = marks.first; start = marks.start_steps }

pub returns-then-k-eq0 : goal.returns-then-k-eq0
returns-then-k-eq0 c = record {
  walks = λ start course w.
      let r = c.restore_before.ensures.turns start c.args.input.now course w (omega arith) in
      at_start start c.args.input.now course c.args.k r.count c.if-k-eq0.true r.before c.restore_before.new.machine c.restore_before.new.trail r.walk;
  accesses = λ start course w. c.restore_before.ensures.accesses ∙ ap (λ (i : ℕ). made_before start i) (sym c.if-k-eq0.true);
}

-- ---- behind a step

module _ (start : State) (input : List ℕ) (c : Course) (m : MachineState) (t : Trail) (w : IsWalk start input c m t) (k : ℕ) (some : 0 < k) (within : k ≤ m.parts.steps) (fits : k < 2 ^ 64) where
  inside : k ≤ c.state.parts.steps
  inside = let same = ap (λ (p : Parts). p.steps) w.here.parts in omega (arith, within, same)

  earlier : IsEarlier start (k - 1)
  earlier = let under = inside in walk_earlier start input c m t w (k - 1) (omega (arith, under, some, fits))

  module _ (n : MachineState) (v : Trail) (there : IsWalk start input (at_step start (k - 1) c) n v) where
    before : IsWalk start input (placed start (k - 1) c) n v
    before = let under = inside in subst (λ (d : Course). IsWalk start input d n v) (at_back start c (k - 1) (omega (arith, under))) there

    before_going : has_ended n ≡ false
    before_going = not_ended n (ap (λ (p : Parts). is_none p.ended) before.here.parts ∙ earlier.going) before.here.failed

    before_steps : n.parts.steps ≡ k - 1
    before_steps = ap (λ (p : Parts). p.steps) before.here.parts ∙ earlier.counted

    made_there : accesses n.parts ≡ made_before start k
    made_there =
        let one : suc (k - 1) ≡ k = omega (arith, some) in
        ap accesses before.here.parts ∙ ap (λ (i : ℕ). made_before start i) one

  -- the step leads there
  step_there : stepped (placed start (k - 1) c) ≡ at_step start k c
  step_there =
      let counted = earlier.counted in
      let left : k - (until_end start (k - 1)).parts.steps ≡ suc 0 = omega (arith, counted, some) in
      let d : Course = placed start (k - 1) c in
      sym (walked-zero (stepped d))
      ∙ sym (moved_one d 0 earlier.going)
      ∙ ap (walked d) (sym left)
      ∙ placed_on start c (k - 1) k counted (omega arith) inside w.below
      ∙ sym (at_back start c k inside)

pub go_to-requires : goal.go_to-requires
go_to-requires c = record { walks = c.requires.walks }

pub step_again-requires : goal.step_again-requires
step_again-requires c =
    let fine = dropped_fine c.go_to.result c.go_to.ensures.write_cause c.go_to.ensures.errors_cause in
    let can = c.requires.walks in
    let input = c.args.input.now in
    let k = c.args.k in
    let some : 0 < k = omega (arith, c.if-k-eq0.false) in
    let there = c.go_to.ensures.does.walks can.start can.course can.walk fine in
    let steps = before_steps can.start input can.course c.args.machine.now c.args.trail.now can.walk k some c.requires.within c.ranges.k.fits c.go_to.new.machine c.go_to.new.trail there in
    let most = c.ranges.k.fits in
    record {
      walks = record { start = can.start; course = _; walk = there };
      going = before_going can.start input can.course c.args.machine.now c.args.trail.now can.walk k some c.requires.within c.ranges.k.fits c.go_to.new.machine c.go_to.new.trail there;
      room = omega (arith, steps, most, some);
    }

pub returns : goal.returns
returns c =
    let fine = dropped_fine c.go_to.result c.go_to.ensures.write_cause c.go_to.ensures.errors_cause in
    let input = c.args.input.now in
    let k = c.args.k in
    let m = c.args.machine.now in
    let t = c.args.trail.now in
    let some : 0 < k = omega (arith, c.if-k-eq0.false) in
    record {
      walks = λ start course w.
          let there = c.go_to.ensures.does.walks start course w fine in
          subst (λ (d : Course). IsWalk start input d c.step_again.new.machine c.step_again.new.trail) (step_there start input course m t w k some c.requires.within c.ranges.k.fits)
          (c.step_again.ensures.walks start (placed start (k - 1) course) (before start input course m t w k some c.requires.within c.ranges.k.fits c.go_to.new.machine c.go_to.new.trail there));
      accesses = λ start course w.
          let there = c.go_to.ensures.does.walks start course w fine in
          c.step_again.ensures.accesses ∙ made_there start input course m t w k some c.requires.within c.ranges.k.fits c.go_to.new.machine c.go_to.new.trail there;
    }
