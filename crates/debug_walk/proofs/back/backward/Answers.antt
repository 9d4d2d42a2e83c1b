use Rattle.std.proofs.Common.{◌≡◌, ◌≤◌, ◌<◌, ℕ, ◌+◌, ◌-◌, true, false, List, Option, Some, None, IfSome, is_none, is_some, refl, sym, ap, subst, ◌∙◌, arith}
use Rattle.emu_model.specs.State.{Parts, State}
use Rattle.emu_run.specs.Run.{goes_on, until_end}
use Rattle.emu_machine.specs.Machines.{MachineState, has_ended}
use Rattle.dbg_core.proofs.Obeying.{not_ended}
use Rattle.dbg_model.specs.Session.{Course, walked}
use Rattle.dbg_back.specs.declared.trail.Trail.{Trail}
use Rattle.dbg_back.specs.Walks.{IsTurned, IsWalk}
use Rattle.dbg_back.proofs.Streams.{dropped_fine}
use Rattle.debug_walk.specs.Walks.{Tested, at_step, first_asked, last_met, machines_before, made_before, sought_back, unasked}
use Rattle.debug_walk.proofs.Asking.{found_among, found_behind_mark, none_asked, none_behind, unasked_most, unasked_under}
use Rattle.debug_walk.proofs.Backing.{Stands, before_most, placed, placed_back, placed_now, placed_on, sought_is}
use Rattle.debug_walk.proofs.Counting.{IsEarlier, walk_earlier}
use Rattle.debug_walk.proofs.back.backward.Goals as goal

pub marks-init : goal.marks-init
marks-init g c = λ start course w.
    let test : Tested = g.T.Test.meets c.args.test.now in
    let at : c.machines_before-end.result ≡ machines_before course.state.parts = c.machines_before-end.ensures ∙ ap machines_before w.here.parts in
    let most = before_most course.state.parts in
    let same = ap (λ (p : Parts). p.steps) w.on.parts in
    let here = ap (λ (p : Parts). p.steps) w.here.parts in
    let within = c.requires.within in
    record {
      count = w.on.count;
      walk = placed_now start c.args.input.now course c.args.machine.now c.args.trail.now w;
      asked = ap (last_met test start c.args.least) (sym at);
      before = omega (arith, at);
      within = omega (arith, at, most, same);
      behind = omega (arith, within, here, same);
    }

pub restore_before-requires : goal.restore_before-requires
restore_before-requires g c =
    let can = c.requires.walks in
    let marks = (c.marks.invariant can.start can.course can.walk).walk.marks in
    record { count = marks.count; saved = marks.count_saved; first = marks.first; start = marks.start_steps }

-- ---- what is known where the machine is that of a mark

module _ (test : Tested) (least : ℕ) (start : State) (input : List ℕ) (c : Course) (m₀ : MachineState) (t₀ : Trail) (w : IsWalk start input c m₀ t₀) (m : MachineState) (t : Trail) (end : ℕ) (s : Stands test least start input c m t end) (more : least < end) (target : ℕ) (is : target ≡ end - 1 - 1) where
  within_turn : target ≤ (until_end start s.count).parts.steps
  within_turn = let within = s.within in omega (arith, is, within)

  last_earlier : IsEarlier start (end - 1)
  last_earlier = let before = s.before in walk_earlier start input c m₀ t₀ w (end - 1) (omega (arith, before, more))

  last_within : end - 1 ≤ c.state.parts.steps
  last_within =
      let before = s.before in
      let most = before_most c.state.parts in
      omega (arith, before, most)

  module _ (n : MachineState) (v : Trail) (r : IsTurned target start input (placed start s.count c) n v) where
    mark_earlier : IsEarlier start r.count
    mark_earlier =
        let before = s.before in
        let mark = r.before in
        walk_earlier start input c m₀ t₀ w r.count (omega (arith, before, more, is, mark))

    mark_before : r.count ≤ end - 1
    mark_before = let mark = r.before in omega (arith, more, is, mark)

    mark_is : n.parts.steps ≡ r.count
    mark_is = ap (λ (p : Parts). p.steps) r.walk.here.parts ∙ r.counted

    running : has_ended n ≡ false
    running = not_ended n (ap (λ (p : Parts). is_none p.ended) r.walk.here.parts ∙ mark_earlier.going) r.walk.here.failed

    -- and then behind the steps that were taken again
    last_walk : (u : MachineState) (x : Trail) → IsWalk start input (walked (placed start r.count c) (end - 1 - (placed start r.count c).state.parts.steps)) u x → IsWalk start input (placed start (end - 1) c) u x
    last_walk u x there =
        subst (λ (d : Course). IsWalk start input d u x) (placed_on start c r.count (end - 1) r.counted mark_before last_within w.below) there

    module _ (found : Option ℕ) (all : n.parts.steps ≤ end - 1 → goes_on (until_end start (end - 1)) ≡ true → found ≡ last_met test start (first_asked least n.parts.steps) (end - 1 + 1)) where
      found_is : found ≡ last_met test start (first_asked least n.parts.steps) (end - 1 + 1)
      found_is = let same = mark_is in let before = mark_before in all (omega (arith, same, before)) last_earlier.going

      behind : end ≡ end - 1 + 1
      behind = omega (arith, more)

      -- one met it
      one_met : (k : ℕ) → found ≡ Some k → last_met test start least (machines_before c.state.parts) ≡ Some k
      one_met k one =
          s.asked ∙ ap (last_met test start least) behind ∙ found_behind_mark test start least n.parts.steps (end - 1) k (sym found_is ∙ one)

      met_within : (k : ℕ) → found ≡ Some k → k ≤ end - 1
      met_within k one =
          let e = behind in
          let among = found_among test start least (end - 1 + 1) k (found_behind_mark test start least n.parts.steps (end - 1) k (sym found_is ∙ one)) in
          let under = among.1 in
          omega (arith, under)

      there_met : (k : ℕ) → found ≡ Some k → (u : MachineState) (x : Trail) → IsWalk start input (at_step start k (placed start (end - 1) c)) u x → IsWalk start input (sought_back test start least c) u x
      there_met k one u x there =
          let counted = last_earlier.counted in
          let under = met_within k one in
          let last = last_within in
          subst (λ (d : Course). IsWalk start input d u x)
          (placed_back start c (end - 1) k (omega (arith, counted, under)) ∙ sought_is test start least c (Some k) k (one_met k one) refl (omega (arith, under, last))) there

      -- none did
      none_met : found ≡ None → last_met test start least (machines_before c.state.parts) ≡ last_met test start least (unasked n.parts.steps)
      none_met none =
          let same = mark_is in
          let before = mark_before in
          s.asked ∙ ap (last_met test start least) behind ∙ none_behind test start least n.parts.steps (end - 1) (omega (arith, more)) (omega (arith, same, before)) (sym found_is ∙ none)

      stands_on : found ≡ None → (next : ℕ) → next ≡ unasked n.parts.steps → (u : MachineState) (x : Trail) → IsWalk start input (placed start (end - 1) c) u x → Stands test least start input c u x next
      stands_on none next is_next u x there =
          let same = mark_is in
          let mark = mark_before in
          let few = unasked_most n.parts.steps (end - 1) (omega (arith, same, mark)) in
          let counted = last_earlier.counted in
          let before = s.before in
          record {
            count = end - 1;
            walk = there;
            asked = none_met none ∙ ap (last_met test start least) (sym is_next);
            before = omega (arith, is_next, few, before, more);
            within = omega (arith, is_next, few, counted);
            behind = omega (arith, counted, more);
          }

-- ---- the calls

pub last_between-requires : goal.last_between-requires
last_between-requires g c =
    let test : Tested = g.T.Test.meets c.args.test.now in
    let can = c.requires.walks in
    let input = c.args.input.now in
    let s = c.marks.invariant can.start can.course can.walk in
    let within = within_turn test c.args.least can.start input can.course c.args.machine.now c.args.trail.now can.walk c.marks.machine c.marks.trail c.marks.end s c.marks-test.true c.saturating_sub-target.result c.saturating_sub-target.ensures in
    let r = c.restore_before.ensures.turns can.start input (placed can.start s.count can.course) s.walk within in
    record {
      walks = record { start = can.start; course = _; walk = r.walk };
      going = running test c.args.least can.start input can.course c.args.machine.now c.args.trail.now can.walk c.marks.machine c.marks.trail c.marks.end s c.marks-test.true c.saturating_sub-target.result c.saturating_sub-target.ensures c.restore_before.new.machine c.restore_before.new.trail r;
      none = c.restore_before.ensures.accesses;
    }

pub arrive-requires : goal.arrive-requires
arrive-requires g c =
    let test : Tested = g.T.Test.meets c.args.test.now in
    let can = c.requires.walks in
    let input = c.args.input.now in
    let s = c.marks.invariant can.start can.course can.walk in
    let within = within_turn test c.args.least can.start input can.course c.args.machine.now c.args.trail.now can.walk c.marks.machine c.marks.trail c.marks.end s c.marks-test.true c.saturating_sub-target.result c.saturating_sub-target.ensures in
    let r = c.restore_before.ensures.turns can.start input (placed can.start s.count can.course) s.walk within in
    let there = last_walk test c.args.least can.start input can.course c.args.machine.now c.args.trail.now can.walk c.marks.machine c.marks.trail c.marks.end s c.marks-test.true c.saturating_sub-target.result c.saturating_sub-target.ensures c.restore_before.new.machine c.restore_before.new.trail r
    c.last_between.new.machine c.last_between.new.trail (c.last_between.ensures.walks can.start (placed can.start r.count can.course) r.walk) in
    let under = met_within test c.args.least can.start input can.course c.args.machine.now c.args.trail.now can.walk c.marks.machine c.marks.trail c.marks.end s c.marks-test.true c.saturating_sub-target.result c.saturating_sub-target.ensures c.restore_before.new.machine c.restore_before.new.trail r
    c.last_between.result (c.last_between.ensures.found can.start (placed can.start r.count can.course) r.walk) c.in-Some.k c.in-Some.is in
    let counted = (last_earlier test c.args.least can.start input can.course c.args.machine.now c.args.trail.now can.walk c.marks.machine c.marks.trail c.marks.end s c.marks-test.true c.saturating_sub-target.result c.saturating_sub-target.ensures).counted in
    let same = ap (λ (p : Parts). p.steps) there.here.parts in
    record {
      walks = record { start = can.start; course = _; walk = there };
      within = omega (arith, under, counted, same);
    }

pub returns-in-Some : goal.returns-in-Some
returns-in-Some g c =
    let test : Tested = g.T.Test.meets c.args.test.now in
    let least = c.args.least in
    let input = c.args.input.now in
    record {
      does = λ held errs. record {
        walks = λ start course w _.
            let s = c.marks.invariant start course w in
            let within = within_turn test least start input course c.args.machine.now c.args.trail.now w c.marks.machine c.marks.trail c.marks.end s c.marks-test.true c.saturating_sub-target.result c.saturating_sub-target.ensures in
            let r = c.restore_before.ensures.turns start input (placed start s.count course) s.walk within in
            let there = last_walk test least start input course c.args.machine.now c.args.trail.now w c.marks.machine c.marks.trail c.marks.end s c.marks-test.true c.saturating_sub-target.result c.saturating_sub-target.ensures c.restore_before.new.machine c.restore_before.new.trail r
            c.last_between.new.machine c.last_between.new.trail (c.last_between.ensures.walks start (placed start r.count course) r.walk) in
            there_met test least start input course c.args.machine.now c.args.trail.now w c.marks.machine c.marks.trail c.marks.end s c.marks-test.true c.saturating_sub-target.result c.saturating_sub-target.ensures c.restore_before.new.machine c.restore_before.new.trail r
            c.last_between.result (c.last_between.ensures.found start (placed start r.count course) r.walk) c.in-Some.k c.in-Some.is c.arrive.new.machine c.arrive.new.trail
            (c.arrive.ensures.walks start (placed start (c.marks.end - 1) course) there);
        output = λ start course had w before. before;
        errors = λ start course had w before. before;
      };
      met = λ start course w.
          let s = c.marks.invariant start course w in
          let within = within_turn test least start input course c.args.machine.now c.args.trail.now w c.marks.machine c.marks.trail c.marks.end s c.marks-test.true c.saturating_sub-target.result c.saturating_sub-target.ensures in
          let r = c.restore_before.ensures.turns start input (placed start s.count course) s.walk within in
          sym (ap (λ (o : Option ℕ). is_some o) (one_met test least start input course c.args.machine.now c.args.trail.now w c.marks.machine c.marks.trail c.marks.end s c.marks-test.true c.saturating_sub-target.result c.saturating_sub-target.ensures c.restore_before.new.machine c.restore_before.new.trail r
          c.last_between.result (c.last_between.ensures.found start (placed start r.count course) r.walk) c.in-Some.k c.in-Some.is));
      accesses = λ _ start course w.
          let s = c.marks.invariant start course w in
          let within = within_turn test least start input course c.args.machine.now c.args.trail.now w c.marks.machine c.marks.trail c.marks.end s c.marks-test.true c.saturating_sub-target.result c.saturating_sub-target.ensures in
          let r = c.restore_before.ensures.turns start input (placed start s.count course) s.walk within in
          let there = last_walk test least start input course c.args.machine.now c.args.trail.now w c.marks.machine c.marks.trail c.marks.end s c.marks-test.true c.saturating_sub-target.result c.saturating_sub-target.ensures c.restore_before.new.machine c.restore_before.new.trail r
          c.last_between.new.machine c.last_between.new.trail (c.last_between.ensures.walks start (placed start r.count course) r.walk) in
          subst (λ (o : Option ℕ). IfSome o (λ k. c.arrive.new.machine.accesses ≡ made_before start k))
          (sym (one_met test least start input course c.args.machine.now c.args.trail.now w c.marks.machine c.marks.trail c.marks.end s c.marks-test.true c.saturating_sub-target.result c.saturating_sub-target.ensures c.restore_before.new.machine c.restore_before.new.trail r
          c.last_between.result (c.last_between.ensures.found start (placed start r.count course) r.walk) c.in-Some.k c.in-Some.is))
          (c.arrive.ensures.accesses start (placed start (c.marks.end - 1) course) there);
    }

-- the mark, as it is counted
module _ (mark : ℕ) (n : MachineState) (is : mark ≡ n.parts.steps) where
  next_is : (next : ℕ) → next ≡ unasked mark → next ≡ unasked n.parts.steps
  next_is next e = e ∙ ap unasked is

pub unasked-end-requires : goal.unasked-end-requires
unasked-end-requires g c =
    let test : Tested = g.T.Test.meets c.args.test.now in
    let can = c.requires.walks in
    let input = c.args.input.now in
    let s = c.marks.invariant can.start can.course can.walk in
    let within = within_turn test c.args.least can.start input can.course c.args.machine.now c.args.trail.now can.walk c.marks.machine c.marks.trail c.marks.end s c.marks-test.true c.saturating_sub-target.result c.saturating_sub-target.ensures in
    let r = c.restore_before.ensures.turns can.start input (placed can.start s.count can.course) s.walk within in
    let same = mark_is test c.args.least can.start input can.course c.args.machine.now c.args.trail.now can.walk c.marks.machine c.marks.trail c.marks.end s c.marks-test.true c.saturating_sub-target.result c.saturating_sub-target.ensures c.restore_before.new.machine c.restore_before.new.trail r in
    let before = mark_before test c.args.least can.start input can.course c.args.machine.now c.args.trail.now can.walk c.marks.machine c.marks.trail c.marks.end s c.marks-test.true c.saturating_sub-target.result c.saturating_sub-target.ensures c.restore_before.new.machine c.restore_before.new.trail r in
    let steps = c.steps-mark.ensures in
    let most = s.before in
    let more = c.marks-test.true in
    omega (arith, same, before, steps, most, more)

pub marks-preserved : goal.marks-preserved
marks-preserved g c = λ start course w.
    let test : Tested = g.T.Test.meets c.args.test.now in
    let least = c.args.least in
    let input = c.args.input.now in
    let s = c.marks.invariant start course w in
    let within = within_turn test least start input course c.args.machine.now c.args.trail.now w c.marks.machine c.marks.trail c.marks.end s c.marks-test.true c.saturating_sub-target.result c.saturating_sub-target.ensures in
    let r = c.restore_before.ensures.turns start input (placed start s.count course) s.walk within in
    let there = last_walk test least start input course c.args.machine.now c.args.trail.now w c.marks.machine c.marks.trail c.marks.end s c.marks-test.true c.saturating_sub-target.result c.saturating_sub-target.ensures c.restore_before.new.machine c.restore_before.new.trail r
    c.last_between.new.machine c.last_between.new.trail (c.last_between.ensures.walks start (placed start r.count course) r.walk) in
    stands_on test least start input course c.args.machine.now c.args.trail.now w c.marks.machine c.marks.trail c.marks.end s c.marks-test.true c.saturating_sub-target.result c.saturating_sub-target.ensures c.restore_before.new.machine c.restore_before.new.trail r
    c.last_between.result (c.last_between.ensures.found start (placed start r.count course) r.walk) c.in-None.is c.unasked-end.result (next_is c.steps-mark.result c.restore_before.new.machine c.steps-mark.ensures c.unasked-end.result c.unasked-end.ensures)
    c.last_between.new.machine c.last_between.new.trail there

pub marks-smaller : goal.marks-smaller
marks-smaller g c =
    let test : Tested = g.T.Test.meets c.args.test.now in
    let can = c.requires.walks in
    let input = c.args.input.now in
    let s = c.marks.invariant can.start can.course can.walk in
    let more = c.marks-test.true in
    let sub = c.saturating_sub-target.ensures in
    let within = within_turn test c.args.least can.start input can.course c.args.machine.now c.args.trail.now can.walk c.marks.machine c.marks.trail c.marks.end s c.marks-test.true c.saturating_sub-target.result c.saturating_sub-target.ensures in
    let r = c.restore_before.ensures.turns can.start input (placed can.start s.count can.course) s.walk within in
    let same = mark_is test c.args.least can.start input can.course c.args.machine.now c.args.trail.now can.walk c.marks.machine c.marks.trail c.marks.end s c.marks-test.true c.saturating_sub-target.result c.saturating_sub-target.ensures c.restore_before.new.machine c.restore_before.new.trail r in
    let mark = r.before in
    let few = unasked_under c.restore_before.new.machine.parts.steps c.marks.end (omega (arith, more, sub, same, mark)) (omega (arith, more)) in
    let next = next_is c.steps-mark.result c.restore_before.new.machine c.steps-mark.ensures c.unasked-end.result c.unasked-end.ensures in
    omega (arith, few, next)

pub go_to-requires : goal.go_to-requires
go_to-requires g c =
    let can = c.requires.walks in
    record { walks = record { start = can.start; course = _; walk = (c.marks.invariant can.start can.course can.walk).walk } }

pub returns : goal.returns
returns g c =
    let test : Tested = g.T.Test.meets c.args.test.now in
    let least = c.args.least in
    let input = c.args.input.now in
    let fine = dropped_fine c.go_to.result c.go_to.ensures.write_cause c.go_to.ensures.errors_cause in
    record {
      does = λ held errs. record {
        walks = λ start course w _.
            let s = c.marks.invariant start course w in
            let none = s.asked ∙ none_asked test start least c.marks.end c.marks-test.false in
            let same = ap (λ (p : Parts). p.steps) w.here.parts in
            let within = c.requires.within in
            subst (λ (d : Course). IsWalk start input d c.go_to.new.machine c.go_to.new.trail)
            (placed_back start course s.count least s.behind ∙ sought_is test start least course None least none refl (omega (arith, within, same)))
            (c.go_to.ensures.does.walks start (placed start s.count course) s.walk fine);
        output = λ start course had w before. before;
        errors = λ start course had w before. before;
      };
      met = λ start course w.
          let s = c.marks.invariant start course w in
          sym (ap (λ (o : Option ℕ). is_some o) (s.asked ∙ none_asked test start least c.marks.end c.marks-test.false));
      accesses = λ (is : false ≡ true). cc;
    }
