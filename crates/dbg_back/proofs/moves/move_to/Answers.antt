use Rattle.std.proofs.Common.{◌≡◌, ◌<◌, ◌≤◌, ◌⊎◌, ℕ, ◌+◌, ◌-◌, Bool, true, false, List, cond, is_none, inl, inr, refl, sym, ap, subst, ◌∙◌, arith}
use Rattle.emu_model.specs.State.{Parts, State}
use Rattle.emu_machine.specs.Machines.{MachineState, has_ended}
use Rattle.dbg_core.proofs.Obeying.{causes_later, causes_none, over_by}
use Rattle.dbg_model.specs.CourseLaws.{moved_over}
use Rattle.dbg_model.specs.Session.{Course, walked}
use Rattle.dbg_back.specs.declared.ends.BackEnd.TheVariants.{Done, WriteFault, ErrorsFault}
use Rattle.dbg_back.specs.declared.trail.Trail.{Trail}
use Rattle.dbg_back.specs.Ends.{is_fault}
use Rattle.dbg_back.specs.Walks.{IsWalk, advanced, part_end}
use Rattle.dbg_back.proofs.Courses.{Appends, appends_moved, moved_done, moved_split}
use Rattle.dbg_back.proofs.Doing.{does_when, leads_cut, leads_done, leads_kept, leads_on, leads_start, leads_walk}
use Rattle.dbg_back.proofs.Running.{part_bounds}
use Rattle.dbg_back.proofs.Streams.{not_done}
use Rattle.dbg_back.proofs.moves.move_to.Goals as goal

abbrev to_target : ℕ → State → Course → Course
to_target target start c = walked c (target - c.state.parts.steps)

pub walk-init : goal.walk-init
walk-init g c = record {
  leads = leads_start (to_target c.args.target) c.args.input.now c.args.machine.now c.args.trail.now (g.O.Sink.held c.args.output.now) (g.E.Sink.held c.args.errors.now);
  write = refl;
  errors = refl;
}

pub keep-requires : goal.keep-requires
keep-requires g c =
    let can = leads_walk (to_target c.args.target) (to_target c.args.target) c.args.input.now c.args.machine.now c.walk.machine c.args.trail.now c.walk.trail
    (g.O.Sink.held c.args.output.now) (g.O.Sink.held c.walk.output) (g.E.Sink.held c.args.errors.now) (g.E.Sink.held c.walk.errors) c.walk.invariant.leads c.requires.walks in
    let below = c.is_below.ensures.below c.walk-test.true in
    let most = c.ranges.target in
    record {
      marks = can.walk.marks.count;
      places = can.walk.marks.count_saved;
      going = c.is_below.ensures.going c.walk-test.true;
      room = omega (arith, below, most);
    }

pub advance-requires : goal.advance-requires
advance-requires g c =
    let can = leads_walk (to_target c.args.target) (to_target c.args.target) c.args.input.now c.args.machine.now c.walk.machine c.args.trail.now c.walk.trail
    (g.O.Sink.held c.args.output.now) (g.O.Sink.held c.walk.output) (g.E.Sink.held c.args.errors.now) (g.E.Sink.held c.walk.errors) c.walk.invariant.leads c.requires.walks in
    let below = c.is_below.ensures.below c.walk-test.true in
    let steps = c.keep.ensures.steps in
    let due = c.keep.ensures.due in
    let least = c.min-until.ensures in
    record {
      walks = record { start = can.start; course = can.course; walk = c.keep.ensures.walks can.start c.args.input.now can.course can.walk };
      going = c.keep.ensures.going;
      within = omega (arith, below, steps, due, least);
    }

-- the steps of a part, and then the others
split : (target until : ℕ) (c : Course) → c.state.parts.steps < until → c.state.parts.steps ≤ c.top → until ≤ target → walked c (target - c.state.parts.steps) ≡ walked (advanced until c) (target - (advanced until c).state.parts.steps)
split target until c before below within =
    let b = part_bounds c until before below in
    let most = b.1 in
    moved_split target (part_end c until) c b.0 (omega (arith, most, within))

pub walk-preserved : goal.walk-preserved
walk-preserved g c =
    let target = c.args.target in
    let until = c.min-until.result in
    let m = c.keep.new.machine in
    let t = c.keep.new.self in
    let below = c.is_below.ensures.below c.walk-test.true in
    let steps = c.keep.ensures.steps in
    let due = c.keep.ensures.due in
    let least = c.min-until.ensures in
    let before : m.parts.steps < until = omega (arith, below, steps, due, least) in
    let within : until ≤ target = omega (arith, least) in
    let kept = leads_kept (to_target target) (to_target target) c.args.input.now c.args.machine.now c.walk.machine c.args.trail.now c.walk.trail
    (g.O.Sink.held c.args.output.now) (g.O.Sink.held c.walk.output) (g.E.Sink.held c.args.errors.now) (g.E.Sink.held c.walk.errors) c.walk.invariant.leads m t c.keep.ensures.walks in
    record {
      leads = leads_on (to_target target) (to_target target) c.args.input.now c.args.machine.now m c.args.trail.now t
          (g.O.Sink.held c.args.output.now) (g.O.Sink.held c.walk.output) (g.E.Sink.held c.args.errors.now) (g.E.Sink.held c.walk.errors) kept
          (λ start. advanced until) (to_target target) c.advance.new.machine c.advance.new.trail (g.O.Sink.held c.advance.new.output) (g.E.Sink.held c.advance.new.errors)
          (λ start course w. let same = ap (λ (p : Parts). p.steps) w.here.parts in split target until course (omega (arith, same, before)) w.below within)
          c.in-Done.ensures.does;
      write = c.in-Done.ensures.write_cause.kept (λ (h : Done ≡ WriteFault). cc) ∙ c.walk.invariant.write;
      errors = c.in-Done.ensures.errors_cause.kept (λ (h : Done ≡ ErrorsFault). cc) ∙ c.walk.invariant.errors;
    }

smaller : (a b : Bool) (s u target : ℕ) → a ≡ false → s < target → (b ≡ false → s < u) → cond b 0 (1 + (target - u)) < cond a 0 (1 + (target - s))
smaller true b s u target going below further = cc
smaller false true s u target going below further = omega arith
smaller false false s u target going below further = let more = further refl in omega (arith, below, more)

pub walk-smaller : goal.walk-smaller
walk-smaller g c =
    let below = c.is_below.ensures.below c.walk-test.true in
    let steps = c.keep.ensures.steps in
    smaller (has_ended c.walk.machine) (has_ended c.advance.new.machine) c.walk.machine.parts.steps c.advance.new.machine.parts.steps c.args.target (c.is_below.ensures.going c.walk-test.true) below
    (λ going. let further = c.in-Done.ensures.further refl going in omega (arith, steps, further))

pub returns-in_default : goal.returns-in_default
returns-in_default g c =
    let target = c.args.target in
    let until = c.min-until.result in
    let input = c.args.input.now in
    let m = c.keep.new.machine in
    let t = c.keep.new.self in
    let n = c.advance.new.machine in
    let v = c.advance.new.trail in
    let below = c.is_below.ensures.below c.walk-test.true in
    let steps = c.keep.ensures.steps in
    let due = c.keep.ensures.due in
    let least = c.min-until.ensures in
    let before : m.parts.steps < until = omega (arith, below, steps, due, least) in
    let within : until ≤ target = omega (arith, least) in
    let kept = leads_kept (to_target target) (to_target target) input c.args.machine.now c.walk.machine c.args.trail.now c.walk.trail
    (g.O.Sink.held c.args.output.now) (g.O.Sink.held c.walk.output) (g.E.Sink.held c.args.errors.now) (g.E.Sink.held c.walk.errors) c.walk.invariant.leads m t c.keep.ensures.walks in
    let broken = not_done c.advance.result c.in_default.not-Done in
    record {
      does = does_when input c.args.machine.now n c.args.trail.now v (g.O.Sink.held c.args.output.now) (g.O.Sink.held c.advance.new.output) (g.E.Sink.held c.args.errors.now) (g.E.Sink.held c.advance.new.errors) (to_target target) true (is_fault c.advance.result) (sym broken)
          (leads_cut (to_target target) (to_target target) input c.args.machine.now m c.args.trail.now t
          (g.O.Sink.held c.args.output.now) (g.O.Sink.held c.walk.output) (g.E.Sink.held c.args.errors.now) (g.E.Sink.held c.walk.errors) kept
          (λ start. advanced until) n v (g.O.Sink.held c.advance.new.output) (g.E.Sink.held c.advance.new.errors)
          (λ start course w.
          let same = ap (λ (p : Parts). p.steps) w.here.parts in
          subst (λ (d : Course). Appends (advanced until course) d) (sym (split target until course (omega (arith, same, before)) w.below within)) (appends_moved _ (advanced until course)))
          (does_when input m n t v (g.O.Sink.held c.walk.output) (g.O.Sink.held c.advance.new.output) (g.E.Sink.held c.walk.errors) (g.E.Sink.held c.advance.new.errors) (λ start. advanced until) (is_fault c.advance.result) true broken c.advance.ensures.does));
      write_cause = causes_later _ _ _ _ c.walk.invariant.write c.advance.ensures.write_cause;
      errors_cause = causes_later _ _ _ _ c.walk.invariant.errors c.advance.ensures.errors_cause;
    }

-- it has ended, or there is no step left
rests : (target : ℕ) (start : State) (input : List ℕ) (c : Course) (m : MachineState) (t : Trail) → (has_ended m ≡ true) ⊎ (target ≤ m.parts.steps) → IsWalk start input c m t → c ≡ walked c (target - c.state.parts.steps)
rests target start input c m t over w = elim over as (λ _. c ≡ walked c (target - c.state.parts.steps)) [
  | inl ended ↦ sym (moved_over c (target - c.state.parts.steps) (ap (λ (p : Parts). is_none p.ended) (sym w.here.parts) ∙ over_by m w.here.failed ended))
  | inr counted ↦ let same = ap (λ (p : Parts). p.steps) w.here.parts in sym (moved_done target c (omega (arith, counted, same)))
]

pub returns : goal.returns
returns g c = record {
  does = leads_done (to_target c.args.target) (to_target c.args.target) c.args.input.now c.args.machine.now c.walk.machine c.args.trail.now c.walk.trail
      (g.O.Sink.held c.args.output.now) (g.O.Sink.held c.walk.output) (g.E.Sink.held c.args.errors.now) (g.E.Sink.held c.walk.errors) c.walk.invariant.leads
      (λ start course w. rests c.args.target start c.args.input.now course c.walk.machine c.walk.trail (c.is_below.ensures.over c.walk-test.false) w);
  write_cause = causes_none _ _ _ c.walk.invariant.write (λ (h : Done ≡ WriteFault). cc);
  errors_cause = causes_none _ _ _ c.walk.invariant.errors (λ (h : Done ≡ ErrorsFault). cc);
}
