use Rattle.std.proofs.Common.{◌≡◌, ◌<◌, ◌≤◌, ◌⊎◌, ℕ, ◌+◌, true, false, List, Option, Some, None, is_none, inl, inr, refl, sym, ap, subst, ◌∙◌, arith}
use Rattle.emu_model.specs.declared.access.Access.{Access}
use Rattle.emu_model.specs.State.{Parts, State}
use Rattle.emu_run.specs.Run.{goes_on}
use Rattle.emu_run.specs.Step.{accesses}
use Rattle.emu_machine.specs.Machines.{MachineState, has_ended}
use Rattle.dbg_model.specs.Session.{Points, Course, ended_line, printed, stepped}
use Rattle.dbg_core.specs.declared.points.Stop.{Stop}
use Rattle.dbg_core.specs.Stops.{first_met, line_of_stop}
use Rattle.dbg_core.proofs.Obeying.{causes_later, going_by, not_ended, over_by}
use Rattle.dbg_back.specs.declared.ends.BackEnd.TheVariants.{Done, WriteFault, ErrorsFault}
use Rattle.dbg_back.specs.declared.trail.Trail.{Trail}
use Rattle.dbg_back.specs.Ends.{end_of_put, is_fault}
use Rattle.dbg_back.specs.Walks.{Does, IsWalk, advanced}
use Rattle.dbg_back.proofs.Courses.{Appends}
use Rattle.dbg_back.proofs.Doing.{does_as, does_put, does_then, does_when, leads_cut, leads_end, leads_kept, leads_on, leads_start, leads_walk}
use Rattle.dbg_back.proofs.Going.{accesses_of, first_met_of, go_appends, go_at, go_ended, go_goes, go_rests, go_stops, has_ended_by, one_step, tested}
use Rattle.dbg_back.proofs.Streams.{not_done, put_errs, put_write}
use Rattle.dbg_back.proofs.moves.go_to_point.Goals as goal

pub walk-init : goal.walk-init
walk-init g c = record {
  leads = leads_start (λ start. go_at c.args.points.now c.args.budget) c.args.input.now c.args.machine.now c.args.trail.now (g.O.Sink.held c.args.output.now) (g.E.Sink.held c.args.errors.now);
  write = refl;
  errors = refl;
}

pub keep-requires : goal.keep-requires
keep-requires g c =
    let f = λ (start : State). go_at c.args.points.now c.args.budget in
    let can = leads_walk f f c.args.input.now c.args.machine.now c.walk.machine c.args.trail.now c.walk.trail
    (g.O.Sink.held c.args.output.now) (g.O.Sink.held c.walk.output) (g.E.Sink.held c.args.errors.now) (g.E.Sink.held c.walk.errors) c.walk.invariant.leads c.requires.walks in
    let below = c.is_below.ensures.below c.walk-test.true in
    let most = c.ranges.budget in
    record {
      marks = can.walk.marks.count;
      places = can.walk.marks.count_saved;
      going = c.is_below.ensures.going c.walk-test.true;
      room = omega (arith, below, most);
    }

pub advance-requires : goal.advance-requires
advance-requires g c =
    let f = λ (start : State). go_at c.args.points.now c.args.budget in
    let can = leads_walk f f c.args.input.now c.args.machine.now c.walk.machine c.args.trail.now c.walk.trail
    (g.O.Sink.held c.args.output.now) (g.O.Sink.held c.walk.output) (g.E.Sink.held c.args.errors.now) (g.E.Sink.held c.walk.errors) c.walk.invariant.leads c.requires.walks in
    let now = c.steps-until.ensures in
    record {
      walks = record { start = can.start; course = can.course; walk = c.keep.ensures.walks can.start c.args.input.now can.course can.walk };
      going = c.keep.ensures.going;
      within = omega (arith, now);
    }

-- ---- what the tests of the machine say of its course

module _ (points : Points) (budget until : ℕ) (input : List ℕ) (m : MachineState) (t : Trail) (going : has_ended m ≡ false) (below : m.parts.steps < budget) (is : until ≡ m.parts.steps + 1) (start : State) (c : Course) (w : IsWalk start input c m t) where
  goes : goes_on c.state ≡ true
  goes = ap (λ (p : Parts). is_none p.ended) (sym w.here.parts) ∙ going_by m going

  under : c.state.parts.steps < budget
  under = let same = ap (λ (p : Parts). p.steps) w.here.parts in omega (arith, same, below)

  one : advanced until c ≡ stepped c
  one =
      let same : until ≡ c.state.parts.steps + 1 = is ∙ ap (λ (p : Parts). p.steps + 1) w.here.parts in
      ap (λ (u : ℕ). advanced u c) same ∙ one_step c goes w.below

  pub first_appends : Appends (advanced until c) (go_at points budget c)
  first_appends = subst (λ (d : Course). Appends d (go_at points budget c)) (sym one) (go_appends points budget c goes under)

  module _ (n : MachineState) (v : Trail) (made : n.accesses ≡ accesses m.parts) where
    -- where it stands behind the step
    met_of : (found : Option Stop) → IsWalk start input (advanced until c) n v → found ≡ first_met points budget n.accesses n.parts → first_met points budget (accesses c.state.parts) (stepped c).state.parts ≡ found
    met_of found there met =
        let w2 : IsWalk start input (stepped c) n v = subst (λ (d : Course). IsWalk start input d n v) one there in
        sym (met ∙ ap (λ (a : List Access). first_met points budget a n.parts) (made ∙ accesses_of c.state input m t.place w.here)
        ∙ first_met_of points budget (stepped c).state input n v.place (accesses c.state.parts) w2.here)

    pub goes_at : IsWalk start input (advanced until c) n v → None ≡ first_met points budget n.accesses n.parts → go_at points budget c ≡ go_at points budget (advanced until c)
    goes_at there met = go_goes points budget c goes under (met_of None there met) ∙ ap (go_at points budget) (sym one)

    pub stops_at : (stop : Stop) → IsWalk start input (advanced until c) n v → Some stop ≡ first_met points budget n.accesses n.parts → go_at points budget c ≡ printed (line_of_stop stop) (advanced until c)
    stops_at stop there met = go_stops points budget c goes under stop (met_of (Some stop) there met) ∙ ap (printed (line_of_stop stop)) (sym one)

pub put_stop-requires : goal.put_stop-requires
put_stop-requires g c = has_ended_by c.in-Some.stop c.args.points.now c.args.budget c.advance.new.machine.accesses c.advance.new.machine.parts (sym c.met.ensures ∙ c.in-Some.is)

pub walk-preserved : goal.walk-preserved
walk-preserved g c =
    let f = λ (start : State). go_at c.args.points.now c.args.budget in
    let input = c.args.input.now in
    let m = c.keep.new.machine in
    let t = c.keep.new.self in
    let n = c.advance.new.machine in
    let v = c.advance.new.trail in
    let below = c.is_below.ensures.below c.walk-test.true in
    let steps = c.keep.ensures.steps in
    let now = c.steps-until.ensures in
    let until : ℕ = c.steps-until.result + 1 in
    let before : m.parts.steps < c.args.budget = omega (arith, below, steps) in
    let one : until ≡ m.parts.steps + 1 = omega (arith, now) in
    let made = c.in-Done.ensures.accesses refl one in
    let d = c.in-Done.ensures.does in
    let kept = leads_kept f f input c.args.machine.now c.walk.machine c.args.trail.now c.walk.trail
    (g.O.Sink.held c.args.output.now) (g.O.Sink.held c.walk.output) (g.E.Sink.held c.args.errors.now) (g.E.Sink.held c.walk.errors) c.walk.invariant.leads m t c.keep.ensures.walks in
    record {
      leads = leads_on f f input c.args.machine.now m c.args.trail.now t
          (g.O.Sink.held c.args.output.now) (g.O.Sink.held c.walk.output) (g.E.Sink.held c.args.errors.now) (g.E.Sink.held c.walk.errors) kept
          (λ start. advanced until) f n v (g.O.Sink.held c.advance.new.output) (g.E.Sink.held c.advance.new.errors)
          (λ start course w. goes_at c.args.points.now c.args.budget until input m t c.keep.ensures.going before one start course w n v made (d.walks start course w refl) (sym c.in-None.is ∙ c.met.ensures))
          d;
      write = c.in-Done.ensures.write_cause.kept (λ (h : Done ≡ WriteFault). cc) ∙ c.walk.invariant.write;
      errors = c.in-Done.ensures.errors_cause.kept (λ (h : Done ≡ ErrorsFault). cc) ∙ c.walk.invariant.errors;
    }

pub walk-smaller : goal.walk-smaller
walk-smaller g c =
    let f = λ (start : State). go_at c.args.points.now c.args.budget in
    let can = leads_walk f f c.args.input.now c.args.machine.now c.walk.machine c.args.trail.now c.walk.trail
    (g.O.Sink.held c.args.output.now) (g.O.Sink.held c.walk.output) (g.E.Sink.held c.args.errors.now) (g.E.Sink.held c.walk.errors) c.walk.invariant.leads c.requires.walks in
    let n = c.advance.new.machine in
    let w = c.in-Done.ensures.does.walks can.start can.course (c.keep.ensures.walks can.start c.args.input.now can.course can.walk) refl in
    let none = (tested c.args.points.now c.args.budget n.accesses n.parts).none (sym c.met.ensures ∙ c.in-None.is) in
    let further = c.in-Done.ensures.further refl (not_ended n none.0 w.here.failed) in
    let below = c.is_below.ensures.below c.walk-test.true in
    let steps = c.keep.ensures.steps in
    omega (arith, below, steps, further)

pub returns-in-Some : goal.returns-in-Some
returns-in-Some g c =
    let f = λ (start : State). go_at c.args.points.now c.args.budget in
    let input = c.args.input.now in
    let m = c.keep.new.machine in
    let t = c.keep.new.self in
    let n = c.advance.new.machine in
    let v = c.advance.new.trail in
    let below = c.is_below.ensures.below c.walk-test.true in
    let steps = c.keep.ensures.steps in
    let now = c.steps-until.ensures in
    let until : ℕ = c.steps-until.result + 1 in
    let before : m.parts.steps < c.args.budget = omega (arith, below, steps) in
    let one : until ≡ m.parts.steps + 1 = omega (arith, now) in
    let made = c.in-Done.ensures.accesses refl one in
    let d = c.in-Done.ensures.does in
    let stop = c.in-Some.stop in
    let line = c.put_stop.result in
    let is = c.end_of_put.ensures in
    let kept = leads_kept f f input c.args.machine.now c.walk.machine c.args.trail.now c.walk.trail
    (g.O.Sink.held c.args.output.now) (g.O.Sink.held c.walk.output) (g.E.Sink.held c.args.errors.now) (g.E.Sink.held c.walk.errors) c.walk.invariant.leads m t c.keep.ensures.walks in
    let last : Does (λ start course. printed (line_of_stop stop) (advanced until course)) input m n t v (g.O.Sink.held c.walk.output) (g.O.Sink.held c.put_stop.new.output) (g.E.Sink.held c.walk.errors) (g.E.Sink.held c.advance.new.errors) (is_fault (end_of_put line)) =
    does_then input m n n t v v (g.O.Sink.held c.walk.output) (g.O.Sink.held c.advance.new.output) (g.O.Sink.held c.put_stop.new.output) (g.E.Sink.held c.walk.errors) (g.E.Sink.held c.advance.new.errors) (g.E.Sink.held c.advance.new.errors)
    (λ start. advanced until) (λ start. printed (line_of_stop stop)) (is_fault (end_of_put line)) d
    (does_put input n v (g.O.Sink.held c.advance.new.output) (g.O.Sink.held c.put_stop.new.output) (g.E.Sink.held c.advance.new.errors) (line_of_stop stop) line c.put_stop.ensures.bytes) in
    record {
      does = does_when input c.args.machine.now n c.args.trail.now v (g.O.Sink.held c.args.output.now) (g.O.Sink.held c.put_stop.new.output) (g.E.Sink.held c.args.errors.now) (g.E.Sink.held c.advance.new.errors) f (is_fault (end_of_put line)) (is_fault c.end_of_put.result) (ap is_fault (sym is))
          (leads_end f f input c.args.machine.now m c.args.trail.now t
          (g.O.Sink.held c.args.output.now) (g.O.Sink.held c.walk.output) (g.E.Sink.held c.args.errors.now) (g.E.Sink.held c.walk.errors) kept n v (g.O.Sink.held c.put_stop.new.output) (g.E.Sink.held c.advance.new.errors) (is_fault (end_of_put line))
          (does_as input m n t v (g.O.Sink.held c.walk.output) (g.O.Sink.held c.put_stop.new.output) (g.E.Sink.held c.walk.errors) (g.E.Sink.held c.advance.new.errors) (λ start course. printed (line_of_stop stop) (advanced until course)) f (is_fault (end_of_put line))
          (λ start course w. sym (stops_at c.args.points.now c.args.budget until input m t c.keep.ensures.going before one start course w n v made stop (d.walks start course w refl) (sym c.in-Some.is ∙ c.met.ensures))) last));
      write_cause = put_write line c.end_of_put.result is _ _ _ (c.in-Done.ensures.write_cause.kept (λ (h : Done ≡ WriteFault). cc) ∙ c.walk.invariant.write) c.put_stop.ensures.cause;
      errors_cause = put_errs line c.end_of_put.result is _ _ (c.in-Done.ensures.errors_cause.kept (λ (h : Done ≡ ErrorsFault). cc) ∙ c.walk.invariant.errors);
    }

pub returns-in_default : goal.returns-in_default
returns-in_default g c =
    let f = λ (start : State). go_at c.args.points.now c.args.budget in
    let input = c.args.input.now in
    let m = c.keep.new.machine in
    let t = c.keep.new.self in
    let n = c.advance.new.machine in
    let v = c.advance.new.trail in
    let below = c.is_below.ensures.below c.walk-test.true in
    let steps = c.keep.ensures.steps in
    let now = c.steps-until.ensures in
    let until : ℕ = c.steps-until.result + 1 in
    let before : m.parts.steps < c.args.budget = omega (arith, below, steps) in
    let one : until ≡ m.parts.steps + 1 = omega (arith, now) in
    let broken = not_done c.advance.result c.in_default.not-Done in
    let kept = leads_kept f f input c.args.machine.now c.walk.machine c.args.trail.now c.walk.trail
    (g.O.Sink.held c.args.output.now) (g.O.Sink.held c.walk.output) (g.E.Sink.held c.args.errors.now) (g.E.Sink.held c.walk.errors) c.walk.invariant.leads m t c.keep.ensures.walks in
    record {
      does = does_when input c.args.machine.now n c.args.trail.now v (g.O.Sink.held c.args.output.now) (g.O.Sink.held c.advance.new.output) (g.E.Sink.held c.args.errors.now) (g.E.Sink.held c.advance.new.errors) f true (is_fault c.advance.result) (sym broken)
          (leads_cut f f input c.args.machine.now m c.args.trail.now t
          (g.O.Sink.held c.args.output.now) (g.O.Sink.held c.walk.output) (g.E.Sink.held c.args.errors.now) (g.E.Sink.held c.walk.errors) kept
          (λ start. advanced until) n v (g.O.Sink.held c.advance.new.output) (g.E.Sink.held c.advance.new.errors)
          (λ start course w. first_appends c.args.points.now c.args.budget until input m t c.keep.ensures.going before one start course w)
          (does_when input m n t v (g.O.Sink.held c.walk.output) (g.O.Sink.held c.advance.new.output) (g.E.Sink.held c.walk.errors) (g.E.Sink.held c.advance.new.errors) (λ start. advanced until) (is_fault c.advance.result) true broken c.advance.ensures.does));
      write_cause = causes_later _ _ _ _ c.walk.invariant.write c.advance.ensures.write_cause;
      errors_cause = causes_later _ _ _ _ c.walk.invariant.errors c.advance.ensures.errors_cause;
    }

-- it has ended, or there is no step left
rests : (points : Points) (budget : ℕ) (start : State) (input : List ℕ) (c : Course) (m : MachineState) (t : Trail) → (has_ended m ≡ true) ⊎ (budget ≤ m.parts.steps) → IsWalk start input c m t → printed ended_line c ≡ go_at points budget c
rests points budget start input c m t over w = elim over as (λ _. printed ended_line c ≡ go_at points budget c) [
  | inl ended ↦ sym (go_ended points budget c (ap (λ (p : Parts). is_none p.ended) (sym w.here.parts) ∙ over_by m w.here.failed ended))
  | inr counted ↦ let same = ap (λ (p : Parts). p.steps) w.here.parts in sym (go_rests points budget c (omega (arith, counted, same)))
]

pub returns : goal.returns
returns g c =
    let f = λ (start : State). go_at c.args.points.now c.args.budget in
    let input = c.args.input.now in
    let m = c.walk.machine in
    let t = c.walk.trail in
    let line = c.put_ending.result in
    let is = c.end_of_put-2.ensures in
    record {
      does = does_when input c.args.machine.now m c.args.trail.now t (g.O.Sink.held c.args.output.now) (g.O.Sink.held c.put_ending.new.sink) (g.E.Sink.held c.args.errors.now) (g.E.Sink.held c.walk.errors) f (is_fault (end_of_put line)) (is_fault c.end_of_put-2.result) (ap is_fault (sym is))
          (leads_end f f input c.args.machine.now m c.args.trail.now t
          (g.O.Sink.held c.args.output.now) (g.O.Sink.held c.walk.output) (g.E.Sink.held c.args.errors.now) (g.E.Sink.held c.walk.errors) c.walk.invariant.leads m t (g.O.Sink.held c.put_ending.new.sink) (g.E.Sink.held c.walk.errors) (is_fault (end_of_put line))
          (does_as input m m t t (g.O.Sink.held c.walk.output) (g.O.Sink.held c.put_ending.new.sink) (g.E.Sink.held c.walk.errors) (g.E.Sink.held c.walk.errors) (λ start. printed ended_line) f (is_fault (end_of_put line))
          (λ start course w. rests c.args.points.now c.args.budget start input course m t (c.is_below.ensures.over c.walk-test.false) w)
          (does_put input m t (g.O.Sink.held c.walk.output) (g.O.Sink.held c.put_ending.new.sink) (g.E.Sink.held c.walk.errors) ended_line line c.put_ending.ensures.bytes)));
      write_cause = put_write line c.end_of_put-2.result is _ _ _ c.walk.invariant.write c.put_ending.ensures.cause;
      errors_cause = put_errs line c.end_of_put-2.result is _ _ c.walk.invariant.errors;
    }
