use Rattle.std.proofs.Common.{◌≡◌, ◌≤◌, ◌-◌, ap, subst, arith}
use Rattle.emu_model.specs.State.{Parts}
use Rattle.dbg_model.specs.Session.{Course}
use Rattle.dbg_back.specs.Walks.{IsWalk}
use Rattle.dbg_back.proofs.Marking.{steps_from}
use Rattle.dbg_back.proofs.Streams.{dropped_fine}
use Rattle.dbg_back.proofs.back.turn_back.Goals as goal

pub restore_before-requires : goal.restore_before-requires
restore_before-requires c =
    let marks = c.requires.walks.walk.marks in
    record { count = marks.count; saved = marks.count_saved; first = marks.first; start = marks.start_steps }

pub move_to-requires : goal.move_to-requires
move_to-requires c =
    let w = c.requires.walks.walk in
    let same = ap (λ (p : Parts). p.steps) w.here.parts in
    let steps = c.steps.ensures in
    let sub = c.saturating_sub-target.ensures in
    let t = c.restore_before.ensures.turns c.requires.walks.start c.args.input.now c.requires.walks.course w (omega (arith, same, steps, sub)) in
    record { walks = record { start = c.requires.walks.start; course = _; walk = t.walk } }

pub returns : goal.returns
returns c = record {
  does = λ held errs. record {
    walks = λ start course w fine.
        let same = ap (λ (p : Parts). p.steps) w.here.parts in
        let steps = c.steps.ensures in
        let sub = c.saturating_sub-target.ensures in
        let target = c.saturating_sub-target.result in
        let within : target ≤ course.state.parts.steps = omega (arith, same, steps, sub) in
        let t = c.restore_before.ensures.turns start c.args.input.now course w within in
        let is : target ≡ course.state.parts.steps - c.args.k = omega (arith, same, steps, sub) in
        let below = w.below in
        let fine = dropped_fine c.move_to.result c.move_to.ensures.write_cause c.move_to.ensures.errors_cause in
        subst (λ (d : Course). IsWalk start c.args.input.now d c.move_to.new.machine c.move_to.new.trail) (steps_from start course t.count target c.args.k t.counted t.before is below)
        (c.move_to.ensures.does.walks start _ t.walk fine);
    output = λ start course had w before. before;
    errors = λ start course had w before. before;
  };
}
