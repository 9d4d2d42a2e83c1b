use Rattle.std.proofs.Common.{◌≡◌, ℕ, ◌+◌, sym, ap, ◌∙◌, is_none, arith}
use Rattle.emu_model.specs.State.{Parts}
use Rattle.emu_run.specs.Step.{accesses}
use Rattle.dbg_core.proofs.Obeying.{going_by}
use Rattle.dbg_model.specs.Session.{stepped}
use Rattle.dbg_back.specs.Ends.{is_fault}
use Rattle.dbg_back.specs.Walks.{advanced}
use Rattle.dbg_back.proofs.Doing.{does_as}
use Rattle.dbg_back.proofs.Going.{one_step}
use Rattle.debug_walk.proofs.Stepping.{does_kept, same_parts_of}
use Rattle.debug_walk.proofs.steps.one_step.Goals as goal

pub keep-requires : goal.keep-requires
keep-requires g c =
    let marks = c.requires.walks.walk.marks in
    record { marks = marks.count; places = marks.count_saved; going = c.requires.going; room = c.requires.room }

pub advance-requires : goal.advance-requires
advance-requires g c =
    let can = c.requires.walks in
    let now = c.steps-until.ensures in
    record {
      walks = record { start = can.start; course = can.course; walk = c.keep.ensures.walks can.start c.args.input.now can.course can.walk };
      going = c.keep.ensures.going;
      within = omega (arith, now);
    }

pub returns : goal.returns
returns g c =
    let input = c.args.input.now in
    let m = c.args.machine.now in
    let t = c.args.trail.now in
    let k = c.keep.new.machine in
    let u = c.keep.new.self in
    let n = c.advance.new.machine in
    let v = c.advance.new.trail in
    let now = c.steps-until.ensures in
    let until : ℕ = c.steps-until.result + 1 in
    let one : until ≡ k.parts.steps + 1 = omega (arith, now) in
    let can = c.requires.walks in
    let same : k.parts ≡ m.parts = same_parts_of can.start input can.course m k t u can.walk (c.keep.ensures.walks can.start input can.course can.walk) in
    let steps = c.keep.ensures.steps in
    record {
      does = does_as input m n t v (g.O.Sink.held c.args.output.now) (g.O.Sink.held c.advance.new.output) (g.E.Sink.held c.args.errors.now) (g.E.Sink.held c.advance.new.errors) (λ start. advanced until) (λ start. stepped) (is_fault c.advance.result)
          (λ start course w.
          let counts : until ≡ course.state.parts.steps + 1 = one ∙ ap (λ (p : Parts). p.steps + 1) (same ∙ w.here.parts) in
          ap (λ (x : ℕ). advanced x course) counts ∙ one_step course (ap (λ (p : Parts). is_none p.ended) (sym w.here.parts) ∙ going_by m c.requires.going) w.below)
          (does_kept input m k n t u v (g.O.Sink.held c.args.output.now) (g.O.Sink.held c.advance.new.output) (g.E.Sink.held c.args.errors.now) (g.E.Sink.held c.advance.new.errors) (λ start. advanced until) (is_fault c.advance.result) c.keep.ensures.walks c.advance.ensures.does);
      accesses = λ fine. c.advance.ensures.accesses fine one ∙ ap accesses same;
      further = λ fine going. let more = c.advance.ensures.further fine going in omega (arith, more, steps);
      write_cause = c.advance.ensures.write_cause;
      errors_cause = c.advance.ensures.errors_cause;
    }
