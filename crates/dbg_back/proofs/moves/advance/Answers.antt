use Rattle.std.proofs.Common.{◌≡◌, ◌<◌, ◌≤◌, min, false, refl, sym, arith}
use Rattle.dbg_core.proofs.Obeying.{causes_none, going_by}
use Rattle.dbg_back.specs.declared.ends.BackEnd.TheVariants.{WriteFault, ErrorsFault}
use Rattle.dbg_back.specs.Ends.{is_fault}
use Rattle.dbg_back.specs.Walks.{advanced}
use Rattle.dbg_back.proofs.Doing.{does_when}
use Rattle.dbg_back.proofs.Running.{advances_below, advances_beyond, stopped_further}
use Rattle.dbg_back.proofs.Streams.{dropped_fine, no_fault}
use Rattle.dbg_back.proofs.moves.advance.Goals as goal

pub returns-then-steps-trail : goal.returns-then-steps-trail
returns-then-steps-trail g c =
    let m = c.args.machine.now in
    let t = c.args.trail.now in
    let until = c.args.until in
    let n = c.run_to.new.machine in
    let v = c.run_to.new.trail in
    let r = c.run_to.ensures in
    let result = c.run_to.result in
    let fine = dropped_fine result r.write_cause r.errors_cause in
    let steps = c.steps.ensures in
    let test = c.if-steps-trail.true in
    let least = c.min-part.ensures in
    let before = c.requires.within in
    let part = c.min-part.result in
    let is : part ≡ min until t.top = omega (arith, least) in
    let below : m.parts.steps < t.top = omega (arith, steps, test) in
    record {
      does = does_when c.args.input.now m n t v _ _ _ _ (λ start. advanced until) false (is_fault result) (sym fine)
          (advances_below c.args.input.now m n t v until (g.O.Sink.held c.args.output.now) (g.O.Sink.held c.args.output.now) (g.E.Sink.held c.args.errors.now) (g.E.Sink.held c.args.errors.now)
          part is below before r.marks r.saved r.steps r.places r.top (λ st h. r.runs.here st h fine));
      further = λ unbroken going. stopped_further part m.parts.steps n (omega (arith, is, below, before)) (r.stopped fine) (going_by n going);
      accesses = λ unbroken one. r.accesses fine (omega (arith, is, below, one));
      write_cause = causes_none (result ≡ WriteFault) _ _ refl (no_fault result WriteFault fine refl);
      errors_cause = causes_none (result ≡ ErrorsFault) _ _ refl (no_fault result ErrorsFault fine refl);
    }

pub returns-else-steps-trail : goal.returns-else-steps-trail
returns-else-steps-trail g c =
    let m = c.args.machine.now in
    let t = c.args.trail.now in
    let until = c.args.until in
    let n = c.run_to-end.new.machine in
    let r = c.run_to-end.ensures in
    let result = c.run_to-end.result in
    let steps = c.steps.ensures in
    let test = c.if-steps-trail.false in
    let beyond : t.top ≤ m.parts.steps = omega (arith, steps, test) in
    record {
      does = advances_beyond c.args.input.now m n t _ until (g.O.Sink.held c.args.output.now) (g.O.Sink.held c.run_to-end.new.output) (g.E.Sink.held c.args.errors.now) (g.E.Sink.held c.run_to-end.new.errors)
          (is_fault result) beyond r.marks r.saved r.steps r.places c.steps-trail.ensures r.runs;
      further = λ unbroken going. stopped_further until m.parts.steps n c.requires.within (r.stopped unbroken) (going_by n going);
      accesses = r.accesses;
      write_cause = r.write_cause;
      errors_cause = r.errors_cause;
    }
