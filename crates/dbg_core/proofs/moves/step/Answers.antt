use Rattle.std.proofs.Common.{◌≡◌, ◌≤◌, ℕ, ◌+◌, min, false, ap, ◌∙◌, refl, arith}
use Rattle.emu_model.specs.State.{State}
use Rattle.emu_system.specs.Start.{with_input}
use Rattle.emu_run.specs.Run.{run}
use Rattle.dbg_model.specs.Session.{stepped_text}
use Rattle.dbg_model.specs.Forward.{stepped}
use Rattle.dbg_core.specs.declared.ends.SessionEnd.TheVariants.{Done, ReadFault, WriteFault, ErrorsFault}
use Rattle.dbg_core.specs.Ends.{end_of_put}
use Rattle.emu_machine.proofs.Runs.{run_moving}
use Rattle.dbg_core.proofs.Sessions.{prints, prints_moving}
use Rattle.dbg_core.proofs.Obeying.{obeys_as, obeys_same, obeys_cut, obeys_line, put_read, put_write, put_errs, no_read, no_errs}
use Rattle.dbg_core.proofs.Leaving.{becomes_same, leaves_line, leaves_prints, leaves_same}
use Rattle.dbg_core.proofs.Putting.{puts_same, spares_line, spares_same}
use Rattle.dbg_core.proofs.moves.step.Goals as goal

pub returns-in-Done : goal.returns-in-Done
returns-in-Done g c =
    let p = c.args.machine.now.parts in
    let q = c.run_to.new.machine.parts in
    let n = c.args.n in
    let budget = c.args.budget in
    let put = c.put_stepped.result in
    let is = c.end_of_put.ensures in
    let steps : c.steps-steps.result ≡ p.steps = c.steps-steps.ensures in
    let sum = c.saturating_add.ensures in
    let least = c.min-target.ensures in
    let target : c.min-target.result ≡ min (p.steps + n) budget = omega (arith, steps, sum, least) in
    record {
      obeys = obeys_as p q _ _ _ _ _ _ (stepped (p.steps + n) budget) (end_of_put put) c.end_of_put.result is
          (obeys_same p q _ _ _ _ _ _ (λ st. prints (stepped_text (c.steps-steps.result + n)) (run st c.min-target.result)) (stepped (p.steps + n) budget) (end_of_put put)
          (λ input. ap (λ (s : ℕ). prints (stepped_text (s + n)) (run (with_input p input) c.min-target.result)) steps ∙ ap (λ (t : ℕ). prints (stepped_text (p.steps + n)) (run (with_input p input) t)) target)
          (obeys_line p q (g.I.Source.left c.args.input.now) (g.I.Source.left c.run_to.new.input) (g.O.Sink.held c.args.output.now) (g.O.Sink.held c.run_to.new.output)
          (g.E.Sink.held c.args.errors.now) (g.E.Sink.held c.run_to.new.errors) (λ st. run st c.min-target.result) (stepped_text (c.steps-steps.result + n)) (g.O.Sink.held c.put_stepped.new.sink) Done put
          (run_moving c.min-target.result) refl c.in-Done.ensures.obeys c.put_stepped.ensures.bytes));
      leaves = leaves_line (stepped (p.steps + n) budget) budget p c.run_to.new.machine (g.I.Source.left c.args.input.now) (g.I.Source.left c.run_to.new.input) put c.end_of_put.result is c.in-Done.ensures.failed
          (becomes_same (λ st. prints (stepped_text (c.steps-steps.result + n)) (run st c.min-target.result)) (stepped (p.steps + n) budget) p q (g.I.Source.left c.args.input.now) (g.I.Source.left c.run_to.new.input) false
          (λ input. ap (λ (s : ℕ). prints (stepped_text (s + n)) (run (with_input p input) c.min-target.result)) steps ∙ ap (λ (t : ℕ). prints (stepped_text (p.steps + n)) (run (with_input p input) t)) target) c.in-Done.ensures.obeys.state);
      spares = spares_line (stepped (p.steps + n) budget) p c.run_to.new.machine (g.I.Source.left c.args.input.now) (g.I.Source.left c.run_to.new.input) (g.O.Sink.held c.args.output.now) (g.O.Sink.held c.put_stepped.new.sink) (g.E.Sink.held c.args.errors.now) (g.E.Sink.held c.run_to.new.errors) put c.end_of_put.result is c.in-Done.ensures.failed
          (puts_same (λ st. (run st c.min-target.result).errors) (λ st. (stepped (p.steps + n) budget st).errors) p (g.I.Source.left c.args.input.now) (g.E.Sink.held c.args.errors.now) (g.E.Sink.held c.run_to.new.errors)
          (λ input. ap (λ (s : State). s.errors) (ap (λ (s : ℕ). prints (stepped_text (s + n)) (run (with_input p input) c.min-target.result)) steps ∙ ap (λ (t : ℕ). prints (stepped_text (p.steps + n)) (run (with_input p input) t)) target)) c.in-Done.ensures.obeys.errors);
      done = λ _. c.in-Done.ensures.failed;
      read_cause = put_read put c.end_of_put.result is _ _ (c.in-Done.ensures.read_cause.kept (λ (h : Done ≡ ReadFault). cc));
      write_cause = put_write put c.end_of_put.result is _ _ _ (c.in-Done.ensures.write_cause.kept (λ (h : Done ≡ WriteFault). cc)) c.put_stepped.ensures.cause;
      errors_cause = put_errs put c.end_of_put.result is _ _ (c.in-Done.ensures.errors_cause.kept (λ (h : Done ≡ ErrorsFault). cc));
      read_named = λ h. no_read put c.end_of_put.result is _ h;
      errors_named = λ h. no_errs put c.end_of_put.result is _ h;
    }

pub returns-in_default-clause-obeys : goal.returns-in_default-clause-obeys
returns-in_default-clause-obeys g c =
    let p = c.args.machine.now.parts in
    let q = c.run_to.new.machine.parts in
    let n = c.args.n in
    let budget = c.args.budget in
    let steps : c.steps-steps.result ≡ p.steps = c.steps-steps.ensures in
    let sum = c.saturating_add.ensures in
    let least = c.min-target.ensures in
    let target : c.min-target.result ≡ min (p.steps + n) budget = omega (arith, steps, sum, least) in
    let text = stepped_text (c.steps-steps.result + n) in
    obeys_same p q _ _ _ _ _ _ (λ st. prints text (run st c.min-target.result)) (stepped (p.steps + n) budget) c.run_to.result
    (λ input. ap (λ (s : ℕ). prints (stepped_text (s + n)) (run (with_input p input) c.min-target.result)) steps ∙ ap (λ (t : ℕ). prints (stepped_text (p.steps + n)) (run (with_input p input) t)) target)
    (obeys_cut p q (g.I.Source.left c.args.input.now) (g.I.Source.left c.run_to.new.input) (g.O.Sink.held c.args.output.now) (g.O.Sink.held c.run_to.new.output)
    (g.E.Sink.held c.args.errors.now) (g.E.Sink.held c.run_to.new.errors) (λ st. run st c.min-target.result) (prints text) c.run_to.result (prints_moving text) c.in_default.not-Done c.run_to.ensures.obeys)

pub returns-in_default-clause-leaves : goal.returns-in_default-clause-leaves
returns-in_default-clause-leaves g c =
    let p = c.args.machine.now.parts in
    let m = c.run_to.new.machine in
    let n = c.args.n in
    let budget = c.args.budget in
    let steps : c.steps-steps.result ≡ p.steps = c.steps-steps.ensures in
    let sum = c.saturating_add.ensures in
    let least = c.min-target.ensures in
    let target : c.min-target.result ≡ min (p.steps + n) budget = omega (arith, steps, sum, least) in
    let within : c.min-target.result ≤ budget = omega (arith, target) in
    let text = stepped_text (c.steps-steps.result + n) in
    leaves_same (λ st. prints text (run st c.min-target.result)) p m (g.I.Source.left c.args.input.now) (g.I.Source.left c.run_to.new.input) c.run_to.result (stepped (p.steps + n) budget) c.min-target.result budget within
    (λ input. ap (λ (s : ℕ). prints (stepped_text (s + n)) (run (with_input p input) c.min-target.result)) steps ∙ ap (λ (t : ℕ). prints (stepped_text (p.steps + n)) (run (with_input p input) t)) target)
    (leaves_prints (λ st. run st c.min-target.result) p m (g.I.Source.left c.args.input.now) (g.I.Source.left c.run_to.new.input) c.run_to.result text c.min-target.result c.run_to.ensures.leaves)

pub returns-in_default-clause-spares : goal.returns-in_default-clause-spares
returns-in_default-clause-spares g c =
    let p = c.args.machine.now.parts in
    let n = c.args.n in
    let budget = c.args.budget in
    let steps : c.steps-steps.result ≡ p.steps = c.steps-steps.ensures in
    let sum = c.saturating_add.ensures in
    let least = c.min-target.ensures in
    let target : c.min-target.result ≡ min (p.steps + n) budget = omega (arith, steps, sum, least) in
    spares_same (λ st. run st c.min-target.result) (stepped (p.steps + n) budget) p c.run_to.new.machine (g.I.Source.left c.args.input.now) (g.I.Source.left c.run_to.new.input) (g.O.Sink.held c.args.output.now) (g.O.Sink.held c.run_to.new.output) (g.E.Sink.held c.args.errors.now) (g.E.Sink.held c.run_to.new.errors) c.run_to.result
    (λ input. ap (λ (s : State). s.errors) (ap (λ (s : ℕ). prints (stepped_text (s + n)) (run (with_input p input) c.min-target.result)) steps ∙ ap (λ (t : ℕ). prints (stepped_text (p.steps + n)) (run (with_input p input) t)) target)) c.run_to.ensures.spares
