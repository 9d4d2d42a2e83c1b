use Rattle.std.proofs.Common.{◌≡◌, ℕ, ◌-◌, Bool, List, drop, length, Option, Some, refl, sym, ap, subst, ◌∙◌}
use Rattle.io_gate.specs.Lent.{Lent}
use Rattle.emu_machine.specs.Ends.{Becomes, Puts, is_broken_off}
use Rattle.emu_run.specs.Run.{run}
use Rattle.emu_machine.specs.declared.ends.RunEnd.TheVariants as runs
use Rattle.dbg_core.proofs.Obeying.{causes_as, going_by}
use Rattle.dbg_back.specs.declared.ends.BackEnd.TheVariants.{WriteFault, ErrorsFault}
use Rattle.dbg_back.specs.Ends.{end_of_run, is_fault}
use Rattle.dbg_back.proofs.Running.{ran_accesses, ran_stopped, runs_by, whole_rest}
use Rattle.dbg_back.proofs.Streams.{fault_of_run, last_run, never_rose}
use Rattle.dbg_back.proofs.moves.run_to.Goals as goal

pub end_of_run-requires : goal.end_of_run-requires
end_of_run-requires g c = λ h. never_rose (c.run-end.result ≡ runs.ReadFault) c.run-end.ensures.read_cause h

pub returns : goal.returns
returns g c =
    let m = c.args.machine.now in
    let n = c.run-end.new.self in
    let end = c.run-end.result in
    let until = c.args.until in
    let input = c.args.input.now in
    let place = c.args.trail.now.place in
    let result = c.end_of_run.result in
    let is = c.end_of_run.ensures in
    let other : end ≡ runs.ReadFault → ⊥ = λ h. never_rose (end ≡ runs.ReadFault) c.run-end.ensures.read_cause h in
    let same : is_broken_off end ≡ is_fault result = fault_of_run end other ∙ ap is_fault (sym is) in
    let told : Option (List ℕ) = Some (drop c.new-source.result.place c.new-source.result.bytes) in
    let rest : List ℕ = drop c.run-end.new.input.place c.run-end.new.input.bytes in
    let told_is : told ≡ Some (drop place input) = ap (λ (s : Lent). Some (drop s.place s.bytes)) c.new-source.ensures ∙ ap (λ (l : List ℕ). Some l) (whole_rest input place) in
    let count : c.saturating_sub-trail.result ≡ length input - length rest = c.saturating_sub-trail.ensures ∙ ap (λ (l : List ℕ). length input - length l) c.rest.ensures in
    let state : Becomes (λ s. run s until) m.parts n.parts told (Some rest) (is_fault result) = subst (λ (b : Bool). Becomes (λ s. run s until) m.parts n.parts told (Some rest) b) same c.run-end.ensures.state in
    record {
      runs = runs_by until input m n place c.saturating_sub-trail.result (is_fault result) told rest (g.O.Sink.held c.args.output.now) (g.O.Sink.held c.run-end.new.output) (g.E.Sink.held c.args.errors.now) (g.E.Sink.held c.run-end.new.errors)
          told_is state
          (subst (λ (b : Bool). Puts (λ s. (run s until).output) m.parts told (g.O.Sink.held c.args.output.now) (g.O.Sink.held c.run-end.new.output) b) same c.run-end.ensures.output)
          (subst (λ (b : Bool). Puts (λ s. (run s until).errors) m.parts told (g.E.Sink.held c.args.errors.now) (g.E.Sink.held c.run-end.new.errors) b) same c.run-end.ensures.errors)
          (c.run-end.ensures.failed ∙ same) count;
      stopped = λ unbroken. ran_stopped until n.parts end (c.run-end.ensures.end (same ∙ unbroken)) c.run-end.ensures.spent;
      accesses = λ unbroken one. c.run-end.ensures.accesses (same ∙ unbroken) ∙ ran_accesses m.accesses m.parts _ until (going_by m c.requires.going) one;
      marks = c.run-end.ensures.marks;
      saved = c.run-end.ensures.saved;
      top = refl;
      due = refl;
      steps = refl;
      places = refl;
      write_cause = causes_as (end ≡ runs.WriteFault) (result ≡ WriteFault) _ _ (λ h. is ∙ ap end_of_run h) (λ h. last_run end WriteFault (sym is ∙ h)) c.run-end.ensures.write_cause;
      errors_cause = causes_as (end ≡ runs.ErrorsFault) (result ≡ ErrorsFault) _ _ (λ h. is ∙ ap end_of_run h) (λ h. last_run end ErrorsFault (sym is ∙ h)) c.run-end.ensures.errors_cause;
    }
