use Rattle.std.proofs.Common.{◌≡◌, drop, Some, false, sym, ap, subst, refl, ◌∙◌}
use Rattle.emu_machine.specs.Ends.{is_broken_off}
use Rattle.emu_machine.specs.declared.machine.Machine.{Machine}
use Rattle.emu_model.specs.State.{Parts}
use Rattle.emu_run.specs.Run.{run}
use Rattle.emu_system.specs.Start.{with_input}
use Rattle.io_gate.specs.Lent.{Lent}
use Rattle.command_model.specs.Sweep.{fits_run}
use Rattle.vl_sweep.specs.Bounded.{Bounded}
use Rattle.vl_sweep.specs.Sweeps.{HasRun}
use Rattle.vl_sweep.proofs.Running.{full_errors, full_output, has_run, is_whole}
use Rattle.vl_sweep.proofs.lengths.run_at.Goals as goal

pub returns-then-is_full : goal.returns-then-is_full
returns-then-is_full c = record {
  run = subst (λ (p : Parts). fits_run (run (with_input p c.args.input.now) c.args.budget) ≡ false) (ap (λ (x : Machine). x.parts) c.in-Ok.ensures)
      (full_output c.in-Ok.machine.parts c.args.budget c.args.input.now (is_broken_off c.run.result) _ _ _ c.run.new.output.held c.run.new.errors.held
      (ap (λ (l : Lent). Some (drop l.place l.bytes)) c.new-source.ensures) (ap (λ (b : Bounded). Some b.held) c.requires.nothing_written) (ap (λ (b : Bounded). Some b.held) c.requires.no_errors)
      c.run.ensures.output c.run.ensures.errors (sym c.is_full.ensures.full ∙ c.if-is_full.true));
}

pub returns-then-is_full-2 : goal.returns-then-is_full-2
returns-then-is_full-2 c = record {
  run = subst (λ (p : Parts). fits_run (run (with_input p c.args.input.now) c.args.budget) ≡ false) (ap (λ (x : Machine). x.parts) c.in-Ok.ensures)
      (full_errors c.in-Ok.machine.parts c.args.budget c.args.input.now (is_broken_off c.run.result) _ _ _ c.run.new.output.held c.run.new.errors.held
      (ap (λ (l : Lent). Some (drop l.place l.bytes)) c.new-source.ensures) (ap (λ (b : Bounded). Some b.held) c.requires.nothing_written) (ap (λ (b : Bounded). Some b.held) c.requires.no_errors)
      c.run.ensures.output c.run.ensures.errors (sym c.is_full-2.ensures.full ∙ c.if-is_full-2.true));
}

pub returns : goal.returns
returns c =
    let room = sym c.is_full.ensures.full ∙ c.if-is_full.false in
    let more = sym c.is_full-2.ensures.full ∙ c.if-is_full-2.false in
    let fine = c.is_full.ensures.unfailed c.if-is_full.false in
    let fine_errors = c.is_full-2.ensures.unfailed c.if-is_full-2.false in
    record {
      run = subst (λ (p : Parts). HasRun (run (with_input p c.args.input.now) c.args.budget) c.run.new.self c.run.new.output c.run.new.errors) (ap (λ (x : Machine). x.parts) c.in-Ok.ensures)
          (has_run c.in-Ok.machine.parts c.args.budget c.args.input.now (is_broken_off c.run.result) _ _ _ c.run.new.output.held c.run.new.errors.held
          (ap (λ (l : Lent). Some (drop l.place l.bytes)) c.new-source.ensures) (ap (λ (b : Bounded). Some b.held) c.requires.nothing_written) (ap (λ (b : Bounded). Some b.held) c.requires.no_errors)
          c.run.ensures.output c.run.ensures.errors
          (is_whole c.run.result _ c.run.new.output.faults _ c.run.new.errors.faults fine fine_errors c.run.ensures.read_cause c.run.ensures.write_cause c.run.ensures.errors_cause)
          c.run.new.self _ c.run.new.output c.run.new.errors refl refl fine fine_errors c.run.ensures.state c.is_full.ensures.most room c.is_full-2.ensures.most more);
    }
