use Rattle.std.proofs.Common.{ℕ, List, [], drop, Some, map, string_bytes, sym, ap, subst, refl, ◌∙◌}
use Rattle.elf_image.specs.Images.{seen_image}
use Rattle.emu_machine.specs.Ends.{is_broken_off}
use Rattle.emu_machine.specs.declared.machine.Machine.{Machine}
use Rattle.emu_model.specs.State.{Parts}
use Rattle.emu_run.specs.Run.{run}
use Rattle.emu_system.specs.Start.{opening, with_input}
use Rattle.io_gate.specs.Lent.{Lent}
use Rattle.command_model.specs.Load.{load_budget, load_pages}
use Rattle.vl_sweep.specs.LoadRuns.{HasRun}
use Rattle.vl_sweep.proofs.LoadRunning.{are_arguments, has_run}
use Rattle.vl_sweep.proofs.load_runs.run_at.Goals as goal

pub open-requires-clause-arguments : goal.open-requires-clause-arguments
open-requires-clause-arguments c = are_arguments (map string_bytes c.args.args.now) c.requires.arguments

pub returns : goal.returns
returns c = record {
  run = subst (λ (p : Parts). HasRun (run (with_input p []) load_budget) c.run-end.new.self c.run-end.new.output)
      (ap (λ (x : Machine). x.parts) c.in_ok-machine.ensures ∙ ap (λ (xs : List (List ℕ)). opening c.args.bytes.now (seen_image c.args.image.now) xs c.args.length load_pages) c.requires.arguments)
      (has_run c.in_ok-machine.machine.parts load_budget [] c.run-end.new.output.held (is_broken_off c.run-end.result) _ _ (sym c.is_broken_off.ensures ∙ c.if-is_broken_off.false)
      (ap (λ (l : Lent). Some (drop l.place l.bytes)) c.new-input.ensures) (ap (λ (xs : List ℕ). Some xs) c.requires.nothing_written)
      c.run-end.new.self _ c.run-end.new.output refl c.run-end.ensures.state c.run-end.ensures.output);
}
