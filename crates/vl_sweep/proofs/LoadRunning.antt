-- What a run into a sink that held nothing says of the run alone.
use Rattle.std.proofs.Common.{◌≡◌, ℕ, Bool, false, List, [], length, sum_by, Option, Some, refl, sym, subst, ◌∙◌, arith}
use Rattle.emu_machine.specs.Ends.{Becomes, Puts}
use Rattle.emu_machine.specs.declared.machine.Machine.{Machine}
use Rattle.emu_model.specs.State.{Parts, State}
use Rattle.emu_run.specs.Run.{run}
use Rattle.emu_system.specs.ArgumentLimits.{AreArguments}
use Rattle.emu_system.specs.Gained.{Gains}
use Rattle.emu_system.specs.Start.{with_input}
use Rattle.io_gate.specs.Memory.{Drain}
use Rattle.command_model.specs.Load.{load_args}
use Rattle.vl_sweep.specs.LoadRuns.{HasRun}

module _ (m : Parts) (budget : ℕ) (input held : List ℕ) (broken : Bool) (told old : Option (List ℕ)) (whole : broken ≡ false) (is_told : told ≡ Some input) (nothing : old ≡ Some []) where
  abbrev st : State
  st = run (with_input m input) budget

  pub has_run : (n : Machine) (left : Option (List ℕ)) (output : Drain) → output.held ≡ held → Becomes (λ st. run st budget) m n.parts told left broken → Puts (λ st. (run st budget).output) m told old (Some held) broken → HasRun st n output
  has_run n left output is becomes puts =
      let gains : Gains broken (Some held) [] st.output = subst (λ (o : Option (List ℕ)). Puts (λ st. (run st budget).output) m o (Some []) (Some held) broken) is_told
      (subst (λ (o : Option (List ℕ)). Puts (λ st. (run st budget).output) m told o (Some held) broken) nothing puts) in
      let e : Some held ≡ Some st.output = subst (λ (b : Bool). Gains b (Some held) [] st.output) whole gains in
      record {
        parts = ((subst (λ (o : Option (List ℕ)). Becomes (λ st. run st budget) m n.parts o left broken) is_told becomes) whole).0;
        written = (let same : held ≡ st.output = cc in is ∙ same);
      }

-- the one argument is such as a program may be given
are_load : AreArguments load_args
are_load =
    let count : length load_args ≡ 1 = refl in
    let bytes : sum_by length load_args ≡ 4 = refl in
    record { few = omega (arith, count); short = omega (arith, bytes); plain = refl }

pub are_arguments : (args : List (List ℕ)) → args ≡ load_args → AreArguments args
are_arguments args is = subst (λ (xs : List (List ℕ)). AreArguments xs) (sym is) are_load
