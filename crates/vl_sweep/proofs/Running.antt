-- What a run into bounded sinks says of the run alone: by a sink that isn't full, that it was whole; by a full one, that it wrote too much.
use Rattle.std.proofs.Common.{◌≡◌, ◌≤◌, ℕ, Bool, true, false, ◌&&◌, nat_eq, nat_le, List, [], length, Option, Some, refl, sym, ap, ap₂, subst, ◌∙◌, arith, length-append}
use Rattle.std.proofs.lemmas.Bool.Decides.{nat_tests}
use Rattle.io_gate.specs.Streams.{Causes, Rose}
use Rattle.emu_model.specs.State.{Parts, State}
use Rattle.emu_system.specs.Gained.{Gains}
use Rattle.emu_system.specs.Start.{with_input}
use Rattle.emu_run.specs.Run.{run}
use Rattle.emu_machine.specs.Ends.{Becomes, Puts, is_broken_off}
use Rattle.emu_machine.specs.declared.ends.RunEnd.{RunEnd}
use Rattle.emu_machine.specs.declared.ends.RunEnd.TheVariants.{Exit, Trap, Spent, ReadFault, WriteFault, ErrorsFault}
use Rattle.command_model.specs.Sweep.{fits_run, stream_limit}
use Rattle.vl_sweep.specs.Bounded.{Bounded}
use Rattle.vl_sweep.specs.Sweeps.{HasRun}
use Rattle.emu_machine.specs.declared.machine.Machine.{Machine}

-- a sink that never failed
never_rose : (before count : ℕ) → count ≡ 0 → Rose before count → ⊥
never_rose before count none rose = omega arith

-- so the run was whole
pub is_whole : (end : RunEnd) (before_w written before_e errors : ℕ) → written ≡ 0 → errors ≡ 0 → Causes (end ≡ ReadFault) 0 0 → Causes (end ≡ WriteFault) before_w written → Causes (end ≡ ErrorsFault) before_e errors → is_broken_off end ≡ false
is_whole (Exit code) before_w written before_e errors w e r cw ce = refl
is_whole (Trap t) before_w written before_e errors w e r cw ce = refl
is_whole Spent before_w written before_e errors w e r cw ce = refl
is_whole ReadFault before_w written before_e errors w e r cw ce = absurd (never_rose 0 0 refl (r.rose refl))
is_whole WriteFault before_w written before_e errors w e r cw ce = absurd (never_rose before_w written w (cw.rose refl))
is_whole ErrorsFault before_w written before_e errors w e r cw ce = absurd (never_rose before_e errors e (ce.rose refl))

abbrev bounded : List ℕ → ℕ → Bounded
bounded held faults = record { held = held; faults = faults }

holds_just : (b : Bounded) (held bytes : List ℕ) → b.held ≡ held → held ≡ bytes → b.faults ≡ 0 → b ≡ record { held = bytes; faults = 0 }
holds_just b held bytes is same fine = ap₂ (λ (xs : List ℕ) (n : ℕ). bounded xs n) (is ∙ same) fine

-- a sink that held nothing has no more than what was put to it
no_more : (broken : Bool) (held bytes : List ℕ) → Gains broken (Some held) [] bytes → length held ≤ length bytes
no_more false held bytes gains = let e : held ≡ bytes = cc in omega (arith, ap length e)
no_more true held bytes gains =
    let e : held ≡ gains.gained = (let is = gains.is in cc) in
    omega (arith, ap length e, ap length gains.first.1, length-append gains.gained gains.first.0)

too_many : (n m : ℕ) → nat_eq n 16777217 ≡ true → n ≤ m → nat_le m stream_limit ≡ false
too_many n m full le = grind (arith, nat_tests)

few_enough : (n : ℕ) → n ≤ 16777217 → nat_eq n 16777217 ≡ false → nat_le n stream_limit ≡ true
few_enough n le full = grind (arith, nat_tests)

no_fit : (a : Bool) → (a && false) ≡ false
no_fit true = refl
no_fit false = refl

module _ (m : Parts) (budget : ℕ) (input : List ℕ) (broken : Bool) (told w0 e0 : Option (List ℕ)) (written errors : List ℕ) (is_told : told ≡ Some input) (no_w : w0 ≡ Some []) (no_e : e0 ≡ Some [])
    (outs : Puts (λ st. (run st budget).output) m told w0 (Some written) broken) (errs : Puts (λ st. (run st budget).errors) m told e0 (Some errors) broken) where
  abbrev st : State
  st = run (with_input m input) budget

  gained_output : Gains broken (Some written) [] st.output
  gained_output = subst (λ (o : Option (List ℕ)). Puts (λ st. (run st budget).output) m o (Some []) (Some written) broken) is_told
      (subst (λ (o : Option (List ℕ)). Puts (λ st. (run st budget).output) m told o (Some written) broken) no_w outs)

  gained_errors : Gains broken (Some errors) [] st.errors
  gained_errors = subst (λ (o : Option (List ℕ)). Puts (λ st. (run st budget).errors) m o (Some []) (Some errors) broken) is_told
      (subst (λ (o : Option (List ℕ)). Puts (λ st. (run st budget).errors) m told o (Some errors) broken) no_e errs)

  pub full_output : nat_eq (length written) 16777217 ≡ true → fits_run st ≡ false
  full_output full = ap (λ b. b && nat_le (length st.errors) stream_limit) (too_many (length written) (length st.output) full (no_more broken written st.output gained_output))

  pub full_errors : nat_eq (length errors) 16777217 ≡ true → fits_run st ≡ false
  full_errors full =
      ap (λ b. nat_le (length st.output) stream_limit && b) (too_many (length errors) (length st.errors) full (no_more broken errors st.errors gained_errors))
      ∙ no_fit (nat_le (length st.output) stream_limit)

  module _ (whole : broken ≡ false) where
    written_is : written ≡ st.output
    written_is = let e : Some written ≡ Some st.output = subst (λ (b : Bool). Gains b (Some written) [] st.output) whole gained_output in cc

    errors_is : errors ≡ st.errors
    errors_is = let e : Some errors ≡ Some st.errors = subst (λ (b : Bool). Gains b (Some errors) [] st.errors) whole gained_errors in cc

    pub has_run : (n : Machine) (i1 : Option (List ℕ)) (w e : Bounded) → w.held ≡ written → e.held ≡ errors → w.faults ≡ 0 → e.faults ≡ 0
        → Becomes (λ st. run st budget) m n.parts told i1 broken → length written ≤ 16777217 → nat_eq (length written) 16777217 ≡ false → length errors ≤ 16777217 → nat_eq (length errors) 16777217 ≡ false
        → HasRun st n w e
    has_run n i1 w e w_is e_is w_fine e_fine becomes most_w room_w most_e room_e = record {
      parts = ((subst (λ (o : Option (List ℕ)). Becomes (λ st. run st budget) m n.parts o i1 broken) is_told becomes) whole).0;
      output = holds_just w written st.output w_is written_is w_fine;
      to_errors = holds_just e errors st.errors e_is errors_is e_fine;
      fits = ap₂ (λ a b. a && b)
          (ap (λ (xs : List ℕ). nat_le (length xs) stream_limit) (sym written_is) ∙ few_enough (length written) most_w room_w)
          (ap (λ (xs : List ℕ). nat_le (length xs) stream_limit) (sym errors_is) ∙ few_enough (length errors) most_e room_e);
    }
