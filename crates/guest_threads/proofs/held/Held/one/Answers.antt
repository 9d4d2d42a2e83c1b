use Rattle.std.proofs.Common.{◌≡◌, ◌+◌, ℕ, List, [], false, refl, sym, ap, subst, ◌∙◌}
use Rattle.emu_machine.specs.Ends.{is_undone, step_end}
use Rattle.emu_machine.proofs.Advanced.{causes_not, not_both}
use Rattle.emu_run.specs.Living.{IsLiving, one_living}
use Rattle.emu_run.specs.Threads.{WorldState, WorldStepped, makes_call, stepped, one, quietly, with_input}
use Rattle.emu_run.specs.Worlds.{World, context, parts_with, taken_by_context}
use Rattle.guest_threads.specs.Calls.{IsCalling}
use Rattle.guest_threads.specs.Ends.{WorldHeld, IsKept}
use Rattle.guest_threads.specs.Steps.{stepped_as}
use Rattle.guest_threads.proofs.Made.{unfailed_of}
use Rattle.guest_threads.proofs.Steps.{one_made, one_stepped, becomes_as, takes_as, output_as, errors_as, quiet_becomes, quiet_takes, quiet_output, quiet_errors, quiet_counted, end_is_done}
use Rattle.guest_threads.proofs.held.Held.one.Goals as goal

pub call-requires : goal.call-requires
call-requires g c =
    subst (λ (x : WorldHeld). IsCalling x) (sym (c.is_calling-calls.ensures.unchanged ∙ c.bring.ensures))
    (record { going = c.requires.going; room = c.requires.room; within = c.requires.within; ready = c.requires.ready })

pub step-requires : goal.step-requires
step-requires g c =
    subst (λ (x : WorldHeld). IsCalling x) (sym (c.in-None.ensures.kept refl ∙ c.is_calling-calls.ensures.unchanged ∙ c.bring.ensures))
    (record { going = c.requires.going; room = c.requires.room; within = c.requires.within; ready = c.requires.ready })

-- a call that speaks of contexts was made
pub returns-in-Some : goal.returns-in-Some
returns-in-Some g c =
    let h : WorldHeld = c.args.self.now in
    let v : WorldHeld = c.is_calling-calls.new.self in
    let brought : v ≡ record h { world = taken_by_context c.args.k h.world } = c.is_calling-calls.ensures.unchanged ∙ c.bring.ensures in
    let calls = c.is_calling-calls.ensures.call ∙ ap (λ (x : WorldHeld). makes_call (parts_with x.world (context x.world x.world.last))) (sym c.is_calling-calls.ensures.unchanged) in
    let made = c.in-Some.ensures.made in
    let n : WorldHeld = c.call.new.self in
    let empty = c.empty_monitors.ensures in
    let is : (input : List ℕ) → one h.world c.args.k input ≡ quietly c.empty_monitors.new.self.world input =
    λ input. one_made h v c.args.k brought c.is_calling-calls.result calls n c.in-Some.end made.0 made.1 input ∙ ap (λ (x : WorldHeld). quietly x.world input) (sym empty) in
    let ends : c.in-Some.end ≡ step_end c.empty_monitors.new.self.world.ended = made.1.end ∙ ap (λ (x : WorldHeld). step_end x.world.ended) (sym empty) in
    let fine : is_undone c.in-Some.end ≡ false = end_is_done c.in-Some.end c.empty_monitors.new.self.world.ended ends in
    let new : World = c.empty_monitors.new.self.world in
    record {
      state = quiet_becomes h.world new c.args.k is (g.I.Source.left c.args.input.now) (is_undone c.in-Some.end);
      input = quiet_takes h.world new c.args.k is (g.I.Source.left c.args.input.now) (is_undone c.in-Some.end) fine;
      output = quiet_output h.world new c.args.k is (g.O.Sink.held c.args.output.now) (is_undone c.in-Some.end);
      errors = quiet_errors h.world new c.args.k is (g.E.Sink.held c.args.errors.now) (is_undone c.in-Some.end);
      end = λ _. ends;
      counted = λ going. quiet_counted h.world new c.args.k is (sym going ∙ ends);
      kept = λ broken. not_both _ _ fine broken;
      failed = ap (λ (x : WorldHeld). x.failed) empty ∙ made.1.failed ∙ ap (λ (x : WorldHeld). x.failed) brought ∙ unfailed_of h c.requires.going ∙ sym fine;
      last = ap (λ (x : WorldHeld). x.world.last) empty ∙ made.1.last ∙ ap (λ (x : WorldHeld). x.world.last) brought;
      living = λ _. subst (λ (t : WorldStepped). IsLiving t.world) (is []) (one_living h.world c.args.k [] c.requires.within);
      read_cause = causes_not _ _ _ refl (λ e. not_both _ _ fine (ap is_undone e));
      write_cause = causes_not _ _ _ refl (λ e. not_both _ _ fine (ap is_undone e));
      errors_cause = causes_not _ _ _ refl (λ e. not_both _ _ fine (ap is_undone e));
      read_named = λ e. not_both _ _ fine (ap is_undone e);
      write_named = λ e. not_both _ _ fine (ap is_undone e);
      errors_named = λ e. not_both _ _ fine (ap is_undone e);
      output_kept = λ _. refl;
      errors_kept = λ _. refl;
    }

-- the step of a machine alone
pub returns-in-None : goal.returns-in-None
returns-in-None g c =
    let h : WorldHeld = c.args.self.now in
    let v : WorldHeld = c.is_calling-calls.new.self in
    let k : ℕ = c.args.k in
    let brought : v ≡ record h { world = taken_by_context k h.world } = c.is_calling-calls.ensures.unchanged ∙ c.bring.ensures in
    let calls = c.is_calling-calls.ensures.call ∙ ap (λ (x : WorldHeld). makes_call (parts_with x.world (context x.world x.world.last))) (sym c.is_calling-calls.ensures.unchanged) in
    let kept : c.call.new.self ≡ v = c.in-None.ensures.kept refl in
    let m = c.step.ensures in
    let old : World = c.call.new.self.world in
    let new : World = c.step.new.self.world in
    let r : WorldState → WorldState = λ st. stepped_as c.is_calling-calls.result st in
    let same : (bytes : List ℕ) → stepped_as c.is_calling-calls.result (with_input old bytes) ≡ stepped (with_input h.world bytes) k =
    λ bytes. ap (λ (x : WorldHeld). stepped_as c.is_calling-calls.result (with_input x.world bytes)) kept
    ∙ one_stepped h v k brought c.is_calling-calls.result calls c.in-None.ensures.made bytes in
    let here : c.call.new.self ≡ record h { world = taken_by_context k h.world } = kept ∙ brought in
    record {
      state = becomes_as r (λ st. stepped st k) old h.world new same (g.I.Source.left c.args.input.now) (g.I.Source.left c.step.new.input) (is_undone c.step.result) m.state;
      input = takes_as r (λ st. stepped st k) old h.world new same (g.I.Source.left c.args.input.now) (g.I.Source.left c.step.new.input) (is_undone c.step.result) m.input;
      output = output_as r (λ st. stepped st k) old h.world new same (g.O.Sink.held c.args.output.now) (g.O.Sink.held c.step.new.output) (is_undone c.step.result) m.output;
      errors = errors_as r (λ st. stepped st k) old h.world new same (g.E.Sink.held c.args.errors.now) (g.E.Sink.held c.step.new.errors) (is_undone c.step.result) m.errors;
      end = m.end;
      counted = λ going. m.counted going ∙ ap (λ (x : WorldHeld). x.world.steps + 1) here;
      kept = λ broken.
          let kept_so : IsKept (taken_by_context k h.world) new k (g.I.Source.left c.args.input.now) (g.I.Source.left c.step.new.input) =
          subst (λ (x : WorldHeld). IsKept x.world new x.world.last (g.I.Source.left c.args.input.now) (g.I.Source.left c.step.new.input)) here (m.kept broken) in
          record { is = kept_so.is; stored = kept_so.stored };
      failed = m.failed;
      last = m.last ∙ ap (λ (x : WorldHeld). x.world.last) here;
      living = m.living;
      read_cause = m.read_cause;
      write_cause = m.write_cause;
      errors_cause = m.errors_cause;
      read_named = m.read_named;
      write_named = m.write_named;
      errors_named = m.errors_named;
      output_kept = m.output_kept;
      errors_kept = m.errors_kept;
    }
