use Rattle.std.proofs.Common.{◌≡◌, ◌+◌, Bool, subst, List, length, true, false, map, refl, sym, ap, ◌∙◌}
use Rattle.std.specs.Vec.{with_items}
use Rattle.std.proofs.lemmas.List.{length-map, with_items_is}
use Rattle.emu_model.specs.declared.access.Access.{Access}
use Rattle.emu_model.specs.State.{Parts}
use Rattle.emu_run.specs.Step.{accesses}
use Rattle.emu_machine.specs.Ends.{is_undone, is_unput, step_end}
use Rattle.emu_machine.specs.Machines.{MakesWrite}
use Rattle.emu_machine.proofs.Advanced.{not_both}
use Rattle.linux_calls.specs.Names.{NamesRead}
use Rattle.emu_run.specs.Worlds.{World, Context, behind_accesses, context, parts_with, others_behind}
use Rattle.guest_contexts.specs.Laid.{world_of}
use Rattle.guest_contexts.proofs.Laid.{joined_is, noted_is}
use Rattle.guest_threads.specs.Ends.{IsInside, WorldHeld, last_machine}
use Rattle.guest_threads.proofs.Inside.{inside_mapped}
use Rattle.guest_threads.proofs.Steps.{StepLeft, stepped_done, stepped_broken, kept_is, accessed_is, lives_called, lives_noted}
use Rattle.guest_threads.proofs.Views.{laid_ready, last_is}
use Rattle.guest_threads.proofs.held.Held.step.Goals as goal

pub returns-then-is_fault : goal.returns-then-is_fault
returns-then-is_fault g c =
    let b : is_undone c.step-end.result ≡ true = sym c.is_fault.ensures ∙ c.if-is_fault.true in
    let m = c.step-end.ensures in
    let q = c.step-end.new.self.parts in
    let new : World = world_of q c.self.inside.last c.self.inside.contexts.items in
    let here : last_machine new ≡ q = joined_is q c.self.inside.last c.self.inside.contexts.items c.self.invariant.last in
    let r : StepLeft c.args.calls c.args.self.now new (g.I.Source.left c.args.input.now) (g.I.Source.left c.step-end.new.input) (g.O.Sink.held c.args.output.now) (g.O.Sink.held c.step-end.new.output) (g.E.Sink.held c.args.errors.now) (g.E.Sink.held c.step-end.new.errors) (is_undone c.step-end.result) =
    stepped_broken c.args.calls c.self.inside.machine c.self.inside.last c.self.inside.contexts.items c.args.self.now c.self.view_is c.self.invariant.last c.requires.ready q (g.I.Source.left c.args.input.now) (g.I.Source.left c.step-end.new.input) (g.O.Sink.held c.args.output.now) (g.O.Sink.held c.step-end.new.output) (g.E.Sink.held c.args.errors.now) (g.E.Sink.held c.step-end.new.errors) (is_undone c.step-end.result) b new m.input m.output m.errors in
    record {
      state = r.state;
      input = r.input;
      output = r.output;
      errors = r.errors;
      end = m.end;
      counted = λ going. m.counted going ∙ ap (λ (x : WorldHeld). x.world.steps + 1) c.self.view_is;
      kept = λ broken. kept_is c.args.calls c.self.inside.machine c.self.inside.last c.self.inside.contexts.items c.args.self.now c.self.view_is c.self.invariant.last c.requires.ready q (g.I.Source.left c.args.input.now) (g.I.Source.left c.step-end.new.input) (g.O.Sink.held c.args.output.now) (g.O.Sink.held c.step-end.new.output) (g.E.Sink.held c.args.errors.now) (g.E.Sink.held c.step-end.new.errors) (m.kept broken);
      failed = m.failed;
      last = last_is c.self.inside.machine c.self.inside.last c.self.inside.contexts.items c.args.self.now c.self.view_is;
      living = λ fine. not_both _ _ fine b;
      read_cause = m.read_cause;
      write_cause = m.write_cause;
      errors_cause = m.errors_cause;
      read_named = λ e. subst (λ (x : Parts). NamesRead x.core) (sym here) (subst (λ (x : Parts). NamesRead x.core) (sym (m.kept b).is) (m.read_named e).names);
      write_named = λ e. subst (λ (x : Parts). MakesWrite x 1) (sym (here ∙ m.unstored (ap is_unput e))) (m.write_named e);
      errors_named = λ e. subst (λ (x : Parts). MakesWrite x 2) (sym (here ∙ m.unstored (ap is_unput e))) (m.errors_named e);
      output_kept = m.output_kept;
      errors_kept = m.errors_kept;
    }

pub returns-then-calls : goal.returns-then-calls
returns-then-calls g c =
    let b : is_undone c.step-end.result ≡ false = sym c.is_fault.ensures ∙ c.if-is_fault.false in
    let m = c.step-end.ensures in
    let q = c.step-end.new.self.parts in
    let yes = c.if-calls.true in
    let ready = laid_ready c.self.inside.machine c.self.inside.last c.self.inside.contexts.items c.args.self.now c.self.view_is c.requires.ready in
    let e = c.empty_monitors.ensures in
    let r : StepLeft true c.args.self.now c.empty_monitors.new.self.world (g.I.Source.left c.args.input.now) (g.I.Source.left c.step-end.new.input) (g.O.Sink.held c.args.output.now) (g.O.Sink.held c.step-end.new.output) (g.E.Sink.held c.args.errors.now) (g.E.Sink.held c.step-end.new.errors) (is_undone c.step-end.result) =
    stepped_done true c.self.inside.machine c.self.inside.last c.self.inside.contexts.items c.args.self.now c.self.view_is c.self.invariant.last c.requires.ready q (g.I.Source.left c.args.input.now) (g.I.Source.left c.step-end.new.input) (g.O.Sink.held c.args.output.now) (g.O.Sink.held c.step-end.new.output) (g.E.Sink.held c.args.errors.now) (g.E.Sink.held c.step-end.new.errors) (is_undone c.step-end.result) b c.empty_monitors.new.self.world (ap (λ (x : WorldHeld). x.world) e) m.state m.input m.output m.errors in
    let s = subst (λ (x : Bool). StepLeft x c.args.self.now c.empty_monitors.new.self.world (g.I.Source.left c.args.input.now) (g.I.Source.left c.step-end.new.input) (g.O.Sink.held c.args.output.now) (g.O.Sink.held c.step-end.new.output) (g.E.Sink.held c.args.errors.now) (g.E.Sink.held c.step-end.new.errors) (is_undone c.step-end.result)) (sym yes) r in
    record {
      state = s.state;
      input = s.input;
      output = s.output;
      errors = s.errors;
      end = λ fine. m.end fine ∙ ap (λ (x : WorldHeld). step_end x.world.ended) (sym e);
      counted = λ going. ap (λ (x : WorldHeld). x.world.steps) e ∙ m.counted going ∙ ap (λ (x : WorldHeld). x.world.steps + 1) c.self.view_is;
      kept = λ broken. absurd (let h = sym b ∙ broken in cc);
      failed = ap (λ (x : WorldHeld). x.failed) e ∙ m.failed;
      last = ap (λ (x : WorldHeld). x.world.last) e ∙ last_is c.self.inside.machine c.self.inside.last c.self.inside.contexts.items c.args.self.now c.self.view_is;
      living = λ _. lives_called c.self.inside.machine.parts q c.self.inside.last c.self.inside.contexts.items c.self.invariant.last ready c.empty_monitors.new.self.world (ap (λ (x : WorldHeld). x.world) e);
      read_cause = m.read_cause;
      write_cause = m.write_cause;
      errors_cause = m.errors_cause;
      read_named = λ e. not_both _ _ b (ap is_undone e);
      write_named = λ e. not_both _ _ b (ap is_undone e);
      errors_named = λ e. not_both _ _ b (ap is_undone e);
      output_kept = m.output_kept;
      errors_kept = m.errors_kept;
    }

pub returns : goal.returns
returns g c =
    let b : is_undone c.step-end.result ≡ false = sym c.is_fault.ensures ∙ c.if-is_fault.false in
    let m = c.step-end.ensures in
    let q = c.step-end.new.self.parts in
    let ready = laid_ready c.self.inside.machine c.self.inside.last c.self.inside.contexts.items c.args.self.now c.self.view_is c.requires.ready in
    let no = c.if-calls.false in
    let kept : c.note_accesses.new.contexts ≡ map (behind_accesses c.accesses.result.now) c.self.inside.contexts.items =
    c.note_accesses.ensures ∙ ap (λ (x : List Context). map (behind_accesses c.accesses.result.now) x) c.deref_mut.ensures.value in
    let long : length c.note_accesses.new.contexts ≡ c.self.inside.contexts.len = ap (λ (x : List Context). length x) kept ∙ length-map c.self.inside.contexts.items (behind_accesses c.accesses.result.now) ∙ sym c.self.inside.contexts.ok.0 in
    let new : World = world_of q c.self.inside.last (with_items c.self.inside.contexts c.note_accesses.new.contexts).items in
    let made : List Access = c.accesses.result.now in
    let is : new ≡ others_behind (accesses (parts_with (world_of c.self.inside.machine.parts c.self.inside.last c.self.inside.contexts.items) (context (world_of c.self.inside.machine.parts c.self.inside.last c.self.inside.contexts.items) c.self.inside.last))) c.self.inside.last (world_of q c.self.inside.last c.self.inside.contexts.items) =
    ap (λ (x : List Context). world_of q c.self.inside.last x) (with_items_is c.self.inside.contexts c.note_accesses.new.contexts long ∙ kept)
    ∙ noted_is q c.self.inside.last c.self.inside.contexts.items c.self.invariant.last made
    ∙ ap (λ (x : List Access). others_behind x c.self.inside.last (world_of q c.self.inside.last c.self.inside.contexts.items)) (c.accesses.ensures ∙ m.accesses ∙ sym (accessed_is c.args.calls c.self.inside.machine.parts c.self.inside.last c.self.inside.contexts.items c.self.invariant.last)) in
    let r : StepLeft false c.args.self.now new (g.I.Source.left c.args.input.now) (g.I.Source.left c.step-end.new.input) (g.O.Sink.held c.args.output.now) (g.O.Sink.held c.step-end.new.output) (g.E.Sink.held c.args.errors.now) (g.E.Sink.held c.step-end.new.errors) (is_undone c.step-end.result) =
    stepped_done false c.self.inside.machine c.self.inside.last c.self.inside.contexts.items c.args.self.now c.self.view_is c.self.invariant.last c.requires.ready q (g.I.Source.left c.args.input.now) (g.I.Source.left c.step-end.new.input) (g.O.Sink.held c.args.output.now) (g.O.Sink.held c.step-end.new.output) (g.E.Sink.held c.args.errors.now) (g.E.Sink.held c.step-end.new.errors) (is_undone c.step-end.result) b new is m.state m.input m.output m.errors in
    let s = subst (λ (x : Bool). StepLeft x c.args.self.now new (g.I.Source.left c.args.input.now) (g.I.Source.left c.step-end.new.input) (g.O.Sink.held c.args.output.now) (g.O.Sink.held c.step-end.new.output) (g.E.Sink.held c.args.errors.now) (g.E.Sink.held c.step-end.new.errors) (is_undone c.step-end.result)) (sym no) r in
    record {
      state = s.state;
      input = s.input;
      output = s.output;
      errors = s.errors;
      end = m.end;
      counted = λ going. m.counted going ∙ ap (λ (x : WorldHeld). x.world.steps + 1) c.self.view_is;
      kept = λ broken. absurd (let h = sym b ∙ broken in cc);
      failed = m.failed;
      last = last_is c.self.inside.machine c.self.inside.last c.self.inside.contexts.items c.args.self.now c.self.view_is;
      living = λ _. lives_noted c.self.inside.machine.parts q c.self.inside.last c.self.inside.contexts.items c.self.invariant.last ready (accesses (parts_with (world_of c.self.inside.machine.parts c.self.inside.last c.self.inside.contexts.items) (context (world_of c.self.inside.machine.parts c.self.inside.last c.self.inside.contexts.items) c.self.inside.last))) new is;
      read_cause = m.read_cause;
      write_cause = m.write_cause;
      errors_cause = m.errors_cause;
      read_named = λ e. not_both _ _ b (ap is_undone e);
      write_named = λ e. not_both _ _ b (ap is_undone e);
      errors_named = λ e. not_both _ _ b (ap is_undone e);
      output_kept = m.output_kept;
      errors_kept = m.errors_kept;
    }

pub invariant_of-self-2 : goal.invariant_of-self-2
invariant_of-self-2 g c =
    let i = c.self.inside in
    let made = c.accesses.result.now in
    let kept : c.note_accesses.new.contexts ≡ map (behind_accesses made) i.contexts.items = c.note_accesses.ensures ∙ ap (λ (x : List Context). map (behind_accesses made) x) c.deref_mut.ensures.value in
    let long : length c.note_accesses.new.contexts ≡ i.contexts.len = ap (λ (x : List Context). length x) kept ∙ length-map i.contexts.items (behind_accesses made) ∙ sym i.contexts.ok.0 in
    subst (λ (x : List Context). IsInside i.last x i.contexts.cap (length i.spares.items) i.numbers.items false) (sym (with_items_is i.contexts c.note_accesses.new.contexts long ∙ kept))
    (inside_mapped i.contexts.cap (length i.spares.items) i.numbers.items (behind_accesses made) (λ (x : Context). refl) i.last i.contexts.items i.unwatched c.self.invariant)
