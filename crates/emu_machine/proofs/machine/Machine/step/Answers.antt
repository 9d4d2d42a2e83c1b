use Rattle.std.proofs.Common.{◌≡◌, ◌+◌, ℕ, List, Option, Some, false, is_none, ap, subst, sym, refl, ◌∙◌}
use Rattle.emu_model.specs.State.{Parts}
use Rattle.emu_system.specs.SystemCall.{Stepped, call, quiet}
use Rattle.emu_run.specs.Step.{step, step_from}
use Rattle.linux_calls.specs.Names.{NamesRead, NamesWrite}
use Rattle.emu_machine.specs.Ends.{IsKept, is_undone, is_unput, step_end}
use Rattle.emu_machine.proofs.Advanced.{causes_not, counted_as, not_both, turned}
use Rattle.emu_machine.proofs.Performed.{still_goes}
use Rattle.emu_machine.proofs.Turns.{call_none}
use Rattle.emu_machine.proofs.Runs.{Ran, becomes_by_call, done_by_end, ends_by_call, goes, made_by_call, puts_by_call, puts_errors_by_call, quietly_made, quietly_ran, takes_by_call, unput_by_end}
use Rattle.emu_machine.proofs.machine.Machine.step.Goals as goal

turns : (g : _) (c : goal.After-step_end g) (input : List ℕ) → step_from c.args.self.now.parts input ≡ quiet c.once.new.self.parts input
turns g c input = turned c.once.result c.args.self.now.parts c.once.new.self.parts c.in_default.not-AtCall c.once.ensures.turn input

ended : (g : _) (c : goal.After-step_end g) → c.step_end.result ≡ step_end c.once.new.self.parts.ended
ended g c = c.step_end.ensures ∙ ap step_end c.ending.ensures

done : (g : _) (c : goal.After-step_end g) → is_undone c.step_end.result ≡ false
done g c = ap is_undone (ended g c) ∙ done_by_end c.once.new.self.parts.ended

ran : (g : _) (c : goal.After-step_end g) (told held errs : Option (List ℕ)) → Ran step c.args.self.now.parts c.once.new.self.parts told told held held errs errs (is_undone c.step_end.result)
ran g c told held errs = quietly_ran c.args.self.now.parts c.once.new.self.parts told held errs (is_undone c.step_end.result) (turns g c)

pub returns-in_default : goal.returns-in_default
returns-in_default g c =
    let m = c.args.self.now.parts in
    let q = c.once.new.self.parts in
    let r = ran g c (g.I.Source.left c.args.input.now) (g.O.Sink.held c.args.output.now) (g.E.Sink.held c.args.errors.now) in
    record {
      state = r.state;
      machine = quietly_made m q (g.I.Source.left c.args.input.now) (is_undone c.step_end.result) (turns g c);
      input = r.input;
      output = λ bytes. (ran g c (Some bytes) (g.O.Sink.held c.args.output.now) (g.E.Sink.held c.args.errors.now)).output;
      errors = λ bytes. (ran g c (Some bytes) (g.O.Sink.held c.args.output.now) (g.E.Sink.held c.args.errors.now)).errors;
      end = λ _. ended g c;
      ends = λ bytes _. ended g c ∙ ap (λ (t : Stepped). step_end t.parts.ended) (sym (turns g c bytes));
      counted = λ going. counted_as c.once.result m q c.in_default.not-AtCall c.once.ensures.ended c.once.ensures.counted (sym going ∙ ended g c);
      kept = λ h. not_both (is_undone c.step_end.result) (IsKept c.args.self.now.parts c.once.new.self.parts (g.I.Source.left c.args.input.now) (g.I.Source.left c.args.input.now)) (done g c) h;
      unstored = λ h. not_both _ _ (ap is_unput (ended g c) ∙ unput_by_end c.once.new.self.parts.ended) h;
      accesses = c.once.ensures.accesses;
      undone = λ h. not_both _ _ (done g c) h;
      failed = c.once.ensures.failed ∙ sym (done g c);
      marks = c.once.ensures.marks;
      saved = c.once.ensures.saved;
      read_cause = causes_not _ _ _ refl (λ e. not_both _ _ (done g c) (ap is_undone e));
      write_cause = causes_not _ _ _ refl (λ e. not_both _ _ (done g c) (ap is_undone e));
      errors_cause = causes_not _ _ _ refl (λ e. not_both _ _ (done g c) (ap is_undone e));
      read_named = λ e. not_both _ _ (done g c) (ap is_undone e);
      write_named = λ e. not_both _ _ (done g c) (ap is_undone e);
      errors_named = λ e. not_both _ _ (done g c) (ap is_undone e);
      output_kept = λ _. refl;
      errors_kept = λ _. refl;
    }

-- the machine that makes the call is the one that asked for it
same : (g : _) (c : goal.After-call g) → c.once.new.self.parts ≡ c.args.self.now.parts
same g c = c.in-AtCall.ensures.kept

calls : (g : _) (c : goal.After-call g) (input : List ℕ) → step_from c.args.self.now.parts input ≡ call c.args.self.now.parts input
calls g c input = c.in-AtCall.ensures.turn input

pub call-requires-clause-going : goal.call-requires-clause-going
call-requires-clause-going g c =
    still_goes c.once.new.self (ap (λ (p : Parts). is_none p.ended) c.in-AtCall.ensures.kept ∙ goes c.args.self.now.parts.ended c.args.self.now.failed c.requires.going) c.once.ensures.failed

pub returns-in-AtCall : goal.returns-in-AtCall
returns-in-AtCall g c =
    let m = c.args.self.now.parts in
    let p = c.once.new.self.parts in
    let is : p ≡ m = same g c in
    let broken = is_undone c.call.result in
    let told = g.I.Source.left c.args.input.now in
    let left = g.I.Source.left c.call.new.input in
    let at = c.once.ensures.svc c.in-AtCall.is in
    record {
      state = becomes_by_call m p broken is (calls g c) c.call.new.self.parts told left c.call.ensures.state;
      machine = made_by_call m p broken is (calls g c) told c.call.new.self.parts at c.call.ensures.machine;
      input = takes_by_call m p broken is (calls g c) told left c.call.ensures.input;
      output = puts_by_call m p (g.O.Sink.held c.args.output.now) (g.O.Sink.held c.call.new.output) broken is (calls g c) c.call.ensures.output;
      errors = puts_errors_by_call m p (g.E.Sink.held c.args.errors.now) (g.E.Sink.held c.call.new.errors) broken is (calls g c) c.call.ensures.errors;
      end = c.call.ensures.end;
      ends = λ bytes. ends_by_call m p broken is (calls g c) bytes c.call.result (c.call.ensures.ends bytes);
      counted = λ going. c.call.ensures.counted going ∙ ap (λ (x : Parts). x.steps + 1) is;
      kept = λ h. subst (λ (x : Parts). IsKept x c.call.new.self.parts (g.I.Source.left c.args.input.now) (g.I.Source.left c.call.new.input)) is (c.call.ensures.kept h);
      unstored = λ h. c.call.ensures.unstored h ∙ is;
      accesses = c.call.ensures.accesses ∙ c.once.ensures.accesses;
      undone = λ h. c.call.ensures.accesses ∙ c.once.ensures.accesses ∙ call_none c.args.self.now.parts at;
      failed = c.call.ensures.failed;
      marks = c.call.ensures.marks ∙ c.once.ensures.marks;
      saved = c.call.ensures.saved ∙ c.once.ensures.saved;
      read_cause = c.call.ensures.read_cause;
      write_cause = c.call.ensures.write_cause;
      errors_cause = c.call.ensures.errors_cause;
      read_named = λ h. record { svc = at; names = subst (λ (x : Parts). NamesRead x.core) is (c.call.ensures.read_named h) };
      write_named = λ h. record { svc = at; names = subst (λ (x : Parts). NamesWrite x.core 1) is (c.call.ensures.write_named h) };
      errors_named = λ h. record { svc = at; names = subst (λ (x : Parts). NamesWrite x.core 2) is (c.call.ensures.errors_named h) };
      output_kept = c.call.ensures.output_kept;
      errors_kept = c.call.ensures.errors_kept;
    }
