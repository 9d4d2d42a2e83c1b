use Rattle.std.proofs.Common.{◌≡◌, ℕ, Bool, sym, ap, subst, ◌∙◌}
use Rattle.emu_machine.specs.declared.ends.StepEnd.{StepEnd}
use Rattle.emu_machine.specs.declared.ends.StepEnd.TheVariants.{ReadFault, WriteFault, ErrorsFault}
use Rattle.emu_machine.specs.Ends.{is_undone}
use Rattle.emu_machine.proofs.Spared.{each_way}
use Rattle.io_gate.specs.Streams.{Causes}
use Rattle.emu_run.specs.Threads.{stepped}
use Rattle.emu_run.specs.Worlds.{World}
use Rattle.guest_threads.specs.declared.went.Went.{Went}
use Rattle.guest_threads.specs.Ends.{Becomes, PutsAlways, TakesWithin}
use Rattle.guest_threads.specs.Named.{last_end}
use Rattle.guest_threads.proofs.Named.{end_same, over_ended}
use Rattle.guest_threads.proofs.held.Held.one_by_name.Goals as goal

pub returns : goal.returns
returns g c =
    let k : ℕ = c.args.k in
    let p : World = c.args.self.now.world in
    let q : World = c.one-end.new.self.world in
    let o = c.one-end.ensures in
    let is : c.one-end.result ≡ last_end c.went_by.result q.ended = sym (ap (λ (w : Went). last_end w q.ended) c.went_by.ensures ∙ end_same c.one-end.result q.ended o.end) in
    let undone : is_undone c.one-end.result ≡ is_undone (last_end c.went_by.result q.ended) = ap is_undone is in
    record {
      state = subst (λ (b : Bool). Becomes (λ st. stepped st k) p q (g.I.Source.left c.args.input.now) (g.I.Source.left c.one-end.new.input) b) undone o.state;
      input = subst (λ (b : Bool). TakesWithin (λ st. stepped st k) p (g.I.Source.left c.args.input.now) (g.I.Source.left c.one-end.new.input) b) undone o.input;
      output = subst (λ (b : Bool). PutsAlways (λ st. (stepped st k).output) p (g.O.Sink.held c.args.output.now) (g.O.Sink.held c.one-end.new.output) b) undone o.output;
      errors = subst (λ (b : Bool). PutsAlways (λ st. (stepped st k).errors) p (g.E.Sink.held c.args.errors.now) (g.E.Sink.held c.one-end.new.errors) b) undone o.errors;
      end = λ fine. sym is ∙ o.end (undone ∙ fine);
      over = λ over. over_ended c.one-end.result q.ended o.end (sym c.went_by.ensures ∙ over);
      counted = λ going. o.counted (is ∙ going);
      kept = λ broken. o.kept (undone ∙ broken);
      failed = o.failed ∙ undone;
      last = o.last;
      living = λ fine. o.living (undone ∙ fine);
      read_cause = subst (λ (e : StepEnd). Causes (e ≡ ReadFault) (g.I.Source.faults c.args.input.now) (g.I.Source.faults c.one-end.new.input)) is o.read_cause;
      write_cause = subst (λ (e : StepEnd). Causes (e ≡ WriteFault) (g.O.Sink.faults c.args.output.now) (g.O.Sink.faults c.one-end.new.output)) is o.write_cause;
      errors_cause = subst (λ (e : StepEnd). Causes (e ≡ ErrorsFault) (g.E.Sink.faults c.args.errors.now) (g.E.Sink.faults c.one-end.new.errors)) is o.errors_cause;
      read_named = λ e. o.read_named (is ∙ e);
      write_named = λ e. o.write_named (is ∙ e);
      errors_named = λ e. o.errors_named (is ∙ e);
      output_kept = λ h. o.output_kept (each_way _ _ _ _ (λ (e : last_end c.went_by.result q.ended ≡ ReadFault). is ∙ e) (λ (e : last_end c.went_by.result q.ended ≡ ErrorsFault). is ∙ e) h);
      errors_kept = λ h. o.errors_kept (each_way _ _ _ _ (λ (e : last_end c.went_by.result q.ended ≡ ReadFault). is ∙ e) (λ (e : last_end c.went_by.result q.ended ≡ WriteFault). is ∙ e) h);
    }
