use Rattle.std.proofs.Common.{◌≡◌, false, Some, None, refl, ap, subst, ◌∙◌}
use Rattle.emu_model.specs.State.{Core, Parts, Vectors}
use Rattle.linux_calls.specs.declared.end.CallEnd.TheVariants.{ReadFault as CallReadFault, WriteFault as CallWriteFault, ErrorsFault as CallErrorsFault}
use Rattle.emu_system.specs.SystemCall.{action}
use Rattle.linux_calls.specs.Ends.{caller, does_put}
use Rattle.linux_calls.specs.Names.{NamesRead, NamesWrite}
use Rattle.emu_machine.specs.declared.ends.StepEnd.TheVariants.{ReadFault, WriteFault, ErrorsFault}
use Rattle.emu_machine.specs.Ends.{step_by}
use Rattle.emu_machine.specs.declared.machine.Machine.TheInside.{Inside}
use Rattle.emu_machine.specs.declared.running.Running.TheInside.{Inside as InRunning}
use Rattle.emu_machine.specs.Machines.{MachineState, has_ended}
use Rattle.emu_machine.proofs.CallLaws.{count_left, end_left, end_made, ended_as, errors_made, kept_left, not_ended, output_made, parts_made, state_made, taken_within, undone, unstored_left}
use Rattle.emu_machine.proofs.Runs.{causes_from}
use Rattle.emu_machine.proofs.Spared.{either, read_puts_none, write_puts_none}
use Rattle.emu_machine.proofs.machine.Machine.call.Goals as goal

-- as it is seen
abbrev open_as : InRunning → MachineState
open_as i = record {
  parts = record { core = i.core.value; vectors = i.vec.value; memory = i.memory.memory; brk = i.brk; steps = i.steps; ended = i.ended };
  accesses = i.log.items;
  failed = i.failed;
  marks = i.memory.marks;
  saved = i.saved.items;
  spare = i.memory.spare;
}

abbrev before : (g : _) → goal.After-leave g → Parts
before g c = let i = c.self-inside.inside.0.0 in record { core = c.deref_mut.result.now; vectors = c.deref_mut-2.result.now; memory = i.memory.memory; brk = i.brk; steps = i.steps; ended = i.ended }

-- the machine that is open
viewed : (g : _) (c : goal.After-leave g) → open_as c.self-inside.inside.0.0 ≡ c.args.self.now
viewed g c = ap (λ (x : Inside). x.running) c.self-inside.view_is ∙ c.self.view_is

-- with the registers behind their boxes
seen : (g : _) (c : goal.After-leave g) → before g c ≡ c.args.self.now.parts
seen g c =
    let i = c.self-inside.inside.0.0 in
    ap (λ (x : Core). record (before g c) { core = x }) c.deref_mut.ensures.value
    ∙ ap (λ (x : Vectors). record (before g c) { core = i.core.value; vectors = x }) c.deref_mut-2.ensures.value
    ∙ ap (λ (s : MachineState). s.parts) (viewed g c)

going : (g : _) (c : goal.After-leave g) → (before g c).ended ≡ None
going g c = ap (λ (s : MachineState). s.parts.ended) (viewed g c) ∙ not_ended c.args.self.now.parts.ended c.args.self.now.failed c.requires.going

pub leave-requires-clause-going : goal.leave-requires-clause-going
leave-requires-clause-going g c =
    ap has_ended (ap (λ (x : Inside). x.running) c.self-inside.view_is ∙ c.self.view_is) ∙ c.requires.going

pub returns : goal.returns
returns g c =
    let end = c.call-end.result in
    let r = c.leave.result in
    let p = before g c in
    let q = c.args.self.now.parts in
    let new = c.leave.new.self.parts in
    let n = c.call-end.new in
    let e = c.call-end.ensures in
    let is = c.leave.ensures.end in
    let left = c.leave.ensures.parts in
    let same = seen g c in
    let none = going g c in
    let told = g.I.Source.left c.args.input.now in
    let now = g.I.Source.left c.call-end.new.input in
    let fell = undone end r p q is same in
    record {
      state = state_made end r p q is same n.core n.vec n.mem.memory n.brk new none left told now e.state e.input;
      machine = parts_made end r p q is same n.core n.vec n.mem.memory n.brk new none left told e.state;
      input = taken_within end r p q is same told now n.mem.memory e.stored (λ u. ap g.I.Source.left (e.untaken u));
      output = λ bytes. output_made end r p q is same (Some bytes) (g.O.Sink.held c.args.output.now) (g.O.Sink.held c.call-end.new.output) e.output;
      errors = λ bytes. errors_made end r p q is same (Some bytes) (g.E.Sink.held c.args.errors.now) (g.E.Sink.held c.call-end.new.errors) e.errors;
      end = end_left end r p q is same n.core n.vec n.mem.memory n.brk new none left;
      ends = λ bytes. end_made end r p q is same bytes none e.end;
      counted = count_left end r p q is same n.core n.vec n.mem.memory n.brk new none left;
      kept = kept_left end r p q is same n.core n.vec n.mem.memory n.brk new none left told now e.kept e.stored;
      unstored = unstored_left end r p q is same n.core n.vec n.mem.memory n.brk new none left e.kept e.unstored;
      accesses = c.leave.ensures.accesses ∙ ap (λ (s : MachineState). s.accesses) (viewed g c);
      failed = c.leave.ensures.failed ∙ fell;
      marks = c.leave.ensures.marks ∙ e.marks ∙ ap (λ (s : MachineState). s.marks) (viewed g c);
      saved = c.leave.ensures.saved ∙ ap (λ (s : MachineState). s.saved) (viewed g c);
      read_cause = causes_from (end ≡ CallReadFault) (r ≡ ReadFault) (g.I.Source.faults c.args.input.now) (g.I.Source.faults c.args.input.now) (g.I.Source.faults c.call-end.new.input) refl e.read_cause
          (ended_as end r p q is same ReadFault) (λ (so : end ≡ CallReadFault). is ∙ ap step_by so);
      write_cause = causes_from (end ≡ CallWriteFault) (r ≡ WriteFault) (g.O.Sink.faults c.args.output.now) (g.O.Sink.faults c.args.output.now) (g.O.Sink.faults c.call-end.new.output) refl e.write_cause
          (ended_as end r p q is same WriteFault) (λ (so : end ≡ CallWriteFault). is ∙ ap step_by so);
      errors_cause = causes_from (end ≡ CallErrorsFault) (r ≡ ErrorsFault) (g.E.Sink.faults c.args.errors.now) (g.E.Sink.faults c.args.errors.now) (g.E.Sink.faults c.call-end.new.errors) refl e.errors_cause
          (ended_as end r p q is same ErrorsFault) (λ (so : end ≡ CallErrorsFault). is ∙ ap step_by so);
      read_named = λ h. subst (λ (x : Parts). NamesRead x.core) same (e.read_named (ended_as end r p q is same ReadFault h));
      write_named = λ h. subst (λ (x : Parts). NamesWrite x.core 1) same (e.write_named (ended_as end r p q is same WriteFault h));
      errors_named = λ h. subst (λ (x : Parts). NamesWrite x.core 2) same (e.errors_named (ended_as end r p q is same ErrorsFault h));
      output_kept = λ h. e.output_kept (either (r ≡ ReadFault) (r ≡ ErrorsFault) (does_put 1 (action (caller p.core p.vectors p.memory p.brk)) ≡ false)
          (λ so. read_puts_none 1 (caller p.core p.vectors p.memory p.brk) (e.read_named (ended_as end r p q is same ReadFault so)))
          (λ so. write_puts_none 1 (caller p.core p.vectors p.memory p.brk) 2 refl (e.errors_named (ended_as end r p q is same ErrorsFault so))) h);
      errors_kept = λ h. e.errors_kept (either (r ≡ ReadFault) (r ≡ WriteFault) (does_put 2 (action (caller p.core p.vectors p.memory p.brk)) ≡ false)
          (λ so. read_puts_none 2 (caller p.core p.vectors p.memory p.brk) (e.read_named (ended_as end r p q is same ReadFault so)))
          (λ so. write_puts_none 2 (caller p.core p.vectors p.memory p.brk) 1 refl (e.write_named (ended_as end r p q is same WriteFault so))) h);
    }
