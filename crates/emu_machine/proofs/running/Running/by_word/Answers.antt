use Rattle.std.proofs.Common.{Option, refl, sym, subst, ◌∙◌}
use Rattle.emu_run.specs.declared.insn.Insn.{Insn}
use Rattle.emu_run.specs.declared.insn.Insn.TheVariants.{A64}
use Rattle.emu_run.specs.Step.{decode}
use Rattle.emu_machine.proofs.Left.{HasDone, done_by, done_later, performed_as}
use Rattle.emu_machine.proofs.running.Running.by_word.Goals.{After-by_form, After-leave_insn}
use Rattle.emu_machine.proofs.running.Running.by_word.Goals as goal

-- an operation that was done at once
at_once : (c : After-leave_insn) → HasDone (decode c.args.word) c.args.self.now c.leave_insn.new.self c.leave_insn.result
at_once c =
    let i = c.self.inside in
    let n = c.tried.new in
    let here = c.deref_mut.result.now in
    let ready = c.in-Some.ensures.ready in
    let known = c.find.ensures ready in
    subst (λ (x : Option Insn). HasDone x c.args.self.now c.leave_insn.new.self c.leave_insn.result) (sym known.1)
    (done_by (A64 known.0) i.core.value n.core i.vec.value i.vec.value i.memory.memory n.mem.memory i.brk i.steps i.ended i.log.items n.log.items i.failed i.memory.marks i.saved.items i.memory.spare c.leave_insn.new.self.spare
    c.in-Some.effect c.leave_insn.result c.args.self.now c.leave_insn.new.self
    c.self.view_is c.requires.clear c.requires.going
    (performed_as (A64 known.0) here i.core.value i.vec.value i.vec.value i.memory.memory c.deref_mut.ensures.value refl _ (sym (known.2 ready here i.vec.value i.memory.memory) ∙ c.in-Some.ensures.done i.vec.value))
    c.leave_insn.ensures.progress c.leave_insn.ensures.parts c.leave_insn.ensures.accesses c.leave_insn.ensures.failed
    (c.leave_insn.ensures.marks ∙ c.tried.ensures.marks) c.leave_insn.ensures.saved refl)

pub returns-in-Some : goal.returns-in-Some
returns-in-Some c =
    let d = at_once c in
    record {
      turn = d.turn;
      kept = d.kept;
      svc = d.svc;
      alone = d.alone;
      ended = d.ended;
      counted = d.counted;
      accesses = d.accesses;
      marks = d.marks;
      saved = d.saved;
    }

-- one that was left to its form
later : (c : After-by_form) → HasDone (decode c.args.word) c.args.self.now c.by_form.new.self c.by_form.result
later c =
    let i = c.self.inside in
    let n = c.tried.new in
    let left = c.in-None.ensures.done in
    let e = c.by_form.ensures in
    done_later (decode c.args.word) i.core.value n.core i.vec.value i.memory.memory n.mem.memory i.brk i.steps i.ended i.log.items n.log.items i.failed i.memory.marks n.mem.marks i.saved.items i.memory.spare n.mem.spare
    c.args.self.now c.by_form.new.self c.by_form.result c.self.view_is c.requires.clear (left.0 ∙ c.deref_mut.ensures.value) left.1.0 left.1.1 c.tried.ensures.marks
    (record { turn = e.turn; kept = e.kept; svc = e.svc; alone = e.alone; ended = e.ended; counted = e.counted; accesses = e.accesses; marks = e.marks; saved = e.saved })

pub returns-in-None : goal.returns-in-None
returns-in-None c =
    let d = later c in
    record {
      turn = d.turn;
      kept = d.kept;
      svc = d.svc;
      alone = d.alone;
      ended = d.ended;
      counted = d.counted;
      accesses = d.accesses;
      marks = d.marks;
      saved = d.saved;
    }
