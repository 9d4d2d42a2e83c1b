use Rattle.std.proofs.Common.{◌≡◌, Some, Option, ap, refl, subst, sym, ◌∙◌}
use Rattle.emu_run.specs.ByTable.{a64}
use Rattle.emu_run.specs.declared.insn.Insn.{Insn}
use Rattle.emu_run.specs.declared.insn.Insn.TheVariants.{A64}
use Rattle.emu_run.specs.Step.{decode}
use Rattle.emu_machine.proofs.Left.{HasDone, done_by, performed_as}
use Rattle.emu_machine.proofs.running.Running.by_form.Goals.{After-leave_insn}
use Rattle.emu_machine.proofs.running.Running.by_form.Goals as goal

done : (c : After-leave_insn) → HasDone (decode c.args.word) c.args.self.now c.leave_insn.new.self c.leave_insn.result
done c =
    let i = c.self-in-Some.inside in
    let n = c.perform_a64-effect.new in
    let is : Some (A64 c.in-Some.insn) ≡ decode c.args.word = ap a64 (sym c.in-Some.is) ∙ c.decode_a64_word.ensures.table in
    subst (λ (o : Option Insn). HasDone o c.args.self.now c.leave_insn.new.self c.leave_insn.result) is
    (done_by (A64 c.in-Some.insn) i.core.value n.core i.vec.value n.vec i.memory.memory n.memory.memory i.brk i.steps i.ended i.log.items n.log.items i.failed i.memory.marks i.saved.items i.memory.spare c.leave_insn.new.self.spare
    c.perform_a64-effect.result c.leave_insn.result c.args.self.now c.leave_insn.new.self
    c.self-in-Some.view_is c.requires.clear c.requires.going (performed_as (A64 c.in-Some.insn) c.deref_mut.result.now i.core.value c.deref_mut-in-Some.result.now i.vec.value i.memory.memory c.deref_mut.ensures.value c.deref_mut-in-Some.ensures.value _ c.perform_a64-effect.ensures.done) c.leave_insn.ensures.progress c.leave_insn.ensures.parts c.leave_insn.ensures.accesses c.leave_insn.ensures.failed
    (c.leave_insn.ensures.marks ∙ c.perform_a64-effect.ensures.marks) c.leave_insn.ensures.saved refl)

pub returns-in-Some : goal.returns-in-Some
returns-in-Some c =
    let d = done c in
    record {
      turn = d.turn;
      kept = d.kept;
      svc = d.svc;
      alone = d.alone;
      ended = d.ended;
      counted = d.counted;
      accesses = d.accesses;
      marks = d.marks;
      saved = d.saved;
    }
