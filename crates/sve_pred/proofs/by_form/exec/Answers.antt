use Rattle.std.proofs.Common.{ap, sym, ◌∙◌}
use Rattle.sve_effects.specs.Effects.{predicate}
use Rattle.sve_insn.specs.declared.form.SveForm.{SveForm}
use Rattle.sve_pred.proofs.by_form.exec.Goals as goal

pub returns-in-CmpVec-clause-registers : goal.returns-in-CmpVec-clause-registers
returns-in-CmpVec-clause-registers c = c.vectors.ensures.registers ∙ ap (λ (f : SveForm). (predicate f c.args.core.now c.args.vec.now).core) (sym c.in-CmpVec.is ∙ c.form.ensures.form)

pub returns-in-CmpVec-clause-vectors : goal.returns-in-CmpVec-clause-vectors
returns-in-CmpVec-clause-vectors c = c.vectors.ensures.vectors ∙ ap (λ (f : SveForm). (predicate f c.args.core.now c.args.vec.now).vectors) (sym c.in-CmpVec.is ∙ c.form.ensures.form)

pub returns-in-CmpWide-clause-registers : goal.returns-in-CmpWide-clause-registers
returns-in-CmpWide-clause-registers c = c.wide.ensures.registers ∙ ap (λ (f : SveForm). (predicate f c.args.core.now c.args.vec.now).core) (sym c.in-CmpWide.is ∙ c.form.ensures.form)

pub returns-in-CmpWide-clause-vectors : goal.returns-in-CmpWide-clause-vectors
returns-in-CmpWide-clause-vectors c = c.wide.ensures.vectors ∙ ap (λ (f : SveForm). (predicate f c.args.core.now c.args.vec.now).vectors) (sym c.in-CmpWide.is ∙ c.form.ensures.form)

pub returns-in-CmpUImm-clause-registers : goal.returns-in-CmpUImm-clause-registers
returns-in-CmpUImm-clause-registers c = c.unsigned.ensures.registers ∙ ap (λ (f : SveForm). (predicate f c.args.core.now c.args.vec.now).core) (sym c.in-CmpUImm.is ∙ c.form.ensures.form)

pub returns-in-CmpUImm-clause-vectors : goal.returns-in-CmpUImm-clause-vectors
returns-in-CmpUImm-clause-vectors c = c.unsigned.ensures.vectors ∙ ap (λ (f : SveForm). (predicate f c.args.core.now c.args.vec.now).vectors) (sym c.in-CmpUImm.is ∙ c.form.ensures.form)

pub returns-in-CmpSImm-clause-registers : goal.returns-in-CmpSImm-clause-registers
returns-in-CmpSImm-clause-registers c = c.signed.ensures.registers ∙ ap (λ (f : SveForm). (predicate f c.args.core.now c.args.vec.now).core) (sym c.in-CmpSImm.is ∙ c.form.ensures.form)

pub returns-in-CmpSImm-clause-vectors : goal.returns-in-CmpSImm-clause-vectors
returns-in-CmpSImm-clause-vectors c = c.signed.ensures.vectors ∙ ap (λ (f : SveForm). (predicate f c.args.core.now c.args.vec.now).vectors) (sym c.in-CmpSImm.is ∙ c.form.ensures.form)

pub returns-in-LogicP-clause-registers : goal.returns-in-LogicP-clause-registers
returns-in-LogicP-clause-registers c =
    c.logic.ensures.registers
    ∙ ap (λ (form : SveForm). (predicate form c.args.core.now c.args.vec.now).core) (sym c.in-LogicP.is ∙ c.form.ensures.form)

pub returns-in-Break-clause-registers : goal.returns-in-Break-clause-registers
returns-in-Break-clause-registers c =
    c.break_first.ensures.registers
    ∙ ap (λ (form : SveForm). (predicate form c.args.core.now c.args.vec.now).core) (sym c.in-Break.is ∙ c.form.ensures.form)

pub returns-in-Break-clause-vectors : goal.returns-in-Break-clause-vectors
returns-in-Break-clause-vectors c =
    c.break_first.ensures.vectors
    ∙ ap (λ (form : SveForm). (predicate form c.args.core.now c.args.vec.now).vectors) (sym c.in-Break.is ∙ c.form.ensures.form)

pub returns-in-BreakPair-clause-registers : goal.returns-in-BreakPair-clause-registers
returns-in-BreakPair-clause-registers c =
    c.break_pair.ensures.registers
    ∙ ap (λ (form : SveForm). (predicate form c.args.core.now c.args.vec.now).core) (sym c.in-BreakPair.is ∙ c.form.ensures.form)

pub returns-in-BreakNext-clause-registers : goal.returns-in-BreakNext-clause-registers
returns-in-BreakNext-clause-registers c =
    c.break_next.ensures.registers
    ∙ ap (λ (form : SveForm). (predicate form c.args.core.now c.args.vec.now).core) (sym c.in-BreakNext.is ∙ c.form.ensures.form)

pub returns-in-First-clause-registers : goal.returns-in-First-clause-registers
returns-in-First-clause-registers c =
    c.first.ensures.registers
    ∙ ap (λ (form : SveForm). (predicate form c.args.core.now c.args.vec.now).core) (sym c.in-First.is ∙ c.form.ensures.form)

pub returns-in-ReadFfr-clause-registers : goal.returns-in-ReadFfr-clause-registers
returns-in-ReadFfr-clause-registers c =
    c.ffr_under.ensures.registers
    ∙ ap (λ (form : SveForm). (predicate form c.args.core.now c.args.vec.now).core) (sym c.in-ReadFfr.is ∙ c.form.ensures.form)

pub returns-in-Next-clause-registers : goal.returns-in-Next-clause-registers
returns-in-Next-clause-registers c = c.next_lane.ensures.registers ∙ ap (λ (f : SveForm). (predicate f c.args.core.now c.args.vec.now).core) (sym c.in-Next.is ∙ c.form.ensures.form)

pub returns-in-Next-clause-vectors : goal.returns-in-Next-clause-vectors
returns-in-Next-clause-vectors c = c.next_lane.ensures.vectors ∙ ap (λ (f : SveForm). (predicate f c.args.core.now c.args.vec.now).vectors) (sym c.in-Next.is ∙ c.form.ensures.form)

pub returns-in-Ptrue-clause-registers : goal.returns-in-Ptrue-clause-registers
returns-in-Ptrue-clause-registers c = c.ptrue.ensures.registers ∙ ap (λ (f : SveForm). (predicate f c.args.core.now c.args.vec.now).core) (sym c.in-Ptrue.is ∙ c.form.ensures.form)

pub returns-in-Ptrue-clause-vectors : goal.returns-in-Ptrue-clause-vectors
returns-in-Ptrue-clause-vectors c = c.ptrue.ensures.vectors ∙ ap (λ (f : SveForm). (predicate f c.args.core.now c.args.vec.now).vectors) (sym c.in-Ptrue.is ∙ c.form.ensures.form)

pub returns-in-While-clause-registers : goal.returns-in-While-clause-registers
returns-in-While-clause-registers c = c.while_lanes.ensures.registers ∙ ap (λ (f : SveForm). (predicate f c.args.core.now c.args.vec.now).core) (sym c.in-While.is ∙ c.form.ensures.form)

pub returns-in-While-clause-vectors : goal.returns-in-While-clause-vectors
returns-in-While-clause-vectors c = c.while_lanes.ensures.vectors ∙ ap (λ (f : SveForm). (predicate f c.args.core.now c.args.vec.now).vectors) (sym c.in-While.is ∙ c.form.ensures.form)

pub returns-in-IncPZ-clause-vectors : goal.returns-in-IncPZ-clause-vectors
returns-in-IncPZ-clause-vectors c = c.inc_p_z.ensures ∙ ap (λ (f : SveForm). (predicate f c.args.core.now c.args.vec.now).vectors) (sym c.in-IncPZ.is ∙ c.form.ensures.form)
