use Rattle.std.proofs.Common.{◌∙◌, sym}
use Rattle.sve_data.proofs.SameRows.{same_form}
use Rattle.sve_data.proofs.by_lane.exec.Goals as goal

pub returns-in-Binary : goal.returns-in-Binary
returns-in-Binary c = same_form _ _ _ _ _ c.binary.ensures (sym c.in-Binary.is ∙ c.form.ensures.form)

pub returns-in-BinaryWide : goal.returns-in-BinaryWide
returns-in-BinaryWide c = same_form _ _ _ _ _ c.binary_wide.ensures (sym c.in-BinaryWide.is ∙ c.form.ensures.form)

pub returns-in-ShiftImm : goal.returns-in-ShiftImm
returns-in-ShiftImm c = same_form _ _ _ _ _ c.shift_imm.ensures (sym c.in-ShiftImm.is ∙ c.form.ensures.form)

pub returns-in-Unary : goal.returns-in-Unary
returns-in-Unary c = same_form _ _ _ _ _ c.unary.ensures (sym c.in-Unary.is ∙ c.form.ensures.form)

pub returns-in-CopyImm : goal.returns-in-CopyImm
returns-in-CopyImm c = same_form _ _ _ _ _ c.copy_imm.ensures (sym c.in-CopyImm.is ∙ c.form.ensures.form)

pub returns-in-PrefixP : goal.returns-in-PrefixP
returns-in-PrefixP c = same_form _ _ _ _ _ c.prefix_p.ensures (sym c.in-PrefixP.is ∙ c.form.ensures.form)

pub returns-in-Dot : goal.returns-in-Dot
returns-in-Dot c = same_form _ _ _ _ _ c.dot.ensures (sym c.in-Dot.is ∙ c.form.ensures.form)

pub returns-in-WideImm : goal.returns-in-WideImm
returns-in-WideImm c = same_form _ _ _ _ _ c.wide_imm.ensures (sym c.in-WideImm.is ∙ c.form.ensures.form)

pub returns-in-MinMaxImm : goal.returns-in-MinMaxImm
returns-in-MinMaxImm c = same_form _ _ _ _ _ c.min_max_imm.ensures (sym c.in-MinMaxImm.is ∙ c.form.ensures.form)

pub returns-in-SelectZ : goal.returns-in-SelectZ
returns-in-SelectZ c = same_form _ _ _ _ _ c.select.ensures (sym c.in-SelectZ.is ∙ c.form.ensures.form)
