use Rattle.std.proofs.Common.{sym, ap, ◌∙◌}
use Rattle.asm_a64.specs.declared.lines.TheConstants as text_line
use Rattle.asm_text.specs.Targets.{may_have_target}
use Rattle.asm_text.proofs.TargetLines.{sound_line, adr_line, branch_line, branch_cond_line, compare_line, test_line, ls_literal_line}
use Rattle.asm_text.proofs.aiming.patterns.Goals as goal

pub returns-in-Adr-clause-patterns : goal.returns-in-Adr-clause-patterns
returns-in-Adr-clause-patterns c = c.line.ensures ∙ adr_line ∙ ap may_have_target (sym c.in-Adr.is)

pub returns-in-Adr-clause-sound : goal.returns-in-Adr-clause-sound
returns-in-Adr-clause-sound c = sound_line _ text_line.ADR c.line.ensures

pub returns-in-Branch-clause-patterns : goal.returns-in-Branch-clause-patterns
returns-in-Branch-clause-patterns c = c.line-in-Branch.ensures ∙ branch_line ∙ ap may_have_target (sym c.in-Branch.is)

pub returns-in-Branch-clause-sound : goal.returns-in-Branch-clause-sound
returns-in-Branch-clause-sound c = sound_line _ text_line.BRANCH c.line-in-Branch.ensures

pub returns-in-BranchCond-clause-patterns : goal.returns-in-BranchCond-clause-patterns
returns-in-BranchCond-clause-patterns c = c.line-in-BranchCond.ensures ∙ branch_cond_line ∙ ap may_have_target (sym c.in-BranchCond.is)

pub returns-in-BranchCond-clause-sound : goal.returns-in-BranchCond-clause-sound
returns-in-BranchCond-clause-sound c = sound_line _ text_line.BRANCH_COND c.line-in-BranchCond.ensures

pub returns-in-Compare-clause-patterns : goal.returns-in-Compare-clause-patterns
returns-in-Compare-clause-patterns c = c.line-in-Compare.ensures ∙ compare_line ∙ ap may_have_target (sym c.in-Compare.is)

pub returns-in-Compare-clause-sound : goal.returns-in-Compare-clause-sound
returns-in-Compare-clause-sound c = sound_line _ text_line.COMPARE c.line-in-Compare.ensures

pub returns-in-Test-clause-patterns : goal.returns-in-Test-clause-patterns
returns-in-Test-clause-patterns c = c.line-in-Test.ensures ∙ test_line ∙ ap may_have_target (sym c.in-Test.is)

pub returns-in-Test-clause-sound : goal.returns-in-Test-clause-sound
returns-in-Test-clause-sound c = sound_line _ text_line.TEST c.line-in-Test.ensures

pub returns-in-LsLiteral-clause-patterns : goal.returns-in-LsLiteral-clause-patterns
returns-in-LsLiteral-clause-patterns c = c.line-in-LsLiteral.ensures ∙ ls_literal_line ∙ ap may_have_target (sym c.in-LsLiteral.is)

pub returns-in-LsLiteral-clause-sound : goal.returns-in-LsLiteral-clause-sound
returns-in-LsLiteral-clause-sound c = sound_line _ text_line.LS_LITERAL c.line-in-LsLiteral.ensures
