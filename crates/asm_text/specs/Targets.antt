-- Which instructions have a target in their text, and the patterns of those that may.
use Rattle.std.specs.Prelude.{List, [], IsSome, Option, Result, ok_or, option_map}
use Rattle.a64_insn.specs.declared.form.A64Form.{A64Form}
use Rattle.a64_insn.specs.declared.form.A64Form.TheVariants.{Adr, Branch, BranchCond, Compare, Test, LsLiteral}
use Rattle.asm_a64.specs.Law as base
use Rattle.emu_run.specs.declared.insn.Insn.{Insn}
use Rattle.emu_run.specs.declared.insn.Insn.TheVariants.{A64, Sve}
use Rattle.asm_tokens.specs.declared.target.Target.{Target}
use Rattle.asm_text.specs.Statements.{target_of}
use Rattle.listing_model.specs.declared.fault.ListingWhy.{ListingWhy}
use Rattle.listing_model.specs.declared.fault.ListingWhy.TheVariants.{OutOfRange}
use Rattle.text_model.specs.Reading.{Pattern}
use Rattle.text_model.specs.Statement.{Destination}

-- the patterns of a form's line, where the line has targets
abbrev pub may_have_target : A64Form → List Pattern
may_have_target (Adr op immlo immhi rd) = base.texts_of (Adr op immlo immhi rd)
may_have_target (Branch op imm26) = base.texts_of (Branch op imm26)
may_have_target (BranchCond imm19 cond) = base.texts_of (BranchCond imm19 cond)
may_have_target (Compare op sf imm19 rt) = base.texts_of (Compare op sf imm19 rt)
may_have_target (Test op b5 b40 imm14 rt) = base.texts_of (Test op b5 b40 imm14 rt)
may_have_target (LsLiteral opc v imm19 rt) = base.texts_of (LsLiteral opc v imm19 rt)
may_have_target f = []

-- its text has a target
abbrev pub HasTarget : Insn → Type 0
HasTarget (A64 f) = IsSome (base.reach f)
HasTarget (Sve f) = ⊥

-- an instruction with the target that its statement has; where the word is none, it is out of range
abbrev pub with_target : Option Insn → Option Destination → Result (Insn × Option Target) ListingWhy
with_target i t = ok_or (option_map (λ i. (i, target_of t)) i) OutOfRange
