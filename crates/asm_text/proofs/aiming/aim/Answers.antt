use Rattle.std.proofs.Common.{◌≡◌, Option, Some, None, true, sym, ap, subst, ◌∙◌, rules}
use Rattle.std.specs.Prelude.{IfSome, option_map}
use Rattle.emu_run.specs.declared.insn.Insn.{Insn}
use Rattle.emu_run.specs.declared.insn.Insn.TheVariants.{A64}
use Rattle.asm_text.specs.Targets.{may_have_target}
use Rattle.asm_text.specs.Canonical.{is_canonical}
use Rattle.text_model.specs.Aim.{reach_of}
use Rattle.text_code.specs.Aims.{reach_told}
use Rattle.text_code.specs.Sound.{are_sound}
use Rattle.text_code.specs.Tables.{pattern_of, patterns_of, pattern_at}
use Rattle.asm_text.proofs.Steps.{chosen_sound, sought, none_sought, aimed_so, aimed_well}
use Rattle.asm_text.proofs.aiming.aim.Goals as goal

pub returns-in_err-pattern-clause-aimed : goal.returns-in_err-pattern-clause-aimed
returns-in_err-pattern-clause-aimed c =
    none_sought c.args.i.now c.in-A64.base
    (sought c.args.i.now c.in-A64.base (patterns_of c.patterns.result.now) c.encode_a64-word.result None c.in-A64.is c.requires
    (c.patterns.ensures.patterns ∙ ap may_have_target c.form.ensures.form) c.encode_a64-word.ensures.table (ap pattern_at (sym c.in_err-pattern.was) ∙ c.chosen.ensures))

pub reach_of-requires : goal.reach_of-requires
reach_of-requires c =
    ap are_sound (c.deref.ensures.0 ∙ c.slots.ensures)
    ∙ chosen_sound (patterns_of c.patterns.result.now) c.encode_a64-word.result (pattern_of c.in_ok-pattern.pattern.now) c.patterns.ensures.sound
    (ap pattern_at (sym c.in_ok-pattern.was) ∙ c.chosen.ensures)

pub returns-in_err-word-clause-aimed : goal.returns-in_err-word-clause-aimed
returns-in_err-word-clause-aimed c =
    let s = sought c.args.i.now c.in-A64.base (patterns_of c.patterns.result.now) c.encode_a64-word.result (Some (pattern_of c.in_ok-pattern.pattern.now)) c.in-A64.is c.requires
    (c.patterns.ensures.patterns ∙ ap may_have_target c.form.ensures.form) c.encode_a64-word.ensures.table (ap pattern_at (sym c.in_ok-pattern.was) ∙ c.chosen.ensures) in
    let n : c.from_residual-in_err-word.result ≡ None = search rules in
    n
    ∙ aimed_so c.args.i.now c.in-A64.base (pattern_of c.in_ok-pattern.pattern.now) c.encode_a64-word.result c.unaimed.result c.args.pc c.args.target (reach_told (Some c.in_ok-reach.reach)) None s
    c.encode_a64-word.ensures.table (ap reach_told (sym c.in_ok-reach.was) ∙ c.reach_of.ensures.told ∙ ap reach_of (c.deref.ensures.0 ∙ c.slots.ensures)) c.unaimed.ensures (sym c.in_err-word.was ∙ c.aimed.ensures)

pub returns-clause-aimed : goal.returns-clause-aimed
returns-clause-aimed c =
    let s = sought c.args.i.now c.in-A64.base (patterns_of c.patterns.result.now) c.encode_a64-word.result (Some (pattern_of c.in_ok-pattern.pattern.now)) c.in-A64.is c.requires
    (c.patterns.ensures.patterns ∙ ap may_have_target c.form.ensures.form) c.encode_a64-word.ensures.table (ap pattern_at (sym c.in_ok-pattern.was) ∙ c.chosen.ensures) in
    let m : c.map.result ≡ option_map A64 c.decode_a64.result = search rules in
    m ∙ ap (option_map A64) c.decode_a64.ensures.form
    ∙ aimed_so c.args.i.now c.in-A64.base (pattern_of c.in_ok-pattern.pattern.now) c.encode_a64-word.result c.unaimed.result c.args.pc c.args.target (reach_told (Some c.in_ok-reach.reach))
    (Some c.in_ok-word.word) s c.encode_a64-word.ensures.table (ap reach_told (sym c.in_ok-reach.was) ∙ c.reach_of.ensures.told ∙ ap reach_of (c.deref.ensures.0 ∙ c.slots.ensures)) c.unaimed.ensures
    (sym c.in_ok-word.was ∙ c.aimed.ensures)

pub returns-clause-canonical : goal.returns-clause-canonical
returns-clause-canonical c =
    subst (λ (o : Option Insn). IfSome o (λ j. is_canonical j ≡ true)) (sym (returns-clause-aimed c)) (aimed_well c.args.i.now c.args.pc c.args.target c.requires)
