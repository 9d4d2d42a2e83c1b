use Rattle.std.proofs.Common.{ℕ, List, Bor, map, true, false, Result, Ok, sym, ap, subst, ◌∙◌}
use Rattle.dbg_model.specs.declared.script.Command.{Command}
use Rattle.dbg_model.specs.declared.script.ScriptWhy.{ScriptWhy}
use Rattle.line_words.specs.Refusals.{at_line}
use Rattle.dbg_model.specs.Script.{fault_at, read_line}
use Rattle.dbg_core.specs.declared.script_reader.ScriptError.{ScriptError}
use Rattle.line_words.specs.Reading.{IsErrorOf}
use Rattle.dbg_core.specs.Errors.{fault_in}
use Rattle.dbg_core.proofs.ScriptLines.{line_reads}
use Rattle.dbg_core.proofs.Within.{command_within}
use Rattle.dbg_core.proofs.script_reader.read_line.Goals as goal

abbrev texts : List (Bor (List ℕ)) → List (List ℕ)
texts words = map (λ word. word.now) words

pub push-requires-clause-within : goal.push-requires-clause-within
push-requires-clause-within c = command_within (texts c.deref-2.result.now) c.in-Ok.command (sym c.in-Ok.ensures.command)

pub returns-then-is_full : goal.returns-then-is_full
returns-then-is_full c =
    let commands = c.args.script.now in
    subst (λ (e : ScriptError). IsErrorOf (at_line fault_at c.args.number (read_line commands c.args.line.now)) (fault_in e)) (sym c.refused-then-is_full.ensures)
    (ap (λ (r : Result (List Command) ScriptWhy). at_line fault_at c.args.number r)
    (line_reads commands c.args.line.now (texts c.deref-2.result.now) c.in-Ok.command true (ap texts c.deref-2.ensures.value ∙ c.in_ok-words.ensures) (sym c.is_skipped.ensures ∙ c.if-is_skipped.false)
    (sym c.in-Ok.ensures.command) (sym c.is_full.ensures ∙ c.if-is_full.true)))

pub returns : goal.returns
returns c =
    let commands = c.args.script.now in
    ap (λ (r : Result (List Command) ScriptWhy). at_line fault_at c.args.number r)
    (line_reads commands c.args.line.now (texts c.deref-2.result.now) c.in-Ok.command false (ap texts c.deref-2.ensures.value ∙ c.in_ok-words.ensures) (sym c.is_skipped.ensures ∙ c.if-is_skipped.false)
    (sym c.in-Ok.ensures.command) (sym c.is_full.ensures ∙ c.if-is_full.false))
    ∙ ap (λ (all : List Command). Ok all) (sym c.in_ok-push.ensures.appended)
