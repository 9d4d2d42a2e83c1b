use Rattle.std.proofs.Common.{◌≡◌, Err, map, string_bytes, ap, refl, sym, ◌∙◌, true, subst, List, Ok, Result, Some, MatchResult}
use Rattle.dbg_model.specs.declared.script.ScriptFault.{ScriptFault}
use Rattle.dbg_model.specs.Script.{script_of_file}
use Rattle.elf_image.specs.Images.{seen_image}
use Rattle.command_lines.specs.declared.ending.Ending.{Ending}
use Rattle.command_lines.specs.declared.ending.Ending.TheVariants.{OutOfMemory}
use Rattle.commands.specs.Lines.{ends_dbg, text_goes_back}
use Rattle.commands.specs.Programs.{opening_of}
use Rattle.commands.specs.Meets.{now}
use Rattle.commands.proofs.MayEnd.{kind_put}
use Rattle.commands.proofs.Sessions.{backward_script, forward_script, is_refused, obeyed_script, of_script, refused_script}
use Rattle.commands.proofs.Settled.{failed_either}
use Rattle.command_lines.specs.declared.ending.Ending.TheVariants as ends
use Rattle.commands.proofs.Causing.{ended_cause, ended_other, no_cause}
use Rattle.dbg_model.specs.declared.script.Command.{Command}
use Rattle.command_lines.specs.Outcome.{outcome_of_commands, outcome_of_script}
use Rattle.commands.specs.Whole.{InSession}
use Rattle.commands.specs.Passing.{InText}
use Rattle.commands.proofs.Keeping.{keeps_as, keeps_ended, keeps_none, none_put}
use Rattle.commands.proofs.debugger.debug_image.Goals as goal

pub returns-in-Err-Refused-clause-outcome : goal.returns-in-Err-Refused-clause-outcome
returns-in-Err-Refused-clause-outcome g c =
    refused_script c.args.program.now.budget (opening_of c.args.bytes.now (seen_image c.args.image.now) (map string_bytes c.args.words.now) c.args.program.now) (script_of_file c.args.text.now)
    (now (g.I.Source.left c.args.input.now) (g.O.Sink.held c.args.output.now) (g.E.Sink.held c.args.errors.now)) _ _ c.put_script_refusal.result c.ending_after_line.result
    (is_refused (script_of_file c.args.text.now) c.in-Err-Refused.field-0 c.in-Err-Refused.fault c.in-Err-Refused.field-0-is c.in-Err-Refused.ensures ∙ ap (λ (f : ScriptFault). Err f) (sym c.in-Err-Refused.fault-is)) c.ending_after_line.ensures c.put_script_refusal.ensures.bytes

pub returns-in-Err-OutOfMemory-clause-outcome : goal.returns-in-Err-OutOfMemory-clause-outcome
returns-in-Err-OutOfMemory-clause-outcome g c =
    failed_either (text_goes_back c.args.text.now) (of_script c.args.program.now.budget (opening_of c.args.bytes.now (seen_image c.args.image.now) (map string_bytes c.args.words.now) c.args.program.now) (script_of_file c.args.text.now)
    (now (g.I.Source.left c.args.input.now) (g.O.Sink.held c.args.output.now) (g.E.Sink.held c.args.errors.now))) OutOfMemory (g.I.Source.left c.args.input.now) (g.O.Sink.held c.args.output.now) (g.E.Sink.held c.args.errors.now) refl

pub returns-in-Ok-clause-outcome : goal.returns-in-Ok-clause-outcome
returns-in-Ok-clause-outcome g c =
    obeyed_script c.args.program.now.budget (opening_of c.args.bytes.now (seen_image c.args.image.now) (map string_bytes c.args.words.now) c.args.program.now) (script_of_file c.args.text.now)
    (now (g.I.Source.left c.args.input.now) (g.O.Sink.held c.args.output.now) (g.E.Sink.held c.args.errors.now)) c.in-Ok.script _ c.debug_script.result c.in-Ok.ensures c.debug_script.ensures.outcome

pub returns-in-Ok-clause-memory_first : goal.returns-in-Ok-clause-memory_first
returns-in-Ok-clause-memory_first g c = λ forward. c.debug_script.ensures.memory_first (forward_script (script_of_file c.args.text.now) c.in-Ok.script c.in-Ok.ensures forward)

pub returns-in-Err-Refused-clause-kind : goal.returns-in-Err-Refused-clause-kind
returns-in-Err-Refused-clause-kind g c = subst (λ (x : Ending). ends_dbg x ≡ true) (sym c.ending_after_line.ensures) (kind_put ends_dbg c.put_script_refusal.result _ refl refl)

pub returns-in-Err-Refused-clause-read_cause : goal.returns-in-Err-Refused-clause-read_cause
returns-in-Err-Refused-clause-read_cause g c = no_cause _ (ended_other c.put_script_refusal.result (ends.ScriptRefused _) c.ending_after_line.result ends.ReadFault c.ending_after_line.ensures (λ e. cc) (λ e. cc))

pub returns-in-Err-Refused-clause-write_cause : goal.returns-in-Err-Refused-clause-write_cause
returns-in-Err-Refused-clause-write_cause g c = no_cause _ (ended_other c.put_script_refusal.result (ends.ScriptRefused _) c.ending_after_line.result ends.WriteFault c.ending_after_line.ensures (λ e. cc) (λ e. cc))

pub returns-in-Err-Refused-clause-errors_cause : goal.returns-in-Err-Refused-clause-errors_cause
returns-in-Err-Refused-clause-errors_cause g c = ended_cause _ _ c.put_script_refusal.result (ends.ScriptRefused _) c.ending_after_line.result c.ending_after_line.ensures (λ e. cc) c.put_script_refusal.ensures.cause

pub returns-in-Err-Refused-clause-no_file : goal.returns-in-Err-Refused-clause-no_file
returns-in-Err-Refused-clause-no_file g c = ended_other c.put_script_refusal.result (ends.ScriptRefused _) c.ending_after_line.result ends.FileFault c.ending_after_line.ensures (λ e. cc) (λ e. cc)

pub returns-in-Err-Refused-clause-memory_first : goal.returns-in-Err-Refused-clause-memory_first
returns-in-Err-Refused-clause-memory_first g c = λ _ e. absurd (ended_other c.put_script_refusal.result (ends.ScriptRefused _) c.ending_after_line.result ends.OutOfMemory c.ending_after_line.ensures (λ e. cc) (λ e. cc) e)

pub returns-in-Err-Refused-clause-memory_unwritten : goal.returns-in-Err-Refused-clause-memory_unwritten
returns-in-Err-Refused-clause-memory_unwritten g c = λ e. absurd (ended_other c.put_script_refusal.result (ends.ScriptRefused _) c.ending_after_line.result ends.OutOfMemory c.ending_after_line.ensures (λ e. cc) (λ e. cc) e)

pub returns-in-Ok-clause-read_unwritten : goal.returns-in-Ok-clause-read_unwritten
returns-in-Ok-clause-read_unwritten g c = λ back. c.debug_script.ensures.read_unwritten (backward_script (script_of_file c.args.text.now) c.in-Ok.script c.in-Ok.ensures back)

pub returns-in-Err-Refused-clause-read_unwritten : goal.returns-in-Err-Refused-clause-read_unwritten
returns-in-Err-Refused-clause-read_unwritten g c = λ _ e. absurd (ended_other c.put_script_refusal.result (ends.ScriptRefused _) c.ending_after_line.result ends.ReadFault c.ending_after_line.ensures (λ e. cc) (λ e. cc) e)

pub returns-in-Err-Refused-clause-whole : goal.returns-in-Err-Refused-clause-whole
returns-in-Err-Refused-clause-whole g c = λ _.
    let is : script_of_file c.args.text.now ≡ Err c.in-Err-Refused.fault = is_refused (script_of_file c.args.text.now) c.in-Err-Refused.field-0 c.in-Err-Refused.fault c.in-Err-Refused.field-0-is c.in-Err-Refused.ensures in
    keeps_ended (InText c.args.text.now (opening_of c.args.bytes.now (seen_image c.args.image.now) (map string_bytes c.args.words.now) c.args.program.now) c.args.program.now.budget c.ending_after_line.result (g.I.Source.left c.args.input.now)) (λ i. Some (outcome_of_script i c.args.program.now.budget (opening_of c.args.bytes.now (seen_image c.args.image.now) (map string_bytes c.args.words.now) c.args.program.now) (script_of_file c.args.text.now))) (g.O.Sink.held c.args.output.now) (g.O.Sink.held c.args.output.now) (g.E.Sink.held c.args.errors.now) _ c.put_script_refusal.result (ends.ScriptRefused _) c.ending_after_line.result (g.I.Source.left c.args.input.now) c.ending_after_line.ensures (λ e. cc) (λ e. cc)
    (none_put (λ i. Some (outcome_of_script i c.args.program.now.budget (opening_of c.args.bytes.now (seen_image c.args.image.now) (map string_bytes c.args.words.now) c.args.program.now) (script_of_file c.args.text.now))) (g.I.Source.left c.args.input.now) (g.O.Sink.held c.args.output.now) (λ i. ap (λ (r : Result (List Command) ScriptFault). (outcome_of_script i c.args.program.now.budget (opening_of c.args.bytes.now (seen_image c.args.image.now) (map string_bytes c.args.words.now) c.args.program.now) r).output) is))

pub returns-in-Err-OutOfMemory-clause-whole : goal.returns-in-Err-OutOfMemory-clause-whole
returns-in-Err-OutOfMemory-clause-whole g c = λ _. keeps_none (InText c.args.text.now (opening_of c.args.bytes.now (seen_image c.args.image.now) (map string_bytes c.args.words.now) c.args.program.now) c.args.program.now.budget OutOfMemory (g.I.Source.left c.args.input.now)) (λ i. Some (outcome_of_script i c.args.program.now.budget (opening_of c.args.bytes.now (seen_image c.args.image.now) (map string_bytes c.args.words.now) c.args.program.now) (script_of_file c.args.text.now))) (g.O.Sink.held c.args.output.now) (g.O.Sink.held c.args.output.now) (g.E.Sink.held c.args.errors.now) (g.E.Sink.held c.args.errors.now) OutOfMemory (g.I.Source.left c.args.input.now) (λ e. cc) (λ e. cc) (λ e. cc)

pub returns-in-Ok-clause-whole : goal.returns-in-Ok-clause-whole
returns-in-Ok-clause-whole g c = λ forward.
    let budget = c.args.program.now.budget in
    let commands = c.in-Ok.script in
    let is : script_of_file c.args.text.now ≡ Ok commands = c.in-Ok.ensures in
    keeps_as (InSession commands (opening_of c.args.bytes.now (seen_image c.args.image.now) (map string_bytes c.args.words.now) c.args.program.now) budget c.debug_script.result (g.I.Source.left c.debug_script.new.input)) (InText c.args.text.now (opening_of c.args.bytes.now (seen_image c.args.image.now) (map string_bytes c.args.words.now) c.args.program.now) c.args.program.now.budget c.debug_script.result (g.I.Source.left c.debug_script.new.input)) (λ i. Some (outcome_of_commands i budget (opening_of c.args.bytes.now (seen_image c.args.image.now) (map string_bytes c.args.words.now) c.args.program.now) commands)) (λ i. Some (outcome_of_script i c.args.program.now.budget (opening_of c.args.bytes.now (seen_image c.args.image.now) (map string_bytes c.args.words.now) c.args.program.now) (script_of_file c.args.text.now))) c.debug_script.result (g.O.Sink.held c.args.output.now) (g.O.Sink.held c.debug_script.new.output) (g.E.Sink.held c.args.errors.now) (g.E.Sink.held c.debug_script.new.errors) (g.I.Source.left c.args.input.now)
    (λ i st passed. subst (λ (r : Result (List Command) ScriptFault). MatchResult r (λ x. InSession x (opening_of c.args.bytes.now (seen_image c.args.image.now) (map string_bytes c.args.words.now) c.args.program.now) budget c.debug_script.result (g.I.Source.left c.debug_script.new.input) i st) (λ _. ⊥)) (sym is) passed)
    (λ i. ap (λ (r : Result (List Command) ScriptFault). Some (outcome_of_script i budget (opening_of c.args.bytes.now (seen_image c.args.image.now) (map string_bytes c.args.words.now) c.args.program.now) r)) (sym is))
    (c.debug_script.ensures.whole (forward_script (script_of_file c.args.text.now) commands is forward))
