use Rattle.std.proofs.Common.{Err, Ok, map, string_bytes, Result, refl, subst}
use Rattle.std.specs.Result.{IfOk}
use Rattle.elf_image.specs.Images.{seen_image}
use Rattle.trace_options.specs.declared.options.TraceFault.{TraceFault}
use Rattle.tool_traces.specs.declared.asked.Asked.{Asked}
use Rattle.tool_traces.specs.Traced.{IsAsked, traced_of}
use Rattle.command_lines.specs.declared.ending.Ending.TheVariants.{Done, WordsRefused}
use Rattle.tool_refusals.proofs.Endings.{said_is, said_leaves, said_not, wanting_leaves}
use Rattle.tool_traces.specs.Endings.{option_fault}
use Rattle.tool_traces.proofs.Told.{asked_told, symbols_end}
use Rattle.tool_traces.proofs.command.trace_asked.Goals as goal

pub returns-in-Ok-Ok-clause-done : goal.returns-in-Ok-Ok-clause-done
returns-in-Ok-Ok-clause-done g c = λ done.
    let p = c.args.program.now in
    let words = map string_bytes c.args.words.now in
    let theirs : IsAsked c.args.bytes.now words c.args.given.now c.in-Ok-Ok.asked =
    subst (λ (r : Result Asked TraceFault). IfOk r (IsAsked c.args.bytes.now words c.args.given.now)) c.in-Ok-Ok.field-0-is c.in-Ok-Ok.ensures.asked in
    asked_told words (g.I.Source.left c.args.input.now) (g.O.Sink.held c.args.output.now) (g.O.Sink.held c.trace_image.new.output)
    (traced_of c.args.given.now c.args.bytes.now (seen_image c.args.image.now) (map string_bytes c.args.args.now) p.length p.budget p.pages) c.in-Ok-Ok.asked
    theirs (c.trace_image.ensures.done done)

pub returns-in-Ok-Ok-clause-ending : goal.returns-in-Ok-Ok-clause-ending
returns-in-Ok-Ok-clause-ending g c = λ fine.
    symbols_end c.args.bytes.now (map string_bytes c.args.words.now) c.args.given.now c.in-Ok-Ok.field-0 (Ok c.in-Ok-Ok.asked) (g.I.Source.left c.args.input.now) c.trace_image.result c.in-Ok-Ok.field-0-is c.in-Ok-Ok.ensures.by (c.trace_image.ensures.ending fine)

pub returns-in-Ok-Ok-clause-leaves : goal.returns-in-Ok-Ok-clause-leaves
returns-in-Ok-Ok-clause-leaves g c = c.trace_image.ensures.leaves

pub returns-in-Ok-Err-clause-done : goal.returns-in-Ok-Err-clause-done
returns-in-Ok-Err-clause-done g c = λ e. absurd (said_not (WordsRefused (option_fault c.in-Ok-Err.fault)) c.refuse_option.result Done c.refuse_option.ensures (λ x. cc) (λ x. cc) e)

pub returns-in-Ok-Err-clause-ending : goal.returns-in-Ok-Err-clause-ending
returns-in-Ok-Err-clause-ending g c = λ fine.
    symbols_end c.args.bytes.now (map string_bytes c.args.words.now) c.args.given.now c.in-Ok-Err.field-0 (Err c.in-Ok-Err.fault) (g.I.Source.left c.args.input.now) c.refuse_option.result c.in-Ok-Err.field-0-is c.in-Ok-Err.ensures.by
    (said_is (WordsRefused (option_fault c.in-Ok-Err.fault)) c.refuse_option.result c.refuse_option.ensures fine)

pub returns-in-Ok-Err-clause-leaves : goal.returns-in-Ok-Err-clause-leaves
returns-in-Ok-Err-clause-leaves g c = said_leaves (WordsRefused (option_fault c.in-Ok-Err.fault)) c.refuse_option.result c.refuse_option.ensures refl refl refl (λ x. cc) (λ x. cc) (λ x. cc) (λ x. cc) refl refl

pub returns-in-Err-clause-leaves : goal.returns-in-Err-clause-leaves
returns-in-Err-clause-leaves g c = wanting_leaves refl refl refl
