use Rattle.std.proofs.Common.{Some, ◌≡◌, true, refl, sym, subst}
use Rattle.asm_text.specs.Statements.{statements}
use Rattle.listing_model.specs.Image.{image_of}
use Rattle.command_model.specs.Listing.{listing}
use Rattle.command_lines.specs.Outcome.{outcome_of_load}
use Rattle.command_lines.specs.declared.ending.Ending.{Ending}
use Rattle.command_lines.specs.declared.ending.Ending.TheVariants.{ListingRefused, OutOfMemory}
use Rattle.commands.specs.Endings.{ended_by}
use Rattle.commands.specs.Lines.{ends_load}
use Rattle.commands.proofs.Assembling.{is_refused}
use Rattle.commands.proofs.LoadPrograms.{file_loaded, load_refused, puts_line}
use Rattle.commands.proofs.MayEnd.{kind_put}
use Rattle.commands.proofs.Meetings.{nothing_meets}
use Rattle.command_lines.specs.declared.ending.Ending.TheVariants as ends
use Rattle.commands.proofs.Causing.{ended_cause, ended_loud, ended_other, no_cause}
use Rattle.commands.proofs.loading.load_number.Goals as goal

pub returns-in-Ok-clause-outcome : goal.returns-in-Ok-clause-outcome
returns-in-Ok-clause-outcome g c = λ input.
    file_loaded (image_of statements (listing c.args.number)) c.in-Ok.file.items c.deref.result.now c.load_bytes.result _ _ c.in-Ok.ensures c.deref.ensures.value (c.load_bytes.ensures.outcome input)

pub returns-in-Err-Refused-clause-outcome : goal.returns-in-Err-Refused-clause-outcome
returns-in-Err-Refused-clause-outcome g c = λ input.
    let e = c.ending_after_line.ensures in
    let f = c.in-Err-Refused.field-0-is in
    let by : c.ending_after_line.result ≡ ended_by c.put_listing_refusal.result (ListingRefused c.in-Err-Refused.fault) = cc in
    load_refused (image_of statements (listing c.args.number)) input (g.O.Sink.held c.args.output.now) (g.E.Sink.held c.args.errors.now) c.in-Err-Refused.fault _ c.put_listing_refusal.result c.ending_after_line.result
    (is_refused (image_of statements (listing c.args.number)) c.in-Err-Refused.field-0 c.in-Err-Refused.fault f c.in-Err-Refused.ensures) by
    (puts_line (g.E.Sink.held c.args.errors.now) _ c.put_listing_refusal.result _ c.in-Err-Refused.fault c.put_listing_refusal.ensures.bytes cc)

pub returns-in-Err-OutOfMemory-clause-outcome : goal.returns-in-Err-OutOfMemory-clause-outcome
returns-in-Err-OutOfMemory-clause-outcome g c = λ input.
    nothing_meets (λ _. Some (outcome_of_load (image_of statements (listing c.args.number)))) OutOfMemory input (g.O.Sink.held c.args.output.now) (g.E.Sink.held c.args.errors.now) refl

pub returns-in-Err-Refused-clause-kind : goal.returns-in-Err-Refused-clause-kind
returns-in-Err-Refused-clause-kind g c =
    let e = c.ending_after_line.ensures in
    subst (λ (x : Ending). ends_load x ≡ true) (sym e) (kind_put ends_load c.put_listing_refusal.result (ListingRefused _) refl refl)

pub returns-in-Err-Refused-clause-write_cause : goal.returns-in-Err-Refused-clause-write_cause
returns-in-Err-Refused-clause-write_cause g c = no_cause _ (ended_other c.put_listing_refusal.result (ends.ListingRefused _) c.ending_after_line.result ends.WriteFault c.ending_after_line.ensures (λ e. cc) (λ e. cc))

pub returns-in-Err-Refused-clause-errors_cause : goal.returns-in-Err-Refused-clause-errors_cause
returns-in-Err-Refused-clause-errors_cause g c = ended_cause _ _ c.put_listing_refusal.result (ends.ListingRefused _) c.ending_after_line.result c.ending_after_line.ensures (λ e. cc) c.put_listing_refusal.ensures.cause

pub returns-in-Err-Refused-clause-no_file : goal.returns-in-Err-Refused-clause-no_file
returns-in-Err-Refused-clause-no_file g c = ended_other c.put_listing_refusal.result (ends.ListingRefused _) c.ending_after_line.result ends.FileFault c.ending_after_line.ensures (λ e. cc) (λ e. cc)

pub returns-in-Err-Refused-clause-no_read : goal.returns-in-Err-Refused-clause-no_read
returns-in-Err-Refused-clause-no_read g c = ended_other c.put_listing_refusal.result (ends.ListingRefused _) c.ending_after_line.result ends.ReadFault c.ending_after_line.ensures (λ e. cc) (λ e. cc)

pub returns-in-Err-Refused-clause-memory_first : goal.returns-in-Err-Refused-clause-memory_first
returns-in-Err-Refused-clause-memory_first g c = λ e. absurd (ended_other c.put_listing_refusal.result (ends.ListingRefused _) c.ending_after_line.result ends.OutOfMemory c.ending_after_line.ensures (λ e. cc) (λ e. cc) e)

pub returns-in-Err-Refused-clause-no_errors : goal.returns-in-Err-Refused-clause-no_errors
returns-in-Err-Refused-clause-no_errors g c = λ silent. absurd (ended_loud c.put_listing_refusal.result (ends.ListingRefused _) c.ending_after_line.result c.ending_after_line.ensures refl silent)

pub returns-in-Err-OutOfMemory-clause-write_cause : goal.returns-in-Err-OutOfMemory-clause-write_cause
returns-in-Err-OutOfMemory-clause-write_cause g c = no_cause _ (λ e. cc)

pub returns-in-Err-OutOfMemory-clause-errors_cause : goal.returns-in-Err-OutOfMemory-clause-errors_cause
returns-in-Err-OutOfMemory-clause-errors_cause g c = no_cause _ (λ e. cc)

pub returns-in-Err-OutOfMemory-clause-no_file : goal.returns-in-Err-OutOfMemory-clause-no_file
returns-in-Err-OutOfMemory-clause-no_file g c = λ e. cc

pub returns-in-Err-OutOfMemory-clause-no_read : goal.returns-in-Err-OutOfMemory-clause-no_read
returns-in-Err-OutOfMemory-clause-no_read g c = λ e. cc

pub returns-in-Err-OutOfMemory-clause-no_errors : goal.returns-in-Err-OutOfMemory-clause-no_errors
returns-in-Err-OutOfMemory-clause-no_errors g c = λ _. refl
