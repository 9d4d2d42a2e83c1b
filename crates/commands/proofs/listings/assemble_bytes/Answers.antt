use Rattle.std.proofs.Common.{Some, refl, ◌≡◌, true, sym, subst}
use Rattle.asm_text.specs.Statements.{statements}
use Rattle.listing_model.specs.Image.{image_of_bytes}
use Rattle.command_lines.specs.Outcome.{outcome_of_listing}
use Rattle.command_lines.specs.declared.ending.Ending.TheVariants.{ListingRefused, OutOfMemory}
use Rattle.commands.proofs.Assembling.{is_refused, made_listing, refused_listing}
use Rattle.commands.proofs.Meetings.{nothing_meets}
use Rattle.commands.proofs.MayEnd.{kind_done, kind_put}
use Rattle.commands.specs.Lines.{ends_asm}
use Rattle.command_lines.specs.declared.ending.Ending.{Ending}
use Rattle.command_lines.specs.declared.ending.Ending.TheVariants as ends
use Rattle.commands.proofs.Causing.{done_cause, done_other, ended_cause, ended_loud, ended_other, no_cause}
use Rattle.commands.proofs.listings.assemble_bytes.Goals as goal

pub returns-in-Ok-clause-outcome : goal.returns-in-Ok-clause-outcome
returns-in-Ok-clause-outcome g c = λ input.
    made_listing (image_of_bytes statements c.args.bytes.now) input (g.O.Sink.held c.args.output.now) (g.E.Sink.held c.args.errors.now) c.in-Ok.file.items c.deref.result.now _ c.put_all.result c.ending_after_output.result
    c.in-Ok.ensures c.deref.ensures.value c.ending_after_output.ensures c.put_all.ensures.bytes

pub returns-in-Err-Refused-clause-outcome : goal.returns-in-Err-Refused-clause-outcome
returns-in-Err-Refused-clause-outcome g c = λ input.
    refused_listing (image_of_bytes statements c.args.bytes.now) input (g.O.Sink.held c.args.output.now) (g.E.Sink.held c.args.errors.now) c.in-Err-Refused.fault _ c.put_listing_refusal.result c.ending_after_line.result
    (is_refused (image_of_bytes statements c.args.bytes.now) c.in-Err-Refused.field-0 c.in-Err-Refused.fault c.in-Err-Refused.field-0-is c.in-Err-Refused.ensures) c.ending_after_line.ensures c.put_listing_refusal.ensures.bytes

pub returns-in-Err-OutOfMemory-clause-outcome : goal.returns-in-Err-OutOfMemory-clause-outcome
returns-in-Err-OutOfMemory-clause-outcome g c = λ input.
    nothing_meets (λ _. Some (outcome_of_listing (image_of_bytes statements c.args.bytes.now))) OutOfMemory input (g.O.Sink.held c.args.output.now) (g.E.Sink.held c.args.errors.now) refl

pub returns-in-Ok-clause-kind : goal.returns-in-Ok-clause-kind
returns-in-Ok-clause-kind g c = subst (λ (x : Ending). ends_asm x ≡ true) (sym c.ending_after_output.ensures) (kind_done ends_asm c.put_all.result refl refl)

pub returns-in-Err-Refused-clause-kind : goal.returns-in-Err-Refused-clause-kind
returns-in-Err-Refused-clause-kind g c = subst (λ (x : Ending). ends_asm x ≡ true) (sym c.ending_after_line.ensures) (kind_put ends_asm c.put_listing_refusal.result (ListingRefused c.in-Err-Refused.fault) refl refl)

pub returns-in-Err-Refused-clause-write_cause : goal.returns-in-Err-Refused-clause-write_cause
returns-in-Err-Refused-clause-write_cause g c = no_cause _ (ended_other c.put_listing_refusal.result (ends.ListingRefused c.in-Err-Refused.fault) c.ending_after_line.result ends.WriteFault c.ending_after_line.ensures (λ e. cc) (λ e. cc))

pub returns-in-Err-Refused-clause-errors_cause : goal.returns-in-Err-Refused-clause-errors_cause
returns-in-Err-Refused-clause-errors_cause g c = ended_cause _ _ c.put_listing_refusal.result (ends.ListingRefused c.in-Err-Refused.fault) c.ending_after_line.result c.ending_after_line.ensures (λ e. cc) c.put_listing_refusal.ensures.cause

pub returns-in-Err-Refused-clause-no_file : goal.returns-in-Err-Refused-clause-no_file
returns-in-Err-Refused-clause-no_file g c = ended_other c.put_listing_refusal.result (ends.ListingRefused c.in-Err-Refused.fault) c.ending_after_line.result ends.FileFault c.ending_after_line.ensures (λ e. cc) (λ e. cc)

pub returns-in-Err-Refused-clause-no_read : goal.returns-in-Err-Refused-clause-no_read
returns-in-Err-Refused-clause-no_read g c = ended_other c.put_listing_refusal.result (ends.ListingRefused c.in-Err-Refused.fault) c.ending_after_line.result ends.ReadFault c.ending_after_line.ensures (λ e. cc) (λ e. cc)

pub returns-in-Err-Refused-clause-memory_first : goal.returns-in-Err-Refused-clause-memory_first
returns-in-Err-Refused-clause-memory_first g c = λ e. absurd (ended_other c.put_listing_refusal.result (ends.ListingRefused c.in-Err-Refused.fault) c.ending_after_line.result ends.OutOfMemory c.ending_after_line.ensures (λ e. cc) (λ e. cc) e)

pub returns-in-Err-Refused-clause-no_errors : goal.returns-in-Err-Refused-clause-no_errors
returns-in-Err-Refused-clause-no_errors g c = λ silent. absurd (ended_loud c.put_listing_refusal.result (ends.ListingRefused c.in-Err-Refused.fault) c.ending_after_line.result c.ending_after_line.ensures refl silent)

pub returns-in-Err-OutOfMemory-clause-write_cause : goal.returns-in-Err-OutOfMemory-clause-write_cause
returns-in-Err-OutOfMemory-clause-write_cause g c = no_cause _ (λ e. cc)

pub returns-in-Err-OutOfMemory-clause-errors_cause : goal.returns-in-Err-OutOfMemory-clause-errors_cause
returns-in-Err-OutOfMemory-clause-errors_cause g c = no_cause _ (λ e. cc)

pub returns-in-Err-OutOfMemory-clause-no_file : goal.returns-in-Err-OutOfMemory-clause-no_file
returns-in-Err-OutOfMemory-clause-no_file g c = λ e. cc

pub returns-in-Err-OutOfMemory-clause-no_read : goal.returns-in-Err-OutOfMemory-clause-no_read
returns-in-Err-OutOfMemory-clause-no_read g c = λ e. cc

pub returns-in-Err-OutOfMemory-clause-no_errors : goal.returns-in-Err-OutOfMemory-clause-no_errors
returns-in-Err-OutOfMemory-clause-no_errors g c = λ _. refl

pub returns-in-Ok-clause-write_cause : goal.returns-in-Ok-clause-write_cause
returns-in-Ok-clause-write_cause g c = done_cause _ _ c.put_all.result c.ending_after_output.result c.ending_after_output.ensures c.put_all.ensures.cause

pub returns-in-Ok-clause-errors_cause : goal.returns-in-Ok-clause-errors_cause
returns-in-Ok-clause-errors_cause g c = no_cause _ (done_other c.put_all.result c.ending_after_output.result ends.ErrorsFault c.ending_after_output.ensures (λ e. cc) (λ e. cc))

pub returns-in-Ok-clause-no_file : goal.returns-in-Ok-clause-no_file
returns-in-Ok-clause-no_file g c = done_other c.put_all.result c.ending_after_output.result ends.FileFault c.ending_after_output.ensures (λ e. cc) (λ e. cc)

pub returns-in-Ok-clause-no_read : goal.returns-in-Ok-clause-no_read
returns-in-Ok-clause-no_read g c = done_other c.put_all.result c.ending_after_output.result ends.ReadFault c.ending_after_output.ensures (λ e. cc) (λ e. cc)

pub returns-in-Ok-clause-memory_first : goal.returns-in-Ok-clause-memory_first
returns-in-Ok-clause-memory_first g c = λ e. absurd (done_other c.put_all.result c.ending_after_output.result ends.OutOfMemory c.ending_after_output.ensures (λ e. cc) (λ e. cc) e)

pub returns-in-Ok-clause-no_errors : goal.returns-in-Ok-clause-no_errors
returns-in-Ok-clause-no_errors g c = λ _. refl
