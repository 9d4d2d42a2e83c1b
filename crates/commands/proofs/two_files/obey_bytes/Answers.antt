use Rattle.std.proofs.Common.{◌≡◌, map, string_bytes, sym, ap, subst, ◌∙◌, true, ℕ, Ok, Err, Result, Some, List, MatchResult}
use Rattle.elf_image.specs.Images.{seen, seen_image}
use Rattle.command_lines.specs.declared.ending.Ending.{Ending}
use Rattle.emu_system.specs.Image.{elf, Image}
use Rattle.commands.specs.Programs.{arguments_of, opening_of}
use Rattle.commands.specs.Meets.{now}
use Rattle.commands.specs.SecondFiles.{ends_by, text_reads_first, outcome_by, outcome_from}
use Rattle.commands.proofs.TwoFiles.{accepted_by, refused_by, refuses_kind, accepted_is, refused_is}
use Rattle.command_lines.specs.declared.ending.Ending.TheVariants as ends
use Rattle.commands.proofs.Causing.{ended_cause, ended_other, no_cause}
use Rattle.emu_system.specs.declared.image.ElfFault.{ElfFault}
use Rattle.command_lines.specs.Outcome.{Outcome}
use Rattle.commands.specs.Passing.{InImage, InSecond}
use Rattle.commands.proofs.Keeping.{keeps_as, keeps_ended, none_put}
use Rattle.commands.proofs.two_files.obey_bytes.Goals as goal

pub returns-in-Err-clause-outcome : goal.returns-in-Err-clause-outcome
returns-in-Err-clause-outcome g c =
    refused_by c.args.bytes.now c.args.text.now (arguments_of (map string_bytes c.args.words.now) c.args.program.now) c.args.program.now c.args.second (text_reads_first c.args.second c.args.text.now) (elf c.args.bytes.now c.args.program.now.pages)
    (now (g.I.Source.left c.args.input.now) (g.O.Sink.held c.args.output.now) (g.E.Sink.held c.args.errors.now)) c.in-Err.fault _ c.put_image_refusal.result c.ending_after_line.result
    (ap seen (sym c.in-Err.is) ∙ c.read.ensures.image) c.ending_after_line.ensures c.put_image_refusal.ensures.bytes

pub returns-in-Ok-clause-outcome : goal.returns-in-Ok-clause-outcome
returns-in-Ok-clause-outcome g c =
    accepted_by c.args.bytes.now c.args.text.now (arguments_of (map string_bytes c.args.words.now) c.args.program.now) c.args.program.now c.args.second (text_reads_first c.args.second c.args.text.now) (elf c.args.bytes.now c.args.program.now.pages)
    (now (g.I.Source.left c.args.input.now) (g.O.Sink.held c.args.output.now) (g.E.Sink.held c.args.errors.now)) (seen_image c.in-Ok.image) _ c.obey_text.result
    (ap seen (sym c.in-Ok.is) ∙ c.read.ensures.image) c.obey_text.ensures.outcome

pub returns-in-Err-clause-kind : goal.returns-in-Err-clause-kind
returns-in-Err-clause-kind g c = subst (λ (x : Ending). ends_by c.args.second x ≡ true) (sym c.ending_after_line.ensures) (refuses_kind c.args.second c.put_image_refusal.result c.in-Err.fault)

pub returns-in-Err-clause-read_cause : goal.returns-in-Err-clause-read_cause
returns-in-Err-clause-read_cause g c = no_cause _ (ended_other c.put_image_refusal.result (ends.ImageRefused c.in-Err.fault) c.ending_after_line.result ends.ReadFault c.ending_after_line.ensures (λ e. cc) (λ e. cc))

pub returns-in-Err-clause-write_cause : goal.returns-in-Err-clause-write_cause
returns-in-Err-clause-write_cause g c = no_cause _ (ended_other c.put_image_refusal.result (ends.ImageRefused c.in-Err.fault) c.ending_after_line.result ends.WriteFault c.ending_after_line.ensures (λ e. cc) (λ e. cc))

pub returns-in-Err-clause-errors_cause : goal.returns-in-Err-clause-errors_cause
returns-in-Err-clause-errors_cause g c = ended_cause _ _ c.put_image_refusal.result (ends.ImageRefused c.in-Err.fault) c.ending_after_line.result c.ending_after_line.ensures (λ e. cc) c.put_image_refusal.ensures.cause

pub returns-in-Err-clause-no_file : goal.returns-in-Err-clause-no_file
returns-in-Err-clause-no_file g c = ended_other c.put_image_refusal.result (ends.ImageRefused c.in-Err.fault) c.ending_after_line.result ends.FileFault c.ending_after_line.ensures (λ e. cc) (λ e. cc)

pub returns-in-Err-clause-memory_first : goal.returns-in-Err-clause-memory_first
returns-in-Err-clause-memory_first g c = λ _ e. absurd (ended_other c.put_image_refusal.result (ends.ImageRefused c.in-Err.fault) c.ending_after_line.result ends.OutOfMemory c.ending_after_line.ensures (λ e. cc) (λ e. cc) e)

pub returns-in-Err-clause-memory_unwritten : goal.returns-in-Err-clause-memory_unwritten
returns-in-Err-clause-memory_unwritten g c = λ e. absurd (ended_other c.put_image_refusal.result (ends.ImageRefused c.in-Err.fault) c.ending_after_line.result ends.OutOfMemory c.ending_after_line.ensures (λ e. cc) (λ e. cc) e)

pub returns-in-Err-clause-read_unwritten : goal.returns-in-Err-clause-read_unwritten
returns-in-Err-clause-read_unwritten g c = λ _ e. absurd (ended_other c.put_image_refusal.result (ends.ImageRefused c.in-Err.fault) c.ending_after_line.result ends.ReadFault c.ending_after_line.ensures (λ e. cc) (λ e. cc) e)

pub returns-in-Err-clause-whole : goal.returns-in-Err-clause-whole
returns-in-Err-clause-whole g c = λ _.
    let args = arguments_of (map string_bytes c.args.words.now) c.args.program.now in
    let is : Err c.in-Err.fault ≡ (elf c.args.bytes.now c.args.program.now.pages) = ap seen (sym c.in-Err.is) ∙ c.read.ensures.image in
    keeps_ended (InImage c.args.second c.args.bytes.now (map string_bytes c.args.words.now) c.args.program.now c.args.text.now c.ending_after_line.result (g.I.Source.left c.args.input.now)) (λ i. Some (outcome_by c.args.second c.args.bytes.now c.args.text.now (arguments_of (map string_bytes c.args.words.now) c.args.program.now) i c.args.program.now (elf c.args.bytes.now c.args.program.now.pages))) (g.O.Sink.held c.args.output.now) (g.O.Sink.held c.args.output.now) (g.E.Sink.held c.args.errors.now) _ c.put_image_refusal.result (ends.ImageRefused c.in-Err.fault) c.ending_after_line.result (g.I.Source.left c.args.input.now) c.ending_after_line.ensures (λ e. cc) (λ e. cc)
    (none_put (λ i. Some (outcome_by c.args.second c.args.bytes.now c.args.text.now (arguments_of (map string_bytes c.args.words.now) c.args.program.now) i c.args.program.now (elf c.args.bytes.now c.args.program.now.pages))) (g.I.Source.left c.args.input.now) (g.O.Sink.held c.args.output.now) (λ i. ap (λ (r : Result Image ElfFault). (outcome_by c.args.second c.args.bytes.now c.args.text.now (arguments_of (map string_bytes c.args.words.now) c.args.program.now) i c.args.program.now r).output) (sym is)
    ∙ sym (ap (λ (o : Outcome). o.output) (refused_is c.args.bytes.now c.args.text.now args c.args.program.now c.args.second c.in-Err.fault i))))

pub returns-in-Ok-clause-whole : goal.returns-in-Ok-clause-whole
returns-in-Ok-clause-whole g c = λ later.
    let args = arguments_of (map string_bytes c.args.words.now) c.args.program.now in
    let image : Image = seen_image c.in-Ok.image in
    let m = opening_of c.args.bytes.now image (map string_bytes c.args.words.now) c.args.program.now in
    let budget : ℕ = c.args.program.now.budget in
    let is : Ok image ≡ (elf c.args.bytes.now c.args.program.now.pages) = ap seen (sym c.in-Ok.is) ∙ c.read.ensures.image in
    keeps_as (InSecond c.args.second c.args.text.now m budget c.obey_text.result (g.I.Source.left c.obey_text.new.input)) (InImage c.args.second c.args.bytes.now (map string_bytes c.args.words.now) c.args.program.now c.args.text.now c.obey_text.result (g.I.Source.left c.obey_text.new.input)) (λ i. Some (outcome_from c.args.second c.args.text.now i budget m)) (λ i. Some (outcome_by c.args.second c.args.bytes.now c.args.text.now (arguments_of (map string_bytes c.args.words.now) c.args.program.now) i c.args.program.now (elf c.args.bytes.now c.args.program.now.pages))) c.obey_text.result (g.O.Sink.held c.args.output.now) (g.O.Sink.held c.obey_text.new.output) (g.E.Sink.held c.args.errors.now) (g.E.Sink.held c.obey_text.new.errors) (g.I.Source.left c.args.input.now)
    (λ i st passed. subst (λ (r : Result Image ElfFault). MatchResult r (λ x. InSecond c.args.second c.args.text.now (opening_of c.args.bytes.now x (map string_bytes c.args.words.now) c.args.program.now) budget c.obey_text.result (g.I.Source.left c.obey_text.new.input) i st) (λ _. ⊥)) is passed)
    (λ i. ap (λ (o : Outcome). Some o) (accepted_is c.args.bytes.now c.args.text.now args c.args.program.now c.args.second image i)
    ∙ ap (λ (r : Result Image ElfFault). Some (outcome_by c.args.second c.args.bytes.now c.args.text.now (arguments_of (map string_bytes c.args.words.now) c.args.program.now) i c.args.program.now r)) is)
    (c.obey_text.ensures.whole later)
