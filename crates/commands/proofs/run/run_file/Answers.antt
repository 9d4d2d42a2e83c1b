use Rattle.std.proofs.Common.{ℕ, List, Option, Some, map, string_bytes, ap, ◌≡◌, refl, subst, ◌⊎◌, Err}
use Rattle.command_lines.specs.declared.ending.Ending.{Ending}
use Rattle.io_gate.specs.Images.{MissesNamed}
use Rattle.io_gate.specs.Streams.{Causes, Rose}
use Rattle.command_lines.specs.Outcome.{Outcome, Files, outcome_of_image, file_at}
use Rattle.emu_system.specs.Image.{elf}
use Rattle.commands.specs.Programs.{arguments_of, opening_of}
use Rattle.commands.specs.declared.program.Program.{Program}
use Rattle.commands.proofs.NamedFiles.{found_file, told_so, unread_file}
use Rattle.commands.proofs.MayEnd.{stops_run}
use Rattle.command_lines.specs.declared.ending.Ending.TheVariants as ends
use Rattle.commands.proofs.Causing.{no_cause, unread_cause, unread_no_read, unread_no_write}
use Rattle.emu_model.specs.State.{State}
use Rattle.commands.specs.Whole.{HasAllPut}
use Rattle.commands.specs.Passing.{InFile}
use Rattle.commands.proofs.Keeping.{behind_file, found_told, unread_told}
use Rattle.commands.proofs.run.run_file.Goals as goal

-- what comes of the bytes of the program's file
abbrev next : List (List ℕ) → Program → Files → List ℕ → List ℕ → Option Outcome
next words p files bytes i = Some (outcome_of_image bytes (arguments_of words p) i p.length p.budget p.pages (elf bytes p.pages))

pub returns-in-Ok-clause-outcome : goal.returns-in-Ok-clause-outcome
returns-in-Ok-clause-outcome g c =
    found_file (next (map string_bytes c.args.words.now) c.args.program.now) (g.F.Images.named c.args.files.now) (map string_bytes c.args.words.now) c.args.program.now.file c.word.result.now c.deref.result.now c.in-Ok.bytes.items
    (g.I.Source.left c.args.input.now) (g.O.Sink.held c.args.output.now) (g.E.Sink.held c.args.errors.now) _ _ c.run_image.result
    c.word.ensures c.deref.ensures.value (ap g.E.Sink.held c.in-Ok.ensures.read_still) c.in-Ok.ensures.content (told_so (g.F.Images.named c.args.files.now) _ (λ _. c.run_image.ensures.outcome))

pub returns-in-Err-clause-outcome : goal.returns-in-Err-clause-outcome
returns-in-Err-clause-outcome g c =
    unread_file (next (map string_bytes c.args.words.now) c.args.program.now) (g.F.Images.named c.args.files.now) (map string_bytes c.args.words.now) c.args.program.now.file c.word.result.now c.in-Err.ending
    (g.I.Source.left c.args.input.now) (g.O.Sink.held c.args.output.now) (g.E.Sink.held c.args.errors.now) _ c.word.ensures c.in-Err.ensures.content

pub returns-in-Err-clause-kind : goal.returns-in-Err-clause-kind
returns-in-Err-clause-kind g c = stops_run c.in-Err.ending c.in-Err.ensures.kind

pub returns-in-Err-clause-read_cause : goal.returns-in-Err-clause-read_cause
returns-in-Err-clause-read_cause g c = no_cause _ (unread_no_read (g.F.Images.named c.args.files.now) c.word.result.now c.in-Err.ending c.in-Err.ensures.unread)

pub returns-in-Err-clause-write_cause : goal.returns-in-Err-clause-write_cause
returns-in-Err-clause-write_cause g c = no_cause _ (unread_no_write (g.F.Images.named c.args.files.now) c.word.result.now c.in-Err.ending c.in-Err.ensures.unread)

pub returns-in-Err-clause-errors_cause : goal.returns-in-Err-clause-errors_cause
returns-in-Err-clause-errors_cause g c = unread_cause _ _ _ _ _ refl c.in-Err.ensures.errors_cause

pub returns-in-Ok-clause-errors_cause : goal.returns-in-Ok-clause-errors_cause
returns-in-Ok-clause-errors_cause g c = subst (λ (n : ℕ). Causes (c.run_image.result ≡ ends.ErrorsFault) n (g.E.Sink.faults c.run_image.new.errors)) (ap g.E.Sink.faults c.in-Ok.ensures.read_still) c.run_image.ensures.errors_cause

pub returns-in-Ok-clause-file_cause : goal.returns-in-Ok-clause-file_cause
returns-in-Ok-clause-file_cause g c = λ fault. absurd (c.run_image.ensures.no_file fault)

pub returns-in-Ok-clause-file_first : goal.returns-in-Ok-clause-file_first
returns-in-Ok-clause-file_first g c = λ fault. absurd (c.run_image.ensures.no_file fault)

pub returns-in-Err-clause-file_cause : goal.returns-in-Err-clause-file_cause
returns-in-Err-clause-file_cause g c = λ fault.
    subst (λ (name : List ℕ). Rose (g.F.Images.faults c.args.files.now) (g.F.Images.faults c.file_bytes.new.files) ⊎ MissesNamed (g.F.Images.named c.args.files.now) name) c.word.ensures (c.in-Err.ensures.file_cause (ap (λ (x : Ending). Err x) fault))

-- where its run may be broken off
abbrev on : List (List ℕ) → Program → Ending → Option (List ℕ) → Files → List ℕ → List ℕ → State → Type 0
on words p ending left files bytes i st = InFile bytes words p ending left i st

pub returns-in-Ok-clause-whole : goal.returns-in-Ok-clause-whole
returns-in-Ok-clause-whole g c =
    let ws = map string_bytes c.args.words.now in
    found_told (on ws c.args.program.now c.run_image.result (g.I.Source.left c.run_image.new.input)) (next ws c.args.program.now) (g.F.Images.named c.args.files.now) ws c.args.program.now.file c.word.result.now c.deref.result.now c.in-Ok.bytes.items
    (g.I.Source.left c.args.input.now) (g.O.Sink.held c.args.output.now) (g.O.Sink.held c.run_image.new.output) (g.E.Sink.held c.args.errors.now) (g.E.Sink.held c.run_image.new.errors) c.run_image.result
    c.word.ensures c.deref.ensures.value c.in-Ok.ensures.content
    (told_so (g.F.Images.named c.args.files.now) _ (λ files. subst (λ (e : Option (List ℕ)). HasAllPut (on ws c.args.program.now c.run_image.result (g.I.Source.left c.run_image.new.input) files c.deref.result.now) (next ws c.args.program.now files c.deref.result.now) c.run_image.result (g.I.Source.left c.args.input.now) (g.O.Sink.held c.args.output.now) (g.O.Sink.held c.run_image.new.output) e (g.E.Sink.held c.run_image.new.errors)) (ap g.E.Sink.held c.in-Ok.ensures.read_still) c.run_image.ensures.whole))

pub returns-in-Err-clause-whole : goal.returns-in-Err-clause-whole
returns-in-Err-clause-whole g c =
    let ws = map string_bytes c.args.words.now in
    unread_told (λ files. behind_file (on ws c.args.program.now c.in-Err.ending (g.I.Source.left c.args.input.now)) ws c.args.program.now.file files) (next ws c.args.program.now) (g.F.Images.named c.args.files.now) ws c.args.program.now.file c.word.result.now c.in-Err.ending
    (g.I.Source.left c.args.input.now) (g.O.Sink.held c.args.output.now) (g.E.Sink.held c.args.errors.now) _ c.word.ensures c.in-Err.ensures.unread
