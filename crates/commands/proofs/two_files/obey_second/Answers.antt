use Rattle.std.proofs.Common.{ℕ, List, Option, Some, map, string_bytes, ap, ◌≡◌, refl, subst, ◌⊎◌, Err, ◌∙◌, false}
use Rattle.command_lines.specs.declared.ending.Ending.{Ending}
use Rattle.io_gate.specs.Images.{MissesNamed}
use Rattle.io_gate.specs.Streams.{Causes, Rose}
use Rattle.command_lines.specs.Outcome.{Outcome, Files, file_at}
use Rattle.emu_system.specs.Image.{elf}
use Rattle.commands.specs.Programs.{arguments_of}
use Rattle.commands.specs.Meets.{now}
use Rattle.commands.specs.SecondFiles.{file_reads_first, outcome_by}
use Rattle.commands.specs.declared.program.Program.{Program}
use Rattle.commands.specs.declared.two_files.SecondFile.{SecondFile}
use Rattle.commands.proofs.NamedFiles.{over, told_so, unread_file}
use Rattle.commands.proofs.Settled.{unread_either}
use Rattle.commands.proofs.TwoFiles.{found_second, read_before, read_later}
use Rattle.commands.proofs.MayEnd.{stops_by}
use Rattle.command_lines.specs.declared.ending.Ending.TheVariants as ends
use Rattle.commands.proofs.Causing.{no_cause, unread_cause, unread_no_read, unread_no_write}
use Rattle.commands.specs.Passing.{InImage, InNamed}
use Rattle.commands.specs.Whole.{HasAllPut}
use Rattle.commands.proofs.Keeping.{found_behind, unread_keeps}
use Rattle.commands.proofs.two_files.obey_second.Goals as goal

-- what comes of the bytes of the second file
abbrev next : SecondFile → List ℕ → List (List ℕ) → Program → Files → List ℕ → List ℕ → Option Outcome
next second bytes words p files text i = Some (outcome_by second bytes text (arguments_of words p) i p (elf bytes p.pages))

pub returns-in-Ok-clause-outcome : goal.returns-in-Ok-clause-outcome
returns-in-Ok-clause-outcome g c =
    found_second c.args.second (next c.args.second c.args.bytes.now (map string_bytes c.args.words.now) c.args.program.now) (g.F.Images.named c.args.files.now) (map string_bytes c.args.words.now) c.args.place c.word.result.now c.deref.result.now c.in-Ok.text.items
    (g.I.Source.left c.args.input.now) (g.O.Sink.held c.args.output.now) (g.E.Sink.held c.args.errors.now) _ _ c.obey_bytes.result
    c.word.ensures c.deref.ensures.value (ap g.E.Sink.held c.in-Ok.ensures.read_still) c.in-Ok.ensures.content (told_so (g.F.Images.named c.args.files.now) _ (λ _. c.obey_bytes.ensures.outcome))

pub returns-in-Err-clause-outcome : goal.returns-in-Err-clause-outcome
returns-in-Err-clause-outcome g c =
    unread_either (g.F.Images.named c.args.files.now) (λ files. file_reads_first c.args.second (file_at (map string_bytes c.args.words.now) files c.args.place))
    (over (next c.args.second c.args.bytes.now (map string_bytes c.args.words.now) c.args.program.now) (map string_bytes c.args.words.now) c.args.place) c.in-Err.ending
    (now (g.I.Source.left c.args.input.now) (g.O.Sink.held c.args.output.now) (g.E.Sink.held c.args.errors.now)) _ c.in-Err.ensures.kind
    (unread_file (next c.args.second c.args.bytes.now (map string_bytes c.args.words.now) c.args.program.now) (g.F.Images.named c.args.files.now) (map string_bytes c.args.words.now) c.args.place c.word.result.now c.in-Err.ending
    (g.I.Source.left c.args.input.now) (g.O.Sink.held c.args.output.now) (g.E.Sink.held c.args.errors.now) _ c.word.ensures c.in-Err.ensures.content)

pub returns-in-Ok-clause-memory_first : goal.returns-in-Ok-clause-memory_first
returns-in-Ok-clause-memory_first g c = λ later.
    c.obey_bytes.ensures.memory_first
    (read_later c.args.second (g.F.Images.named c.args.files.now) (map string_bytes c.args.words.now) c.args.place c.word.result.now c.deref.result.now c.in-Ok.text.items c.word.ensures c.deref.ensures.value c.in-Ok.ensures.content later)

pub returns-in-Err-clause-kind : goal.returns-in-Err-clause-kind
returns-in-Err-clause-kind g c = stops_by c.args.second c.in-Err.ending c.in-Err.ensures.kind

pub returns-in-Err-clause-read_cause : goal.returns-in-Err-clause-read_cause
returns-in-Err-clause-read_cause g c = no_cause _ (unread_no_read (g.F.Images.named c.args.files.now) c.word.result.now c.in-Err.ending c.in-Err.ensures.unread)

pub returns-in-Err-clause-write_cause : goal.returns-in-Err-clause-write_cause
returns-in-Err-clause-write_cause g c = no_cause _ (unread_no_write (g.F.Images.named c.args.files.now) c.word.result.now c.in-Err.ending c.in-Err.ensures.unread)

pub returns-in-Err-clause-errors_cause : goal.returns-in-Err-clause-errors_cause
returns-in-Err-clause-errors_cause g c = unread_cause _ _ _ _ _ refl c.in-Err.ensures.errors_cause

pub returns-in-Ok-clause-errors_cause : goal.returns-in-Ok-clause-errors_cause
returns-in-Ok-clause-errors_cause g c = subst (λ (n : ℕ). Causes (c.obey_bytes.result ≡ ends.ErrorsFault) n (g.E.Sink.faults c.obey_bytes.new.errors)) (ap g.E.Sink.faults c.in-Ok.ensures.read_still) c.obey_bytes.ensures.errors_cause

pub returns-in-Ok-clause-file_cause : goal.returns-in-Ok-clause-file_cause
returns-in-Ok-clause-file_cause g c = λ fault. absurd (c.obey_bytes.ensures.no_file fault)

pub returns-in-Ok-clause-file_first : goal.returns-in-Ok-clause-file_first
returns-in-Ok-clause-file_first g c = λ fault. absurd (c.obey_bytes.ensures.no_file fault)

pub returns-in-Err-clause-file_cause : goal.returns-in-Err-clause-file_cause
returns-in-Err-clause-file_cause g c = λ fault.
    subst (λ (name : List ℕ). Rose (g.F.Images.faults c.args.files.now) (g.F.Images.faults c.file_bytes.new.files) ⊎ MissesNamed (g.F.Images.named c.args.files.now) name) c.word.ensures (c.in-Err.ensures.file_cause (ap (λ (x : Ending). Err x) fault))

pub returns-in-Ok-clause-read_unwritten : goal.returns-in-Ok-clause-read_unwritten
returns-in-Ok-clause-read_unwritten g c = λ before e.
    let kept = c.obey_bytes.ensures.read_unwritten
    (read_before c.args.second (g.F.Images.named c.args.files.now) (map string_bytes c.args.words.now) c.args.place c.word.result.now c.deref.result.now c.in-Ok.text.items c.word.ensures c.deref.ensures.value c.in-Ok.ensures.content before) e in
    (kept.0, kept.1 ∙ c.in-Ok.ensures.read_still)

pub returns-in-Err-clause-read_unwritten : goal.returns-in-Err-clause-read_unwritten
returns-in-Err-clause-read_unwritten g c = λ _ e. absurd (unread_no_read (g.F.Images.named c.args.files.now) c.word.result.now c.in-Err.ending c.in-Err.ensures.unread e)

pub returns-in-Ok-clause-whole : goal.returns-in-Ok-clause-whole
returns-in-Ok-clause-whole g c =
    let ws = map string_bytes c.args.words.now in
    found_behind (λ _ text. InImage c.args.second c.args.bytes.now ws c.args.program.now text c.obey_bytes.result (g.I.Source.left c.obey_bytes.new.input)) (next c.args.second c.args.bytes.now ws c.args.program.now) c.args.second (g.F.Images.named c.args.files.now) ws c.args.place c.word.result.now c.deref.result.now c.in-Ok.text.items
    (g.I.Source.left c.args.input.now) (g.O.Sink.held c.args.output.now) (g.O.Sink.held c.obey_bytes.new.output) (g.E.Sink.held c.args.errors.now) (g.E.Sink.held c.obey_bytes.new.errors) c.obey_bytes.result
    c.word.ensures c.deref.ensures.value c.in-Ok.ensures.content
    (λ files later. subst (λ (e : Option (List ℕ)). HasAllPut (InImage c.args.second c.args.bytes.now ws c.args.program.now c.deref.result.now c.obey_bytes.result (g.I.Source.left c.obey_bytes.new.input)) (next c.args.second c.args.bytes.now ws c.args.program.now files c.deref.result.now) c.obey_bytes.result (g.I.Source.left c.args.input.now) (g.O.Sink.held c.args.output.now) (g.O.Sink.held c.obey_bytes.new.output) e (g.E.Sink.held c.obey_bytes.new.errors)) (ap g.E.Sink.held c.in-Ok.ensures.read_still) (c.obey_bytes.ensures.whole later))

pub returns-in-Err-clause-whole : goal.returns-in-Err-clause-whole
returns-in-Err-clause-whole g c =
    let ws = map string_bytes c.args.words.now in
    unread_keeps (λ files. InNamed c.args.second c.args.bytes.now ws c.args.program.now c.args.place files c.in-Err.ending (g.I.Source.left c.args.input.now)) (next c.args.second c.args.bytes.now ws c.args.program.now) (g.F.Images.named c.args.files.now) ws c.args.place c.word.result.now c.in-Err.ending
    (g.I.Source.left c.args.input.now) (g.O.Sink.held c.args.output.now) (g.E.Sink.held c.args.errors.now) _ (λ files. file_reads_first c.args.second (file_at ws files c.args.place) ≡ false) c.word.ensures c.in-Err.ensures.unread
