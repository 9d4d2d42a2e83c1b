use Rattle.std.proofs.Common.{ℕ, List, Option, Some, map, string_bytes, ap, true, ◌≡◌, refl, subst, ◌⊎◌, Err, ◌∙◌}
use Rattle.command_lines.specs.declared.ending.Ending.{Ending}
use Rattle.io_gate.specs.Images.{MissesNamed}
use Rattle.io_gate.specs.Streams.{Causes, Rose}
use Rattle.command_lines.specs.Outcome.{Outcome, Files, outcome_of_swept}
use Rattle.emu_system.specs.Image.{elf}
use Rattle.commands.specs.Programs.{swept_arguments}
use Rattle.commands.specs.Promises.{SettlesReader}
use Rattle.commands.specs.Meets.{now}
use Rattle.commands.specs.declared.sweeping.Swept.{Swept}
use Rattle.commands.proofs.MayEnd.{stops_sweep}
use Rattle.commands.proofs.NamedFiles.{found_file_by, over, told_so, unread_file}
use Rattle.commands.proofs.Settled.{unread_either}
use Rattle.command_lines.specs.declared.ending.Ending.TheVariants as ends
use Rattle.commands.proofs.Causing.{no_cause, unread_cause, unread_no_read, unread_no_write}
use Rattle.commands.proofs.sweeping.sweep_file.Goals as goal

-- what comes of the bytes of the program's file
abbrev next : List (List ℕ) → Swept → Files → List ℕ → List ℕ → Option Outcome
next words p files bytes i = Some (outcome_of_swept bytes (swept_arguments words p) i p.budget p.pages (elf bytes p.pages))

pub returns-in-Ok-clause-outcome : goal.returns-in-Ok-clause-outcome
returns-in-Ok-clause-outcome g c =
    found_file_by (λ _. SettlesReader) (next (map string_bytes c.args.words.now) c.args.program.now) (g.F.Images.named c.args.files.now) (map string_bytes c.args.words.now) c.args.program.now.file c.word.result.now c.deref.result.now c.in-Ok.bytes.items
    (g.I.Source.left c.args.input.now) (g.O.Sink.held c.args.output.now) (g.E.Sink.held c.args.errors.now) _ _ c.sweep_bytes.result
    c.word.ensures c.deref.ensures.value (ap g.E.Sink.held c.in-Ok.ensures.read_still) c.in-Ok.ensures.content (told_so (g.F.Images.named c.args.files.now) _ (λ _. c.sweep_bytes.ensures.outcome))

pub returns-in-Err-clause-outcome : goal.returns-in-Err-clause-outcome
returns-in-Err-clause-outcome g c =
    unread_either (g.F.Images.named c.args.files.now) (λ _. true) (over (next (map string_bytes c.args.words.now) c.args.program.now) (map string_bytes c.args.words.now) c.args.program.now.file) c.in-Err.ending
    (now (g.I.Source.left c.args.input.now) (g.O.Sink.held c.args.output.now) (g.E.Sink.held c.args.errors.now)) _ c.in-Err.ensures.kind
    (unread_file (next (map string_bytes c.args.words.now) c.args.program.now) (g.F.Images.named c.args.files.now) (map string_bytes c.args.words.now) c.args.program.now.file c.word.result.now c.in-Err.ending
    (g.I.Source.left c.args.input.now) (g.O.Sink.held c.args.output.now) (g.E.Sink.held c.args.errors.now) _ c.word.ensures c.in-Err.ensures.content)

pub returns-in-Err-clause-kind : goal.returns-in-Err-clause-kind
returns-in-Err-clause-kind g c = stops_sweep c.in-Err.ending c.in-Err.ensures.kind

pub returns-in-Err-clause-read_cause : goal.returns-in-Err-clause-read_cause
returns-in-Err-clause-read_cause g c = no_cause _ (unread_no_read (g.F.Images.named c.args.files.now) c.word.result.now c.in-Err.ending c.in-Err.ensures.unread)

pub returns-in-Err-clause-write_cause : goal.returns-in-Err-clause-write_cause
returns-in-Err-clause-write_cause g c = no_cause _ (unread_no_write (g.F.Images.named c.args.files.now) c.word.result.now c.in-Err.ending c.in-Err.ensures.unread)

pub returns-in-Err-clause-errors_cause : goal.returns-in-Err-clause-errors_cause
returns-in-Err-clause-errors_cause g c = unread_cause _ _ _ _ _ refl c.in-Err.ensures.errors_cause

pub returns-in-Ok-clause-errors_cause : goal.returns-in-Ok-clause-errors_cause
returns-in-Ok-clause-errors_cause g c = subst (λ (n : ℕ). Causes (c.sweep_bytes.result ≡ ends.ErrorsFault) n (g.E.Sink.faults c.sweep_bytes.new.errors)) (ap g.E.Sink.faults c.in-Ok.ensures.read_still) c.sweep_bytes.ensures.errors_cause

pub returns-in-Ok-clause-file_cause : goal.returns-in-Ok-clause-file_cause
returns-in-Ok-clause-file_cause g c = λ fault. absurd (c.sweep_bytes.ensures.no_file fault)

pub returns-in-Ok-clause-file_first : goal.returns-in-Ok-clause-file_first
returns-in-Ok-clause-file_first g c = λ fault. absurd (c.sweep_bytes.ensures.no_file fault)

pub returns-in-Err-clause-file_cause : goal.returns-in-Err-clause-file_cause
returns-in-Err-clause-file_cause g c = λ fault.
    subst (λ (name : List ℕ). Rose (g.F.Images.faults c.args.files.now) (g.F.Images.faults c.file_bytes.new.files) ⊎ MissesNamed (g.F.Images.named c.args.files.now) name) c.word.ensures (c.in-Err.ensures.file_cause (ap (λ (x : Ending). Err x) fault))

pub returns-in-Err-clause-read_unwritten : goal.returns-in-Err-clause-read_unwritten
returns-in-Err-clause-read_unwritten g c = λ e. absurd (unread_no_read (g.F.Images.named c.args.files.now) c.word.result.now c.in-Err.ending c.in-Err.ensures.unread e)

pub returns-in-Ok-clause-read_unwritten : goal.returns-in-Ok-clause-read_unwritten
returns-in-Ok-clause-read_unwritten g c = λ e. let kept = c.sweep_bytes.ensures.read_unwritten e in (kept.0, kept.1 ∙ c.in-Ok.ensures.read_still)
