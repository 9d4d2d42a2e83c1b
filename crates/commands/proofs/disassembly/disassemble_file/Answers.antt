use Rattle.std.proofs.Common.{ℕ, List, Option, Some, map, string_bytes, ap, ◌≡◌, refl, subst, ◌⊎◌, Err}
use Rattle.command_lines.specs.declared.ending.Ending.{Ending}
use Rattle.io_gate.specs.Images.{MissesNamed}
use Rattle.io_gate.specs.Streams.{Causes, Rose}
use Rattle.emu_system.specs.Image.{elf}
use Rattle.command_lines.specs.Outcome.{Outcome, Files, most_pages, outcome_of_words}
use Rattle.commands.proofs.NamedFiles.{found_file, told_so, unread_file}
use Rattle.commands.proofs.MayEnd.{stops_dis}
use Rattle.command_lines.specs.declared.ending.Ending.TheVariants as ends
use Rattle.commands.proofs.Causing.{no_cause, unread_cause, unread_no_read, unread_no_write}
use Rattle.commands.proofs.disassembly.disassemble_file.Goals as goal

-- what comes of the bytes of the program's file
abbrev next : Files → List ℕ → List ℕ → Option Outcome
next files bytes i = Some (outcome_of_words bytes (elf bytes most_pages))

pub returns-in-Ok-clause-outcome : goal.returns-in-Ok-clause-outcome
returns-in-Ok-clause-outcome g c = λ input.
    found_file next (g.F.Images.named c.args.files.now) (map string_bytes c.args.words.now) c.args.file c.word.result.now c.deref.result.now c.in-Ok.bytes.items
    input (g.O.Sink.held c.args.output.now) (g.E.Sink.held c.args.errors.now) _ _ c.disassemble_bytes.result
    c.word.ensures c.deref.ensures.value (ap g.E.Sink.held c.in-Ok.ensures.read_still) c.in-Ok.ensures.content (told_so (g.F.Images.named c.args.files.now) _ (λ _. c.disassemble_bytes.ensures.outcome input))

pub returns-in-Err-clause-outcome : goal.returns-in-Err-clause-outcome
returns-in-Err-clause-outcome g c = λ input.
    unread_file next (g.F.Images.named c.args.files.now) (map string_bytes c.args.words.now) c.args.file c.word.result.now c.in-Err.ending
    input (g.O.Sink.held c.args.output.now) (g.E.Sink.held c.args.errors.now) _ c.word.ensures c.in-Err.ensures.content

pub returns-in-Err-clause-kind : goal.returns-in-Err-clause-kind
returns-in-Err-clause-kind g c =
    stops_dis c.in-Err.ending (unread_no_read (g.F.Images.named c.args.files.now) c.word.result.now c.in-Err.ending c.in-Err.ensures.unread)
    c.in-Err.ensures.kind

pub returns-in-Err-clause-no_read : goal.returns-in-Err-clause-no_read
returns-in-Err-clause-no_read g c = unread_no_read (g.F.Images.named c.args.files.now) c.word.result.now c.in-Err.ending c.in-Err.ensures.unread

pub returns-in-Err-clause-write_cause : goal.returns-in-Err-clause-write_cause
returns-in-Err-clause-write_cause g c = no_cause _ (unread_no_write (g.F.Images.named c.args.files.now) c.word.result.now c.in-Err.ending c.in-Err.ensures.unread)

pub returns-in-Err-clause-errors_cause : goal.returns-in-Err-clause-errors_cause
returns-in-Err-clause-errors_cause g c = unread_cause _ _ _ _ _ refl c.in-Err.ensures.errors_cause

pub returns-in-Ok-clause-errors_cause : goal.returns-in-Ok-clause-errors_cause
returns-in-Ok-clause-errors_cause g c = subst (λ (n : ℕ). Causes (c.disassemble_bytes.result ≡ ends.ErrorsFault) n (g.E.Sink.faults c.disassemble_bytes.new.errors)) (ap g.E.Sink.faults c.in-Ok.ensures.read_still) c.disassemble_bytes.ensures.errors_cause

pub returns-in-Ok-clause-file_cause : goal.returns-in-Ok-clause-file_cause
returns-in-Ok-clause-file_cause g c = λ fault. absurd (c.disassemble_bytes.ensures.no_file fault)

pub returns-in-Ok-clause-file_first : goal.returns-in-Ok-clause-file_first
returns-in-Ok-clause-file_first g c = λ fault. absurd (c.disassemble_bytes.ensures.no_file fault)

pub returns-in-Err-clause-file_cause : goal.returns-in-Err-clause-file_cause
returns-in-Err-clause-file_cause g c = λ fault.
    subst (λ (name : List ℕ). Rose (g.F.Images.faults c.args.files.now) (g.F.Images.faults c.file_bytes.new.files) ⊎ MissesNamed (g.F.Images.named c.args.files.now) name) c.word.ensures (c.in-Err.ensures.file_cause (ap (λ (x : Ending). Err x) fault))
