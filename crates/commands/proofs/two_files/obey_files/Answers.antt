use Rattle.std.proofs.Common.{inl, inr, ℕ, List, [], get_or, Option, Err, IfSome, map, string_bytes, sym, ap, subst, ◌≡◌, refl, ◌∙◌, false}
use Rattle.io_gate.specs.Images.{MissesNamed}
use Rattle.io_gate.specs.Streams.{Rose, Causes}
use Rattle.command_lines.specs.Outcome.{Outcome, Files, file_at}
use Rattle.command_lines.specs.declared.ending.Ending.{Ending}
use Rattle.emu_system.specs.Image.{elf}
use Rattle.commands.specs.Promises.{settles_by}
use Rattle.commands.specs.Meets.{now, MeetsBy}
use Rattle.commands.specs.Programs.{arguments_of}
use Rattle.commands.specs.SecondFiles.{file_reads_first, outcome_by, TakesBefore, TakesLater}
use Rattle.commands.specs.declared.program.Program.{Program}
use Rattle.commands.specs.declared.two_files.SecondFile.{SecondFile}
use Rattle.commands.proofs.NamedFiles.{found_file_by, names_missing, over, over_two, second_misses, second_missing, unread_file, unread_missing}
use Rattle.commands.proofs.Settled.{unread_either}
use Rattle.commands.proofs.MayEnd.{stops_by}
use Rattle.command_lines.specs.declared.ending.Ending.TheVariants as ends
use Rattle.commands.proofs.Causing.{no_cause, unread_cause, unread_no_read, unread_no_write}
use Rattle.emu_model.specs.State.{State}
use Rattle.commands.specs.Passing.{InBoth, InNamed}
use Rattle.commands.specs.Whole.{HasAllPut}
use Rattle.commands.proofs.Keeping.{found_keeps, unread_keeps}
use Rattle.commands.proofs.two_files.obey_files.Goals as goal

-- what comes of the bytes of both files
abbrev outcome : SecondFile → Program → List (List ℕ) → Files → List ℕ → List ℕ → List ℕ → Outcome
outcome second p words files bytes text i = outcome_by second bytes text (arguments_of words p) i p (elf bytes p.pages)

pub returns-in-Ok-clause-outcome : goal.returns-in-Ok-clause-outcome
returns-in-Ok-clause-outcome g c =
    let ws = map string_bytes c.args.words.now in
    found_file_by (λ files. settles_by (file_reads_first c.args.second (file_at ws files c.args.place))) (over_two (outcome c.args.second c.args.program.now) ws c.args.place) (g.F.Images.named c.args.files.now) ws c.args.program.now.file c.word.result.now c.deref.result.now c.in-Ok.bytes.items
    (g.I.Source.left c.args.input.now) (g.O.Sink.held c.args.output.now) (g.E.Sink.held c.args.errors.now) (g.E.Sink.held c.file_bytes.new.errors)
    (now (g.I.Source.left c.obey_second.new.input) (g.O.Sink.held c.obey_second.new.output) (g.E.Sink.held c.obey_second.new.errors)) c.obey_second.result
    c.word.ensures c.deref.ensures.value (ap g.E.Sink.held c.in-Ok.ensures.read_still) c.in-Ok.ensures.content
    (subst (λ (told : Option Files). IfSome told (λ files. MeetsBy (settles_by (file_reads_first c.args.second (file_at ws files c.args.place))) (over_two (outcome c.args.second c.args.program.now) ws c.args.place files c.deref.result.now) c.obey_second.result
    (now (g.I.Source.left c.args.input.now) (g.O.Sink.held c.args.output.now) (g.E.Sink.held c.file_bytes.new.errors)) (now (g.I.Source.left c.obey_second.new.input) (g.O.Sink.held c.obey_second.new.output) (g.E.Sink.held c.obey_second.new.errors)))) c.in-Ok.ensures.told c.obey_second.ensures.outcome)

pub returns-in-Ok-clause-memory_first : goal.returns-in-Ok-clause-memory_first
returns-in-Ok-clause-memory_first g c = λ later.
    c.obey_second.ensures.memory_first (subst (λ (told : Option Files). TakesLater c.args.second told (get_or (map string_bytes c.args.words.now) c.args.place [])) (sym c.in-Ok.ensures.told) later)

pub returns-in-Ok-clause-file_cause : goal.returns-in-Ok-clause-file_cause
returns-in-Ok-clause-file_cause g c = λ fault.
    let ws = map string_bytes c.args.words.now in
    elim (c.obey_second.ensures.file_cause fault) [
      | inl rose ↦ inl (subst (λ (n : ℕ). Rose n (g.F.Images.faults c.obey_second.new.files)) (c.in-Ok.ensures.file_kept (λ e. cc)) rose)
      | inr missing ↦ inr (second_missing (outcome c.args.second c.args.program.now) ws c.args.program.now.file c.args.place (g.F.Images.named c.args.files.now) c.word.result.now c.in-Ok.bytes.items c.word.ensures c.in-Ok.ensures.content
          (subst (λ (told : Option Files). MissesNamed told (get_or ws c.args.place [])) c.in-Ok.ensures.told missing))
    ]

pub returns-in-Ok-clause-missing : goal.returns-in-Ok-clause-missing
returns-in-Ok-clause-missing g c = λ names.
    let ws = map string_bytes c.args.words.now in
    inl (c.obey_second.ensures.missing (subst (λ (told : Option Files). MissesNamed told (get_or ws c.args.place [])) (sym c.in-Ok.ensures.told)
    (second_misses (outcome c.args.second c.args.program.now) ws c.args.program.now.file c.args.place (g.F.Images.named c.args.files.now) c.word.result.now c.in-Ok.bytes.items c.word.ensures c.in-Ok.ensures.content names)))

pub returns-in-Err-clause-outcome : goal.returns-in-Err-clause-outcome
returns-in-Err-clause-outcome g c =
    let ws = map string_bytes c.args.words.now in
    unread_either (g.F.Images.named c.args.files.now) (λ files. file_reads_first c.args.second (file_at ws files c.args.place))
    (over (over_two (outcome c.args.second c.args.program.now) ws c.args.place) ws c.args.program.now.file) c.in-Err.ending
    (now (g.I.Source.left c.args.input.now) (g.O.Sink.held c.args.output.now) (g.E.Sink.held c.args.errors.now)) _ c.in-Err.ensures.kind
    (unread_file (over_two (outcome c.args.second c.args.program.now) ws c.args.place) (g.F.Images.named c.args.files.now) ws c.args.program.now.file c.word.result.now c.in-Err.ending
    (g.I.Source.left c.args.input.now) (g.O.Sink.held c.args.output.now) (g.E.Sink.held c.args.errors.now) _ c.word.ensures c.in-Err.ensures.content)

pub returns-in-Err-clause-file_cause : goal.returns-in-Err-clause-file_cause
returns-in-Err-clause-file_cause g c = λ fault.
    let ws = map string_bytes c.args.words.now in
    elim (c.in-Err.ensures.file_cause (ap (λ (x : Ending). Err x) fault)) [
      | inl rose ↦ inl rose
      | inr missing ↦ inr (names_missing (over_two (outcome c.args.second c.args.program.now) ws c.args.place) (g.F.Images.named c.args.files.now) ws c.args.program.now.file
          (subst (λ (name : List ℕ). MissesNamed (g.F.Images.named c.args.files.now) name) c.word.ensures missing))
    ]

pub returns-in-Err-clause-missing : goal.returns-in-Err-clause-missing
returns-in-Err-clause-missing g c = λ names.
    let ws = map string_bytes c.args.words.now in
    unread_missing (over_two (outcome c.args.second c.args.program.now) ws c.args.place) (g.F.Images.named c.args.files.now) ws c.args.program.now.file c.word.result.now c.in-Err.ending c.word.ensures c.in-Err.ensures.unread names

pub returns-in-Err-clause-kind : goal.returns-in-Err-clause-kind
returns-in-Err-clause-kind g c = stops_by c.args.second c.in-Err.ending c.in-Err.ensures.kind

pub returns-in-Err-clause-read_cause : goal.returns-in-Err-clause-read_cause
returns-in-Err-clause-read_cause g c = no_cause _ (unread_no_read (g.F.Images.named c.args.files.now) c.word.result.now c.in-Err.ending c.in-Err.ensures.unread)

pub returns-in-Err-clause-write_cause : goal.returns-in-Err-clause-write_cause
returns-in-Err-clause-write_cause g c = no_cause _ (unread_no_write (g.F.Images.named c.args.files.now) c.word.result.now c.in-Err.ending c.in-Err.ensures.unread)

pub returns-in-Err-clause-errors_cause : goal.returns-in-Err-clause-errors_cause
returns-in-Err-clause-errors_cause g c = unread_cause _ _ _ _ _ refl c.in-Err.ensures.errors_cause

pub returns-in-Ok-clause-errors_cause : goal.returns-in-Ok-clause-errors_cause
returns-in-Ok-clause-errors_cause g c = subst (λ (n : ℕ). Causes (c.obey_second.result ≡ ends.ErrorsFault) n (g.E.Sink.faults c.obey_second.new.errors)) (ap g.E.Sink.faults c.in-Ok.ensures.read_still) c.obey_second.ensures.errors_cause

pub returns-in-Ok-clause-read_unwritten : goal.returns-in-Ok-clause-read_unwritten
returns-in-Ok-clause-read_unwritten g c = λ before e.
    let kept = c.obey_second.ensures.read_unwritten (subst (λ (told : Option Files). TakesBefore c.args.second told (get_or (map string_bytes c.args.words.now) c.args.place [])) (sym c.in-Ok.ensures.told) before) e in
    (kept.0, kept.1 ∙ c.in-Ok.ensures.read_still)

pub returns-in-Err-clause-read_unwritten : goal.returns-in-Err-clause-read_unwritten
returns-in-Err-clause-read_unwritten g c = λ _ e. absurd (unread_no_read (g.F.Images.named c.args.files.now) c.word.result.now c.in-Err.ending c.in-Err.ensures.unread e)

-- where the line may be broken off, by the bytes of the program's file
abbrev on : SecondFile → List (List ℕ) → Program → ℕ → Ending → Option (List ℕ) → Files → List ℕ → List ℕ → State → Type 0
on second words p place ending left files bytes i st = InNamed second bytes words p place files ending left i st

pub returns-in-Ok-clause-whole : goal.returns-in-Ok-clause-whole
returns-in-Ok-clause-whole g c =
    let ws = map string_bytes c.args.words.now in
    let p = c.args.program.now in
    found_keeps (on c.args.second ws p c.args.place c.obey_second.result (g.I.Source.left c.obey_second.new.input)) (over_two (outcome c.args.second p) ws c.args.place) (g.F.Images.named c.args.files.now) ws p.file c.word.result.now c.deref.result.now c.in-Ok.bytes.items
    (g.I.Source.left c.args.input.now) (g.O.Sink.held c.args.output.now) (g.O.Sink.held c.obey_second.new.output) (g.E.Sink.held c.args.errors.now) (g.E.Sink.held c.obey_second.new.errors) c.obey_second.result (λ files. file_reads_first c.args.second (file_at ws files c.args.place) ≡ false)
    c.word.ensures c.deref.ensures.value c.in-Ok.ensures.content
    (subst (λ (told : Option Files). IfSome told (λ files. file_reads_first c.args.second (file_at ws files c.args.place) ≡ false → HasAllPut (on c.args.second ws p c.args.place c.obey_second.result (g.I.Source.left c.obey_second.new.input) files c.deref.result.now) (over_two (outcome c.args.second p) ws c.args.place files c.deref.result.now) c.obey_second.result (g.I.Source.left c.args.input.now) (g.O.Sink.held c.args.output.now) (g.O.Sink.held c.obey_second.new.output) (g.E.Sink.held c.args.errors.now) (g.E.Sink.held c.obey_second.new.errors))) c.in-Ok.ensures.told
    (subst (λ (e : Option (List ℕ)). IfSome (g.F.Images.named c.file_bytes.new.files) (λ files. file_reads_first c.args.second (file_at ws files c.args.place) ≡ false → HasAllPut (on c.args.second ws p c.args.place c.obey_second.result (g.I.Source.left c.obey_second.new.input) files c.deref.result.now) (over_two (outcome c.args.second p) ws c.args.place files c.deref.result.now) c.obey_second.result (g.I.Source.left c.args.input.now) (g.O.Sink.held c.args.output.now) (g.O.Sink.held c.obey_second.new.output) e (g.E.Sink.held c.obey_second.new.errors))) (ap g.E.Sink.held c.in-Ok.ensures.read_still) c.obey_second.ensures.whole))

pub returns-in-Err-clause-whole : goal.returns-in-Err-clause-whole
returns-in-Err-clause-whole g c =
    let ws = map string_bytes c.args.words.now in
    let p = c.args.program.now in
    unread_keeps (λ files. InBoth c.args.second ws p c.args.place files c.in-Err.ending (g.I.Source.left c.args.input.now)) (over_two (outcome c.args.second p) ws c.args.place) (g.F.Images.named c.args.files.now) ws p.file c.word.result.now c.in-Err.ending
    (g.I.Source.left c.args.input.now) (g.O.Sink.held c.args.output.now) (g.E.Sink.held c.args.errors.now) _ (λ files. file_reads_first c.args.second (file_at ws files c.args.place) ≡ false) c.word.ensures c.in-Err.ensures.unread
