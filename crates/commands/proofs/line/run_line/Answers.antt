use Rattle.std.proofs.Common.{◌≡◌, ◌⊎◌, IfSome, Ok, map, string_bytes, refl, sym, subst, ap, ◌∙◌, false, true}
use Rattle.io_gate.specs.Streams.{Rose}
use Rattle.command_model.specs.declared.command_line.Line.{Line}
use Rattle.command_model.specs.declared.command_line.Line.TheVariants.{Asm, Dis}
use Rattle.command_lines.specs.Outcome.{most_pages, outcome_of_image, outcome_of_listing, outcome_of_swept, outcome_of_words, program_arguments}
use Rattle.command_lines.specs.declared.ending.Ending.TheVariants.{FileFault}
use Rattle.emu_system.specs.Image.{elf}
use Rattle.asm_text.specs.Statements.{statements}
use Rattle.listing_model.specs.Image.{image_of_bytes}
use Rattle.commands.specs.Promises.{NamesNoFile}
use Rattle.commands.specs.Meets.{now, MeetsLine}
use Rattle.commands.specs.declared.program.Program.{Program}
use Rattle.commands.specs.Programs.{outcome_over, debug_line_of, run_line_of, sweep_line_of, threads_line_of}
use Rattle.commands.proofs.Lines.{cause_of_line, missing_of_line, names_none}
use Rattle.commands.specs.Lines.{may_end, names_file, sweeps, takes_input, EndsMissing, MissesFirst, ReadsInputFirst, TakesNothingEarly, reads_input_first}
use Rattle.commands.proofs.NamedFiles.{told_so}
use Rattle.std.proofs.lemmas.Option.{IfSome_then}
use Rattle.commands.specs.Whole.{InLine, HasAllPut}
use Rattle.commands.proofs.line.run_line.Goals as goal

pub returns-in-Run-clause-file_cause : goal.returns-in-Run-clause-file_cause
returns-in-Run-clause-file_cause g c =
    let ws = map string_bytes c.args.words.now in
    let p = c.new-program.result in
    cause_of_line ws (g.F.Images.named c.args.files.now) c.args.line.now (run_line_of p) p.file (λ files bytes i. outcome_of_image bytes (program_arguments ws p.file p.args) i p.length p.budget p.pages (elf bytes p.pages)) c.run_file.result
    (c.in-Run.is ∙ sym (ap run_line_of c.new-program.ensures)) refl _ _ c.run_file.ensures.file_cause

pub returns-in-Run-clause-missing : goal.returns-in-Run-clause-missing
returns-in-Run-clause-missing g c =
    let ws = map string_bytes c.args.words.now in
    let p = c.new-program.result in
    missing_of_line ws (g.F.Images.named c.args.files.now) c.args.line.now (run_line_of p) p.file (λ files bytes i. outcome_of_image bytes (program_arguments ws p.file p.args) i p.length p.budget p.pages (elf bytes p.pages)) c.run_file.result
    (c.in-Run.is ∙ sym (ap run_line_of c.new-program.ensures)) refl c.run_file.ensures.missing (λ fault. fault)

pub returns-in-Asm-clause-outcome : goal.returns-in-Asm-clause-outcome
returns-in-Asm-clause-outcome g c =
    let ws = map string_bytes c.args.words.now in
    subst (λ (l : Line). IfSome (g.F.Images.named c.args.files.now) (λ files. MeetsLine ws files (Ok l) (outcome_over ws l files) c.assemble_file.result
    (now (g.I.Source.left c.args.input.now) (g.O.Sink.held c.args.output.now) (g.E.Sink.held c.args.errors.now)) (now (g.I.Source.left c.args.input.now) (g.O.Sink.held c.assemble_file.new.output) (g.E.Sink.held c.assemble_file.new.errors))))
    (sym c.in-Asm.is) (c.assemble_file.ensures.outcome (g.I.Source.left c.args.input.now))

pub returns-in-Asm-clause-without_input : goal.returns-in-Asm-clause-without_input
returns-in-Asm-clause-without_input g c = λ _ input.
    subst (λ (l : Line). IfSome (g.F.Images.named c.args.files.now) (λ files. MeetsLine (map string_bytes c.args.words.now) files (Ok l) (outcome_over (map string_bytes c.args.words.now) l files) c.assemble_file.result
    (now input (g.O.Sink.held c.args.output.now) (g.E.Sink.held c.args.errors.now)) (now input (g.O.Sink.held c.assemble_file.new.output) (g.E.Sink.held c.assemble_file.new.errors))))
    (sym c.in-Asm.is) (c.assemble_file.ensures.outcome input)

pub returns-in-Asm-clause-file_cause : goal.returns-in-Asm-clause-file_cause
returns-in-Asm-clause-file_cause g c =
    let ws = map string_bytes c.args.words.now in
    cause_of_line ws (g.F.Images.named c.args.files.now) c.args.line.now (Asm c.in-Asm.listing) c.in-Asm.listing (λ files bytes i. outcome_of_listing (image_of_bytes statements bytes)) c.assemble_file.result c.in-Asm.is refl _ _ c.assemble_file.ensures.file_cause

pub returns-in-Asm-clause-missing : goal.returns-in-Asm-clause-missing
returns-in-Asm-clause-missing g c =
    let ws = map string_bytes c.args.words.now in
    missing_of_line ws (g.F.Images.named c.args.files.now) c.args.line.now (Asm c.in-Asm.listing) c.in-Asm.listing (λ files bytes i. outcome_of_listing (image_of_bytes statements bytes)) c.assemble_file.result c.in-Asm.is refl c.assemble_file.ensures.missing (λ fault. fault)

pub returns-in-Dis-clause-outcome : goal.returns-in-Dis-clause-outcome
returns-in-Dis-clause-outcome g c =
    let ws = map string_bytes c.args.words.now in
    subst (λ (l : Line). IfSome (g.F.Images.named c.args.files.now) (λ files. MeetsLine ws files (Ok l) (outcome_over ws l files) c.disassemble_file.result
    (now (g.I.Source.left c.args.input.now) (g.O.Sink.held c.args.output.now) (g.E.Sink.held c.args.errors.now)) (now (g.I.Source.left c.args.input.now) (g.O.Sink.held c.disassemble_file.new.output) (g.E.Sink.held c.disassemble_file.new.errors))))
    (sym c.in-Dis.is) (c.disassemble_file.ensures.outcome (g.I.Source.left c.args.input.now))

pub returns-in-Dis-clause-without_input : goal.returns-in-Dis-clause-without_input
returns-in-Dis-clause-without_input g c = λ _ input.
    subst (λ (l : Line). IfSome (g.F.Images.named c.args.files.now) (λ files. MeetsLine (map string_bytes c.args.words.now) files (Ok l) (outcome_over (map string_bytes c.args.words.now) l files) c.disassemble_file.result
    (now input (g.O.Sink.held c.args.output.now) (g.E.Sink.held c.args.errors.now)) (now input (g.O.Sink.held c.disassemble_file.new.output) (g.E.Sink.held c.disassemble_file.new.errors))))
    (sym c.in-Dis.is) (c.disassemble_file.ensures.outcome input)

pub returns-in-Dis-clause-file_cause : goal.returns-in-Dis-clause-file_cause
returns-in-Dis-clause-file_cause g c =
    let ws = map string_bytes c.args.words.now in
    cause_of_line ws (g.F.Images.named c.args.files.now) c.args.line.now (Dis c.in-Dis.file) c.in-Dis.file (λ files bytes i. outcome_of_words bytes (elf bytes most_pages)) c.disassemble_file.result c.in-Dis.is refl _ _ c.disassemble_file.ensures.file_cause

pub returns-in-Dis-clause-missing : goal.returns-in-Dis-clause-missing
returns-in-Dis-clause-missing g c =
    let ws = map string_bytes c.args.words.now in
    missing_of_line ws (g.F.Images.named c.args.files.now) c.args.line.now (Dis c.in-Dis.file) c.in-Dis.file (λ files bytes i. outcome_of_words bytes (elf bytes most_pages)) c.disassemble_file.result c.in-Dis.is refl c.disassemble_file.ensures.missing (λ fault. fault)

pub returns-in-Run-clause-kind : goal.returns-in-Run-clause-kind
returns-in-Run-clause-kind g c = subst (λ (l : Line). may_end l c.run_file.result ≡ true) (sym c.in-Run.is) c.run_file.ensures.kind

pub returns-in-Asm-clause-kind : goal.returns-in-Asm-clause-kind
returns-in-Asm-clause-kind g c = subst (λ (l : Line). may_end l c.assemble_file.result ≡ true) (sym c.in-Asm.is) c.assemble_file.ensures.kind

pub returns-in-Dis-clause-kind : goal.returns-in-Dis-clause-kind
returns-in-Dis-clause-kind g c = subst (λ (l : Line). may_end l c.disassemble_file.result ≡ true) (sym c.in-Dis.is) c.disassemble_file.ensures.kind

pub returns-in-Dbg-clause-file_cause : goal.returns-in-Dbg-clause-file_cause
returns-in-Dbg-clause-file_cause g c =
    subst (λ (l : Line). c.obey_files.result ≡ FileFault → Rose (g.F.Images.faults c.args.files.now) (g.F.Images.faults c.obey_files.new.files) ⊎ NamesNoFile (outcome_over (map string_bytes c.args.words.now) l) (g.F.Images.named c.args.files.now))
    (ap (λ (p : Program). debug_line_of p c.in-Dbg.script) c.new-debugged.ensures ∙ sym c.in-Dbg.is) c.obey_files.ensures.file_cause

pub returns-in-Dbg-clause-missing : goal.returns-in-Dbg-clause-missing
returns-in-Dbg-clause-missing g c =
    subst (λ (l : Line). NamesNoFile (outcome_over (map string_bytes c.args.words.now) l) (g.F.Images.named c.args.files.now) → EndsMissing (Ok l) c.obey_files.result)
    (ap (λ (p : Program). debug_line_of p c.in-Dbg.script) c.new-debugged.ensures ∙ sym c.in-Dbg.is) c.obey_files.ensures.missing

pub returns-in-Dbg-clause-missing_first : goal.returns-in-Dbg-clause-missing_first
returns-in-Dbg-clause-missing_first g c =
    subst (λ (l : Line). MissesFirst (map string_bytes c.args.words.now) (Ok l) (g.F.Images.named c.args.files.now) → c.obey_files.result ≡ FileFault)
    (ap (λ (p : Program). debug_line_of p c.in-Dbg.script) c.new-debugged.ensures ∙ sym c.in-Dbg.is) c.obey_files.ensures.missing_first

pub returns-in-Run-clause-missing_first : goal.returns-in-Run-clause-missing_first
returns-in-Run-clause-missing_first g c =
    subst (λ (l : Line). MissesFirst (map string_bytes c.args.words.now) (Ok l) (g.F.Images.named c.args.files.now) → c.run_file.result ≡ FileFault)
    (ap run_line_of c.new-program.ensures ∙ sym c.in-Run.is) c.run_file.ensures.missing

pub returns-in-Sweep-clause-missing_first : goal.returns-in-Sweep-clause-missing_first
returns-in-Sweep-clause-missing_first g c =
    subst (λ (l : Line). MissesFirst (map string_bytes c.args.words.now) (Ok l) (g.F.Images.named c.args.files.now) → c.sweep_file.result ≡ FileFault)
    (ap sweep_line_of c.new-swept.ensures ∙ sym c.in-Sweep.is) c.sweep_file.ensures.missing

pub returns-in-Dbg-clause-kind : goal.returns-in-Dbg-clause-kind
returns-in-Dbg-clause-kind g c = subst (λ (l : Line). may_end l c.obey_files.result ≡ true) (sym c.in-Dbg.is) c.obey_files.ensures.kind

pub returns-in-Run-clause-outcome : goal.returns-in-Run-clause-outcome
returns-in-Run-clause-outcome g c =
    subst (λ (l : Line). IfSome (g.F.Images.named c.args.files.now) (λ files. MeetsLine (map string_bytes c.args.words.now) files (Ok l) (outcome_over (map string_bytes c.args.words.now) l files) c.run_file.result
    (now (g.I.Source.left c.args.input.now) (g.O.Sink.held c.args.output.now) (g.E.Sink.held c.args.errors.now)) (now (g.I.Source.left c.run_file.new.input) (g.O.Sink.held c.run_file.new.output) (g.E.Sink.held c.run_file.new.errors))))
    (ap run_line_of c.new-program.ensures ∙ sym c.in-Run.is) c.run_file.ensures.outcome

pub returns-in-Dbg-clause-outcome : goal.returns-in-Dbg-clause-outcome
returns-in-Dbg-clause-outcome g c =
    subst (λ (l : Line). IfSome (g.F.Images.named c.args.files.now) (λ files. MeetsLine (map string_bytes c.args.words.now) files (Ok l) (outcome_over (map string_bytes c.args.words.now) l files) c.obey_files.result
    (now (g.I.Source.left c.args.input.now) (g.O.Sink.held c.args.output.now) (g.E.Sink.held c.args.errors.now)) (now (g.I.Source.left c.obey_files.new.input) (g.O.Sink.held c.obey_files.new.output) (g.E.Sink.held c.obey_files.new.errors))))
    (ap (λ (p : Program). debug_line_of p c.in-Dbg.script) c.new-debugged.ensures ∙ sym c.in-Dbg.is) c.obey_files.ensures.outcome

pub returns-in-Sweep-clause-outcome : goal.returns-in-Sweep-clause-outcome
returns-in-Sweep-clause-outcome g c =
    subst (λ (l : Line). IfSome (g.F.Images.named c.args.files.now) (λ files. MeetsLine (map string_bytes c.args.words.now) files (Ok l) (outcome_over (map string_bytes c.args.words.now) l files) c.sweep_file.result
    (now (g.I.Source.left c.args.input.now) (g.O.Sink.held c.args.output.now) (g.E.Sink.held c.args.errors.now)) (now (g.I.Source.left c.sweep_file.new.input) (g.O.Sink.held c.sweep_file.new.output) (g.E.Sink.held c.sweep_file.new.errors))))
    (ap sweep_line_of c.new-swept.ensures ∙ sym c.in-Sweep.is) c.sweep_file.ensures.outcome

-- ---- a load program

pub returns-in-Load-clause-outcome : goal.returns-in-Load-clause-outcome
returns-in-Load-clause-outcome g c =
    let ws = map string_bytes c.args.words.now in
    subst (λ (l : Line). IfSome (g.F.Images.named c.args.files.now) (λ files. MeetsLine ws files (Ok l) (outcome_over ws l files) c.load_number.result
    (now (g.I.Source.left c.args.input.now) (g.O.Sink.held c.args.output.now) (g.E.Sink.held c.args.errors.now)) (now (g.I.Source.left c.args.input.now) (g.O.Sink.held c.load_number.new.output) (g.E.Sink.held c.load_number.new.errors))))
    (sym c.in-Load.is) (told_so (g.F.Images.named c.args.files.now) _ (λ files. c.load_number.ensures.outcome (g.I.Source.left c.args.input.now)))

pub returns-in-Load-clause-without_input : goal.returns-in-Load-clause-without_input
returns-in-Load-clause-without_input g c = λ _ input.
    subst (λ (l : Line). IfSome (g.F.Images.named c.args.files.now) (λ files. MeetsLine (map string_bytes c.args.words.now) files (Ok l) (outcome_over (map string_bytes c.args.words.now) l files) c.load_number.result
    (now input (g.O.Sink.held c.args.output.now) (g.E.Sink.held c.args.errors.now)) (now input (g.O.Sink.held c.load_number.new.output) (g.E.Sink.held c.load_number.new.errors))))
    (sym c.in-Load.is) (told_so (g.F.Images.named c.args.files.now) _ (λ files. c.load_number.ensures.outcome input))

pub returns-in-Load-clause-file_cause : goal.returns-in-Load-clause-file_cause
returns-in-Load-clause-file_cause g c = λ fault. absurd (c.load_number.ensures.no_file fault)

pub returns-in-Load-clause-missing : goal.returns-in-Load-clause-missing
returns-in-Load-clause-missing g c = λ names. absurd (names_none (map string_bytes c.args.words.now) (g.F.Images.named c.args.files.now) c.args.line.now c.in-Load.number c.in-Load.is names)

pub returns-in-Load-clause-kind : goal.returns-in-Load-clause-kind
returns-in-Load-clause-kind g c = subst (λ (l : Line). may_end l c.load_number.result ≡ true) (sym c.in-Load.is) c.load_number.ensures.kind

-- ---- a sweep

pub returns-in-Sweep-clause-file_cause : goal.returns-in-Sweep-clause-file_cause
returns-in-Sweep-clause-file_cause g c =
    let ws = map string_bytes c.args.words.now in
    let p = c.new-swept.result in
    cause_of_line ws (g.F.Images.named c.args.files.now) c.args.line.now (sweep_line_of p) p.file (λ files bytes i. outcome_of_swept bytes (program_arguments ws p.file p.args) i p.budget p.pages (elf bytes p.pages)) c.sweep_file.result
    (c.in-Sweep.is ∙ sym (ap sweep_line_of c.new-swept.ensures)) refl _ _ c.sweep_file.ensures.file_cause

pub returns-in-Sweep-clause-missing : goal.returns-in-Sweep-clause-missing
returns-in-Sweep-clause-missing g c =
    let ws = map string_bytes c.args.words.now in
    let p = c.new-swept.result in
    missing_of_line ws (g.F.Images.named c.args.files.now) c.args.line.now (sweep_line_of p) p.file (λ files bytes i. outcome_of_swept bytes (program_arguments ws p.file p.args) i p.budget p.pages (elf bytes p.pages)) c.sweep_file.result
    (c.in-Sweep.is ∙ sym (ap sweep_line_of c.new-swept.ensures)) refl c.sweep_file.ensures.missing (λ fault. fault)

pub returns-in-Sweep-clause-kind : goal.returns-in-Sweep-clause-kind
returns-in-Sweep-clause-kind g c = subst (λ (l : Line). may_end l c.sweep_file.result ≡ true) (sym c.in-Sweep.is) c.sweep_file.ensures.kind

pub returns-in-Sweep-clause-memory_first : goal.returns-in-Sweep-clause-memory_first
returns-in-Sweep-clause-memory_first g c = λ last. absurd (subst (λ (l : Line). TakesNothingEarly (map string_bytes c.args.words.now) (Ok l) (g.F.Images.named c.args.files.now)) c.in-Sweep.is last)

pub returns-in-Sweep-clause-memory_unwritten : goal.returns-in-Sweep-clause-memory_unwritten
returns-in-Sweep-clause-memory_unwritten g c = λ other. absurd (let t : true ≡ false = sym (ap (λ (l : Line). sweeps (Ok l)) c.in-Sweep.is) ∙ other in cc)

pub returns-in-Dbg-clause-memory_first : goal.returns-in-Dbg-clause-memory_first
returns-in-Dbg-clause-memory_first g c = λ last.
    c.obey_files.ensures.memory_first (subst (λ (l : Line). TakesNothingEarly (map string_bytes c.args.words.now) (Ok l) (g.F.Images.named c.args.files.now)) c.in-Dbg.is last)

-- ---- a run of contexts

pub returns-in-Threads-clause-outcome : goal.returns-in-Threads-clause-outcome
returns-in-Threads-clause-outcome g c =
    subst (λ (l : Line). IfSome (g.F.Images.named c.args.files.now) (λ files. MeetsLine (map string_bytes c.args.words.now) files (Ok l) (outcome_over (map string_bytes c.args.words.now) l files) c.obey_files-in-Threads.result
    (now (g.I.Source.left c.args.input.now) (g.O.Sink.held c.args.output.now) (g.E.Sink.held c.args.errors.now)) (now (g.I.Source.left c.obey_files-in-Threads.new.input) (g.O.Sink.held c.obey_files-in-Threads.new.output) (g.E.Sink.held c.obey_files-in-Threads.new.errors))))
    (ap (λ (p : Program). threads_line_of p c.in-Threads.schedule) c.new-threaded.ensures ∙ sym c.in-Threads.is) c.obey_files-in-Threads.ensures.outcome

pub returns-in-Threads-clause-file_cause : goal.returns-in-Threads-clause-file_cause
returns-in-Threads-clause-file_cause g c =
    subst (λ (l : Line). c.obey_files-in-Threads.result ≡ FileFault → Rose (g.F.Images.faults c.args.files.now) (g.F.Images.faults c.obey_files-in-Threads.new.files) ⊎ NamesNoFile (outcome_over (map string_bytes c.args.words.now) l) (g.F.Images.named c.args.files.now))
    (ap (λ (p : Program). threads_line_of p c.in-Threads.schedule) c.new-threaded.ensures ∙ sym c.in-Threads.is) c.obey_files-in-Threads.ensures.file_cause

pub returns-in-Threads-clause-missing : goal.returns-in-Threads-clause-missing
returns-in-Threads-clause-missing g c =
    subst (λ (l : Line). NamesNoFile (outcome_over (map string_bytes c.args.words.now) l) (g.F.Images.named c.args.files.now) → EndsMissing (Ok l) c.obey_files-in-Threads.result)
    (ap (λ (p : Program). threads_line_of p c.in-Threads.schedule) c.new-threaded.ensures ∙ sym c.in-Threads.is) c.obey_files-in-Threads.ensures.missing

pub returns-in-Threads-clause-missing_first : goal.returns-in-Threads-clause-missing_first
returns-in-Threads-clause-missing_first g c =
    subst (λ (l : Line). MissesFirst (map string_bytes c.args.words.now) (Ok l) (g.F.Images.named c.args.files.now) → c.obey_files-in-Threads.result ≡ FileFault)
    (ap (λ (p : Program). threads_line_of p c.in-Threads.schedule) c.new-threaded.ensures ∙ sym c.in-Threads.is) c.obey_files-in-Threads.ensures.missing_first

pub returns-in-Threads-clause-kind : goal.returns-in-Threads-clause-kind
returns-in-Threads-clause-kind g c = subst (λ (l : Line). may_end l c.obey_files-in-Threads.result ≡ true) (sym c.in-Threads.is) c.obey_files-in-Threads.ensures.kind

pub returns-in-Run-clause-without_input : goal.returns-in-Run-clause-without_input
returns-in-Run-clause-without_input g c = λ other. absurd (let t : true ≡ false = sym (ap (λ (l : Line). takes_input (Ok l)) c.in-Run.is) ∙ other in cc)

pub returns-in-Run-clause-no_input : goal.returns-in-Run-clause-no_input
returns-in-Run-clause-no_input g c = λ other. absurd (let t : true ≡ false = sym (ap (λ (l : Line). takes_input (Ok l)) c.in-Run.is) ∙ other in cc)

pub returns-in-Run-clause-no_errors : goal.returns-in-Run-clause-no_errors
returns-in-Run-clause-no_errors g c = λ other. absurd (let t : true ≡ false = sym (ap (λ (l : Line). takes_input (Ok l)) c.in-Run.is) ∙ other in cc)

pub returns-in-Run-clause-no_file : goal.returns-in-Run-clause-no_file
returns-in-Run-clause-no_file g c = λ other. absurd (let t : true ≡ false = sym (ap (λ (l : Line). names_file (Ok l)) c.in-Run.is) ∙ other in cc)

pub returns-in-Dbg-clause-without_input : goal.returns-in-Dbg-clause-without_input
returns-in-Dbg-clause-without_input g c = λ other. absurd (let t : true ≡ false = sym (ap (λ (l : Line). takes_input (Ok l)) c.in-Dbg.is) ∙ other in cc)

pub returns-in-Dbg-clause-no_input : goal.returns-in-Dbg-clause-no_input
returns-in-Dbg-clause-no_input g c = λ other. absurd (let t : true ≡ false = sym (ap (λ (l : Line). takes_input (Ok l)) c.in-Dbg.is) ∙ other in cc)

pub returns-in-Dbg-clause-no_errors : goal.returns-in-Dbg-clause-no_errors
returns-in-Dbg-clause-no_errors g c = λ other. absurd (let t : true ≡ false = sym (ap (λ (l : Line). takes_input (Ok l)) c.in-Dbg.is) ∙ other in cc)

pub returns-in-Dbg-clause-no_file : goal.returns-in-Dbg-clause-no_file
returns-in-Dbg-clause-no_file g c = λ other. absurd (let t : true ≡ false = sym (ap (λ (l : Line). names_file (Ok l)) c.in-Dbg.is) ∙ other in cc)

pub returns-in-Sweep-clause-without_input : goal.returns-in-Sweep-clause-without_input
returns-in-Sweep-clause-without_input g c = λ other. absurd (let t : true ≡ false = sym (ap (λ (l : Line). takes_input (Ok l)) c.in-Sweep.is) ∙ other in cc)

pub returns-in-Sweep-clause-no_input : goal.returns-in-Sweep-clause-no_input
returns-in-Sweep-clause-no_input g c = λ other. absurd (let t : true ≡ false = sym (ap (λ (l : Line). takes_input (Ok l)) c.in-Sweep.is) ∙ other in cc)

pub returns-in-Sweep-clause-no_errors : goal.returns-in-Sweep-clause-no_errors
returns-in-Sweep-clause-no_errors g c = λ other. absurd (let t : true ≡ false = sym (ap (λ (l : Line). takes_input (Ok l)) c.in-Sweep.is) ∙ other in cc)

pub returns-in-Sweep-clause-no_file : goal.returns-in-Sweep-clause-no_file
returns-in-Sweep-clause-no_file g c = λ other. absurd (let t : true ≡ false = sym (ap (λ (l : Line). names_file (Ok l)) c.in-Sweep.is) ∙ other in cc)

pub returns-in-Threads-clause-without_input : goal.returns-in-Threads-clause-without_input
returns-in-Threads-clause-without_input g c = λ other. absurd (let t : true ≡ false = sym (ap (λ (l : Line). takes_input (Ok l)) c.in-Threads.is) ∙ other in cc)

pub returns-in-Threads-clause-no_input : goal.returns-in-Threads-clause-no_input
returns-in-Threads-clause-no_input g c = λ other. absurd (let t : true ≡ false = sym (ap (λ (l : Line). takes_input (Ok l)) c.in-Threads.is) ∙ other in cc)

pub returns-in-Threads-clause-no_errors : goal.returns-in-Threads-clause-no_errors
returns-in-Threads-clause-no_errors g c = λ other. absurd (let t : true ≡ false = sym (ap (λ (l : Line). takes_input (Ok l)) c.in-Threads.is) ∙ other in cc)

pub returns-in-Threads-clause-no_file : goal.returns-in-Threads-clause-no_file
returns-in-Threads-clause-no_file g c = λ other. absurd (let t : true ≡ false = sym (ap (λ (l : Line). names_file (Ok l)) c.in-Threads.is) ∙ other in cc)

pub returns-in-Asm-clause-no_file : goal.returns-in-Asm-clause-no_file
returns-in-Asm-clause-no_file g c = λ other. absurd (let t : true ≡ false = sym (ap (λ (l : Line). names_file (Ok l)) c.in-Asm.is) ∙ other in cc)

pub returns-in-Dis-clause-no_file : goal.returns-in-Dis-clause-no_file
returns-in-Dis-clause-no_file g c = λ other. absurd (let t : true ≡ false = sym (ap (λ (l : Line). names_file (Ok l)) c.in-Dis.is) ∙ other in cc)

pub returns-in-Run-clause-read_unwritten : goal.returns-in-Run-clause-read_unwritten
returns-in-Run-clause-read_unwritten g c = λ first. absurd (subst (λ (l : Line). ReadsInputFirst (map string_bytes c.args.words.now) (Ok l) (g.F.Images.named c.args.files.now)) c.in-Run.is first)

pub returns-in-Asm-clause-read_unwritten : goal.returns-in-Asm-clause-read_unwritten
returns-in-Asm-clause-read_unwritten g c = λ first. absurd (subst (λ (l : Line). ReadsInputFirst (map string_bytes c.args.words.now) (Ok l) (g.F.Images.named c.args.files.now)) c.in-Asm.is first)

pub returns-in-Dis-clause-read_unwritten : goal.returns-in-Dis-clause-read_unwritten
returns-in-Dis-clause-read_unwritten g c = λ first. absurd (subst (λ (l : Line). ReadsInputFirst (map string_bytes c.args.words.now) (Ok l) (g.F.Images.named c.args.files.now)) c.in-Dis.is first)

pub returns-in-Load-clause-read_unwritten : goal.returns-in-Load-clause-read_unwritten
returns-in-Load-clause-read_unwritten g c = λ first. absurd (subst (λ (l : Line). ReadsInputFirst (map string_bytes c.args.words.now) (Ok l) (g.F.Images.named c.args.files.now)) c.in-Load.is first)

pub returns-in-Threads-clause-read_unwritten : goal.returns-in-Threads-clause-read_unwritten
returns-in-Threads-clause-read_unwritten g c = λ first. absurd (subst (λ (l : Line). ReadsInputFirst (map string_bytes c.args.words.now) (Ok l) (g.F.Images.named c.args.files.now)) c.in-Threads.is first)

pub returns-in-Dbg-clause-read_unwritten : goal.returns-in-Dbg-clause-read_unwritten
returns-in-Dbg-clause-read_unwritten g c = λ first.
    c.obey_files.ensures.read_unwritten (subst (λ (l : Line). ReadsInputFirst (map string_bytes c.args.words.now) (Ok l) (g.F.Images.named c.args.files.now)) c.in-Dbg.is first)

pub returns-in-Sweep-clause-read_unwritten : goal.returns-in-Sweep-clause-read_unwritten
returns-in-Sweep-clause-read_unwritten g c = λ _. c.sweep_file.ensures.read_unwritten

-- ---- what the sinks keep

pub returns-in-Run-clause-whole : goal.returns-in-Run-clause-whole
returns-in-Run-clause-whole g c =
    subst (λ (l : Line). IfSome (g.F.Images.named c.args.files.now) (λ files. takes_input (Ok l) ≡ true → reads_input_first (map string_bytes c.args.words.now) files (Ok l) ≡ false → HasAllPut (InLine (map string_bytes c.args.words.now) files (Ok l) c.run_file.result (g.I.Source.left c.run_file.new.input)) (outcome_over (map string_bytes c.args.words.now) l files) c.run_file.result (g.I.Source.left c.args.input.now) (g.O.Sink.held c.args.output.now) (g.O.Sink.held c.run_file.new.output) (g.E.Sink.held c.args.errors.now) (g.E.Sink.held c.run_file.new.errors)))
    (ap run_line_of c.new-program.ensures ∙ sym c.in-Run.is) (IfSome_then (g.F.Images.named c.args.files.now) c.run_file.ensures.whole (λ files k _ _. k))

pub returns-in-Dbg-clause-whole : goal.returns-in-Dbg-clause-whole
returns-in-Dbg-clause-whole g c =
    subst (λ (l : Line). IfSome (g.F.Images.named c.args.files.now) (λ files. takes_input (Ok l) ≡ true → reads_input_first (map string_bytes c.args.words.now) files (Ok l) ≡ false → HasAllPut (InLine (map string_bytes c.args.words.now) files (Ok l) c.obey_files.result (g.I.Source.left c.obey_files.new.input)) (outcome_over (map string_bytes c.args.words.now) l files) c.obey_files.result (g.I.Source.left c.args.input.now) (g.O.Sink.held c.args.output.now) (g.O.Sink.held c.obey_files.new.output) (g.E.Sink.held c.args.errors.now) (g.E.Sink.held c.obey_files.new.errors)))
    (ap (λ (p : Program). debug_line_of p c.in-Dbg.script) c.new-debugged.ensures ∙ sym c.in-Dbg.is) (IfSome_then (g.F.Images.named c.args.files.now) c.obey_files.ensures.whole (λ files k _ later. k later))

pub returns-in-Threads-clause-whole : goal.returns-in-Threads-clause-whole
returns-in-Threads-clause-whole g c =
    subst (λ (l : Line). IfSome (g.F.Images.named c.args.files.now) (λ files. takes_input (Ok l) ≡ true → reads_input_first (map string_bytes c.args.words.now) files (Ok l) ≡ false → HasAllPut (InLine (map string_bytes c.args.words.now) files (Ok l) c.obey_files-in-Threads.result (g.I.Source.left c.obey_files-in-Threads.new.input)) (outcome_over (map string_bytes c.args.words.now) l files) c.obey_files-in-Threads.result (g.I.Source.left c.args.input.now) (g.O.Sink.held c.args.output.now) (g.O.Sink.held c.obey_files-in-Threads.new.output) (g.E.Sink.held c.args.errors.now) (g.E.Sink.held c.obey_files-in-Threads.new.errors)))
    (ap (λ (p : Program). threads_line_of p c.in-Threads.schedule) c.new-threaded.ensures ∙ sym c.in-Threads.is) (IfSome_then (g.F.Images.named c.args.files.now) c.obey_files-in-Threads.ensures.whole (λ files k _ later. k later))

pub returns-in-Sweep-clause-whole : goal.returns-in-Sweep-clause-whole
returns-in-Sweep-clause-whole g c =
    told_so (g.F.Images.named c.args.files.now) _ (λ files _ later. absurd (let t : true ≡ false = sym (ap (λ (l : Line). reads_input_first (map string_bytes c.args.words.now) files (Ok l)) c.in-Sweep.is) ∙ later in cc))

pub returns-in-Asm-clause-whole : goal.returns-in-Asm-clause-whole
returns-in-Asm-clause-whole g c =
    told_so (g.F.Images.named c.args.files.now) _ (λ files takes. absurd (let t : false ≡ true = sym (ap (λ (l : Line). takes_input (Ok l)) c.in-Asm.is) ∙ takes in cc))

pub returns-in-Dis-clause-whole : goal.returns-in-Dis-clause-whole
returns-in-Dis-clause-whole g c =
    told_so (g.F.Images.named c.args.files.now) _ (λ files takes. absurd (let t : false ≡ true = sym (ap (λ (l : Line). takes_input (Ok l)) c.in-Dis.is) ∙ takes in cc))

pub returns-in-Load-clause-whole : goal.returns-in-Load-clause-whole
returns-in-Load-clause-whole g c =
    told_so (g.F.Images.named c.args.files.now) _ (λ files takes. absurd (let t : false ≡ true = sym (ap (λ (l : Line). takes_input (Ok l)) c.in-Load.is) ∙ takes in cc))
