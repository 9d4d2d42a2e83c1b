use Rattle.std.proofs.Common.{◌⊎◌, ℕ, List, map, string_bytes, refl, subst}
use Rattle.io_gate.specs.Images.{MissesNamed}
use Rattle.io_gate.specs.Streams.{Rose}
use Rattle.command_lines.specs.Outcome.{program_arguments}
use Rattle.command_lines.specs.declared.ending.Ending.{Ending}
use Rattle.emu_system.specs.Image.{elf}
use Rattle.tool_refusals.specs.Endings.{EndsImage, EndsOver}
use Rattle.tool_refusals.proofs.Endings.{behind_leaves, file_as, found_ends, unread_ends, unread_leaves}
use Rattle.tool_counts.proofs.Lines.{file_told}
use Rattle.tool_counts.proofs.command.count_file.Goals as goal

pub returns-in-Err-clause-done : goal.returns-in-Err-clause-done
returns-in-Err-clause-done g c = λ e. absurd (c.in-Err.ensures.undone e)

pub returns-in-Err-clause-ending : goal.returns-in-Err-clause-ending
returns-in-Err-clause-ending g c =
    unread_ends (g.F.Images.named c.args.files.now) (map string_bytes c.args.words.now) c.args.program.now.file c.word.result.now
    (λ (bytes : List ℕ) (ending : Ending). EndsImage (elf bytes c.args.program.now.pages) (EndsOver (g.I.Source.left c.args.input.now)) ending) c.in-Err.ending c.word.ensures c.in-Err.ensures.content

pub returns-in-Err-clause-leaves : goal.returns-in-Err-clause-leaves
returns-in-Err-clause-leaves g c =
    unread_leaves c.in-Err.ending refl refl
    (file_as c.in-Err.ending (λ f. subst (λ (n : List ℕ). Rose (g.F.Images.faults c.args.files.now) (g.F.Images.faults c.file_bytes.new.files) ⊎ MissesNamed (g.F.Images.named c.args.files.now) n) c.word.ensures f) c.in-Err.ensures.leaves)

pub returns-in-Ok-clause-done : goal.returns-in-Ok-clause-done
returns-in-Ok-clause-done g c = λ done.
    let p = c.args.program.now in
    let ws = map string_bytes c.args.words.now in
    file_told ws p.file (g.F.Images.named c.args.files.now) c.word.result.now c.deref.result.now c.in-Ok.bytes.items (program_arguments ws p.file p.args) p.budget p.pages p.lengths.items p.headed
    (g.I.Source.left c.args.input.now) (g.O.Sink.held c.args.output.now) (g.O.Sink.held c.count_bytes.new.output)
    c.word.ensures c.deref.ensures.value c.in-Ok.ensures.content (c.count_bytes.ensures.done done)

pub returns-in-Ok-clause-ending : goal.returns-in-Ok-clause-ending
returns-in-Ok-clause-ending g c =
    found_ends (g.F.Images.named c.args.files.now) (map string_bytes c.args.words.now) c.args.program.now.file c.word.result.now
    (λ (bytes : List ℕ) (ending : Ending). EndsImage (elf bytes c.args.program.now.pages) (EndsOver (g.I.Source.left c.args.input.now)) ending) c.count_bytes.result c.word.ensures
    c.deref.result.now c.in-Ok.bytes.items c.deref.ensures.value c.in-Ok.ensures.content c.count_bytes.ensures.ending

pub returns-in-Ok-clause-leaves : goal.returns-in-Ok-clause-leaves
returns-in-Ok-clause-leaves g c = behind_leaves g.E.Sink.faults c.args.errors.now c.file_bytes.new.errors c.count_bytes.new.errors c.count_bytes.result c.in-Ok.ensures.still c.count_bytes.ensures.leaves
