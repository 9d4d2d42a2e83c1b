use Rattle.std.proofs.Common.{◌≡◌, Some, map, string_bytes, sym, subst, true, false, ap, ◌∙◌}
use Rattle.elf_image.specs.Images.{seen_image}
use Rattle.commands.specs.declared.two_files.SecondFile.{SecondFile}
use Rattle.commands.specs.Programs.{opening_of}
use Rattle.commands.specs.Promises.{settles_by}
use Rattle.commands.specs.Meets.{now, MeetsBy}
use Rattle.commands.specs.SecondFiles.{ends_by, outcome_from, text_reads_first}
use Rattle.commands.specs.Whole.{HasAllPut}
use Rattle.commands.specs.Passing.{InSecond}
use Rattle.commands.proofs.two_files.obey_text.Goals as goal

pub returns-in-Script-clause-outcome : goal.returns-in-Script-clause-outcome
returns-in-Script-clause-outcome g c =
    subst (λ (s : SecondFile). MeetsBy (settles_by (text_reads_first s c.args.text.now)) (λ i. Some (outcome_from s c.args.text.now i c.args.program.now.budget (opening_of c.args.bytes.now (seen_image c.args.image.now) (map string_bytes c.args.words.now) c.args.program.now))) c.debug_image.result
    (now (g.I.Source.left c.args.input.now) (g.O.Sink.held c.args.output.now) (g.E.Sink.held c.args.errors.now)) (now (g.I.Source.left c.debug_image.new.input) (g.O.Sink.held c.debug_image.new.output) (g.E.Sink.held c.debug_image.new.errors)))
    (sym c.in-Script.is) c.debug_image.ensures.outcome

pub returns-in-Schedule-clause-outcome : goal.returns-in-Schedule-clause-outcome
returns-in-Schedule-clause-outcome g c =
    subst (λ (s : SecondFile). MeetsBy (settles_by (text_reads_first s c.args.text.now)) (λ i. Some (outcome_from s c.args.text.now i c.args.program.now.budget (opening_of c.args.bytes.now (seen_image c.args.image.now) (map string_bytes c.args.words.now) c.args.program.now))) c.thread_image.result
    (now (g.I.Source.left c.args.input.now) (g.O.Sink.held c.args.output.now) (g.E.Sink.held c.args.errors.now)) (now (g.I.Source.left c.thread_image.new.input) (g.O.Sink.held c.thread_image.new.output) (g.E.Sink.held c.thread_image.new.errors)))
    (sym c.in-Schedule.is) c.thread_image.ensures.outcome

pub returns-in-Script-clause-kind : goal.returns-in-Script-clause-kind
returns-in-Script-clause-kind g c = subst (λ (s : SecondFile). ends_by s c.debug_image.result ≡ true) (sym c.in-Script.is) c.debug_image.ensures.kind

pub returns-in-Schedule-clause-kind : goal.returns-in-Schedule-clause-kind
returns-in-Schedule-clause-kind g c = subst (λ (s : SecondFile). ends_by s c.thread_image.result ≡ true) (sym c.in-Schedule.is) c.thread_image.ensures.kind

pub returns-in-Script-clause-memory_first : goal.returns-in-Script-clause-memory_first
returns-in-Script-clause-memory_first g c = λ later. c.debug_image.ensures.memory_first (sym (ap (λ (s : SecondFile). text_reads_first s c.args.text.now) c.in-Script.is) ∙ later)

pub returns-in-Script-clause-read_unwritten : goal.returns-in-Script-clause-read_unwritten
returns-in-Script-clause-read_unwritten g c = λ first. c.debug_image.ensures.read_unwritten (sym (ap (λ (s : SecondFile). text_reads_first s c.args.text.now) c.in-Script.is) ∙ first)

pub returns-in-Schedule-clause-read_unwritten : goal.returns-in-Schedule-clause-read_unwritten
returns-in-Schedule-clause-read_unwritten g c = λ first. absurd (let t : false ≡ true = sym (ap (λ (s : SecondFile). text_reads_first s c.args.text.now) c.in-Schedule.is) ∙ first in cc)

pub returns-in-Script-clause-whole : goal.returns-in-Script-clause-whole
returns-in-Script-clause-whole g c =
    subst (λ (s : SecondFile). text_reads_first s c.args.text.now ≡ false → HasAllPut (InSecond s c.args.text.now (opening_of c.args.bytes.now (seen_image c.args.image.now) (map string_bytes c.args.words.now) c.args.program.now) c.args.program.now.budget c.debug_image.result (g.I.Source.left c.debug_image.new.input)) (λ i. Some (outcome_from s c.args.text.now i c.args.program.now.budget (opening_of c.args.bytes.now (seen_image c.args.image.now) (map string_bytes c.args.words.now) c.args.program.now))) c.debug_image.result (g.I.Source.left c.args.input.now) (g.O.Sink.held c.args.output.now) (g.O.Sink.held c.debug_image.new.output) (g.E.Sink.held c.args.errors.now) (g.E.Sink.held c.debug_image.new.errors)) (sym c.in-Script.is) c.debug_image.ensures.whole

pub returns-in-Schedule-clause-whole : goal.returns-in-Schedule-clause-whole
returns-in-Schedule-clause-whole g c =
    subst (λ (s : SecondFile). text_reads_first s c.args.text.now ≡ false → HasAllPut (InSecond s c.args.text.now (opening_of c.args.bytes.now (seen_image c.args.image.now) (map string_bytes c.args.words.now) c.args.program.now) c.args.program.now.budget c.thread_image.result (g.I.Source.left c.thread_image.new.input)) (λ i. Some (outcome_from s c.args.text.now i c.args.program.now.budget (opening_of c.args.bytes.now (seen_image c.args.image.now) (map string_bytes c.args.words.now) c.args.program.now))) c.thread_image.result (g.I.Source.left c.args.input.now) (g.O.Sink.held c.args.output.now) (g.O.Sink.held c.thread_image.new.output) (g.E.Sink.held c.args.errors.now) (g.E.Sink.held c.thread_image.new.errors)) (sym c.in-Schedule.is) (λ _. c.thread_image.ensures.whole)
