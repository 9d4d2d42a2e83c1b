use Rattle.std.proofs.Common.{ℕ, List, map, string_bytes, ap, subst, ◌∙◌}
use Rattle.elf_image.specs.Images.{seen_image}
use Rattle.word_counts.specs.Counts.{Counts, count_at}
use Rattle.word_counts.specs.Lines.{count_lines}
use Rattle.tool_counts.specs.Counted.{sweep_of, AreCounted}
use Rattle.tool_counts.proofs.Lines.{counts_told}
use Rattle.tool_counts.proofs.command.count_input.Goals as goal

pub returns-clause-done : goal.returns-clause-done
returns-clause-done g c = λ done.
    let p = c.args.program.now in
    let s = sweep_of c.args.bytes.now (seen_image c.args.image.now) (map string_bytes c.args.args.now) p.pages p.budget c.args.input.now in
    counts_told s p.lengths.items p.headed c.in-Ok.counted.tables.items c.in-Ok.counted.stops.items c.as_str.result.now c.deref-3.result.now (g.O.Sink.held c.args.output.now) (g.O.Sink.held c.put_counts.new.output)
    (subst (λ (xs : List ℕ). AreCounted s xs c.in-Ok.counted.tables.items c.in-Ok.counted.stops.items) c.deref.ensures.value c.in-Ok.ensures)
    (c.as_str.ensures.value ∙ c.in-Ok-text_of.ensures ∙ ap (λ (ts : List Counts). count_lines count_at ts) c.deref-2.ensures.value)
    c.deref-3.ensures.value (c.put_counts.ensures.done done)

pub returns-clause-ending : goal.returns-clause-ending
returns-clause-ending g c = c.put_counts.ensures.ending

pub returns-clause-leaves : goal.returns-clause-leaves
returns-clause-leaves g c = c.put_counts.ensures.leaves
