use Rattle.std.proofs.Common.{List, ap, ◌∙◌}
use Rattle.std.specs.List.{flat_map}
use Rattle.emu_system.specs.declared.image.Segment.{Segment}
use Rattle.emu_report.proofs.Puts.{puts_equal}
use Rattle.dis_text.specs.Segments.{executable_lines}
use Rattle.dis_text.proofs.Batches.{lines_of_executable}
use Rattle.dis_text.proofs.segments.put_dis.Goals as goal

pub returns-clause-bytes : goal.returns-clause-bytes
returns-clause-bytes g c =
    puts_equal _ _ _ _ _
    (ap (λ (ss : List Segment). flat_map (executable_lines c.args.file.now) ss) c.as_slice.ensures.value ∙ lines_of_executable c.args.file.now c.args.image.now.segments.items)
    c.put_segments.ensures.bytes
