use Rattle.std.proofs.Common.{length, ap, ◌∙◌}
use Rattle.emu_model.specs.ListLaws.{length-each}
use Rattle.element_loops.proofs.access.load_buffered.Goals as goal

pub write-requires-clause-count : goal.write-requires-clause-count
write-requires-clause-count o c = ap length c.as_slice.ensures.value ∙ ap length c.in-Ok.ensures.values ∙ length-each _ _
