use Rattle.std.proofs.Common.{ap, Bool, ◌||◌, ap₂, count_by, is_some, length}
use Rattle.emu_model.specs.Marks.{Marks}
use Rattle.emu_model.specs.State.{Parts}
use Rattle.tool_debug.proofs.command.debug_image.Goals as goal

pub debug_machine-requires-clause-marks : goal.debug_machine-requires-clause-marks
debug_machine-requires-clause-marks g c = ap (λ (m : Marks). length m) c.in-Ok-open_marked.ensures.marks

pub debug_machine-requires-clause-none : goal.debug_machine-requires-clause-none
debug_machine-requires-clause-none g c = ap (λ (m : Marks). count_by is_some m) c.in-Ok-open_marked.ensures.marks

pub debug_machine-requires-clause-steps : goal.debug_machine-requires-clause-steps
debug_machine-requires-clause-steps g c = ap (λ (m : Parts). m.steps) c.in-Ok-open_marked.ensures.parts

pub debug_machine-requires-clause-going : goal.debug_machine-requires-clause-going
debug_machine-requires-clause-going g c = ap₂ (λ (m : Parts) (f : Bool). is_some m.ended || f) c.in-Ok-open_marked.ensures.parts c.in-Ok-open_marked.ensures.failed
