use Rattle.std.proofs.Common.{◌∙◌, ap}
use Rattle.emu_system.specs.Start.{highest_page}
use Rattle.emu_machine.proofs.Breaks.{start_break_sound}
use Rattle.emu_machine.proofs.machine.Machine.opened.Goals as goal

pub at_start-requires : goal.at_start-requires
at_start-requires c =
    start_break_sound c.args.bytes.now _ c.highest_page-start.result c.requires.loadable.some c.requires.loadable.segments.sound
    (c.highest_page-start.ensures.value ∙ ap highest_page c.deref.ensures.0) c.highest_page-start.ensures.limit
