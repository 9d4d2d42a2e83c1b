use Rattle.std.proofs.Common.{List, ap, ◌∙◌, map, string_bytes}
use Rattle.std.specs.List.{flat_map}
use Rattle.std.specs.FinMap.{from_entries}
use Rattle.emu_system.specs.declared.image.Segment.{Segment}
use Rattle.emu_model.specs.Access.{Memory}
use Rattle.emu_system.specs.Start.{segment_pages}
use Rattle.elf_image.specs.Images.{seen_image}
use Rattle.emu_machine.proofs.Loading.{program_loaded}
use Rattle.emu_machine.proofs.Room.{room_for_stack}
use Rattle.emu_machine.proofs.program.load_program.Goals as goal

pub load_stack-requires-clause-free : goal.load_stack-requires-clause-free
load_stack-requires-clause-free c =
    let loaded = c.load_segments.ensures.memory ∙ ap (λ (ss : List Segment). record c.args.pages.now.memory { pages = from_entries (flat_map (segment_pages c.args.file.now) ss) }) c.deref.ensures.0 in
    room_for_stack c.args.file.now c.args.pages.now.memory.limit (seen_image c.args.image.now) c.load_segments.new.pages.memory c.requires.loadable (ap (λ (m : Memory). m.pages) loaded) (ap (λ (m : Memory). m.limit) loaded)

pub returns-clause-memory : goal.returns-clause-memory
returns-clause-memory c =
    let loaded = c.load_segments.ensures.memory ∙ ap (λ (ss : List Segment). record c.args.pages.now.memory { pages = from_entries (flat_map (segment_pages c.args.file.now) ss) }) c.deref.ensures.0 in
    program_loaded c.args.file.now (seen_image c.args.image.now) (map string_bytes c.args.args.now) c.args.pages.now.memory c.load_segments.new.pages.memory c.load_stack.new.pages.memory loaded c.load_stack.ensures.pages
