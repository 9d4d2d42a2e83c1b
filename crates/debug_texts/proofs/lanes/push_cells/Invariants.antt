use Rattle.std.proofs.Common.{◌≡◌, ◌++◌, take, string_bytes}
use Rattle.std.specs.Prelude.{flat_map}
use Rattle.emu_bits.specs.Flags.{size_of}
use Rattle.debug_texts.specs.Lanes.{cell_text}
use Rattle.debug_texts.proofs.lanes.push_cells.Given as goal

abbrev pub invariant-things : goal.invariant-things
invariant-things l = string_bytes l.text ≡ string_bytes l.fn.text ++ flat_map (cell_text l.before l.now (size_of l.size) l.i) (take l.thing-index l.things)
