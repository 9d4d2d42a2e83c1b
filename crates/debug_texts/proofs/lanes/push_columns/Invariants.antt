use Rattle.std.proofs.Common.{◌≡◌, ◌++◌, take, string_bytes}
use Rattle.std.specs.Prelude.{flat_map}
use Rattle.debug_texts.specs.Lanes.{column_name}
use Rattle.debug_texts.proofs.lanes.push_columns.Given as goal

abbrev pub invariant-things : goal.invariant-things
invariant-things l = string_bytes l.text ≡ string_bytes l.fn.text ++ flat_map (column_name l.size) (take l.thing-index l.things)
