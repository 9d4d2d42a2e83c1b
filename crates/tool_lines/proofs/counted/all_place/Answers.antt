use Rattle.std.proofs.Common.{◌∙◌, map, string_bytes, sym, arith}
use Rattle.std.proofs.lemmas.List.{length-map}
use Rattle.tool_lines.proofs.Handed.{none_here}
use Rattle.tool_lines.proofs.counted.all_place.Goals as goal

pub returns-clause-place : goal.returns-clause-place
returns-clause-place c =
    sym (none_here (map string_bytes c.args.words.now) c.places.place (omega (arith, length-map c.args.words.now string_bytes))) ∙ c.places.invariant
