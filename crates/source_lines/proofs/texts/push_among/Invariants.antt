use Rattle.std.proofs.Common.{◌≡◌, ◌++◌, flat_map, string_bytes, take}
use Rattle.source_lines.specs.Texts.{listed_text}
use Rattle.source_lines.proofs.texts.push_among.Given as goal

abbrev pub invariant-loop-line : goal.invariant-loop-line
invariant-loop-line l =
    string_bytes l.text ≡ string_bytes l.fn.text ++ flat_map (listed_text l.first l.here) (take l.line-index l.lines)
