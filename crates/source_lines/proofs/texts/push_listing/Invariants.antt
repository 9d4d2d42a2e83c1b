use Rattle.std.proofs.Common.{◌≡◌, ◌++◌, flat_map, string_bytes, take}
use Rattle.source_lines.specs.Texts.{file_listing}
use Rattle.source_lines.proofs.texts.push_listing.Given as goal

abbrev pub invariant-loop-file : goal.invariant-loop-file
invariant-loop-file l =
    string_bytes l.text
    ≡ string_bytes l.fn.text ++ flat_map (file_listing l.name l.first l.here) (take l.file-index l.files)
