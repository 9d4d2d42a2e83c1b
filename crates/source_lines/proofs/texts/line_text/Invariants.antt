use Rattle.std.proofs.Common.{◌≡◌, drop}
use Rattle.std.specs.List.{find}
use Rattle.source_lines.specs.Texts.{is_named}
use Rattle.source_lines.proofs.texts.line_text.Given as goal

abbrev pub invariant-loop-file : goal.invariant-loop-file
invariant-loop-file l = find (is_named l.place.file.now) (drop l.file-index l.files) ≡ find (is_named l.place.file.now) l.files
