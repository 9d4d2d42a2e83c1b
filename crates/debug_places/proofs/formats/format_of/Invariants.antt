use Rattle.std.proofs.Common.{◌≡◌, Some, drop}
use Rattle.debug_places.specs.Formats.{plain_format, with_letters}
use Rattle.debug_places.proofs.formats.format_of.Given as goal

abbrev pub invariant-letters : goal.invariant-letters
invariant-letters l = with_letters l.format (drop l.b-index l.letters) ≡ with_letters (Some plain_format) l.letters
