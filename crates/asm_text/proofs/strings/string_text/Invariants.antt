use Rattle.std.proofs.Common.{◌≡◌, ◌-◌, false, drop, length, string_bytes}
use Rattle.std.specs.Str.{IsCharBoundary}
use Rattle.asm_text.specs.Plain.{prepended}
use Rattle.listing_model.specs.Directives.{contents, string_text}
use Rattle.asm_text.proofs.strings.string_text.Given as goal

abbrev pub invariant-loop-text : goal.invariant-loop-text
invariant-loop-text l = IsCharBoundary l.token l.at × (string_text l.token ≡ prepended (string_bytes l.text) (contents false (drop l.at l.token)))

abbrev pub decreases-loop-text : goal.decreases-loop-text
decreases-loop-text l = length l.token - l.at
