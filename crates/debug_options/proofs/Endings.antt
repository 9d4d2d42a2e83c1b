-- What is said of a refusal.
use Rattle.std.proofs.Common.{◌≡◌, true, inl, inr, ap, ◌∙◌}
use Rattle.command_lines.specs.declared.ending.Ending.{Ending}
use Rattle.debug_options.specs.Endings.{is_refused}
use Rattle.tool_refusals.specs.Endings.{IsSaid}

-- what was said of a refusal is one, or its line couldn't be put
pub said_refused : {S : Type 0} (ending result : Ending) → IsSaid ending result S → is_refused ending ≡ true → is_refused result ≡ true
said_refused ending result (inl is) refused = ap is_refused is ∙ refused
said_refused ending result (inr failed) refused = ap is_refused failed.0
