use Rattle.std.proofs.Common.{◌≡◌, take}
use Rattle.tool_sites.specs.Beside.{last_ending}
use Rattle.tool_sites.proofs.beside.last_ending.Given as goal

abbrev pub invariant-loop-symbol : goal.invariant-loop-symbol
invariant-loop-symbol l = l.found ≡ last_ending l.address (take l.symbol-index l.symbols)
