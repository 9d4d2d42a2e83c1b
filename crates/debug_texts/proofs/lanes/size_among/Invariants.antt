use Rattle.std.proofs.Common.{◌≡◌, drop}
use Rattle.debug_texts.specs.Lanes.{size_among}
use Rattle.debug_texts.proofs.lanes.size_among.Given as goal

-- what is found among the rest is what is found among all
abbrev pub invariant-things : goal.invariant-things
invariant-things l = size_among l.found (drop l.thing-index l.things) ≡ size_among l.fn.size l.things
