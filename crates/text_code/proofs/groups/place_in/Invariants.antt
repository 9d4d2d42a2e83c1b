use Rattle.std.proofs.Common.{◌≡◌, drop}
use Rattle.text_model.specs.Told.{index_of}
use Rattle.text_code.proofs.groups.place_in.Given as goal

abbrev pub invariant-loop-other : goal.invariant-loop-other
invariant-loop-other l = (index_of 0 l.class l.classes ≡ index_of l.place l.class (drop l.other-index l.classes)) × (l.place ≡ l.other-index)
