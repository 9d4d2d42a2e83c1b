-- The spots of a name, by the parts of the index.
use Rattle.std.proofs.Common.{ap₂, sym, ◌∙◌}
use Rattle.text_model.specs.Statement.{lowered}
use Rattle.text_code.specs.Names.{names_of}
use Rattle.text_code.specs.Parts.{or_spots}
use Rattle.text_code.proofs.Parts.{spots_of_three}
use Rattle.text_code.proofs.names.spots_in.Goals as goal

pub returns : goal.returns
returns c =
    let names = c.args.names in
    c.or_spots.ensures ∙ ap₂ or_spots c.spots_of-first.ensures (c.or_spots-rest.ensures ∙ ap₂ or_spots c.spots_of-second.ensures c.spots_of-third.ensures)
    ∙ sym (spots_of_three (names_of names.first.now) (names_of names.second.now) (names_of names.third.now) (lowered c.args.name.now) c.requires.found)
