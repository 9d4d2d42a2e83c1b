use Rattle.std.proofs.Common.{◌≡◌, length, true, Err}
use Rattle.text_model.specs.Reading.{best}
use Rattle.text_code.specs.Reads.{at_spots, are_spots, all_sound, reads_named}
use Rattle.text_code.proofs.reading.read_among.Given as goal

abbrev pub invariant-loop-spot : goal.invariant-loop-spot
invariant-loop-spot g l =
    (reads_named (g.T.Table.in_table l.table) (at_spots (g.T.Table.lines l.table) l.spots) (record { items = l.items; untargeted = l.untargeted })
    ≡ best (Err l.refusal) (reads_named (g.T.Table.in_table l.table) (at_spots (g.T.Table.lines l.table) l.left) (record { items = l.items; untargeted = l.untargeted })))
    × (are_spots (g.T.Table.lines l.table) l.left ≡ true) × (all_sound (at_spots (g.T.Table.lines l.table) l.left) ≡ true)

abbrev pub decreases-loop-spot : goal.decreases-loop-spot
decreases-loop-spot g l = length l.left
