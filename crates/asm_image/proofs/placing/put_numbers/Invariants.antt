use Rattle.std.proofs.Common.{◌≡◌, ◌++◌, map}
use Rattle.asm_image.specs.Draft.{IsDraft, with_pieces}
use Rattle.listing_model.specs.Layout.{Layout, number_piece}
use Rattle.asm_image.proofs.placing.put_numbers.Given as goal

abbrev pub invariant-loop-target : goal.invariant-loop-target
invariant-loop-target g l =
    ((m : Layout g.row.T-Insn.Denot) → IsDraft g.T.Instructions.has_target l.initial.draft m
    → IsDraft g.T.Instructions.has_target l.draft (with_pieces l.line (map (number_piece l.size) l.yielded) m))
    × (l.yielded ++ l.target-iterator.rest.items ≡ l.fn.values.items)
