use Rattle.std.proofs.Common.{List, drop, length}
use Rattle.asm_image.specs.Filling.{ArePieces}
use Rattle.asm_image.proofs.Filled.{Progress}
use Rattle.listing_model.specs.Image.{address_of}
use Rattle.listing_model.specs.Layout.{Placed}
use Rattle.asm_image.proofs.filling.fill.Given as goal

abbrev pub invariant-loop-hole : goal.invariant-loop-hole
invariant-loop-hole g l =
    (ps : List (Placed g.row.T-Insn.Denot)) → ArePieces ps l.initial.code l.initial.values l.holes
    → Progress g.T.Instructions.statements (length l.initial.code) (address_of (length l.initial.code) l.labels) ps (drop l.hole-index l.holes) l.code l.values
