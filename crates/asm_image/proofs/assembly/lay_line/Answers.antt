use Rattle.std.proofs.Common.{sym, subst, Result}
use Rattle.asm_image.specs.Draft.{IsPlaced}
use Rattle.asm_image.proofs.Assembled.{sized, stopped_line}
use Rattle.listing_model.specs.declared.fault.ListingWhy.{ListingWhy}
use Rattle.listing_model.specs.declared.line.Line.{Line}
use Rattle.listing_model.specs.Layout.{placed_line}
use Rattle.listing_model.specs.LineOf.{line_of}
use Rattle.asm_image.proofs.assembly.lay_line.Goals as goal

pub place_line-requires-clause-sized : goal.place_line-requires-clause-sized
place_line-requires-clause-sized g c = sized g.T.Instructions.statements c.args.text.now c.in-Ok.line c.in-Ok.ensures.read

pub returns-in-Err : goal.returns-in-Err
returns-in-Err g c = λ l is.
    stopped_line g.T.Instructions.statements g.T.Instructions.has_target c.args.number l c.args.draft.now c.in-Err.fault c.stop_of.result
    (line_of g.T.Instructions.statements c.args.text.now) c.in-Err.ensures.read c.stop_of.ensures

pub returns-in-Ok : goal.returns-in-Ok
returns-in-Ok g c = λ l is.
    subst (λ (r : Result (Line g.row.T-Insn.Denot) ListingWhy).
    IsPlaced g.T.Instructions.has_target c.place_line.result c.place_line.new.draft (placed_line g.T.Instructions.statements c.args.number l r))
    (sym c.in-Ok.ensures.read) (c.place_line.ensures l is)
