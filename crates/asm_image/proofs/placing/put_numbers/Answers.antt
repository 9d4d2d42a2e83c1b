use Rattle.std.proofs.Common.{◌∙◌, ◌∷◌, ◌++◌, [], List, append_assoc, map, sym, ap}
use Rattle.asm_image.specs.Draft.{with_pieces}
use Rattle.asm_image.proofs.Pieces.{number_more, number_refused}
use Rattle.asm_tokens.specs.declared.target.Target.{Target}
use Rattle.listing_model.specs.Layout.{number_piece}
use Rattle.asm_image.proofs.placing.put_numbers.Goals as goal

pub loop-target-preserved : goal.loop-target-preserved
loop-target-preserved g c =
    let s = c.in-Some.ensures.steps in (
      λ m is. number_more g.T.Instructions.has_target c.args.line c.args.size c.loop-target.yielded c.in-Some.target c.put_number.new.draft m
          (c.in-Ok.ensures (with_pieces c.args.line (map (number_piece c.args.size) c.loop-target.yielded) m) (c.loop-target.invariant.0 m is)),
      append_assoc c.loop-target.yielded (c.in-Some.target ∷ []) c.next.new.self.rest.items
          ∙ ap (λ (ts : List Target). c.loop-target.yielded ++ ts) (sym s.0) ∙ c.loop-target.invariant.1,
    )

pub returns-in-Err : goal.returns-in-Err
returns-in-Err g c = λ l is.
    let s = c.in-Some.ensures.steps in
    number_refused g.T.Instructions.has_target c.args.line c.args.size c.loop-target.yielded c.next.new.self.rest.items c.args.values.items c.in-Some.target c.put_number.new.draft l c.in-Err.stop
    (ap (λ (ts : List Target). c.loop-target.yielded ++ ts) (sym s.0) ∙ c.loop-target.invariant.1)
    (c.in-Err.ensures (with_pieces c.args.line (map (number_piece c.args.size) c.loop-target.yielded) l) (c.loop-target.invariant.0 l is))
