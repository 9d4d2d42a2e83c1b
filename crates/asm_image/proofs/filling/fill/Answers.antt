use Rattle.std.proofs.Common.{◌≡◌, ◌+◌, ◌∙◌, ℕ, List, ◌∷◌, Ok, Err, drop, length, sym, ap, subst}
use Rattle.std.proofs.lemmas.List.{drop_all, drop_more}
use Rattle.asm_image.specs.declared.draft.Hole.{Hole}
use Rattle.asm_image.specs.Filling.{filling_of, HasRoom, IsAimableGap}
use Rattle.asm_image.proofs.Filled.{Progress, aimable_at, room_at, goes_on, refused, all_filled}
use Rattle.listing_model.specs.Image.{address_of}
use Rattle.asm_image.proofs.filling.fill.Goals as goal

pub fill_hole-requires-clause-aimable : goal.fill_hole-requires-clause-aimable
fill_hole-requires-clause-aimable g c =
    subst (λ (x : Hole g.row.T-Insn.Denot). IsAimableGap g.T.Instructions.has_target x.gap) (sym c.hole-item.is)
    (aimable_at g.T.Instructions.has_target c.args.holes.now c.loop-hole.hole-index c.hole-item.result c.loop-hole-test.true c.requires.aimable)

pub fill_hole-requires-clause-room : goal.fill_hole-requires-clause-room
fill_hole-requires-clause-room g c =
    subst (λ (n : ℕ). HasRoom n (length c.loop-hole.values) c.hole-item.result) (sym c.loop-hole.auto.code)
    (subst (λ (n : ℕ). HasRoom (length c.args.code.now) n c.hole-item.result) (sym c.loop-hole.auto.values)
    (subst (λ (x : Hole g.row.T-Insn.Denot). HasRoom (length c.args.code.now) (length c.args.values.now) x) (sym c.hole-item.is)
    (room_at (length c.args.code.now) (length c.args.values.now) c.args.holes.now c.loop-hole.hole-index c.hole-item.result c.loop-hole-test.true c.requires.room)))

pub returns-in-Err : goal.returns-in-Err
returns-in-Err g c = λ ps are.
    let s = g.T.Instructions.statements in
    let n : ℕ = length c.args.code.now in
    let x = c.hole-item.result in
    let gs : List (Hole g.row.T-Insn.Denot) = drop (c.loop-hole.hole-index + 1) c.args.holes.now in
    let next : drop c.loop-hole.hole-index c.args.holes.now ≡ x ∷ gs =
    drop_more c.args.holes.now c.loop-hole.hole-index x c.loop-hole-test.true ∙ ap (λ (y : Hole g.row.T-Insn.Denot). y ∷ gs) (sym c.hole-item.is) in
    refused s n (address_of n c.args.labels.now) ps x gs c.loop-hole.code c.loop-hole.values c.in-Err.fault
    (subst (λ (hs : List (Hole g.row.T-Insn.Denot)). Progress s n (address_of n c.args.labels.now) ps hs c.loop-hole.code c.loop-hole.values) next
    (c.loop-hole.invariant ps are))
    c.in-Err.ensures.0
    (subst (λ (m : ℕ). filling_of s m c.args.labels.now x ≡ Err c.in-Err.fault.why) c.loop-hole.auto.code c.in-Err.ensures.1)

pub loop-hole-preserved : goal.loop-hole-preserved
loop-hole-preserved g c = λ ps are.
    let s = g.T.Instructions.statements in
    let n : ℕ = length c.args.code.now in
    let x = c.hole-item.result in
    let gs : List (Hole g.row.T-Insn.Denot) = drop (c.loop-hole.hole-index + 1) c.args.holes.now in
    let next : drop c.loop-hole.hole-index c.args.holes.now ≡ x ∷ gs =
    drop_more c.args.holes.now c.loop-hole.hole-index x c.loop-hole-test.true ∙ ap (λ (y : Hole g.row.T-Insn.Denot). y ∷ gs) (sym c.hole-item.is) in
    let fills = c.in-Ok.ensures in
    goes_on s n (address_of n c.args.labels.now) ps x gs c.loop-hole.code c.loop-hole.values c.fill_hole.new.code c.fill_hole.new.values fills.bs
    (subst (λ (hs : List (Hole g.row.T-Insn.Denot)). Progress s n (address_of n c.args.labels.now) ps hs c.loop-hole.code c.loop-hole.values) next
    (c.loop-hole.invariant ps are))
    (subst (λ (m : ℕ). filling_of s m c.args.labels.now x ≡ Ok fills.bs) c.loop-hole.auto.code fills.is)
    fills.code_is fills.values_is

pub returns : goal.returns
returns g c = λ ps are.
    let s = g.T.Instructions.statements in
    let n : ℕ = length c.args.code.now in
    all_filled s n (address_of n c.args.labels.now) ps c.loop-hole.code c.loop-hole.values
    (subst (λ (hs : List (Hole g.row.T-Insn.Denot)). Progress s n (address_of n c.args.labels.now) ps hs c.loop-hole.code c.loop-hole.values)
    (drop_all c.loop-hole.hole-index c.args.holes.now c.loop-hole-test.false) (c.loop-hole.invariant ps are))
