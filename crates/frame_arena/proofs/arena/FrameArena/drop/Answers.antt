use Rattle.std.proofs.Common.{◌≡◌, List, [], ◌∷◌, ◌++◌, length, length-set, is_some, arith, refl, sym, ap, ◌∙◌, subst}
use Rattle.std.proofs.lemmas.Bool.{false≢true}
use Rattle.std.proofs.lemmas.List.{length_push}
use denote.RawPtr.{block_ptr}
use Rattle.frame_arena.specs.Links.{Place}
use Rattle.frame_arena.specs.declared.slot.Slot.{Slot}
use Rattle.frame_arena.specs.declared.slot.Slot.TheVariants.{Used}
use Rattle.frame_arena.specs.Slots.{page_in, slot_block, AreVacant, IsWhole, IsSeated, AreSeated, AreSpareSeated}
use Rattle.frame_arena.proofs.Kept.{seat_as}
use Rattle.frame_arena.proofs.Table.{vacant-set, whole-taken, seated-set, last_page, whole_before, seated_last, seated_before}
use Rattle.frame_arena.proofs.arena.FrameArena.drop.Goals as goal

pub loop-back-preserved : goal.loop-back-preserved
loop-back-preserved c =
    let i = c.loop-back.invariant in let ss = c.loop-back.slots.items in let p = c.self.inside.lease.ptr in
    let r = c.pop-number.result in let f : Place = (r.1.0.block, r.1.0.place, r.0) in let rest = r.1.1.frames in
    let s : Slot = Used 0 c.zeroed_page.result in
    let listed : f ∷ rest ≡ c.loop-back.free.frames = c.pop-number.ensures in
    let v : AreVacant ss (f ∷ rest) = subst (AreVacant ss) (sym listed) i.2 in
    let w : IsWhole ss (f ∷ rest) = subst (IsWhole ss) (sym listed) i.3 in
    let k : AreSpareSeated p (f ∷ rest) = subst (AreSpareSeated p) (sym listed) i.5 in
    let count = ap length listed in (
      omega (arith, count, i.0),
      length-set ss f.2 s ∙ i.1,
      vacant-set ss rest f.2 s v.0 v.2 v.3,
      whole-taken ss f rest s (record { bytes = c.zeroed_page.result.bytes; count = 1 }) v refl w,
      seated-set p ss f.2 s v.0 (seat_as p f.2 _ _ c.zeroed_page.result.block c.zeroed_page.result.place c.zeroed_page.ensures.0 c.zeroed_page.ensures.1 k.0) i.4,
      k.1,
    )

pub unreachable-requires-in_default-slot : goal.unreachable-requires-in_default-slot
unreachable-requires-in_default-slot c =
    let w : IsWhole (c.pop.new.self.items ++ c.in-Some-pop.slot ∷ []) [] = subst (λ (x : List Slot). IsWhole x []) c.in-Some-pop.ensures.items c.loop-last.invariant.1 in
    let some = last_page c.pop.new.self.items c.in-Some-pop.slot w in
    false≢true (sym (ap (λ (s : Slot). is_some (slot_block s)) c.in_default-slot.is) ∙ some)

pub loop-last-preserved : goal.loop-last-preserved
loop-last-preserved c =
    let i = c.loop-last.invariant in let ss = c.pop.new.self.items in let s = c.in-Some-pop.slot in let p = c.self.inside.lease.ptr in
    let e : c.loop-last.slots.items ≡ ss ++ s ∷ [] = c.in-Some-pop.ensures.items in
    let long = ap length e in
    let w : IsWhole (ss ++ s ∷ []) [] = subst (λ (x : List Slot). IsWhole x []) e i.1 in
    let h : AreSeated p (ss ++ s ∷ []) = subst (AreSeated p) e i.2 in
    let at = subst (IsSeated p (length ss)) (ap page_in c.in-Used.is) (seated_last p ss s h) in
    let seat = seat_as p (length ss) _ _ c.into_spare.result.block c.into_spare.result.place c.into_spare.ensures.0 c.into_spare.ensures.1 at in (
      omega (arith, long, i.0, length_push ss s),
      whole_before ss s w,
      seated_before p ss s h,
      c.glue-region.ensures.0 ∙ (λ j. block_ptr (seat.0 j) (seat.1 j)),
      omega (arith, c.glue-region.ensures.1, i.4, long, length_push ss s),
    )
