use Rattle.std.proofs.Common.{◌≡◌, ◌<◌, ◌++◌, ◌∷◌, [], true, ℕ, List, Option, IfSome, ap, subst, ◌∙◌, sym, length, take, arith}
use Rattle.std.specs.FinMap.{contains_key}
use Rattle.frame_arena.specs.Frames.{Frames, count_of, bytes_of}
use Rattle.page_list.specs.declared.slots.Slot.{Slot}
use Rattle.page_list.specs.Slots.{AreHeld, frame_at, shared_if, shared_slot, shared_slots, slot_at, frame_of}
use Rattle.page_list.proofs.Held.{frame_is_held, slot_there}
use Rattle.page_list.proofs.Shared.{next_slot, shared_next, pushed_next, holders_next, holders-take_most, if_frame, shared_if-counts, shared_if-bytes, shared_if-spare, shared_if-total}
use Rattle.page_list.proofs.slots.share_all.Goals as goal

pub share_next-requires-clause-live : goal.share_next-requires-clause-live
share_next-requires-clause-live c =
    let xs = c.args.from.now.items in let i = c.loop-i.i in let live = c.loop-i.arena.live in let inv = c.loop-i.invariant in
    let l : i < length xs = omega (arith, c.loop-i-test.true, c.loop-i.auto.i-end, c.len-i-end.ensures) in
    let held : AreHeld live xs = λ f. let n = inv.2 f in let h = c.requires.held f in omega (arith, n, h) in
    let same : frame_at c.loop-i.from.items i ≡ frame_at xs i = ap (λ (r : List Slot). frame_at r i) inv.0 ∙ ap (λ (s : Slot). frame_of s) (next_slot xs i l) in
    subst (λ (o : Option ℕ). IfSome o (λ f. contains_key live f ≡ true)) (sym same) (frame_is_held live xs i (slot_at xs i) held l (slot_there xs i l))

pub share_next-requires-clause-few : goal.share_next-requires-clause-few
share_next-requires-clause-few c =
    let xs = c.args.from.now.items in let i = c.loop-i.i in
    let l : i < length xs = omega (arith, c.loop-i-test.true, c.loop-i.auto.i-end, c.len-i-end.ensures) in
    if_frame (frame_at c.loop-i.from.items i) (λ f. let n = c.loop-i.invariant.2 f in let m = holders-take_most f xs i in let few = c.requires.few f in omega (arith, n, m, few, l))

pub loop-i-preserved : goal.loop-i-preserved
loop-i-preserved c =
    let xs = c.args.from.now.items in let ys = c.loop-i.from.items in let i = c.loop-i.i in let inv = c.loop-i.invariant in let e = c.share_next.ensures in let a = c.loop-i.arena in
    let l : i < length xs = omega (arith, c.loop-i-test.true, c.loop-i.auto.i-end, c.len-i-end.ensures) in
    let slot : slot_at ys i ≡ slot_at xs i = ap (λ (r : List Slot). slot_at r i) inv.0 ∙ next_slot xs i l in
    let after : c.share_next.new.arena ≡ shared_if a (frame_at xs i) = e.arena ∙ ap (λ (s : Slot). shared_if a (frame_of s)) slot in (
      e.from ∙ shared_next xs ys i l inv.0,
      e.to
          ∙ ap (λ (r : List Slot). r ++ shared_slot (slot_at ys i) ∷ []) inv.1
          ∙ ap (λ (s : Slot). shared_slots (take i xs) ++ shared_slot s ∷ []) slot
          ∙ pushed_next xs i l,
      λ f.
          let n = ap (λ (b : Frames). count_of b.live f) after ∙ shared_if-counts a (frame_at xs i) f in let m = inv.2 f in let k = holders_next f xs i l in
          omega (arith, n, m, k),
      λ f. ap (λ (b : Frames). bytes_of b.live f) after ∙ shared_if-bytes a (frame_at xs i) f ∙ inv.3 f,
      ap (λ (b : Frames). b.spare) after ∙ shared_if-spare a (frame_at xs i) ∙ inv.4,
      ap (λ (b : Frames). b.total) after ∙ shared_if-total a (frame_at xs i) ∙ inv.5,
      e.capacity ∙ inv.6,
      e.capacity_to ∙ inv.7,
    )
