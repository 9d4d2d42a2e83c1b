use Rattle.std.proofs.Common.{◌≡◌, ◌<◌, ◌-◌, List, length, take, drop, Some, ℕ, ap, ◌∙◌, sym, subst, refl, arith}
use Rattle.std.proofs.lemmas.List.{length-map}
use Rattle.emu_model.specs.Access.{Page, page_size}
use Rattle.emu_model.specs.WithinPage.{overwritten, page_with_bytes}
use Rattle.frame_arena.proofs.Callers.{sole_live}
use Rattle.frame_arena.specs.Frames.{bytes_of, count_of}
use Rattle.page_list.specs.Bytes.{as_bytes, as_bytes-same}
use Rattle.page_list.specs.Entries.{Entry, Listed, changed_at, entry_at}
use Rattle.page_list.specs.Lending.{with_part}
use Rattle.page_list.specs.Slots.{entry_in, frame_at, HasMarks}
use Rattle.page_list.proofs.Held.{marks_beside, counts_after, counts-written, sole-written, own-written}
use Rattle.page_list.proofs.Parts.{lent_entry, lent_marks, lent_pages, sole_at}
use Rattle.page_list.proofs.list.PageList.part_mut.Goals as goal

pub bytes-requires : goal.bytes-requires
bytes-requires c =
    let live = c.ensure_own.new.arena.live in let k = c.own_frame.result.now in
    sole_live live k (sole_at live c.ensure_own.new.slots.items c.args.i k c.own_frame.ensures c.ensure_own.ensures.sole)

pub part_mut-requires-clause-sole : goal.part_mut-requires-clause-sole
part_mut-requires-clause-sole c =
    let k = c.own_frame-2.result.now in sole_at c.ensure_own.new.arena.live c.ensure_own.new.slots.items c.args.i k c.own_frame-2.ensures c.ensure_own.ensures.sole

pub invariant_of-self-lent : goal.invariant_of-self-lent
invariant_of-self-lent c w =
    let a = c.self.inside in let b = c.ensure_own.new.arena in let live = b.live in let ss = c.ensure_own.new.slots.items in let i = c.args.i in let ms = a.marks.items in
    let l : i < length ss = omega (arith, c.requires.place, ap (λ (l : Listed). length l.pages) c.self.view_is, length-map a.slots.items (entry_in a.arena.live), c.ensure_own.ensures.length) in
    let k = c.own_frame-2.result.now in let is : frame_at ss i ≡ Some k = c.own_frame-2.ensures in
    let sole : count_of live k ≡ 1 = sole_at live ss i k is c.ensure_own.ensures.sole in let at = c.args.at in
    let kept = counts_after a.arena b a.slots.items ss ms c.self.invariant.counts c.ensure_own.ensures.changes in
    let inv = c.self.invariant in let e = c.ensure_own.ensures in let z = overwritten at (take (page_size - at) w) (bytes_of live k) in
    record {
      counts = λ f. counts-written live k z sole f ∙ kept f;
      own = own-written live k z sole ss e.own;
      spare = let more = sole-written live k z sole ss in omega (arith, more, e.room, inv.spare);
      room = omega (arith, inv.room, e.capacity);
      most = omega (arith, inv.most, e.length);
      narrow = inv.narrow;
      hand = e.at_hand inv.hand;
      marks = inv.marks;
      object = subst (λ (n : ℕ). 0 < length ms → HasMarks n a.limit ms) (sym e.changes.total) inv.object;
    }

pub returns : goal.returns
returns c =
    let a = c.self.inside in let b = c.ensure_own.new.arena in let live = b.live in let ss = c.ensure_own.new.slots.items in let i = c.args.i in let ms = a.marks.items in
    let l : i < length ss = omega (arith, c.requires.place, ap (λ (l : Listed). length l.pages) c.self.view_is, length-map a.slots.items (entry_in a.arena.live), c.ensure_own.ensures.length) in
    let k = c.own_frame-2.result.now in let is : frame_at ss i ≡ Some k = c.own_frame-2.ensures in
    let sole : count_of live k ≡ 1 = sole_at live ss i k is c.ensure_own.ensures.sole in let at = c.args.at in
    let kept = counts_after a.arena b a.slots.items ss ms c.self.invariant.counts c.ensure_own.ensures.changes in
    let inv = c.self.invariant in
    let old = bytes_of live k in let r = c.bytes.result.now in
    let both : Some c.own_frame.result.now ≡ Some k = sym c.own_frame.ensures ∙ is in
    let same : c.own_frame.result.now ≡ k = cc both in
    let read : old ≡ r = ap (bytes_of live) (sym same) ∙ sym c.bytes.ensures.bytes in
    let whole : as_bytes old ≡ old = ap as_bytes read ∙ as_bytes-same r c.told_bytes-bytes.ensures.bytes ∙ sym read in
    let entry : (entry_at c.args.self.now.pages i).1.bytes ≡ old =
    ap (λ (l : Listed). (entry_at l.pages i).1.bytes) (sym c.self.view_is)
    ∙ ap (λ (es : List Entry). (entry_at es i).1.bytes) (sym c.ensure_own.ensures.entries)
    ∙ lent_entry live ss ms i k at l is sole kept whole in (
      (
        refl,
        λ w.
            let g : Page → Page = page_with_bytes at (take (page_size - at) (as_bytes w)) in
            let pages = lent_pages live ss ms i k at l is sole kept w ∙ ap (λ (es : List Entry). changed_at g i es) c.ensure_own.ensures.entries in
            let marks = lent_marks live ss ms i k at l is sole kept w ∙ marks_beside a.arena b a.slots.items ss ms inv.counts c.ensure_own.ensures.changes in
            (λ j. record { pages = pages j; limit = a.limit; hand = c.ensure_own.ensures.hand j; marks = marks j; spare = sym c.spare.ensures.spare j })
            ∙ ap (λ (l : Listed). with_part l c.spare.result i at w) c.self.view_is,
      ),
      record {
        writes_back = tt;
        bytes = c.part_mut.ensures.bytes ∙ ap (λ (z : List ℕ). take c.args.count (drop at z)) (sym entry);
        length = c.part_mut.ensures.length;
      },
    )
