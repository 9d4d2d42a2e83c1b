use Rattle.std.proofs.Common.{◌≡◌, ◌-◌, ℕ, true, List, take, drop, get_or, Some, is_some, ap, ◌∙◌, sym, refl, arith}
use Rattle.std.proofs.lemmas.Bool.{false≢true}
use Rattle.emu_model.specs.Access.{page_size}
use Rattle.emu_model.specs.WithinPage.{overwritten}
use Rattle.emu_model.specs.declared.access.Kind.TheVariants.{Write}
use Rattle.frame_arena.proofs.Callers.{sole_live}
use Rattle.frame_arena.specs.Frames.{bytes_of, count_of}
use Rattle.page_list.specs.Bytes.{as_bytes, as_bytes-same}
use Rattle.page_list.specs.Entries.{Listed, entry_at, is_held, line_of, place_at_hand}
use Rattle.page_list.specs.Lending.{with_part}
use Rattle.page_list.specs.Slots.{frame_at, hand_of, hold_frame, hold_own, line_frame, slot_at}
use Rattle.page_list.specs.declared.hand.Lines.{Lines}
use Rattle.page_list.specs.declared.slots.Hold.{Hold}
use Rattle.page_list.specs.declared.slots.Hold.TheVariants.{Bare, Own, Shared}
use Rattle.page_list.proofs.Codes.{line_held, own_sole}
use Rattle.page_list.proofs.Held.{counts-written, own-written, sole-written}
use Rattle.page_list.proofs.Parts.{lent_entry, lent_marks, lent_pages, sole_at}
use Rattle.page_list.proofs.list.PageList.part_at_hand.Goals as goal

own_some : (h : Hold) → hold_own h ≡ true → is_some (hold_frame h) ≡ true
own_some Bare e = absurd (false≢true e)
own_some (Own f) e = refl
own_some (Shared f) e = absurd (false≢true e)

pub own_frame-number-requires : goal.own_frame-number-requires
own_frame-number-requires c =
    let a = c.self.inside in let ss = a.slots.items in let page = c.args.page in
    let held = ap (λ (l : Listed). is_held l.hand.writes page) c.self.view_is ∙ c.requires.held in
    let at_line = line_held ss Write a.hand.writes.value c.self.invariant.hand.writes page held in
    ap is_some (ap (λ (l : Lines). line_frame l (line_of page)) c.deref.ensures ∙ sym at_line.frame_is) ∙ own_some (slot_at ss (get_or a.hand.writes.value.places (line_of page) 0)).hold (at_line.own refl)

pub bytes_at-requires : goal.bytes_at-requires
bytes_at-requires c =
    let a = c.self.inside in let live = a.arena.live in let ss = a.slots.items in let page = c.args.page in let inv = c.self.invariant in let k = c.own_frame-number.result in
    let held = ap (λ (l : Listed). is_held l.hand.writes page) c.self.view_is ∙ c.requires.held in
    let at_line = line_held ss Write a.hand.writes.value inv.hand.writes page held in let i = get_or a.hand.writes.value.places (line_of page) 0 in
    let is : frame_at ss i ≡ Some k = at_line.frame_is ∙ sym (ap (λ (l : Lines). line_frame l (line_of page)) c.deref.ensures) ∙ c.own_frame-number.ensures in
    let sole : count_of live k ≡ 1 = sole_at live ss i k is (own_sole live ss i at_line.within inv.own (at_line.own refl)) in
    sole_live live k sole

pub part_at_mut-requires-clause-sole : goal.part_at_mut-requires-clause-sole
part_at_mut-requires-clause-sole c =
    let a = c.self.inside in let live = a.arena.live in let ss = a.slots.items in let page = c.args.page in let inv = c.self.invariant in let k = c.own_frame-number.result in
    let held = ap (λ (l : Listed). is_held l.hand.writes page) c.self.view_is ∙ c.requires.held in
    let at_line = line_held ss Write a.hand.writes.value inv.hand.writes page held in let i = get_or a.hand.writes.value.places (line_of page) 0 in
    let is : frame_at ss i ≡ Some k = at_line.frame_is ∙ sym (ap (λ (l : Lines). line_frame l (line_of page)) c.deref.ensures) ∙ c.own_frame-number.ensures in
    let sole : count_of live k ≡ 1 = sole_at live ss i k is (own_sole live ss i at_line.within inv.own (at_line.own refl)) in
    sole

pub invariant_of-self-lent : goal.invariant_of-self-lent
invariant_of-self-lent c w =
    let a = c.self.inside in let live = a.arena.live in let ss = a.slots.items in let page = c.args.page in let inv = c.self.invariant in let k = c.own_frame-number.result in
    let held = ap (λ (l : Listed). is_held l.hand.writes page) c.self.view_is ∙ c.requires.held in
    let at_line = line_held ss Write a.hand.writes.value inv.hand.writes page held in let i = get_or a.hand.writes.value.places (line_of page) 0 in
    let is : frame_at ss i ≡ Some k = at_line.frame_is ∙ sym (ap (λ (l : Lines). line_frame l (line_of page)) c.deref.ensures) ∙ c.own_frame-number.ensures in
    let sole : count_of live k ≡ 1 = sole_at live ss i k is (own_sole live ss i at_line.within inv.own (at_line.own refl)) in
    let at = c.args.at in let z = overwritten at (take (page_size - at) w) (bytes_of live k) in
    record {
      counts = λ f. counts-written live k z sole f ∙ inv.counts f;
      own = own-written live k z sole ss inv.own;
      spare = let more = sole-written live k z sole ss in omega (arith, more, inv.spare);
      room = inv.room;
      most = inv.most;
      narrow = inv.narrow;
      hand = inv.hand;
      marks = inv.marks;
      object = inv.object;
    }

pub returns : goal.returns
returns c =
    let a = c.self.inside in let live = a.arena.live in let ss = a.slots.items in let page = c.args.page in let inv = c.self.invariant in let k = c.own_frame-number.result in
    let held = ap (λ (l : Listed). is_held l.hand.writes page) c.self.view_is ∙ c.requires.held in
    let at_line = line_held ss Write a.hand.writes.value inv.hand.writes page held in let i = get_or a.hand.writes.value.places (line_of page) 0 in
    let is : frame_at ss i ≡ Some k = at_line.frame_is ∙ sym (ap (λ (l : Lines). line_frame l (line_of page)) c.deref.ensures) ∙ c.own_frame-number.ensures in
    let sole : count_of live k ≡ 1 = sole_at live ss i k is (own_sole live ss i at_line.within inv.own (at_line.own refl)) in
    let ms = a.marks.items in let at = c.args.at in let old = bytes_of live k in let r = c.bytes_at.result.now in
    let read : old ≡ r = sym c.bytes_at.ensures.bytes in
    let whole : as_bytes old ≡ old = ap as_bytes read ∙ as_bytes-same r c.told_bytes-bytes.ensures.bytes ∙ sym read in
    let entry : (entry_at c.args.self.now.pages (place_at_hand c.args.self.now.hand page)).1.bytes ≡ old =
    ap (λ (l : Listed). (entry_at l.pages (place_at_hand l.hand page)).1.bytes) (sym c.self.view_is) ∙ lent_entry live ss ms i k at at_line.within is sole inv.counts whole in (
      (
        refl,
        λ w.
            (λ j. record { pages = lent_pages live ss ms i k at at_line.within is sole inv.counts w j; limit = a.limit; hand = hand_of a.hand; marks = lent_marks live ss ms i k at at_line.within is sole inv.counts w j; spare = sym c.spare.ensures.spare j })
            ∙ ap (λ (l : Listed). with_part l c.spare.result (place_at_hand l.hand page) at w) c.self.view_is,
      ),
      record {
        writes_back = tt;
        bytes = c.part_at_mut.ensures.bytes ∙ ap (λ (z : List ℕ). take c.args.count (drop at z)) (sym entry);
        length = c.part_at_mut.ensures.length;
      },
    )
