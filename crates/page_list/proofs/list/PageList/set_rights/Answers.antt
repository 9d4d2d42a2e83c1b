use Rattle.std.proofs.Common.{◌≡◌, ◌<◌, ◌&&◌, not, length, get_or, ap, ◌∙◌, sym, subst, arith}
use Rattle.std.proofs.lemmas.List.{length-map, length-set, get_or_default}
use Rattle.page_list.specs.declared.slots.Slot.{Slot}
use Rattle.page_list.specs.Entries.{Listed, changed_at, page_with_rights}
use Rattle.page_list.specs.Slots.{entry_in, is_sole, one, frame_of, is_own, no_slot}
use Rattle.page_list.proofs.Held.{holders-set, sole-set, own-set, right_at, entries-set}
use Rattle.page_list.proofs.Codes.{hand_dropped}
use Rattle.page_list.proofs.list.PageList.set_rights.Goals as goal

pub invariant_of-self : goal.invariant_of-self
invariant_of-self c =
    let a = c.self.inside in let i = c.self.invariant in let x = c.index_mut.result.now in let ss = a.slots.items in
    let s : Slot = record { number = x.number; rights = c.args.rights; hold = x.hold } in
    let l : c.args.i < length ss = omega (arith, c.requires, ap (λ (l : Listed). length l.pages) c.self.view_is, length-map ss (entry_in a.arena.live)) in
    let same : x ≡ get_or ss c.args.i s = c.index_mut.ensures.value ∙ get_or_default ss c.args.i x s l in
    let frame = ap (λ (t : Slot). frame_of t) same in
    let right : one (is_own x && not (is_sole a.arena.live (frame_of x))) ≡ 0 = subst (λ (t : Slot). one (is_own t && not (is_sole a.arena.live (frame_of t))) ≡ 0) (sym same) (right_at a.arena.live ss c.args.i s l i.own) in
    record {
      counts = λ f. let e = holders-set ss c.args.i s l frame f in let h = i.counts f in omega (arith, e, h);
      own = own-set ss c.args.i s l frame a.arena.live right i.own;
      spare = let e = sole-set ss c.args.i s l frame a.arena.live in omega (arith, e, i.spare);
      room = i.room;
      most = omega (arith, i.most, length-set ss c.args.i s);
      narrow = i.narrow;
      hand =
          let e = c.drop_page.ensures in
          hand_dropped ss c.args.i l s c.index.result.now.number (ap (λ (t : Slot). t.number) (sym (c.index.ensures ∙ get_or_default ss c.args.i c.index.result.now no_slot l))) a.hand c.drop_page.new.self e.code e.reads e.writes e.many_reads e.many_writes i.hand;
      marks = i.marks;
      object = i.object;
    }

pub returns-clause-pages : goal.returns-clause-pages
returns-clause-pages c =
    let a = c.self.inside in let x = c.index_mut.result.now in let ss = a.slots.items in
    let s : Slot = record { number = x.number; rights = c.args.rights; hold = x.hold } in
    let l : c.args.i < length ss = omega (arith, c.requires, ap (λ (l : Listed). length l.pages) c.self.view_is, length-map ss (entry_in a.arena.live)) in
    let same : x ≡ get_or ss c.args.i s = c.index_mut.ensures.value ∙ get_or_default ss c.args.i x s l in
    entries-set a.arena.live (page_with_rights c.args.rights) ss c.args.i s (ap (λ (t : Slot). t.number) same) (ap (λ (t : Slot). page_with_rights c.args.rights (entry_in a.arena.live t).1) same)
    ∙ ap (λ (l : Listed). changed_at (page_with_rights c.args.rights) c.args.i l.pages) c.self.view_is
