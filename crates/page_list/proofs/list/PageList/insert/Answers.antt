use Rattle.std.proofs.Common.{◌≡◌, ◌≤◌, ◌-◌, ◌++◌, List, length, take, drop, ap, ◌∙◌, sym, subst, arith}
use Rattle.std.proofs.lemmas.List.{length-map}
use Rattle.page_list.specs.declared.slots.Slot.{Slot}
use Rattle.page_list.specs.Entries.{Listed, zeroed_entries}
use Rattle.page_list.specs.Slots.{AreOwn, entry_in, entries_in, holders, sole_in}
use Rattle.page_list.proofs.Held.{holders-moved, sole-moved, own-moved, holders-pushed, sole-pushed, own-pushed, entries-pushed}
use Rattle.page_list.proofs.Lists.{moved_back, length_turned}
use Rattle.page_list.proofs.Codes.{none_at_hand}
use Rattle.page_list.proofs.list.PageList.insert.Goals as goal

pub invariant_of-self : goal.invariant_of-self
invariant_of-self c =
    let a = c.self.inside in let i = c.self.invariant in let live = a.arena.live in let ss = c.push_all.new.slots.items in let k = length ss - c.args.at - c.args.count in
    let pushed = c.push_all.ensures.slots in let moved = c.move_back.ensures.slots in
    let long : length c.move_back.new.slots.items ≡ length ss = ap length moved ∙ length_turned ss c.args.at k in
    record {
      counts = λ f.
          let n = i.counts f in
          let m =
          ap (λ (l : List Slot). holders f l) moved ∙ holders-moved ss c.args.at k f ∙ ap (λ (l : List Slot). holders f l) pushed ∙ holders-pushed a.slots.items c.args.first c.args.count c.args.rights f in
          omega (arith, n, m);
      own = subst (AreOwn live) (sym moved) (own-moved live ss c.args.at k (subst (AreOwn live) (sym pushed) (own-pushed a.slots.items c.args.first c.args.count c.args.rights live i.own)));
      spare =
          let e =
          ap (λ (l : List Slot). sole_in live l) moved ∙ sole-moved live ss c.args.at k ∙ ap (λ (l : List Slot). sole_in live l) pushed ∙ sole-pushed a.slots.items c.args.first c.args.count c.args.rights live in
          omega (arith, e, i.spare);
      room = omega (arith, i.room, c.push_all.ensures.capacity, c.move_back.ensures.capacity);
      most = omega (arith, c.requires.room, ap (λ (l : Listed). length l.pages) c.self.view_is, ap (λ (l : Listed). l.limit) c.self.view_is, length-map a.slots.items (entry_in live), c.push_all.ensures.length, long);
      narrow = i.narrow;
      hand = none_at_hand (c.move_back.new.slots.items) c.clear.new.self c.clear.ensures.code c.clear.ensures.reads c.clear.ensures.writes;
      marks = i.marks;
      object = i.object;
    }

pub returns-clause-pages : goal.returns-clause-pages
returns-clause-pages c =
    let a = c.self.inside in let at = c.args.at in let live = a.arena.live in let ss = c.push_all.new.slots.items in let k = length ss - at - c.args.count in
    let es = entries_in live a.slots.items in let zs = zeroed_entries c.args.first c.args.count c.args.rights in
    let long : length es ≡ length a.slots.items = length-map a.slots.items (entry_in live) in
    let le : at ≤ length es = omega (arith, c.requires.place, ap (λ (l : Listed). length l.pages) c.self.view_is) in
    let all : entries_in live ss ≡ es ++ zs = ap (λ (l : List Slot). entries_in live l) c.push_all.ensures.slots ∙ entries-pushed a.slots.items c.args.first c.args.count c.args.rights live in
    ap (λ (l : List Slot). entries_in live l) c.move_back.ensures.slots
    ∙ moved_back (entry_in live) ss at k es zs all le (omega (arith, c.push_all.ensures.length, long))
    ∙ ap (λ (l : Listed). take at l.pages ++ (zs ++ drop at l.pages)) c.self.view_is
