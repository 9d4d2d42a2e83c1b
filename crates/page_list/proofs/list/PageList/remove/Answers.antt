use Rattle.std.proofs.Common.{◌≡◌, ◌<◌, ◌≤◌, ◌+◌, ◌++◌, ℕ, List, [], length, take, drop, ap, ◌∙◌, sym, subst, arith}
use Rattle.std.proofs.lemmas.List.{length-map, take-map}
use Rattle.page_list.specs.declared.slots.Slot.{Slot}
use Rattle.page_list.specs.Entries.{Listed}
use Rattle.page_list.specs.Slots.{AreHeld, AreOwn, HasMarks, entry_in, entries_in, holders, sole_in}
use Rattle.page_list.proofs.Held.{holders-moved, sole-moved, own-moved, holders-take, counts_after, marks_beside, own-changed, entries-changed}
use Rattle.page_list.proofs.Lists.{cut_off, length_turned}
use Rattle.page_list.proofs.Codes.{none_at_hand}
use Rattle.page_list.proofs.list.PageList.remove.Goals as goal

pub pop_all-requires-clause-held : goal.pop_all-requires-clause-held
pop_all-requires-clause-held c =
    let a = c.self.inside in let ss = a.slots.items in
    subst (AreHeld a.arena.live) (sym c.move_to_end.ensures.slots) (λ f. let n = c.self.invariant.counts f in let m = holders-moved ss c.args.at c.args.count f in omega (arith, n, m))

pub invariant_of-self : goal.invariant_of-self
invariant_of-self c =
    let a = c.self.inside in let i = c.self.invariant in let at = c.args.at in let k = c.args.count in let ss = a.slots.items in let live = a.arena.live in let ms = a.marks.items in
    let moved = c.move_to_end.ensures.slots in let xs = c.move_to_end.new.slots.items in let ys = c.pop_all.new.slots.items in let b = c.pop_all.new.arena in let e = c.pop_all.ensures in
    let long : length xs ≡ length ss = ap length moved ∙ length_turned ss at k in
    let same : (f : ℕ) → holders f xs ≡ holders f ss = λ f. ap (λ (l : List Slot). holders f l) moved ∙ holders-moved ss at k f in
    let fewer : (f : ℕ) → holders f ys ≤ holders f xs = λ f. subst (λ (l : List Slot). holders f l ≤ holders f xs) (sym e.slots) (holders-take f xs (length ys)) in
    let held : AreHeld live xs = λ f. let n = i.counts f in let m = same f in omega (arith, n, m) in
    let own : AreOwn live xs = subst (AreOwn live) (sym moved) (own-moved live ss at k i.own) in
    record {
      counts = counts_after a.arena b xs ys ms (λ f. let n = i.counts f in let m = same f in omega (arith, n, m)) e.changes;
      own = own-changed a.arena b xs ys fewer held e.changes e.slots own;
      spare =
          let m = ap (λ (l : List Slot). sole_in live l) moved ∙ sole-moved live ss at k in
          let r = e.room [] (λ f. let h = held f in omega (arith, h)) in
          omega (arith, m, r, i.spare);
      room = omega (arith, i.room, c.move_to_end.ensures.capacity, e.capacity);
      most = omega (arith, i.most, e.length, long);
      narrow = i.narrow;
      hand = none_at_hand (c.pop_all.new.slots.items) c.clear.new.self c.clear.ensures.code c.clear.ensures.reads c.clear.ensures.writes;
      marks = i.marks;
      object = subst (λ (n : ℕ). 0 < length ms → HasMarks n a.limit ms) (sym e.changes.total) i.object;
    }

pub returns-clause-pages : goal.returns-clause-pages
returns-clause-pages c =
    let a = c.self.inside in let at = c.args.at in let k = c.args.count in let live = a.arena.live in let ss = a.slots.items in let i = c.self.invariant in
    let xs = c.move_to_end.new.slots.items in let ys = c.pop_all.new.slots.items in let n = length ys in let e = c.pop_all.ensures in
    let fits : at + k ≤ length ss = omega (arith, c.requires, ap (λ (l : Listed). length l.pages) c.self.view_is, length-map ss (entry_in live)) in
    let long : length xs ≡ length ss = ap length c.move_to_end.ensures.slots ∙ length_turned ss at k in
    let fewer : (f : ℕ) → holders f ys ≤ holders f xs = λ f. subst (λ (l : List Slot). holders f l ≤ holders f xs) (sym e.slots) (holders-take f xs n) in
    let held : AreHeld live xs = λ f. let m = i.counts f in let s = ap (λ (l : List Slot). holders f l) c.move_to_end.ensures.slots ∙ holders-moved ss at k f in omega (arith, m, s) in
    entries-changed a.arena c.pop_all.new.arena xs ys fewer held e.changes
    ∙ ap (λ (l : List Slot). entries_in live l) e.slots
    ∙ sym (take-map (entry_in live) n xs)
    ∙ ap (λ (l : List Slot). take n (entries_in live l)) c.move_to_end.ensures.slots
    ∙ cut_off (entry_in live) ss at k n fits (omega (arith, e.length, long))
    ∙ ap (λ (l : Listed). take at l.pages ++ drop k (drop at l.pages)) c.self.view_is

pub returns-clause-marks : goal.returns-clause-marks
returns-clause-marks c =
    let a = c.self.inside in let ss = a.slots.items in
    marks_beside a.arena c.pop_all.new.arena c.move_to_end.new.slots.items c.pop_all.new.slots.items a.marks.items
    (λ f. let n = c.self.invariant.counts f in let s = ap (λ (l : List Slot). holders f l) c.move_to_end.ensures.slots ∙ holders-moved ss c.args.at c.args.count f in omega (arith, n, s)) c.pop_all.ensures.changes
    ∙ ap (λ (l : Listed). l.marks) c.self.view_is
