use Rattle.std.proofs.Common.{◌≡◌, ◌<◌, ◌≤◌, ◌*◌, List, [], length, set, get_or, Option, Some, None, cond, ap, ◌∙◌, sym, subst, arith}
use Rattle.std.proofs.lemmas.Bool.{false≢true}
use Rattle.std.proofs.lemmas.List.{length-map, length-set}
use Rattle.page_list.specs.declared.slots.Slot.{Slot}
use Rattle.page_list.specs.Entries.{Entry, Listed}
use Rattle.page_list.specs.Slots.{AreOwn, HasMarks, IsMark, entries_in, holders, mark_in, marks_in, shared_slots}
use Rattle.page_list.proofs.Held.{unchanged, marks_unchanged}
use Rattle.page_list.proofs.Shared.{entries-shared, holders-shared, holders_most, length-shared, own-shared, shared_twice}
use Rattle.page_list.proofs.Marks.{all-set, is_mark, mark_empty, mark-replaced, marked_most, marks-set}
use Rattle.page_list.proofs.Codes.{none_at_hand}
use Rattle.page_list.proofs.list.PageList.mark.Goals as goal

pub fill_mark-requires-clause-few : goal.fill_mark-requires-clause-few
fill_mark-requires-clause-few c = λ f.
    let a = c.self.inside in let live = a.arena.live in let ss = a.slots.items in let ms = a.marks.items in let k = c.args.k in let m = c.index_mut.result.now in let inv = c.self.invariant in
    let l : k < length ms = omega (arith, c.requires.index, ap (λ (l : Listed). length l.marks) c.self.view_is, length-map ms (mark_in live)) in
    let at = c.index_mut.ensures.value in
    let has : HasMarks a.arena.total a.limit ms = inv.object (omega (arith, l)) in
    let n = inv.counts f in let h = holders_most f ss in let g = marked_most a.limit f ms inv.marks in let e = ap (λ k. k * a.limit) has.sixteen in
    omega (arith, n, h, g, e, has.few, inv.most)

pub invariant_of-self : goal.invariant_of-self
invariant_of-self c =
    let a = c.self.inside in let live = a.arena.live in let ss = a.slots.items in let ms = a.marks.items in let k = c.args.k in let m = c.index_mut.result.now in let inv = c.self.invariant in
    let l : k < length ms = omega (arith, c.requires.index, ap (λ (l : Listed). length l.marks) c.self.view_is, length-map ms (mark_in live)) in
    let at = c.index_mut.ensures.value in
    let none : m.slots.items ≡ [] = mark_empty live a.limit ms k m l at inv.marks (ap (λ (l : Listed). get_or l.marks k None) c.self.view_is ∙ c.requires.none) in
    let e = c.fill_mark.ensures in let n = c.fill_mark.new.mark in let xs = c.fill_mark.new.slots.items in
    let has : HasMarks a.arena.total a.limit ms = inv.object (omega (arith, l)) in
    let long = length-set ms k n in
    let free : a.limit ≤ a.arena.spare = omega (arith, c.requires.room, ap (λ (l : Listed). l.limit) c.self.view_is, ap (λ (l : Listed). l.spare) c.self.view_is) in
    record {
      counts = λ f.
          let x = e.counts f in let y = inv.counts f in let z = mark-replaced live a.limit ms k m l at inv.marks f n in
          let u = ap (holders f) none in let v = ap (holders f) e.to ∙ holders-shared f ss in let w = ap (holders f) e.from ∙ holders-shared f ss in
          omega (arith, x, y, z, u, v, w);
      own = subst (AreOwn c.fill_mark.new.arena.live) (sym e.from) (own-shared c.fill_mark.new.arena.live ss);
      spare = omega (arith, free, e.spare);
      room = omega (arith, inv.room, e.capacity);
      most = let w = ap length e.from ∙ length-shared ss in omega (arith, w, inv.most);
      narrow = inv.narrow;
      hand = none_at_hand (c.fill_mark.new.slots.items) c.clear.new.self c.clear.ensures.code c.clear.ensures.reads c.clear.ensures.writes;
      marks = all-set (IsMark a.limit) ms k n
          (record {
            room = let r = (is_mark live a.limit ms k m l at inv.marks).room in omega (arith, r, e.capacity_to);
            most = let w = ap length e.to ∙ length-shared ss in omega (arith, w, inv.most);
            unset = λ t. absurd (false≢true (sym t ∙ e.set));
            plain = ap shared_slots e.to ∙ shared_twice ss ∙ sym e.to;
          }) inv.marks;
      object = λ _. record { sixteen = long ∙ has.sixteen; frames = e.total ∙ has.frames; few = has.few };
    }

pub returns-clause-pages : goal.returns-clause-pages
returns-clause-pages c =
    let a = c.self.inside in let live = a.arena.live in let ss = a.slots.items in let e = c.fill_mark.ensures in let after = c.fill_mark.new.arena.live in
    ap (λ (l : List Slot). entries_in after l) e.from ∙ entries-shared after ss ∙ unchanged live after ss (λ f _. e.bytes f) ∙ ap (λ (l : Listed). l.pages) c.self.view_is

pub returns-clause-marks : goal.returns-clause-marks
returns-clause-marks c =
    let a = c.self.inside in let live = a.arena.live in let ss = a.slots.items in let ms = a.marks.items in let k = c.args.k in let m = c.index_mut.result.now in let inv = c.self.invariant in
    let l : k < length ms = omega (arith, c.requires.index, ap (λ (l : Listed). length l.marks) c.self.view_is, length-map ms (mark_in live)) in
    let at = c.index_mut.ensures.value in
    let e = c.fill_mark.ensures in let n = c.fill_mark.new.mark in let after = c.fill_mark.new.arena.live in
    let here : mark_in after n ≡ Some c.args.self.now.pages =
    ap (λ b. cond b (Some (entries_in after n.slots.items)) None) e.set
    ∙ ap (λ (l : List Slot). Some (entries_in after l)) e.to
    ∙ ap (λ (es : List Entry). Some es) (entries-shared after ss ∙ unchanged live after ss (λ f _. e.bytes f))
    ∙ ap (λ (l : Listed). Some l.pages) c.self.view_is in
    marks-set after ms k n
    ∙ ap (λ (o : Option (List Entry)). set (marks_in after ms) k o) here
    ∙ ap (λ (l : List (Option (List Entry))). set l k (Some c.args.self.now.pages)) (marks_unchanged live after ms (λ f _. e.bytes f) ∙ ap (λ (l : Listed). l.marks) c.self.view_is)

pub returns-clause-spare : goal.returns-clause-spare
returns-clause-spare c = c.fill_mark.ensures.spare ∙ ap (λ (l : Listed). l.spare) c.self.view_is
