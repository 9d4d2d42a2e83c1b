use Rattle.std.proofs.Common.{◌≡◌, ◌<◌, ◌≤◌, ◌+◌, ◌*◌, ℕ, Bool, false, true, List, length, set, get_or, Some, None, is_some, cond, ap, ◌∙◌, sym, subst, refl, arith}
use Rattle.std.proofs.Math.Seq.{map-set_same}
use Rattle.std.proofs.lemmas.Bool.{false≢true}
use Rattle.std.proofs.lemmas.List.{length-map, length-set}
use Rattle.std.specs.List.{count_by}
use Rattle.std.specs.FinMap.{len}
use Rattle.frame_arena.specs.Frames.{bytes_of, count_of}
use Rattle.page_list.specs.declared.slots.Slot.{Slot}
use Rattle.page_list.specs.declared.slots.Mark.{Mark}
use Rattle.page_list.specs.Entries.{Entry, Listed}
use Rattle.page_list.specs.Slots.{AreOwn, HasMarks, IsMark, entries_in, holders, mark_in, marks_in, marked, shared_slots}
use Rattle.page_list.proofs.Held.{unchanged, marks_unchanged}
use Rattle.page_list.proofs.Shared.{entries-shared, holders-shared, length-shared, own-shared, shared_twice}
use Rattle.page_list.proofs.Marks.{all-set, is_mark, mark_shown, mark_held, mark-replaced, marked_most, marked_slots, named, holders-marked, named_most, named-length, slots_most, two_most}
use Rattle.page_list.proofs.Codes.{none_at_hand}
use Rattle.page_list.proofs.list.PageList.restore.Goals as goal

set_of : (b : Bool) (es : List Entry) → is_some (cond b (Some es) None) ≡ true → b ≡ true
set_of true es e = refl
set_of false es e = absurd (false≢true e)

pub share_all-requires-clause-few : goal.share_all-requires-clause-few
share_all-requires-clause-few c = λ f.
    let a = c.self.inside in let live = a.arena.live in let ss = a.slots.items in let ms = a.marks.items in let k = c.args.k in let m = c.index_mut.result.now in let inv = c.self.invariant in
    let l : k < length ms = omega (arith, c.requires.index, ap (λ (l : Listed). length l.marks) c.self.view_is, length-map ms (mark_in live)) in
    let at = c.index_mut.ensures.value in let b = c.pop_every.new.arena in
    let left : (f : ℕ) → count_of b.live f ≡ marked f ms = λ f. let x = c.pop_every.ensures.changes.counts f in let y = inv.counts f in omega (arith, x, y) in
    let has : HasMarks a.arena.total a.limit ms = inv.object (omega (arith, l)) in let mark = is_mark live a.limit ms k m l at inv.marks in
    let x = left f in let g = marked_most a.limit f ms inv.marks in let e = ap (λ k. k * a.limit) has.sixteen in
    omega (arith, x, g, e, has.few, mark.most)

pub invariant_of-self : goal.invariant_of-self
invariant_of-self c =
    let a = c.self.inside in let live = a.arena.live in let ss = a.slots.items in let ms = a.marks.items in let k = c.args.k in let m = c.index_mut.result.now in let inv = c.self.invariant in
    let l : k < length ms = omega (arith, c.requires.index, ap (λ (l : Listed). length l.marks) c.self.view_is, length-map ms (mark_in live)) in
    let at = c.index_mut.ensures.value in let b = c.pop_every.new.arena in
    let left : (f : ℕ) → count_of b.live f ≡ marked f ms = λ f. let x = c.pop_every.ensures.changes.counts f in let y = inv.counts f in omega (arith, x, y) in
    let has : HasMarks a.arena.total a.limit ms = inv.object (omega (arith, l)) in let mark = is_mark live a.limit ms k m l at inv.marks in
    let e = c.share_all.ensures in let d = c.share_all.new.arena in
    let bytes : (f : ℕ) → 1 ≤ marked f ms → bytes_of d.live f ≡ bytes_of live f = λ f t. e.bytes f ∙ c.pop_every.ensures.changes.bytes f (let y = inv.counts f in omega (arith, y, t)) (let x = left f in omega (arith, x, t)) in
    let n : Mark = record { slots = c.share_all.new.from; set = m.set } in let long = length-set ms k n in
    let same : (f : ℕ) → marked f (set ms k n) ≡ marked f ms =
    λ f. let z = mark-replaced live a.limit ms k m l at inv.marks f n in let w = ap (holders f) e.from ∙ holders-shared f m.slots.items in omega (arith, z, w) in
    let counts : (f : ℕ) → count_of d.live f ≡ holders f c.share_all.new.to.items + marked f (set ms k n) =
    λ f. let x = e.counts f in let y = left f in let z = same f in let w = ap (holders f) e.to ∙ holders-shared f m.slots.items in omega (arith, x, y, z, w) in
    let full : len d.live ≤ named (marked_slots ms) =
    named_most (marked_slots ms) d.live
    (λ f t. let x = c.spare-spare.ensures.counted f t in let y = e.counts f in let z = left f in let h = mark_held live a.limit ms k m l at inv.marks f in let w = holders-marked f ms in omega (arith, x, y, z, h, w)) in
    let few = named-length (marked_slots ms) in let most = slots_most live a.limit ms inv.marks in
    let two = two_most (count_by is_some (marks_in live ms)) a.limit (let q = ap (λ (l : Listed). count_by is_some l.marks) c.self.view_is in omega (arith, q, c.requires.few)) in
    let total : d.total ≡ a.arena.total = e.total ∙ c.pop_every.ensures.changes.total in
    record {
      counts = counts;
      own = subst (AreOwn d.live) (sym e.to) (own-shared d.live m.slots.items);
      spare = omega (arith, full, few, most, two, total, has.frames, c.spare-spare.ensures.spare, c.spare-spare.ensures.total);
      room = omega (arith, inv.room, c.pop_every.ensures.capacity, e.capacity_to);
      most = let w = ap length e.to ∙ length-shared m.slots.items in omega (arith, w, mark.most);
      narrow = inv.narrow;
      hand = none_at_hand (c.share_all.new.to.items) c.clear.new.self c.clear.ensures.code c.clear.ensures.reads c.clear.ensures.writes;
      marks = all-set (IsMark a.limit) ms k n
          (record {
            room = omega (arith, mark.room, e.capacity);
            most = let w = ap length e.from ∙ length-shared m.slots.items in omega (arith, w, mark.most);
            unset = λ t. e.from ∙ mark.plain ∙ mark.unset t;
            plain = ap shared_slots e.from ∙ shared_twice m.slots.items ∙ sym e.from;
          }) inv.marks;
      object = λ _. record { sixteen = long ∙ has.sixteen; frames = total ∙ has.frames; few = has.few };
    }

pub returns-clause-pages : goal.returns-clause-pages
returns-clause-pages c =
    let a = c.self.inside in let live = a.arena.live in let ss = a.slots.items in let ms = a.marks.items in let k = c.args.k in let m = c.index_mut.result.now in let inv = c.self.invariant in
    let l : k < length ms = omega (arith, c.requires.index, ap (λ (l : Listed). length l.marks) c.self.view_is, length-map ms (mark_in live)) in
    let at = c.index_mut.ensures.value in let b = c.pop_every.new.arena in
    let left : (f : ℕ) → count_of b.live f ≡ marked f ms = λ f. let x = c.pop_every.ensures.changes.counts f in let y = inv.counts f in omega (arith, x, y) in
    let has : HasMarks a.arena.total a.limit ms = inv.object (omega (arith, l)) in let mark = is_mark live a.limit ms k m l at inv.marks in
    let e = c.share_all.ensures in let d = c.share_all.new.arena in
    let bytes : (f : ℕ) → 1 ≤ marked f ms → bytes_of d.live f ≡ bytes_of live f = λ f t. e.bytes f ∙ c.pop_every.ensures.changes.bytes f (let y = inv.counts f in omega (arith, y, t)) (let x = left f in omega (arith, x, t)) in
    let shown : get_or c.args.self.now.marks k None ≡ mark_in live m = sym (ap (λ (l : Listed). get_or l.marks k None) c.self.view_is) ∙ mark_shown live a.limit ms k m l at inv.marks in
    let is_set : m.set ≡ true = set_of m.set (entries_in live m.slots.items) (ap is_some (sym shown) ∙ c.requires.set) in
    shown
    ∙ ap (λ b. cond b (Some (entries_in live m.slots.items)) None) is_set
    ∙ ap (λ (es : List Entry). Some es)
    (sym (unchanged live d.live m.slots.items (λ f t. bytes f (let h = mark_held live a.limit ms k m l at inv.marks f in omega (arith, h, t))))
    ∙ sym (entries-shared d.live m.slots.items)
    ∙ sym (ap (λ (xs : List Slot). entries_in d.live xs) e.to))

pub returns-clause-marks : goal.returns-clause-marks
returns-clause-marks c =
    let a = c.self.inside in let live = a.arena.live in let ss = a.slots.items in let ms = a.marks.items in let k = c.args.k in let m = c.index_mut.result.now in let inv = c.self.invariant in
    let l : k < length ms = omega (arith, c.requires.index, ap (λ (l : Listed). length l.marks) c.self.view_is, length-map ms (mark_in live)) in
    let at = c.index_mut.ensures.value in let b = c.pop_every.new.arena in
    let left : (f : ℕ) → count_of b.live f ≡ marked f ms = λ f. let x = c.pop_every.ensures.changes.counts f in let y = inv.counts f in omega (arith, x, y) in
    let has : HasMarks a.arena.total a.limit ms = inv.object (omega (arith, l)) in let mark = is_mark live a.limit ms k m l at inv.marks in
    let e = c.share_all.ensures in let d = c.share_all.new.arena in
    let bytes : (f : ℕ) → 1 ≤ marked f ms → bytes_of d.live f ≡ bytes_of live f = λ f t. e.bytes f ∙ c.pop_every.ensures.changes.bytes f (let y = inv.counts f in omega (arith, y, t)) (let x = left f in omega (arith, x, t)) in
    let n : Mark = record { slots = c.share_all.new.from; set = m.set } in
    let same : mark_in d.live n ≡ mark_in d.live (get_or ms k m) =
    ap (λ (xs : List Slot). cond m.set (Some (entries_in d.live xs)) None) (e.from ∙ mark.plain) ∙ ap (mark_in d.live) at in
    map-set_same (mark_in d.live) ms k n m same
    ∙ marks_unchanged live d.live ms bytes
    ∙ ap (λ (l : Listed). l.marks) c.self.view_is
