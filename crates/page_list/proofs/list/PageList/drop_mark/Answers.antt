use Rattle.std.proofs.Common.{◌≡◌, ◌<◌, ◌≤◌, ◌+◌, ℕ, List, [], length, set, Option, Some, None, cond, ap, ◌∙◌, sym, arith}
use Rattle.std.proofs.lemmas.List.{length-map, length-set}
use Rattle.frame_arena.specs.Frames.{count_of}
use Rattle.page_list.specs.Entries.{Entry, Listed}
use Rattle.page_list.specs.Slots.{AreBeside, IsMark, entries_in, holders, mark_in, marks_in, shared_slots}
use Rattle.page_list.proofs.Held.{unchanged, marks_unchanged, own-beside}
use Rattle.page_list.proofs.Marks.{all-set, is_mark, mark_held, mark-replaced, marks-set}
use Rattle.page_list.proofs.list.PageList.drop_mark.Goals as goal

pub clear_mark-requires : goal.clear_mark-requires
clear_mark-requires c = λ f.
    let a = c.self.inside in let live = a.arena.live in let ss = a.slots.items in let ms = a.marks.items in let k = c.args.k in let m = c.index_mut.result.now in let inv = c.self.invariant in
    let l : k < length ms = omega (arith, c.requires.index, ap (λ (l : Listed). length l.marks) c.self.view_is, length-map ms (mark_in live)) in
    let at = c.index_mut.ensures.value in
    let n = inv.counts f in let h = mark_held live a.limit ms k m l at inv.marks f in omega (arith, n, h)

pub invariant_of-self : goal.invariant_of-self
invariant_of-self c =
    let a = c.self.inside in let live = a.arena.live in let ss = a.slots.items in let ms = a.marks.items in let k = c.args.k in let m = c.index_mut.result.now in let inv = c.self.invariant in
    let l : k < length ms = omega (arith, c.requires.index, ap (λ (l : Listed). length l.marks) c.self.view_is, length-map ms (mark_in live)) in
    let at = c.index_mut.ensures.value in
    let e = c.clear_mark.ensures in let n = c.clear_mark.new.mark in let b = c.clear_mark.new.arena in let long = length-set ms k n in
    let beside : (f : ℕ) → holders f m.slots.items + holders f ss ≤ count_of live f = λ f. let x = inv.counts f in let y = mark_held live a.limit ms k m l at inv.marks f in omega (arith, x, y) in
    record {
      counts = λ f.
          let x = e.changes.counts f in let y = inv.counts f in let z = mark-replaced live a.limit ms k m l at inv.marks f n in let u = ap (holders f) e.none in
          omega (arith, x, y, z, u);
      own = own-beside a.arena b m.slots.items ss beside e.changes inv.own;
      spare = let r = e.room ss beside in omega (arith, r, inv.spare);
      room = inv.room;
      most = inv.most;
      narrow = inv.narrow;
      hand = inv.hand;
      marks = all-set (IsMark a.limit) ms k n
          (record {
            room = let r = (is_mark live a.limit ms k m l at inv.marks).room in omega (arith, r, e.capacity);
            most = let w = ap length e.none in omega (arith, w);
            unset = λ _. e.none;
            plain = ap shared_slots e.none ∙ sym e.none;
          }) inv.marks;
      object = λ _. let has = inv.object (omega (arith, l)) in record { sixteen = long ∙ has.sixteen; frames = e.changes.total ∙ has.frames; few = has.few };
    }

pub returns-clause-pages : goal.returns-clause-pages
returns-clause-pages c =
    let a = c.self.inside in let live = a.arena.live in let ss = a.slots.items in let ms = a.marks.items in let k = c.args.k in let m = c.index_mut.result.now in let inv = c.self.invariant in
    let l : k < length ms = omega (arith, c.requires.index, ap (λ (l : Listed). length l.marks) c.self.view_is, length-map ms (mark_in live)) in
    let at = c.index_mut.ensures.value in
    let e = c.clear_mark.ensures in let b = c.clear_mark.new.arena in
    unchanged live b.live ss
    (λ f t. let x = inv.counts f in let y = mark_held live a.limit ms k m l at inv.marks f in let z = e.changes.counts f in e.changes.bytes f (omega (arith, x, t)) (omega (arith, x, y, z, t)))
    ∙ ap (λ (l : Listed). l.pages) c.self.view_is

pub returns-clause-marks : goal.returns-clause-marks
returns-clause-marks c =
    let a = c.self.inside in let live = a.arena.live in let ss = a.slots.items in let ms = a.marks.items in let k = c.args.k in let m = c.index_mut.result.now in let inv = c.self.invariant in
    let l : k < length ms = omega (arith, c.requires.index, ap (λ (l : Listed). length l.marks) c.self.view_is, length-map ms (mark_in live)) in
    let at = c.index_mut.ensures.value in
    let e = c.clear_mark.ensures in let n = c.clear_mark.new.mark in let after = c.clear_mark.new.arena.live in
    let here_before : mark_in live n ≡ None = ap (λ b. cond b (Some (entries_in live n.slots.items)) None) e.unset in
    marks_unchanged live after (set ms k n)
    (λ f t. let x = inv.counts f in let y = mark-replaced live a.limit ms k m l at inv.marks f n in let z = e.changes.counts f in let u = ap (holders f) e.none in
    e.changes.bytes f (omega (arith, x, y, t, u)) (omega (arith, x, y, z, t, u)))
    ∙ marks-set live ms k n
    ∙ ap (λ (o : Option (List Entry)). set (marks_in live ms) k o) here_before
    ∙ ap (λ (l : Listed). set l.marks k None) c.self.view_is

pub returns-clause-spare : goal.returns-clause-spare
returns-clause-spare c =
    let a = c.self.inside in let live = a.arena.live in let ms = a.marks.items in let k = c.args.k in let m = c.index_mut.result.now in let inv = c.self.invariant in
    let l : k < length ms = omega (arith, c.requires.index, ap (λ (l : Listed). length l.marks) c.self.view_is, length-map ms (mark_in live)) in
    let held : AreBeside live m.slots.items [] = λ f. let n = inv.counts f in let h = mark_held live a.limit ms k m l c.index_mut.ensures.value inv.marks f in omega (arith, n, h) in
    let r = c.clear_mark.ensures.room [] held in omega (arith, r, ap (λ (l : Listed). l.spare) c.self.view_is)
