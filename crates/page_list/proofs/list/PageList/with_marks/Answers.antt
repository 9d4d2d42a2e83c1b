use Rattle.std.proofs.Common.{◌≡◌, ◌*◌, [], length, replicate, None, refl, sym, ap, subst, ◌∙◌, arith}
use Rattle.frame_arena.specs.Frames.{Frames, count_of}
use Rattle.page_list.specs.Slots.{AreOwn, entries_in, holders, marks_in, sole_in}
use Rattle.page_list.proofs.Held.{empty-counts}
use Rattle.page_list.proofs.Marks.{fresh_marks, fresh_shown, fresh_slots, holders-marked}
use Rattle.page_list.proofs.Codes.{none_at_first}
use Rattle.page_list.proofs.list.PageList.with_marks.Goals as goal

pub invariant_of-result : goal.invariant_of-result
invariant_of-result c =
    let ss = c.in_ok-slots.slots.items in let a = c.in_ok-arena.arena in let ms = c.loop-turn.marks.items in let limit = c.args.limit in
    let none : ss ≡ [] = c.in_ok-slots.ensures.items in let e = c.in_ok-arena.ensures in let i = c.loop-turn.invariant in
    let sixteen : length ms ≡ 16 = omega (arith, i.0, c.loop-turn-test.false) in
    record {
      counts = λ f.
          let m = ap (λ (x : Frames). count_of x.live f) e ∙ empty-counts f in let n = ap (holders f) none in let k = sym (holders-marked f ms) ∙ ap (holders f) (fresh_slots limit ms i.2) in
          omega (arith, m, n, k);
      own = subst (AreOwn a.live) (sym none) refl;
      spare = let n = ap (sole_in a.live) none in let m = ap (λ (x : Frames). x.spare) e in omega (arith, n, m);
      room = c.in_ok-slots.ensures.capacity;
      most = let n = ap length none in omega (arith, n);
      narrow = c.ranges.limit.fits;
      hand = none_at_first ss c.in_ok-hand.hand c.in_ok-hand.ensures;
      marks = fresh_marks limit ms i.2;
      object = λ _. record { sixteen = sixteen; frames = ap (λ (x : Frames). x.total) e; few = c.requires };
    }

pub returns : goal.returns
returns c =
    let ss = c.in_ok-slots.slots.items in let a = c.in_ok-arena.arena in let ms = c.loop-turn.marks.items in let limit = c.args.limit in let i = c.loop-turn.invariant in
    let none : ss ≡ [] = c.in_ok-slots.ensures.items in
    let sixteen : length ms ≡ 16 = omega (arith, i.0, c.loop-turn-test.false) in
    let pages : entries_in a.live ss ≡ [] = ap (entries_in a.live) none in
    let marks : marks_in a.live ms ≡ replicate 16 None = fresh_shown a.live limit ms i.2 ∙ ap (λ n. replicate n None) sixteen in
    let spare : a.spare ≡ 3 * limit = ap (λ (x : Frames). x.spare) c.in_ok-arena.ensures in
    λ j. record { pages = pages j; limit = limit; hand = c.in_ok-hand.ensures j; marks = marks j; spare = spare j }
