use Rattle.std.proofs.Common.{◌≡◌, [], length, refl, sym, ap, subst, ◌∙◌, arith}
use Rattle.std.specs.List.{AllByRecursion}
use Rattle.frame_arena.specs.Frames.{Frames, count_of}
use Rattle.page_list.specs.Slots.{AreOwn, IsMark, holders, marked, sole_in}
use Rattle.page_list.proofs.Held.{empty-counts}
use Rattle.page_list.proofs.Codes.{none_at_first}
use Rattle.page_list.proofs.list.PageList.new.Goals as goal

pub invariant_of-result : goal.invariant_of-result
invariant_of-result c =
    let ss = c.in_ok-slots.slots.items in let a = c.in_ok-arena.arena in let ms = c.new-2.result.items in
    let none : ss ≡ [] = c.in_ok-slots.ensures.items in let no_marks : ms ≡ [] = c.new-2.ensures.items in let e = c.in_ok-arena.ensures in
    record {
      counts = λ f. let m = ap (λ (x : Frames). count_of x.live f) e ∙ empty-counts f in let n = ap (holders f) none in let k = ap (marked f) no_marks in omega (arith, m, n, k);
      own = subst (AreOwn a.live) (sym none) refl;
      spare = let n = ap (sole_in a.live) none in let m = ap (λ (x : Frames). x.spare) e in omega (arith, n, m);
      room = c.in_ok-slots.ensures.capacity;
      most = let n = ap length none in omega (arith, n);
      narrow = c.ranges.limit.fits;
      hand = none_at_first ss c.in_ok-hand.hand c.in_ok-hand.ensures;
      marks = subst (AllByRecursion (IsMark c.args.limit)) (sym no_marks) tt;
      object = λ some. let n = ap length no_marks in absurd (omega (arith, n, some));
    }
