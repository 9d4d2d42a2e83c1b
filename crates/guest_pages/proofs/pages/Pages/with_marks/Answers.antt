use Rattle.std.specs.Prelude.{ℕ, zero, suc, replicate}
use Rattle.std.proofs.Common.{List, length, Option, None, sym, ap, subst, arith}
use Rattle.std.specs.List.{AllByRecursion}
use Rattle.page_list.specs.Entries.{Listed}
use Rattle.guest_pages.specs.Places.{Entry, IsAscending, IsEntry, IsMarkInOrder}
use Rattle.guest_pages.proofs.pages.Pages.with_marks.Goals as goal

no_marks : (limit count : ℕ) → AllByRecursion (IsMarkInOrder limit) (replicate count None)
no_marks limit zero = tt
no_marks limit (suc count) = (tt, no_marks limit count)

pub invariant_of-result : goal.invariant_of-result
invariant_of-result c =
    let l = c.in_ok-list.list in let e = c.in_ok-list.ensures in
    record {
      order = record {
        each = subst (λ (es : List Entry). AllByRecursion IsEntry es) (sym (ap (λ (x : Listed). x.pages) e)) tt;
        ascending = subst (λ (es : List Entry). IsAscending es) (sym (ap (λ (x : Listed). x.pages) e)) tt;
        within = let n = ap (λ (x : Listed). length x.pages) e in omega (arith, n);
        narrow = let n = ap (λ (x : Listed). x.limit) e in omega (arith, n, c.ranges.limit.fits);
      };
      right = c.empty.ensures l.pages;
      marks = subst (λ (ms : List (Option (List Entry))). AllByRecursion (IsMarkInOrder l.limit) ms) (sym (ap (λ (x : Listed). x.marks) e)) (no_marks l.limit 16);
    }
