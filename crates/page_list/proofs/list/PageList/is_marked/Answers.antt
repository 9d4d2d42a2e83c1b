use Rattle.std.proofs.Common.{◌<◌, length, get_or, None, is_some, ap, ◌∙◌, sym, arith}
use Rattle.std.proofs.lemmas.List.{length-map}
use Rattle.page_list.specs.Entries.{Listed}
use Rattle.page_list.specs.Slots.{mark_in}
use Rattle.page_list.proofs.Marks.{mark_shown, shown_set}
use Rattle.page_list.proofs.list.PageList.is_marked.Goals as goal

pub returns : goal.returns
returns c =
    let a = c.self.inside in let live = a.arena.live in let ms = a.marks.items in let k = c.args.k in let m = c.index.result.now in
    let l : k < length ms = omega (arith, c.requires, ap (λ (l : Listed). length l.marks) c.self.view_is, length-map ms (mark_in live)) in
    sym (ap (λ (l : Listed). is_some (get_or l.marks k None)) (sym c.self.view_is) ∙ ap is_some (mark_shown live a.limit ms k m l c.index.ensures c.self.invariant.marks) ∙ shown_set m.set _)
