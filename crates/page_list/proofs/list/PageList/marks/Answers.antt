use Rattle.std.proofs.Common.{length, ap, arith}
use Rattle.std.proofs.lemmas.List.{length-map}
use Rattle.page_list.specs.Entries.{Listed}
use Rattle.page_list.specs.Slots.{mark_in}
use Rattle.page_list.proofs.list.PageList.marks.Goals as goal

pub returns : goal.returns
returns c =
    let a = c.self.inside in
    let shown = ap (λ (l : Listed). length l.marks) c.self.view_is in
    omega (arith, c.len.ensures, a.marks.ok.0, length-map a.marks.items (mark_in a.arena.live), shown)
