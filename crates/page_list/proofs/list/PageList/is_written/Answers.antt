use Rattle.std.proofs.Common.{get_or, ap, ◌∙◌, sym, subst, arith}
use Rattle.emu_model.specs.declared.access.Kind.TheVariants.{Write}
use Rattle.page_list.specs.Entries.{IsGivenAt, Listed, is_held, line_of, place_at_hand}
use Rattle.page_list.specs.Slots.{line_frame}
use Rattle.page_list.specs.declared.hand.Lines.{Lines}
use Rattle.page_list.proofs.Codes.{held_given_at, line_held}
use Rattle.page_list.proofs.list.PageList.is_written.Goals as goal

pub returns-clause-given : goal.returns-clause-given
returns-clause-given c = λ t.
    let a = c.self.inside in let page = c.args.page in
    let at = line_held a.slots.items Write a.hand.writes.value c.self.invariant.hand.writes page (sym (c.has.ensures ∙ ap (λ (l : Lines). is_held l.pages page) c.deref.ensures) ∙ t) in
    subst (λ (l : Listed). IsGivenAt l.pages Write page (place_at_hand l.hand page)) c.self.view_is
    (held_given_at a.arena.live a.slots.items (λ f. let n = c.self.invariant.counts f in omega (arith, n)) Write page (line_frame a.hand.writes.value (line_of page)) (get_or a.hand.writes.value.places (line_of page) 0) at)
