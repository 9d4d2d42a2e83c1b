use Rattle.std.proofs.Common.{◌≡◌, ℕ, List, true, Option, IfSome, get_or, ap, ◌∙◌, sym, subst, arith}
use Rattle.std.specs.FinMap.{contains_key}
use Rattle.emu_model.specs.declared.access.Kind.TheVariants.{Read}
use Rattle.page_list.specs.Entries.{Entry, IsGiven, Listed, is_held, line_of}
use Rattle.page_list.specs.Slots.{bytes_in, line_frame}
use Rattle.page_list.specs.declared.hand.Lines.{Lines}
use Rattle.page_list.proofs.Codes.{held_live, held_given, line_held}
use Rattle.page_list.proofs.list.PageList.read.Goals as goal

pub frame_bytes-requires : goal.frame_bytes-requires
frame_bytes-requires c =
    let a = c.self.inside in let page = c.args.page in let held = ap (λ (l : Listed). is_held l.hand.reads page) c.self.view_is ∙ c.requires in
    let at = line_held a.slots.items Read a.hand.reads.value c.self.invariant.hand.reads page held in
    subst (λ (o : Option ℕ). IfSome o (λ f. contains_key a.arena.live f ≡ true)) (sym (c.frame.ensures ∙ ap (λ (l : Lines). line_frame l (line_of page)) c.deref.ensures))
    (held_live a.arena.live a.slots.items (λ f. let n = c.self.invariant.counts f in omega (arith, n)) Read page (line_frame a.hand.reads.value (line_of page)) (get_or a.hand.reads.value.places (line_of page) 0) at)

pub returns-clause-given : goal.returns-clause-given
returns-clause-given c =
    let a = c.self.inside in let page = c.args.page in let held = ap (λ (l : Listed). is_held l.hand.reads page) c.self.view_is ∙ c.requires in
    let at = line_held a.slots.items Read a.hand.reads.value c.self.invariant.hand.reads page held in
    let r = c.frame_bytes.result.now in
    let found = ap (bytes_in a.arena.live) (sym (c.frame.ensures ∙ ap (λ (l : Lines). line_frame l (line_of page)) c.deref.ensures)) ∙ sym c.frame_bytes.ensures.bytes in
    subst (λ (es : List Entry). IsGiven es Read page r) (ap (λ (l : Listed). l.pages) c.self.view_is)
    (held_given a.arena.live a.slots.items (λ f. let n = c.self.invariant.counts f in omega (arith, n)) Read page (line_frame a.hand.reads.value (line_of page)) (get_or a.hand.reads.value.places (line_of page) 0) at r found)
