use Rattle.std.proofs.Common.{List, Some, ap, ◌∙◌, sym, subst, arith}
use Rattle.emu_model.specs.declared.access.Kind.TheVariants.{Fetch}
use Rattle.page_list.specs.Bytes.{as_bytes, as_bytes-same}
use Rattle.page_list.specs.Entries.{Entry, IsGiven, Listed}
use Rattle.page_list.proofs.Codes.{held_live, held_given}
use Rattle.page_list.proofs.list.PageList.code.Goals as goal

pub bytes_at-requires : goal.bytes_at-requires
bytes_at-requires c =
    let a = c.self.inside in let number = ap (λ (l : Listed). l.hand.code) c.self.view_is ∙ c.requires.0 in
    let some = c.self.invariant.hand.code (omega (arith, c.requires.1, number)) in
    held_live a.arena.live a.slots.items (λ f. let n = c.self.invariant.counts f in omega (arith, n)) Fetch a.hand.code.number (Some a.hand.code.frame) some.0 some.1

pub returns-clause-given : goal.returns-clause-given
returns-clause-given c =
    let a = c.self.inside in let number = ap (λ (l : Listed). l.hand.code) c.self.view_is ∙ c.requires.0 in
    let some = c.self.invariant.hand.code (omega (arith, c.requires.1, number)) in
    let r = c.bytes_at.result.now in
    let found = ap as_bytes (sym c.bytes_at.ensures.bytes) ∙ as_bytes-same r c.told_bytes.ensures.bytes ∙ sym c.told_bytes.ensures.same in
    subst (λ page. IsGiven c.args.self.now.pages Fetch page c.told_bytes.result.now) number
    (subst (λ (es : List Entry). IsGiven es Fetch a.hand.code.number c.told_bytes.result.now) (ap (λ (l : Listed). l.pages) c.self.view_is)
    (held_given a.arena.live a.slots.items (λ f. let n = c.self.invariant.counts f in omega (arith, n)) Fetch a.hand.code.number (Some a.hand.code.frame) some.0 some.1 c.told_bytes.result.now found))
