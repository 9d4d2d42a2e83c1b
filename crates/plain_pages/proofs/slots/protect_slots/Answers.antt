use Rattle.std.proofs.Common.{◌≡◌, ◌+◌, ◌-◌, suc, sym, ap, ◌∙◌, subst, arith}
use Rattle.plain_pages.specs.Slots.{IsAscending, entries_of, all_changed, page_with_rights}
use Rattle.guest_pages.proofs.Maps.{ascending_changed}
use Rattle.plain_pages.proofs.slots.protect_slots.Goals as goal

pub loop-page-preserved : goal.loop-page-preserved
loop-page-preserved c =
    let f = page_with_rights c.args.rights in
    let page = c.loop-page.page in
    let end = c.args.first + c.args.count in
    let left : end - page ≡ suc (end - (page + 1)) = omega (arith, c.loop-page-test.true) in
    record {
      ascending = subst (λ es. IsAscending es) (sym c.protect_slot.ensures) (ascending_changed f page (entries_of c.loop-page.slots) c.loop-page.invariant.ascending);
      rest = ap (λ es. all_changed f (page + 1) (end - (page + 1)) es) c.protect_slot.ensures
          ∙ ap (λ n. all_changed f page n (entries_of c.loop-page.slots)) (sym left)
          ∙ c.loop-page.invariant.rest;
    }
