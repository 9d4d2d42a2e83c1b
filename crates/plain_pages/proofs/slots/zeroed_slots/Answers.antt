use Rattle.std.proofs.Common.{◌≡◌, ◌+◌, ◌-◌, ◌++◌, suc, ap, subst, ◌∙◌, arith, List}
use Rattle.emu_model.specs.Access.{page_size}
use Rattle.plain_pages.specs.declared.slots.Slot.{Slot}
use Rattle.page_list.specs.Bytes.{as_bytes}
use Rattle.plain_pages.specs.Slots.{entries_of, zeroed_entries}
use Rattle.page_list.proofs.Bytes.{as_bytes-zeros}
use Rattle.plain_pages.proofs.Maps.{zeroed_next}
use Rattle.plain_pages.proofs.slots.zeroed_slots.Goals as goal

pub loop-number-preserved : goal.loop-number-preserved
loop-number-preserved c =
    let k = c.loop-number.number in
    let end = c.args.first + c.args.count in
    let left : end - k ≡ suc (end - (k + 1)) = omega (arith, c.loop-number-test.true) in
    let all = zeroed_entries c.args.first c.args.count c.args.rights in
    let s : Slot = record { number = k; rights = c.args.rights; bytes = c.in_ok-bytes.bytes } in
    ap (λ (l : List Slot). entries_of l ++ zeroed_entries (k + 1) (end - (k + 1)) c.args.rights) c.in_ok-push.ensures.items
    ∙ zeroed_next c.loop-number.slots.items s k (end - (k + 1)) c.args.rights all
    (ap (λ bytes. (k, record { rights = c.args.rights; bytes = bytes })) (ap as_bytes c.in_ok-bytes.ensures ∙ as_bytes-zeros page_size))
    (subst (λ n. entries_of c.loop-number.slots.items ++ zeroed_entries k n c.args.rights ≡ all) left c.loop-number.invariant)
