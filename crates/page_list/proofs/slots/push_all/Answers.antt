use Rattle.std.proofs.Common.{◌≡◌, ◌+◌, ◌-◌, ◌++◌, ◌∷◌, [], suc, List, length, length-append, ap, subst, ◌∙◌, append_assoc, arith}
use Rattle.page_list.specs.declared.slots.Hold.TheVariants.{Bare}
use Rattle.page_list.specs.declared.slots.Slot.{Slot}
use Rattle.page_list.specs.Slots.{zeroed_slots}
use Rattle.page_list.proofs.slots.push_all.Goals as goal

pub loop-number-preserved : goal.loop-number-preserved
loop-number-preserved c =
    let i = c.loop-number.invariant in let k = c.loop-number.number in let end = c.args.first + c.args.count in
    let left : end - k ≡ suc (end - (k + 1)) = omega (arith, c.loop-number-test.true) in
    let all = c.args.slots.now.items ++ zeroed_slots c.args.first c.args.count c.args.rights in
    let ss = c.loop-number.slots.items in let s : Slot = record { number = k; rights = c.args.rights; hold = Bare } in let rest = zeroed_slots (k + 1) (end - (k + 1)) c.args.rights in
    let pushed = c.push_reserved.ensures.items in let long = ap length pushed ∙ length-append ss (s ∷ []) in (
      ap (λ (l : List Slot). l ++ rest) pushed ∙ append_assoc ss (s ∷ []) rest ∙ subst (λ n. ss ++ zeroed_slots k n c.args.rights ≡ all) left i.0,
      omega (arith, long, i.1),
      c.push_reserved.ensures.capacity ∙ i.2,
    )
