use Rattle.std.proofs.Common.{ℕ, List, ◌++◌, ap₂, ◌∙◌}
use Rattle.asm_tokens.specs.Layout.{laid}
use Rattle.text_model.specs.declared.slots.Slot.{Slot}
use Rattle.text_model.specs.Text.{slot_tokens}
use Rattle.text_print.proofs.Laid.{name_and_tokens}
use Rattle.text_print.proofs.printing.print.Goals as goal

pub returns : goal.returns
returns c =
    name_and_tokens _ _ _ c.name-name.result.now c.edge_of.result (slot_tokens c.deref.result.now c.args.word c.args.pc)
    c.clear.ensures c.push_str.ensures.bytes c.edge_of.ensures c.put_slots.ensures
    ∙ ap₂ (λ (n : List ℕ) (ss : List Slot). n ++ laid n (slot_tokens ss c.args.word c.args.pc)) c.name-name.ensures (c.deref.ensures.0 ∙ c.slots-slots.ensures)
