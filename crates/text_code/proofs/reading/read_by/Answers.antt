use Rattle.std.proofs.Common.{Bool, if◌then◌else◌, Ok, Err, sym, ap, ◌∙◌}
use Rattle.text_model.specs.declared.slots.Refusal.TheVariants.{OutOfRange}
use Rattle.text_code.specs.Tables.{pattern_of}
use Rattle.text_code.proofs.Whole.{by_answer}
use Rattle.text_code.proofs.reading.read_by.Goals as goal

pub returns-then-holds : goal.returns-then-holds
returns-then-holds g c =
    let aimed = c.has_target-aimed.result in
    ap (λ (b : Bool). if b then Ok (record { word = c.in-Ok.word; aimed = aimed }) else Err OutOfRange) (sym c.if-holds.true ∙ c.holds.ensures)
    ∙ by_answer (g.T.Table.in_table c.args.table.now) (pattern_of c.args.pattern.now) (record { items = c.args.items.now; untargeted = c.args.untargeted.now }) c.deref.result.now c.deref-2.result.now aimed
    (Ok c.in-Ok.word) (c.deref.ensures.0 ∙ c.slots-slots.ensures) (c.deref-2.ensures.0 ∙ c.slots-slots.ensures) c.has_target-aimed.ensures (sym c.in-Ok.is ∙ c.answer_by.ensures)

pub returns-in-Err : goal.returns-in-Err
returns-in-Err g c =
    by_answer (g.T.Table.in_table c.args.table.now) (pattern_of c.args.pattern.now) (record { items = c.args.items.now; untargeted = c.args.untargeted.now }) c.deref.result.now c.deref-2.result.now
    c.has_target-aimed.result (Err c.in-Err.refusal) (c.deref.ensures.0 ∙ c.slots-slots.ensures) (c.deref-2.ensures.0 ∙ c.slots-slots.ensures) c.has_target-aimed.ensures (sym c.in-Err.is ∙ c.answer_by.ensures)
