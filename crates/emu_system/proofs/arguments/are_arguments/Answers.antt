use Rattle.std.proofs.Common.{length, map, string_bytes, sym, ◌∙◌, arith}
use Rattle.std.proofs.lemmas.List.{length-map}
use Rattle.emu_system.proofs.FirstWords.{not_both, told_last, told_long, told_many}
use Rattle.emu_system.proofs.arguments.are_arguments.Goals.{then-args-le-MOST_ARGUMENTS, else-args-le-MOST_ARGUMENTS}
use Rattle.emu_system.proofs.arguments.are_arguments.Goals as goal

pub returns-then-is_none : goal.returns-then-is_none
returns-then-is_none c =
    let ws = map string_bytes c.args.args.now in
    let passed = c.if-is_none.true in
    elim c.if-args-le-MOST_ARGUMENTS.branch [
      | then-args-le-MOST_ARGUMENTS w ↦
          let few = w.if-args-le-MOST_ARGUMENTS.true in
          told_last ws w.first_too_long.result c.first_with_zero.result w.is_none.result c.is_none-then-is_none.result (omega (arith, length-map c.args.args.now string_bytes))
          w.first_too_long.ensures.place c.first_with_zero.ensures.place w.is_none.ensures c.is_none-then-is_none.ensures (sym w.value-is ∙ passed)
      | else-args-le-MOST_ARGUMENTS w ↦ absurd (not_both (length c.args.args.now) w.if-args-le-MOST_ARGUMENTS.false (sym w.value-is ∙ passed))
    ]

pub returns-else-is_none : goal.returns-else-is_none
returns-else-is_none c =
    let ws = map string_bytes c.args.args.now in
    let failed = c.if-is_none.false in
    elim c.if-args-le-MOST_ARGUMENTS.branch [
      | then-args-le-MOST_ARGUMENTS w ↦
          let few = w.if-args-le-MOST_ARGUMENTS.true in
          told_long ws w.first_too_long.result w.is_none.result c.if-args-le-MOST_ARGUMENTS.value (omega (arith, length-map c.args.args.now string_bytes))
          w.first_too_long.ensures.place w.is_none.ensures w.value-is failed
      | else-args-le-MOST_ARGUMENTS w ↦
          let many = w.if-args-le-MOST_ARGUMENTS.false in
          told_many ws c.if-args-le-MOST_ARGUMENTS.value (omega (arith, length-map c.args.args.now string_bytes)) failed
    ]
