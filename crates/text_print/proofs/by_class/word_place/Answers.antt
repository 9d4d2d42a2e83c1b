use Rattle.std.proofs.Common.{ℕ, ◌+◌, ◌≤◌, length, get_or, sym, ◌∙◌, arith}
use Rattle.std.proofs.Math.ListN.{get_or-eq_default}
use Rattle.text_model.specs.ClassNumbers.{class_number}
use Rattle.text_print.specs.declared.by_class.TheConstants.{NONE, ROWS, PLACES}
use Rattle.text_print.proofs.by_class.word_place.Goals as goal

pub returns-then-value-ge64 : goal.returns-then-value-ge64
returns-then-value-ge64 c =
    let row : ℕ = get_or ROWS (class_number c.args.class) NONE in
    let l : length PLACES ≤ row + c.args.value = omega (arith, c.if-value-ge64.true) in
    c.from.ensures ∙ sym (get_or-eq_default PLACES NONE {n = row + c.args.value} l)
