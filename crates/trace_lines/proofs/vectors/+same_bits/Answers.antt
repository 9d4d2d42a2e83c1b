use Rattle.std.proofs.Common.{◌-◌, Bool, ap, ◌∙◌, arith}
use Rattle.std.proofs.lemmas.Bool.{eq-eqb, ne_eqb}
use Rattle.emu_bits.specs.Fields.{bit}
use Rattle.emu_model.specs.Lanes.{read_p}
use Rattle.trace_lines.proofs.Same.{bits_differ, bits_none, bits_same}
use Rattle.trace_lines.proofs.vectors.+same_bits.Goals as goal

pub returns-then-count-eq0 : goal.returns-then-count-eq0
returns-then-count-eq0 t c = bits_none c.args.count (read_p c.args.old.now c.args.r) (read_p c.args.new.now c.args.r) c.if-count-eq0.true

pub returns-then-digit : goal.returns-then-digit
returns-then-digit t c =
    let some = c.if-count-eq0.false in
    bits_same c.args.count (c.args.count - 1) c.digit.result c.digit-2.result (read_p c.args.old.now c.args.r) (read_p c.args.new.now c.args.r) c.same_bits.result (omega (arith, some))
    (c.digit.ensures ∙ ap (λ (b : Bool). bit b) c.p_bit.ensures) (c.digit-2.ensures ∙ ap (λ (b : Bool). bit b) c.p_bit-2.ensures) (eq-eqb _ _ c.if-digit.true) c.same_bits.ensures

pub returns-else-digit : goal.returns-else-digit
returns-else-digit t c =
    let some = c.if-count-eq0.false in
    bits_differ c.args.count (c.args.count - 1) c.digit.result c.digit-2.result (read_p c.args.old.now c.args.r) (read_p c.args.new.now c.args.r) (omega (arith, some))
    (c.digit.ensures ∙ ap (λ (b : Bool). bit b) c.p_bit.ensures) (c.digit-2.ensures ∙ ap (λ (b : Bool). bit b) c.p_bit-2.ensures) (ne_eqb _ _ c.if-digit.false)
