use Rattle.std.proofs.Common.{◌-◌, Bool, ap, ◌∙◌, arith}
use Rattle.std.proofs.lemmas.Bool.{eq-eqb, ne_eqb}
use Rattle.emu_bits.specs.Fields.{bit}
use Rattle.trace_lines.proofs.Same.{bits_differ, bits_none, bits_same}
use Rattle.trace_lines.proofs.vectors.+same_ffr_bits.Goals as goal

pub returns-then-count-eq0 : goal.returns-then-count-eq0
returns-then-count-eq0 t c = bits_none c.args.count (c.args.old.now.ffr) (c.args.new.now.ffr) c.if-count-eq0.true

pub returns-then-digit : goal.returns-then-digit
returns-then-digit t c =
    let some = c.if-count-eq0.false in
    bits_same c.args.count (c.args.count - 1) c.digit.result c.digit-2.result (c.args.old.now.ffr) (c.args.new.now.ffr) c.same_ffr_bits.result (omega (arith, some))
    (c.digit.ensures ∙ ap (λ (b : Bool). bit b) c.ffr_bit.ensures) (c.digit-2.ensures ∙ ap (λ (b : Bool). bit b) c.ffr_bit-2.ensures) (eq-eqb _ _ c.if-digit.true) c.same_ffr_bits.ensures

pub returns-else-digit : goal.returns-else-digit
returns-else-digit t c =
    let some = c.if-count-eq0.false in
    bits_differ c.args.count (c.args.count - 1) c.digit.result c.digit-2.result (c.args.old.now.ffr) (c.args.new.now.ffr) (omega (arith, some))
    (c.digit.ensures ∙ ap (λ (b : Bool). bit b) c.ffr_bit.ensures) (c.digit-2.ensures ∙ ap (λ (b : Bool). bit b) c.ffr_bit-2.ensures) (ne_eqb _ _ c.if-digit.false)
