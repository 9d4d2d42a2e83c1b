-- The answers are those of the definition.
use Rattle.std.proofs.Common.{◌≡◌, ℕ, ◌∙◌, ◌%◌, ◌^◌, ◌-◌, ◌+◌, sym, ap, Some}
use Rattle.emu_bits.specs.Fields.{bit}
use Rattle.emu_bits.specs.Bitmask.{rotated, element}
use Rattle.emu_bits.proofs.Elements.{no_log, refused, found, product}
use Rattle.emu_bits.proofs.bitmasks.bitmask.Goals as goal

pub returns-in_err-log : goal.returns-in_err-log
returns-in_err-log c =
    c.from_residual.ensures
    ∙ sym (no_log c.args.width (bit c.args.n) c.args.immr c.args.imms (sym c.element_log.ensures.log ∙ c.in_err-log.was))

pub returns-then-is_refused : goal.returns-then-is_refused
returns-then-is_refused c =
    sym (refused c.args.width (bit c.args.n) c.args.immr c.args.imms c.in_ok-log.log
    (sym c.element_log.ensures.log ∙ c.in_ok-log.was) (sym c.is_refused.ensures ∙ c.if-is_refused.true))

pub returns : goal.returns
returns c =
    let r : c.rotated-element.result ≡ element c.args.immr c.args.imms c.in_ok-log.log =
    c.rotated-element.ensures.value
    ∙ ap (λ (p : ℕ). rotated c.element_size-size.result (p - 1) (c.args.immr % c.element_size-size.result)) c.power.ensures.value
    ∙ ap (λ (s : ℕ). rotated s (2 ^ (c.args.imms % s + 1) - 1) (c.args.immr % s)) c.element_size-size.ensures.value in
    ap (λ (v : ℕ). Some v) (product c.args.width c.args.immr c.args.imms c.in_ok-log.log c.rotated-element.result c.lowest_bits.result r c.lowest_bits.ensures)
    ∙ sym (found c.args.width (bit c.args.n) c.args.immr c.args.imms c.in_ok-log.log
    (sym c.element_log.ensures.log ∙ c.in_ok-log.was) (sym c.is_refused.ensures ∙ c.if-is_refused.false))
