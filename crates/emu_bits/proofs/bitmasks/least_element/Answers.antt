-- Each turn is one step of the shrinking.
use Rattle.std.proofs.Common.{◌≡◌, ℕ, ◌∙◌, ◌-◌, ◌/◌, ◌%◌, ◌^◌, sym, ap, arith}
use Rattle.emu_bits.specs.Search.{Part, shrunk, first_log}
use Rattle.emu_bits.proofs.Search.{shrink_step, shrink_stop}
use Rattle.emu_bits.proofs.bitmasks.least_element.Goals as goal

pub loop-log-preserved : goal.loop-log-preserved
loop-log-preserved c =
    let p : c.power.result ≡ 2 ^ 2 ^ (c.loop-log.log - 1) = c.power.ensures.value ∙ ap (λ (x : ℕ). 2 ^ x) c.element_size-half.ensures.value in (
      ap (λ (x : ℕ). shrunk (c.loop-log.log - 1) (c.loop-log.bits % x)) p
          ∙ shrink_step c.loop-log.log (c.loop-log.log - 1) c.loop-log.bits (omega arith) (omega arith)
          (ap (λ (x : ℕ). c.loop-log.bits / 2 ^ x) (sym c.element_size-half.ensures.value) ∙ c.if-bits-half.false ∙ ap (λ (x : ℕ). c.loop-log.bits % x) p)
          ∙ c.loop-log.invariant.0,
      omega arith,
      omega arith,
    )

-- at the end of the loop
stops : (c : goal.Then-bits-half) → record { log = c.loop-log.log; bits = c.loop-log.bits } ≡ shrunk (first_log c.args.width) c.args.value
stops c =
    let p : c.power.result ≡ 2 ^ 2 ^ (c.loop-log.log - 1) = c.power.ensures.value ∙ ap (λ (x : ℕ). 2 ^ x) c.element_size-half.ensures.value in
    sym (shrink_stop c.loop-log.log (c.loop-log.log - 1) c.loop-log.bits (omega arith) (omega arith)
    (λ e. c.if-bits-half.true (ap (λ (x : ℕ). c.loop-log.bits / 2 ^ x) c.element_size-half.ensures.value ∙ e ∙ ap (λ (x : ℕ). c.loop-log.bits % x) (sym p))))
    ∙ c.loop-log.invariant.0

pub returns-then-bits-half-clause-log : goal.returns-then-bits-half-clause-log
returns-then-bits-half-clause-log c = ap (λ (m : Part). m.log) (stops c)

pub returns-then-bits-half-clause-bits : goal.returns-then-bits-half-clause-bits
returns-then-bits-half-clause-bits c = ap (λ (m : Part). m.bits) (stops c)
