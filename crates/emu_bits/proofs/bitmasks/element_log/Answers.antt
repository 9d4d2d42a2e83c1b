-- The number has seven bits, and six where N is 0.
use Rattle.std.proofs.Common.{◌≡◌, ℕ, ◌+◌, ◌*◌, ◌-◌, ◌<◌, ◌≤◌, ◌∙◌, sym, ap, arith, subst}
use Rattle.std.specs.Int.Count.{count_leading_zeros}
use Rattle.emu_bits.specs.Fields.{bit}
use Rattle.emu_bits.specs.Bitmask.{highest_set}
use Rattle.emu_bits.proofs.Elements.{bit_is, bit_small, log_is, log_below}
use Rattle.emu_bits.proofs.bitmasks.element_log.Goals as goal

pub returns-else-sizes-eq0-clause-log : goal.returns-else-sizes-eq0-clause-log
returns-else-sizes-eq0-clause-log c =
    let m : ℕ = 63 - c.args.imms in
    let q : c.from.result ≡ bit c.args.n = c.from.ensures ∙ bit_is c.args.n in
    let b : bit c.args.n < 2 = bit_small c.args.n in
    sym (log_is (c.from.result * 64 + m) (omega arith) (λ e. omega (arith, e)))
    ∙ ap (λ (x : ℕ). highest_set 6 (x * 64 + m)) q

pub returns-else-sizes-eq0-clause-small : goal.returns-else-sizes-eq0-clause-small
returns-else-sizes-eq0-clause-small c =
    let m : ℕ = 63 - c.args.imms in
    subst (λ (x : ℕ). 31 - count_leading_zeros 32 (x * 64 + m) ≤ 5 + bit c.args.n) (sym c.from.ensures)
    (log_below c.args.n m (omega arith))
