-- At 32 bits they are half of those at 64.
use Rattle.std.proofs.Common.{ℕ, ◌∙◌, ◌/◌, ◌%◌, ◌^◌, sym, ap, arith}
use Rattle.emu_bits.specs.Bitmask.{repeated}
use Rattle.emu_bits.proofs.Elements.{lowest_half}
use Rattle.emu_bits.proofs.bitmasks.lowest_bits.Goals as goal

pub returns-then-width-eq32 : goal.returns-then-width-eq32
returns-then-width-eq32 c =
    ap (λ (x : ℕ). x % 4294967296) c.lowest_of_64-all.ensures
    ∙ lowest_half c.args.log c.requires.log.0 (c.requires.narrow (omega arith))
    ∙ ap (λ (x : ℕ). repeated (2 ^ c.args.log) 1 (x / 2 ^ c.args.log)) (sym c.if-width-eq32.true)
