use Rattle.std.proofs.Common.{◌≡◌, ◌+◌, ◌*◌, ◌/◌, ap, ◌∙◌, arith}
use Rattle.emu_bits.specs.Numbers.{signed}
use Rattle.sve_effects.specs.VectorElements.{base_and_count}
use Rattle.sve_loads.proofs.AtOnce.{whole_stored}
use Rattle.sve_loads.proofs.at_once.store_z.Goals as goal

pub returns-clause-stored : goal.returns-clause-stored
returns-clause-stored c = λ is.
    let count : c.bits-count.result / 8 ≡ c.args.vec.now.bits / 8 = ap (λ n. n / 8) (c.bits-count.ensures.value ∙ c.length.ensures.value) in
    whole_stored c.args.imm9h c.args.imm9l c.args.rn c.args.zt (c.bits-count.result / 8) c.near_whole-base.result c.args.core.now c.args.vec.now c.length.ensures.length
    (omega (arith, c.get-number.ensures.small, c.get-number.ensures.value)) count
    (c.near_whole-base.ensures ∙ ap (λ n. base_and_count c.args.core.now c.args.rn (signed (c.args.imm9h * 8 + c.args.imm9l) 9) n) count)
    c.args.core.now c.args.mem.now.memory c.store_lanes.new.mem.memory c.z_words-words.result.now c.store_lanes.new.log.items
    (c.is_aligned.ensures.aligned c.if-not-is_aligned.false) c.near_whole-base.type_inv (c.store_lanes.ensures.allowed is) c.z_words-words.ensures.words (c.store_lanes.ensures.stored is) (c.store_lanes.ensures.logged is)
