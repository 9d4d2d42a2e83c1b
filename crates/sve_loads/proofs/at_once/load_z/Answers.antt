use Rattle.std.proofs.Common.{◌≡◌, ◌+◌, ◌*◌, ◌/◌, sym, ap, ◌∙◌, arith}
use Rattle.emu_model.specs.declared.trap.Effect.TheVariants.{Next}
use Rattle.emu_model.specs.Marks.{MarkedMemory}
use Rattle.emu_bits.specs.Numbers.{signed}
use Rattle.sve_effects.specs.VectorElements.{base_and_count}
use Rattle.sve_loads.proofs.AtOnce.{whole_loaded}
use Rattle.sve_loads.proofs.at_once.load_z.Goals as goal

pub returns-clause-loaded : goal.returns-clause-loaded
returns-clause-loaded c = λ is.
    let count : c.bits-count.result / 8 ≡ c.args.vec.now.bits / 8 = ap (λ n. n / 8) (c.bits-count.ensures.value ∙ c.length.ensures.value) in
    whole_loaded c.args.imm9h c.args.imm9l c.args.rn c.args.zt (c.bits-count.result / 8) c.near_whole-base.result c.args.core.now c.args.vec.now c.length.ensures.length
    (omega (arith, c.get-number.ensures.small, c.get-number.ensures.value)) count
    (c.near_whole-base.ensures ∙ ap (λ n. base_and_count c.args.core.now c.args.rn (signed (c.args.imm9h * 8 + c.args.imm9l) 9) n) count)
    c.args.core.now c.args.mem.now.memory c.load_lanes.new.vec c.load_lanes.new.log.items
    (c.is_aligned.ensures.aligned c.if-not-is_aligned.false) (c.load_lanes.ensures.allowed is) (c.load_lanes.ensures.bytes is) (c.load_lanes.ensures.loaded is) (c.load_lanes.ensures.logged is)
    ∙ ap (λ (x : MarkedMemory). record { core = c.args.core.now; vectors = c.load_lanes.new.vec; memory = x.memory; accesses = c.load_lanes.new.log.items; effect = Next }) (sym c.load_lanes.ensures.memory)
