use Rattle.std.proofs.Common.{◌≡◌, ◌/◌, ℕ, sym, ap, ◌∙◌}
use Rattle.emu_model.specs.Access.{Memory}
use Rattle.emu_model.specs.State.{Core, Vectors}
use Rattle.element_loops.specs.Planned.{store_by}
use Rattle.emu_bits.specs.Numbers.{signed}
use Rattle.sve_effects.specs.VectorElements.{base_and_count}
use Rattle.sve_loads.specs.Plans.{consecutive_plan, filled_shape}
use Rattle.sve_loads.proofs.AtOnce.{all_bytes}
use Rattle.sve_loads.proofs.at_once.store_filled_imm.Goals as goal

pub returns-in-Some-clause-stored : goal.returns-in-Some-clause-stored
returns-in-Some-clause-stored c = λ is.
    let e : ℕ = c.args.e in
    let v : Vectors = c.args.vec.now in
    let core : Core = c.args.core.now in
    let m : Memory = c.args.mem.now.memory in
    let count : c.bits.result / 8 ≡ c.args.vec.now.bits / 8 = ap (λ n. n / 8) (c.bits.ensures.value ∙ c.length.ensures.value) in
    ap (λ n. store_by (consecutive_plan (filled_shape e) c.args.zt c.args.pg c.args.rn (base_and_count core c.args.rn (signed c.args.imm4 4) n) v) core v m)
    (sym (all_bytes c.args.e c.args.vec.now.bits c.requires.size c.length.ensures.length) ∙ sym count)
    ∙ ap (λ b. store_by (consecutive_plan (filled_shape e) c.args.zt c.args.pg c.args.rn b v) core v m) (sym c.near-base.ensures)
    ∙ c.store_first.ensures.stored is
