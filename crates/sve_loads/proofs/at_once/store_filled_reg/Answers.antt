use Rattle.std.proofs.Common.{ℕ, sym, ap, ◌∙◌}
use Rattle.emu_model.specs.Access.{Memory}
use Rattle.emu_model.specs.State.{Core, Vectors}
use Rattle.element_loops.specs.Planned.{store_by}
use Rattle.sve_loads.specs.Plans.{consecutive_plan, filled_shape}
use Rattle.sve_loads.proofs.at_once.store_filled_reg.Goals as goal

pub returns-in-Some-clause-stored : goal.returns-in-Some-clause-stored
returns-in-Some-clause-stored c = λ is.
    let e : ℕ = c.args.e in
    let v : Vectors = c.args.vec.now in
    let core : Core = c.args.core.now in
    let m : Memory = c.args.mem.now.memory in
    ap (λ b. store_by (consecutive_plan (filled_shape e) c.args.zt c.args.pg c.args.rn b v) core v m) (sym c.at_register-base.ensures)
    ∙ c.store_first.ensures.stored is
