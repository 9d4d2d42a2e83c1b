use Rattle.std.proofs.Common.{ℕ, sym, ap, ◌∙◌}
use Rattle.emu_model.specs.Access.{Memory}
use Rattle.emu_model.specs.State.{Core, Vectors}
use Rattle.element_loops.specs.Planned.{load_by}
use Rattle.sve_loads.specs.Plans.{consecutive_plan, filled_shape}
use Rattle.sve_loads.proofs.at_once.load_filled_reg.Goals as goal

pub returns-in-Some-clause-loaded : goal.returns-in-Some-clause-loaded
returns-in-Some-clause-loaded c = λ is.
    let e : ℕ = c.args.e in
    let v : Vectors = c.args.vec.now in
    let core : Core = c.args.core.now in
    let m : Memory = c.args.mem.now.memory in
    ap (λ b. load_by (consecutive_plan (filled_shape e) c.args.zt c.args.pg c.args.rn b v) core v m) (sym c.at_register-base.ensures)
    ∙ c.load_first.ensures.loaded is
