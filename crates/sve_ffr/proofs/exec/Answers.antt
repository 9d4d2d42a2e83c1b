use Rattle.std.proofs.Common.{◌≡◌, ◌/◌, ℕ, Bool, List, ap, sym, subst, ◌∙◌}
use Rattle.sve_effects.specs.VectorElements.{Layout}
use Rattle.sve_effects.specs.Effects.{layout}
use Rattle.element_loops.specs.Listed.{listed}
use Rattle.sve_ffr.specs.declared.first_fault_load.FirstFaultLoad.{FirstFaultLoad}
use Rattle.sve_ffr.specs.Rows.{first_fault_load_of, first_fault_by}
use Rattle.sve_ffr.specs.RowLaws.{row_registers, row_lanes}
use Rattle.sve_ffr.specs.Taking.{AreFrom, lane_numbers}
use Rattle.sve_ffr.proofs.Cleared.{below_from}
use Rattle.sve_ffr.proofs.exec.Goals as goal

pub first_fault-requires-clause-lanes : goal.first_fault-requires-clause-lanes
first_fault-requires-clause-lanes c =
    let l : Layout = layout c.args.i.now c.args.core.now c.args.vec.now in
    let register : l.register ≡ c.first_fault_load_of-row.result.register = ap (λ (r : FirstFaultLoad). r.register) (sym c.first_fault_load_of-row.ensures.value) in
    let lanes : l.lanes ≡ c.args.vec.now.bits / c.first_fault_load_of-row.result.bits
    = row_lanes c.args.i.now c.args.core.now c.args.vec.now c.requires.own ∙ ap (λ (r : FirstFaultLoad). c.args.vec.now.bits / r.bits) (sym c.first_fault_load_of-row.ensures.value) in
    subst (λ n. AreFrom 0 n (lane_numbers (listed c.first_fault_load_of-row.result.register c.args.list.now))) lanes
    (subst (λ (r : ℕ). AreFrom 0 l.lanes (lane_numbers (listed r c.args.list.now))) register
    (subst (λ (qs : List ℕ). AreFrom 0 l.lanes qs) (sym c.requires.lanes) (below_from l.lanes l (row_registers c.args.i.now c.args.core.now c.args.vec.now c.requires.own))))

pub returns-clause-done : goal.returns-clause-done
returns-clause-done c =
    let l : Layout = layout c.args.i.now c.args.core.now c.args.vec.now in
    let register : l.register ≡ c.first_fault_load_of-row.result.register = ap (λ (r : FirstFaultLoad). r.register) (sym c.first_fault_load_of-row.ensures.value) in
    ap (λ (s : Bool). first_fault_by (first_fault_load_of c.args.i.now) s (listed l.register c.args.list.now) c.args.core.now c.args.vec.now c.args.mem.now.memory) (sym c.requires.is_signed)
    ∙ ap (λ (r : FirstFaultLoad). first_fault_by r c.args.list.now.signed (listed l.register c.args.list.now) c.args.core.now c.args.vec.now c.args.mem.now.memory) (sym c.first_fault_load_of-row.ensures.value)
    ∙ ap (λ (r : ℕ). first_fault_by c.first_fault_load_of-row.result c.args.list.now.signed (listed r c.args.list.now) c.args.core.now c.args.vec.now c.args.mem.now.memory) register
    ∙ c.first_fault.ensures.done
