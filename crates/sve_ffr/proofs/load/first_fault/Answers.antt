use Rattle.std.proofs.Common.{◌%◌, ◌&&◌, not, nat_eq, ap, sym, ◌∙◌}
use Rattle.emu_model.specs.Marks.{MarkedMemory}
use Rattle.element_loops.specs.Listed.{listed}
use Rattle.sve_ffr.proofs.Loaded.{by_loaded}
use Rattle.sve_ffr.proofs.load.first_fault.Goals as goal

pub returns-clause-done : goal.returns-clause-done
returns-clause-done c =
    by_loaded c.args.row.now c.args.list.now.signed (listed c.args.row.now.register c.args.list.now) c.args.core.now c.args.vec.now c.args.mem.now.memory c.test_first.new.mem.memory _
    (ap (λ b. b && not (nat_eq (c.args.core.now.sp % 16) 0)) (sym c.tests_sp.ensures) ∙ c.in_default.ensures) c.in_default-test_first.ensures.result (ap (λ (m : MarkedMemory). m.memory) c.test_first.ensures.memory) (c.load.ensures.done c.args.core.now)
