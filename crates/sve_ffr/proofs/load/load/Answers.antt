use Rattle.std.proofs.Common.{◌≡◌, ◌/◌, subst, sym, ap, ◌∙◌}
use Rattle.emu_model.specs.Marks.{MarkedMemory}
use Rattle.sve_ffr.specs.Taking.{AreFrom, AreTaken, lane_numbers}
use Rattle.element_loops.specs.Listed.{listed}
use Rattle.sve_ffr.proofs.Loaded.{loaded_is}
use Rattle.sve_ffr.proofs.load.load.Goals as goal

pub returns-clause-done : goal.returns-clause-done
returns-clause-done c = λ core.
    let n : c.bits.result / c.args.row.now.bits ≡ c.args.vec.now.bits / c.args.row.now.bits = ap (λ n. n / c.args.row.now.bits) (c.bits.ensures.value ∙ c.length.ensures.value) in
    let taken : AreTaken c.args.row.now.register c.args.row.now.bits (c.args.vec.now.bits / c.args.row.now.bits) c.args.list.now c.args.mem.now.memory (c.args.vec.now.bits / c.args.row.now.bits) c.take-taken.result c.take-taken.new.log.items
    = subst (λ n. AreTaken c.args.row.now.register c.args.row.now.bits n c.args.list.now c.args.mem.now.memory n c.take-taken.result c.take-taken.new.log.items) n
    (c.take-taken.ensures.taken c.args.row.now.register (subst (λ n. AreFrom 0 n (lane_numbers (listed c.args.row.now.register c.args.list.now))) (sym n) c.requires.lanes)) in
    loaded_is c.args.row.now.register c.args.row.now.bits c.args.list.now c.args.vec.now c.clear.new.vec c.write.new.vec c.args.mem.now.memory c.take-taken.new.mem.memory c.take-taken.result c.first_cleared-end.result c.take-taken.new.log.items core
    c.requires.lanes taken c.clear.ensures c.first_cleared-end.ensures c.write.ensures (ap (λ (m : MarkedMemory). m.memory) c.take-taken.ensures.memory)
