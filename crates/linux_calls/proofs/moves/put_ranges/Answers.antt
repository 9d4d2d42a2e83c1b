use Rattle.std.proofs.Common.{ap}
use Rattle.emu_model.specs.Marks.{MarkedMemory}
use Rattle.linux_calls.proofs.Filled.{put_stopped}
use Rattle.linux_calls.proofs.moves.put_ranges.Goals as goal

pub returns-in_err-put_range-clause-bytes : goal.returns-in_err-put_range-clause-bytes
returns-in_err-put_range-clause-bytes g c =
    let inv = c.loop-range.invariant in
    put_stopped c.args.mem.now.memory c.loop-range.mem.memory c.args.ranges.now c.loop-range.range-index _ _ _ _ _ c.from_residual.result (ap (λ (m : MarkedMemory). m.memory) inv.unchanged) c.loop-range-test.true c.from_residual.ensures.0 inv.gained c.in_err-put_range.ensures.bytes
