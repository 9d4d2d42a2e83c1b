use Rattle.std.proofs.Common.{ap, arith}
use Rattle.arrayvec.specs.ArrayVec.{array_vec_len}
use Rattle.guest_mem.proofs.Held.{length_held}
use Rattle.guest_mem.proofs.access_log.AccessLog.push_run.Goals as goal

pub returns-then-len-eq0-clause-len : goal.returns-then-len-eq0-clause-len
returns-then-len-eq0-clause-len c =
    let i = c.self.inside in
    let held = length_held c.args.base c.args.n c.args.count i.len c.args.write i.cells (omega (arith, c.self.invariant)) in
    let was = length_held i.base i.bytes i.count i.len i.write i.cells (omega (arith, c.self.invariant)) in
    let seen = ap array_vec_len c.self.view_is in
    omega (arith, held, was, seen, c.if-len-eq0.true)
