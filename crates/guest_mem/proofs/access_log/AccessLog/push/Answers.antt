use Rattle.std.proofs.Common.{ap, arith, rules}
use Rattle.arrayvec.specs.ArrayVec.{array_vec_len}
use Rattle.guest_mem.proofs.Held.{length_held}
use Rattle.guest_mem.proofs.access_log.AccessLog.push.Goals as goal

pub invariant_of-self : goal.invariant_of-self
invariant_of-self c =
    let i = c.self.inside in
    let held = length_held i.base i.bytes i.count i.len i.write i.cells (omega (arith, c.self.invariant)) in
    let seen = ap array_vec_len c.self.view_is in
    (omega (arith, held, seen, c.requires), search rules)
