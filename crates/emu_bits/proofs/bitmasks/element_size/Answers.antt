use Rattle.std.proofs.Common.{◌^◌, ◌≤◌, arith}
use Rattle.std.proofs.Math.Nat.{pow-le-pow_right}
use Rattle.emu_bits.proofs.bitmasks.element_size.Goals as goal

pub returns-clause-small : goal.returns-clause-small
returns-clause-small c =
    let p : 2 ^ c.args.log ≤ 2 ^ 6 = pow-le-pow_right {n = 2} (omega arith) {i = c.args.log} {j = 6} c.requires in
    omega arith
