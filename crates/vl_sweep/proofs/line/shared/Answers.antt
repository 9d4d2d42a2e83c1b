use Rattle.std.proofs.Common.{arith}
use Rattle.vl_sweep.proofs.Shared.{share_end}
use Rattle.vl_sweep.proofs.line.shared.Goals as goal

pub returns : goal.returns
returns c =
    let xs = c.args.first.now in
    let ys = c.args.output.now in
    let end = share_end xs ys c.bytes.at (omega (arith, c.min-most.ensures, c.bytes-test.false)) in
    omega (arith, c.bytes.invariant, end, c.min-most.ensures, c.bytes.auto.at-end, c.bytes-test.false)
