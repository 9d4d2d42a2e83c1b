use Rattle.std.proofs.Common.{sym, append-nil, arith}
use Rattle.vl_sweep.proofs.LoadAppended.{digits_all, digits_more}
use Rattle.vl_sweep.proofs.load_line.push_digits.Goals as goal

pub digits-init : goal.digits-init
digits-init c = sym (append-nil c.args.lines.now.held)

pub digits-preserved : goal.digits-preserved
digits-preserved c = digits_more c.args.bytes.now c.args.lines.now.held c.digits.lines.held _ c.digits.at 0 c.digits-test.true c.digits.invariant c.in_ok-push_byte.ensures

pub returns : goal.returns
returns c = digits_all c.args.bytes.now c.args.lines.now.held c.digits.lines.held c.digits.at (omega (arith, c.digits.auto.at-end, c.digits-test.false)) c.digits.invariant
