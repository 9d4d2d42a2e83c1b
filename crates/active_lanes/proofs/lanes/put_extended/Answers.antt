use Rattle.active_lanes.proofs.Words.{same_lanes}
use Rattle.active_lanes.proofs.lanes.put_extended.Goals as goal

pub returns-then-n-eq4-clause-bytes : goal.returns-then-n-eq4-clause-bytes
returns-then-n-eq4-clause-bytes c =
    same_lanes c.args.e c.args.n 64 4 c.args.count c.args.is_signed c.args.bytes.now c.put_each-then-n-eq4.new.words c.args.at c.args.step c.if-e-eq64-3.true c.if-n-eq4.true c.put_each-then-n-eq4.ensures.bytes
