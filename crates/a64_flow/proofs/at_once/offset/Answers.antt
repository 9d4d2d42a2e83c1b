use Rattle.a64_flow.proofs.AtOnceRows.{by_as, offset_done}
use Rattle.a64_flow.proofs.at_once.offset.Goals as goal

pub returns-then-moved-clause-done : goal.returns-then-moved-clause-done
returns-then-moved-clause-done g c =
    offset_done (g.W.Moves.transfer c.args.what) (g.W.Moves.registers c.args.what) c.args.n (g.W.Moves.bytes c.args.what) c.args.core.now c.moved.new.core c.args.mem.now.memory c.moved.new.mem.memory c.moved.new.log.items
    c.args.by c.near-there.result (by_as _ _ _ c.ranges.by c.near-there.ensures) (c.moved.ensures.done c.if-moved.true)
