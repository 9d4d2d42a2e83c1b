use Rattle.linux_calls.proofs.Takings.{took_piece}
use Rattle.linux_calls.proofs.ranges.take_piece.Goals as goal

pub returns-clause-took : goal.returns-clause-took
returns-clause-took g c =
    let e = c.take-taken.ensures in
    took_piece _ c.args.mem.now.memory c.args.address c.args.most c.ranges.address.fits c.writable-piece.result.now c.take-taken.new.into c.writable-piece.ensures.bytes c.take-taken.auto.into c.told_bytes-bytes.ensures.bytes _ _ c.take-taken.result e.count e.bytes e.rest
