use Rattle.std.proofs.Common.{◌<◌, ◌+◌, ◌*◌, ◌^◌, arith}
use Rattle.vec_regs.proofs.PackedLanes.{room, grown}
use Rattle.active_lanes.specs.Kept.{kept}
use Rattle.active_lanes.proofs.KeptWords.{pushed}
use Rattle.active_lanes.proofs.kept_words.masked.Goals as goal

pub overflow_mul-so_far : goal.overflow_mul-so_far
overflow_mul-so_far c =
    let z : 0 < 256 = omega arith in
    let r : c.loop-t.so_far * 256 + 0 < 2 ^ 64 = room 8 c.loop-t.so_far 0 8 c.loop-t.t c.loop-t.invariant.small z c.loop-t-test.true c.loop-t.auto.t (omega arith) in
    record { fits = omega (arith, r) }

pub overflow_add-so_far : goal.overflow_add-so_far
overflow_add-so_far c = record { fits = room 8 c.loop-t.so_far c.kept_byte.result 8 c.loop-t.t c.loop-t.invariant.small c.kept_byte.ensures.small c.loop-t-test.true c.loop-t.auto.t (omega arith) }

pub loop-t-preserved : goal.loop-t-preserved
loop-t-preserved c = record {
  bytes = pushed (kept (c.args.w) c.args.field c.args.word) c.loop-t.so_far c.kept_byte.result c.loop-t.t c.kept_byte.ensures.small c.loop-t-test.true c.loop-t.auto.t c.kept_byte.ensures.value c.loop-t.invariant.bytes;
  small = grown 8 c.loop-t.so_far c.kept_byte.result 8 c.loop-t.t c.loop-t.invariant.small c.kept_byte.ensures.small c.loop-t-test.true c.loop-t.auto.t;
}
