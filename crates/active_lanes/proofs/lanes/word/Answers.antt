use Rattle.std.proofs.Common.{◌+◌, ◌-◌, arith}
use Rattle.std.proofs.lemmas.Nat.{pow_pos}
use Rattle.active_lanes.specs.Placed.{lane_at}
use Rattle.active_lanes.proofs.Words.{word_bytes, word_starts, word_more, word_small, word_fits}
use Rattle.active_lanes.proofs.lanes.word.Goals as goal

pub loop-q-init : goal.loop-q-init
loop-q-init c = record {
  is = word_starts c.args.e (λ q. lane_at c.args.is_signed c.args.e c.args.n c.args.bytes.now c.args.at c.args.step (c.args.k + q));
  small = pow_pos _;
}

pub lane-v-requires-clause-room : goal.lane-v-requires-clause-room
lane-v-requires-clause-room c = c.requires.room (c.loop-q.q - 1) (omega (arith, c.loop-q-test.true, c.loop-q.auto.q))

pub overflow_cast-so_far-in-loop-q-2 : goal.overflow_cast-so_far-in-loop-q-2
overflow_cast-so_far-in-loop-q-2 c = record {
  fits = word_fits c.args.e c.loop-q.q c.loop-q.so_far c.lane-v.result c.modulus-m.result c.requires.size c.loop-q-test.true c.loop-q.auto.q c.modulus-m.ensures.value c.loop-q.invariant.small;
}

pub loop-q-preserved : goal.loop-q-preserved
loop-q-preserved c = record {
  is = word_more c.args.e c.loop-q.q c.loop-q.so_far c.lane-v.result c.modulus-m.result (λ q. lane_at c.args.is_signed c.args.e c.args.n c.args.bytes.now c.args.at c.args.step (c.args.k + q))
      c.loop-q-test.true c.loop-q.auto.q c.modulus-m.ensures.value c.lane-v.ensures c.loop-q.invariant.is;
  small = word_small c.args.e c.loop-q.q c.loop-q.so_far c.lane-v.result c.modulus-m.result c.loop-q-test.true c.loop-q.auto.q c.modulus-m.ensures.value c.loop-q.invariant.small;
}

pub returns : goal.returns
returns c =
    word_bytes c.args.e c.loop-q.q c.loop-q.so_far (λ q. lane_at c.args.is_signed c.args.e c.args.n c.args.bytes.now c.args.at c.args.step (c.args.k + q))
    c.requires.size (omega (arith, c.loop-q-test.false)) c.loop-q.invariant.is
