use Rattle.std.proofs.Common.{◌<◌, ◌+◌, ◌*◌, ◌/◌, length, refl, arith}
use Rattle.active_lanes.specs.Placed.{lane_at}
use Rattle.active_lanes.proofs.Words.{lanes_few, lane_below, one_more_word, kept_above}
use Rattle.active_lanes.proofs.lanes.put_each.Goals as goal

pub loop-i-init : goal.loop-i-init
loop-i-init c = record { done = λ j h. absurd (omega arith); above = λ k h. refl }

pub word-requires-clause-few : goal.word-requires-clause-few
word-requires-clause-few c = lanes_few c.args.e c.loop-i.i c.requires.size (omega (arith, c.loop-i-test.true, c.requires.few))

pub word-requires-clause-room : goal.word-requires-clause-room
word-requires-clause-room c = λ q h.
    c.requires.room (c.loop-i.i * (64 / c.args.e) + q) (lane_below c.loop-i.i q c.args.count (64 / c.args.e) c.loop-i-test.true h)

pub loop-i-preserved : goal.loop-i-preserved
loop-i-preserved c =
    let within : c.loop-i.i < length c.loop-i.words = omega (arith, c.loop-i-test.true, c.requires.long) in
    record {
      done = one_more_word c.args.e c.loop-i.i c.word.result (lane_at c.args.is_signed c.args.e c.args.n c.args.bytes.now c.args.at c.args.step) c.loop-i.words c.requires.size within c.word.ensures c.loop-i.invariant.done;
      above = kept_above c.loop-i.i c.word.result c.args.words.now c.loop-i.words c.loop-i.invariant.above;
    }
