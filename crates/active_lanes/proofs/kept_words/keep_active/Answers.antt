use Rattle.std.proofs.Common.{◌<◌, ◌+◌, ◌*◌, ◌/◌, ◌∙◌, length, refl, sym, arith}
use Rattle.active_lanes.specs.Kept.{is_kept}
use Rattle.active_lanes.proofs.Kept.{front_lane, later_lane, kept_front, kept_later}
use Rattle.active_lanes.proofs.KeptWords.{one_more_kept, kept_above, none_masked}
use Rattle.active_lanes.proofs.kept_words.keep_active.Goals as goal

pub loop-i-init : goal.loop-i-init
loop-i-init c = record {
  done = none_masked c.args.whole (is_kept c.args.whole c.args.pg c.args.e c.args.vec.now) c.args.e c.args.words.now (λ j h. kept_front c.args.whole c.args.pg c.args.e c.args.vec.now (j / (c.args.e / 8)) (front_lane c.args.e c.args.whole j c.requires.size h));
  rest = λ k h. refl;
}

pub loop-i-preserved : goal.loop-i-preserved
loop-i-preserved c =
    let within : c.loop-i.i < length c.loop-i.words = omega (arith, c.loop-i-test.true, c.requires.long) in
    record {
      done = one_more_kept c.args.e c.loop-i.i c.field.result c.kept_word.result (is_kept c.args.whole c.args.pg c.args.e c.args.vec.now) c.args.words.now c.loop-i.words within c.kept_word.ensures
          (λ t h. c.field.ensures c.args.e t c.requires.size h ∙ sym (kept_later c.args.whole c.args.pg c.args.e c.args.vec.now ((8 * c.loop-i.i + t) / (c.args.e / 8)) (later_lane c.args.e c.args.whole c.loop-i.i t c.requires.size c.loop-i.auto.i)))
          c.loop-i.invariant.rest c.loop-i.invariant.done;
      rest = kept_above c.loop-i.i c.kept_word.result c.args.words.now c.loop-i.words c.loop-i.invariant.rest;
    }
