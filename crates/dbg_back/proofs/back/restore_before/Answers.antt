use Rattle.std.proofs.Common.{length, is_some, ap, ◌∙◌, arith}
use Rattle.dbg_back.proofs.Counts.{two_left}
use Rattle.dbg_back.proofs.Marking.{walk_dropped, walk_turned}
use Rattle.dbg_back.proofs.back.restore_before.Goals as goal

pub restore-requires : goal.restore-requires
restore-requires c =
    let d = c.drop_marks.ensures in
    let k = c.nearest_mark-nearest.result in
    let index = c.nearest_mark-nearest.ensures.index in
    let count = d.count in
    let places = c.requires.saved in
    let same = ap (λ s. length s) d.saved in
    record {
      index = omega (arith, index, count);
      place = omega (arith, index, places, same);
      set = ap (λ o. is_some o) d.other ∙ c.nearest_mark-nearest.ensures.set;
      few = two_left c.drop_marks.new.machine.marks k d.dropped;
    }

pub returns-clause-turns : goal.returns-clause-turns
returns-clause-turns c = λ start input course w within.
    let d = c.drop_marks.ensures in
    let k = c.nearest_mark-nearest.result in
    let set = ap (λ o. is_some o) d.other ∙ c.nearest_mark-nearest.ensures.set in
    walk_turned c.args.target start input course c.drop_marks.new.machine c.restore.new.self c.args.trail.now c.stand_at.new.self k within set c.nearest_mark-nearest.ensures.before
    c.restore.ensures.machine c.restore.ensures.marks c.restore.ensures.saved c.restore.ensures.failed c.stand_at.ensures.place c.stand_at.ensures.top c.stand_at.ensures.steps c.stand_at.ensures.places
    (walk_dropped start input course c.args.machine.now c.drop_marks.new.machine c.args.trail.now d.parts d.count d.first d.kept d.saved d.failed w)
