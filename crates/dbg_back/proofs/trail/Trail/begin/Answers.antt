use Rattle.std.proofs.Common.{refl, arith}
use Rattle.dbg_core.proofs.Obeying.{going_by}
use Rattle.dbg_back.proofs.Counts.{all_none}
use Rattle.dbg_back.proofs.Marking.{walk_begun}
use Rattle.dbg_back.proofs.Running.{unfailed}
use Rattle.dbg_back.proofs.trail.Trail.begin.Goals as goal

pub mark-requires : goal.mark-requires
mark-requires c =
    let count = c.requires.marks in
    let saved = c.requires.places in
    let none = c.requires.none in
    record {
      going = c.requires.going;
      index = omega (arith, count);
      place = omega (arith, saved);
      none = all_none c.args.machine.now.marks 0 c.requires.none;
      room = c.spare-spare.ensures.one_mark (omega (arith, count)) (omega (arith, none));
    }

pub returns : goal.returns
returns c = λ input.
    walk_begun input c.args.machine.now c.mark.new.self _ c.requires.marks c.requires.places c.requires.none c.requires.steps c.requires.going
    c.mark.ensures.parts c.mark.ensures.marks c.mark.ensures.saved c.mark.ensures.failed
    (going_by c.args.machine.now c.requires.going) (unfailed c.args.machine.now.parts.ended c.args.machine.now.failed c.requires.going)
    refl refl refl refl refl refl
