use Rattle.std.proofs.Common.{◌≡◌, ◌≤◌, count_by, is_some, refl, arith}
use Rattle.dbg_back.proofs.Counts.{is_none_by, one_left}
use Rattle.dbg_back.proofs.marks.free_mark.Goals as goal

pub returns-in-Some : goal.returns-in-Some
returns-in-Some c = record {
  first = c.in-Some.ensures.first;
  index = c.in-Some.ensures.index;
  parts = refl;
  count = c.requires;
  none = is_none_by _ c.in-Some.ensures.none;
  room = c.in-Some.ensures.room;
  start = refl;
  kept = λ k set. refl;
  saved = refl;
  failed = refl;
}

pub returns-in-None : goal.returns-in-None
returns-in-None c =
    let d = c.drop_marks.ensures in
    let list = c.drop_marks.new.machine.marks in
    let few : count_by is_some list ≤ 1 = one_left list 0 (λ k apart. d.dropped k apart apart) in
    let count = d.count in
    record {
      first = omega arith;
      index = omega arith;
      parts = d.parts;
      count = d.count;
      none = d.dropped 1 (λ (e : 1 ≡ 0). cc) (λ (e : 1 ≡ 0). cc);
      room = c.spare-spare.ensures.one_mark (omega (arith, count)) few;
      start = d.first;
      kept = d.kept;
      saved = d.saved;
      failed = d.failed;
    }
