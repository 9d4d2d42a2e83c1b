use Rattle.std.proofs.Common.{◌<◌, ◌^◌, arith}
use Rattle.emu_model.specs.State.{State}
use Rattle.dbg_model.specs.Session.{Course}
use Rattle.dbg_back.specs.Walks.{IsWalk}
use Rattle.debug_walk.proofs.Backing.{placed}
use Rattle.debug_commands.proofs.Returning.{is_before, is_before_again, is_here, stands_there}
use Rattle.debug_commands.proofs.reports.step_before.Goals as goal

pub stand_at-requires-2 : goal.stand_at-requires-2
stand_at-requires-2 c = let can = c.requires.walks in record { start = can.start; course = _; walk = c.stand_at.ensures can.start can.course can.walk }

pub stand_at-requires-3 : goal.stand_at-requires-3
stand_at-requires-3 c =
    let can = c.requires.walks in
    let one = c.stand_at.ensures can.start can.course can.walk in
    record { start = can.start; course = _; walk = c.stand_at-2.ensures can.start _ one }

pub stand_at-requires-4 : goal.stand_at-requires-4
stand_at-requires-4 c =
    let can = c.requires.walks in
    let one = c.stand_at.ensures can.start can.course can.walk in
    let two = c.stand_at-2.ensures can.start _ one in
    record { start = can.start; course = _; walk = c.stand_at-3.ensures can.start _ two }

pub returns : goal.returns
returns c =
    let input = c.args.session.now.input.now in
    let m = c.args.machine.now in
    let t = c.args.trail.now in
    let here = c.args.here in
    let is = c.requires.here in
    let some = c.requires.some in
    let going = c.requires.going in
    let most = c.ranges.here in
    let fits : here < 2 ^ 64 = omega (arith, most) in
    let there : (start : State) (k : Course) → IsWalk start input k m t → IsWalk start input (placed start here k) c.stand_at-4.new.machine c.stand_at-4.new.trail = λ start k w.
    let one = is_before start input k m t w here is some fits going c.stand_at.new.machine c.stand_at.new.trail (c.stand_at.ensures start k w) in
    let two = is_here start input k m t w here is some fits going c.stand_at-2.new.machine c.stand_at-2.new.trail (c.stand_at-2.ensures start _ one) in
    let three = is_before_again start input k m t w here is some fits going c.stand_at-3.new.machine c.stand_at-3.new.trail (c.stand_at-3.ensures start _ two) in
    is_here start input k m t w here is some fits going c.stand_at-4.new.machine c.stand_at-4.new.trail (c.stand_at-4.ensures start _ three) in
    let can = c.requires.walks in
    record {
      stays = record { stays = λ start on. record { course = _; walk = there start on.course on.walk } };
      same = stands_there can.start input can.course m t can.walk here is some fits going c.stand_at-4.new.machine c.stand_at-4.new.trail (there can.start can.course can.walk);
    }
