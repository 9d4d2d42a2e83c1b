use Rattle.std.proofs.Common.{◌+◌, ◌<◌, length, arith, ap, sym, ◌∙◌, is_none}
use Rattle.emu_model.specs.Access.{address, allowed}
use Rattle.emu_model.specs.Marks.{MarkedMemory}
use Rattle.emu_model.specs.AccessEquations.{refused-to}
use Rattle.linux_calls.proofs.Bytes.{piece_is, range_goes_on, range_stops}
use Rattle.linux_calls.proofs.ranges.is_allowed.Goals as goal

pub returns-in-None-clause-answer : goal.returns-in-None-clause-answer
returns-in-None-clause-answer c =
    let refused_here = ap (λ (m : MarkedMemory). allowed m.memory c.args.kind (address (c.args.address + c.loop-at.at))) (sym c.loop-at.invariant.unchanged) ∙ c.in-None.ensures.bytes in
    sym (range_stops c.args.mem.now.memory c.args.address c.args.count c.loop-at.at c.args.kind (omega arith) refused_here) ∙ ap is_none c.loop-at.invariant.rest

pub loop-at-preserved : goal.loop-at-preserved
loop-at-preserved c =
    let p = piece_is c.args.mem.now.memory c.loop-at.mem.memory c.args.kind c.args.address c.args.count c.loop-at.at c.in-Some.piece.now (omega arith) (ap (λ (m : MarkedMemory). m.memory) c.loop-at.invariant.unchanged) c.in-Some.ensures.bytes c.in-Some.ensures.allowed in
    record {
      within = p.within;
      rest = range_goes_on c.args.mem.now.memory c.args.address c.args.count c.loop-at.at (length c.in-Some.piece.now) c.args.kind p.within p.granted ∙ c.loop-at.invariant.rest;
      unchanged = c.slice_at.follows.holds-at-none ∙ c.loop-at.invariant.unchanged;
    }

pub loop-at-smaller : goal.loop-at-smaller
loop-at-smaller c =
    let p = piece_is c.args.mem.now.memory c.loop-at.mem.memory c.args.kind c.args.address c.args.count c.loop-at.at c.in-Some.piece.now (omega arith) (ap (λ (m : MarkedMemory). m.memory) c.loop-at.invariant.unchanged) c.in-Some.ensures.bytes c.in-Some.ensures.allowed in
    let some : 0 < length c.in-Some.piece.now = p.some in
    omega arith

pub returns-clause-answer : goal.returns-clause-answer
returns-clause-answer c = ap is_none (sym (refused-to c.args.mem.now.memory c.args.address c.args.count c.loop-at.at c.args.kind (omega arith)) ∙ c.loop-at.invariant.rest)
