use Rattle.std.proofs.Common.{◌≡◌, ◌+◌, ◌<◌, length, arith, ap, sym, ◌∙◌, is_none, true, false, refl}
use Rattle.emu_model.specs.declared.access.Kind.TheVariants.{Read}
use Rattle.emu_model.specs.Access.{address, allowed}
use Rattle.emu_model.specs.Marks.{MarkedMemory}
use Rattle.emu_model.specs.AccessEquations.{refused-from}
use Rattle.linux_calls.proofs.Bytes.{piece_is, none_put, range_goes_on, range_stops, gained_all, gained_first, put_failed}
use Rattle.linux_calls.proofs.ranges.put_range.Goals as goal

pub loop-at-init : goal.loop-at-init
loop-at-init g c = record {
  within = omega arith;
  rest = refused-from c.args.mem.now.memory c.args.address c.args.count Read ∙ c.requires.readable;
  unchanged = refl;
  gained = none_put c.args.mem.now.memory c.args.address _;
  kept = refl;
}

pub returns-in-None-clause-bytes : goal.returns-in-None-clause-bytes
returns-in-None-clause-bytes g c =
    let refused_here = ap (λ (m : MarkedMemory). allowed m.memory Read (address (c.args.address + c.loop-at.at))) (sym c.loop-at.invariant.unchanged) ∙ c.in-None.ensures.bytes in
    let none : true ≡ false = ap is_none (sym c.loop-at.invariant.rest) ∙ range_stops c.args.mem.now.memory c.args.address c.args.count c.loop-at.at Read (omega arith) refused_here in
    absurd (cc none)

pub returns-in_err-put_all-in-Some-clause-bytes : goal.returns-in_err-put_all-in-Some-clause-bytes
returns-in_err-put_all-in-Some-clause-bytes g c =
    let p = piece_is c.args.mem.now.memory c.loop-at.mem.memory Read c.args.address c.args.count c.loop-at.at c.in-Some.piece.now (omega arith) (ap (λ (m : MarkedMemory). m.memory) c.loop-at.invariant.unchanged) c.in-Some.ensures.bytes c.in-Some.ensures.allowed in
    put_failed _ _ _ c.from_residual.result c.from_residual.ensures.0
    (gained_first c.args.mem.now.memory c.args.address c.loop-at.at (length c.in-Some.piece.now) c.args.count _ _ _ c.in-Some.piece.now p.within p.bytes c.loop-at.invariant.gained c.in_err-put_all-in-Some.ensures.bytes)

pub loop-at-preserved : goal.loop-at-preserved
loop-at-preserved g c =
    let p = piece_is c.args.mem.now.memory c.loop-at.mem.memory Read c.args.address c.args.count c.loop-at.at c.in-Some.piece.now (omega arith) (ap (λ (m : MarkedMemory). m.memory) c.loop-at.invariant.unchanged) c.in-Some.ensures.bytes c.in-Some.ensures.allowed in
    record {
      within = p.within;
      rest = range_goes_on c.args.mem.now.memory c.args.address c.args.count c.loop-at.at (length c.in-Some.piece.now) Read p.within p.granted ∙ c.loop-at.invariant.rest;
      unchanged = c.slice_at.follows.holds-at-none ∙ c.loop-at.invariant.unchanged;
      gained = gained_all c.args.mem.now.memory c.args.address c.loop-at.at (length c.in-Some.piece.now) _ _ _ c.in-Some.piece.now p.bytes c.loop-at.invariant.gained c.in_ok-put_all-in-Some.ensures.bytes;
      kept = c.in_ok-put_all-in-Some.ensures.cause.kept ∙ c.loop-at.invariant.kept;
    }

pub loop-at-smaller : goal.loop-at-smaller
loop-at-smaller g c =
    let p = piece_is c.args.mem.now.memory c.loop-at.mem.memory Read c.args.address c.args.count c.loop-at.at c.in-Some.piece.now (omega arith) (ap (λ (m : MarkedMemory). m.memory) c.loop-at.invariant.unchanged) c.in-Some.ensures.bytes c.in-Some.ensures.allowed in
    let some : 0 < length c.in-Some.piece.now = p.some in
    omega arith
