use Rattle.std.proofs.Common.{◌≡◌, ◌+◌, List, take, refl, ap, ◌∙◌, subst, arith}
use Rattle.std.proofs.lemmas.List.{take_all}
use Rattle.emu_model.specs.declared.access.Kind.TheVariants.{Write}
use Rattle.emu_model.specs.Pages.{with_bytes}
use Rattle.emu_system.specs.declared.system_call.Range.{Range}
use Rattle.emu_system.specs.SystemCall.{with_ranges, total}
use Rattle.linux_calls.specs.Taken.{Takes}
use Rattle.linux_calls.proofs.Filled.{few_taken, range_at, range_taken, rights_stay, some_taken, total_more}
use Rattle.linux_calls.proofs.Takings.{all_left, all_taken, counted, took_none_more}
use Rattle.linux_calls.proofs.moves.take_ranges.Goals as goal

pub returns-in_err-n-clause-took : goal.returns-in_err-n-clause-took
returns-in_err-n-clause-took g c =
    let t = c.in_err-n.ensures.took in let i = c.loop-range.range-index in let rs = c.args.ranges.now in let inv = c.loop-range.invariant in
    took_none_more c.from_residual.result (total rs) (c.loop-range.count + t.count) (with_ranges c.args.mem.now.memory rs) _ _ _ c.from_residual.ensures.0
    (few_taken c.args.mem.now.memory c.loop-range.mem.memory _ rs i c.loop-range.count t.count _ _ _ c.loop-range-test.true inv.full t.few inv.takes t.takes)
    (some_taken c.args.mem.now.memory c.loop-range.mem.memory _ rs i c.loop-range.count t.count _ _ _ c.loop-range-test.true inv.full t.few inv.takes t.takes)

pub returns-then-n-range-clause-took : goal.returns-then-n-range-clause-took
returns-then-n-range-clause-took g c =
    let i = c.loop-range.range-index in let rs = c.args.ranges.now in let inv = c.loop-range.invariant in
    let t = counted (range_at rs i).length c.in_ok-n.n (with_bytes c.loop-range.mem.memory (range_at rs i).address) _ _ _ c.in_ok-n.ensures.took in
    record {
      count = c.loop-range.count + c.in_ok-n.n;
      few = few_taken c.args.mem.now.memory c.loop-range.mem.memory _ rs i c.loop-range.count c.in_ok-n.n _ _ _ c.loop-range-test.true inv.full t.1 inv.takes t.0;
      takes = some_taken c.args.mem.now.memory c.loop-range.mem.memory _ rs i c.loop-range.count c.in_ok-n.n _ _ _ c.loop-range-test.true inv.full t.1 inv.takes t.0;
      answer = refl;
    }

pub loop-range-preserved : goal.loop-range-preserved
loop-range-preserved g c =
    let i = c.loop-range.range-index in let rs = c.args.ranges.now in let inv = c.loop-range.invariant in
    let t = counted (range_at rs i).length c.in_ok-n.n (with_bytes c.loop-range.mem.memory (range_at rs i).address) _ _ _ c.in_ok-n.ensures.took in
    record {
      full = omega (arith, total_more rs i c.loop-range-test.true, inv.full, t.1, c.if-n-range.false);
      writable = rights_stay Write c.in_ok-n.n (range_at rs i).address c.loop-range.mem.memory c.take_range.new.mem.memory _ _ rs t.0 ∙ inv.writable;
      takes = range_taken c.args.mem.now.memory c.loop-range.mem.memory _ rs i c.loop-range.count c.in_ok-n.n _ _ _ c.loop-range-test.true inv.full t.1 inv.takes t.0;
      marks = c.in_ok-n.ensures.marks ∙ inv.marks;
      kept = c.in_ok-n.ensures.cause.kept ∙ inv.kept;
    }

pub returns-then-n-range-clause-all : goal.returns-then-n-range-clause-all
returns-then-n-range-clause-all g c =
    let i = c.loop-range.range-index in let rs = c.args.ranges.now in let inv = c.loop-range.invariant in
    let t = counted (range_at rs i).length c.in_ok-n.n (with_bytes c.loop-range.mem.memory (range_at rs i).address) _ _ _ c.in_ok-n.ensures.took in
    all_left c.loop-range.count (with_ranges c.args.mem.now.memory (take i rs)) c.loop-range.mem.memory c.in_ok-n.n (range_at rs i).length (total rs) _ _
    (few_taken c.args.mem.now.memory c.loop-range.mem.memory _ rs i c.loop-range.count c.in_ok-n.n _ _ _ c.loop-range-test.true inv.full t.1 inv.takes t.0)
    c.if-n-range.true inv.takes c.in_ok-n.ensures.all

pub returns-then-n-range-clause-cause : goal.returns-then-n-range-clause-cause
returns-then-n-range-clause-cause g c =
    let kept = c.in_ok-n.ensures.cause.kept ∙ c.loop-range.invariant.kept in
    record { later = omega (arith, c.in_ok-n.ensures.cause.kept, c.loop-range.invariant.kept); failed = tt; kept = kept }

pub returns : goal.returns
returns g c =
    let i = c.loop-range.range-index in let rs = c.args.ranges.now in let inv = c.loop-range.invariant in
    let whole : take c.loop-range.range-index c.args.ranges.now ≡ c.args.ranges.now = take_all i rs (omega (arith, c.loop-range-test.false)) in
    let full : c.loop-range.count ≡ total c.args.ranges.now = inv.full ∙ ap total whole in
    record {
      took = record {
        count = c.loop-range.count;
        few = omega (arith, full);
        takes = subst (λ (xs : List Range). Takes c.loop-range.count (with_ranges c.args.mem.now.memory xs) c.loop-range.mem.memory (g.S.Source.left c.args.source.now) (g.S.Source.left c.loop-range.source)) whole inv.takes;
        answer = refl;
      };
      all = all_taken c.loop-range.count (with_ranges c.args.mem.now.memory (take i rs)) c.loop-range.mem.memory (total rs) _ _ full inv.takes;
      marks = inv.marks;
      cause = record { later = omega (arith, inv.kept); failed = tt; kept = inv.kept };
    }
