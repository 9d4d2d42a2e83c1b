use Rattle.std.proofs.Common.{◌≡◌, ◌≤◌, ℕ, ◌+◌, ◌-◌, ◌%◌, ◌^◌, ◌∙◌, refl, ap₂, arith}
use Rattle.emu_model.specs.declared.access.Kind.TheVariants.{Write}
use Rattle.emu_model.specs.Access.{refused}
use Rattle.emu_model.specs.Pages.{with_bytes}
use Rattle.guest_mem.specs.Slices.{to_page_end}
use Rattle.linux_calls.proofs.Takings.{all_taken, counted, next_writable, none_left, rest_writable, takes_more, takes_none, took_none_more}
use Rattle.linux_calls.proofs.ranges.take_range.Goals as goal

pub take_piece-requires-clause-writable : goal.take_piece-requires-clause-writable
take_piece-requires-clause-writable g c = next_writable c.loop-at.mem.memory c.args.address c.args.count c.loop-at.at _ c.loop-at-test.true refl c.loop-at.invariant.writable

pub returns-in_err-n-clause-took : goal.returns-in_err-n-clause-took
returns-in_err-n-clause-took g c =
    let t = c.in_err-n.ensures.took in
    took_none_more c.from_residual.result c.args.count (c.loop-at.at + t.count) (with_bytes c.args.mem.now.memory c.args.address) _ _ _ c.from_residual.ensures.0 (omega (arith, t.few, c.loop-at-test.true))
    (takes_more c.args.mem.now.memory c.loop-at.mem.memory _ c.args.address c.loop-at.at _ t.count _ _ _ refl c.loop-at.invariant.takes t.takes)

pub loop-at-preserved : goal.loop-at-preserved
loop-at-preserved g c =
    let t = counted (to_page_end ((c.args.address + c.loop-at.at) % 2 ^ 64) (c.args.count - c.loop-at.at)) c.in_ok-n.n (with_bytes c.loop-at.mem.memory ((c.args.address + c.loop-at.at) % 2 ^ 64)) _ _ _ c.in_ok-n.ensures.took in
    let few = t.1 in
    record {
      within = omega (arith, few, c.loop-at-test.true);
      writable = rest_writable c.args.mem.now.memory c.loop-at.mem.memory c.take_piece.new.mem.memory c.args.address c.args.count c.loop-at.at _ c.in_ok-n.n _ _ (omega (arith, few, c.loop-at-test.true)) t.0 c.loop-at.invariant.writable;
      takes = takes_more c.args.mem.now.memory c.loop-at.mem.memory _ c.args.address c.loop-at.at _ c.in_ok-n.n _ _ _ refl c.loop-at.invariant.takes t.0;
      marks = c.in_ok-n.ensures.marks ∙ c.loop-at.invariant.marks;
      kept = c.in_ok-n.ensures.cause.kept ∙ c.loop-at.invariant.kept;
    }

pub loop-at-init : goal.loop-at-init
loop-at-init g c =
    let here : c.args.address + 0 ≡ c.args.address = omega arith in
    let whole : c.args.count - 0 ≡ c.args.count = omega arith in
    record {
      within = omega arith;
      writable = ap₂ (λ (a n : ℕ). refused c.args.mem.now.memory a n Write) here whole ∙ c.requires.writable;
      takes = takes_none (with_bytes c.args.mem.now.memory c.args.address) (g.S.Source.left c.args.source.now);
      marks = refl;
      kept = refl;
    }

pub returns-then-n-eq0 : goal.returns-then-n-eq0
returns-then-n-eq0 g c =
    let inv = c.loop-at.invariant in
    let t = counted (to_page_end ((c.args.address + c.loop-at.at) % 2 ^ 64) (c.args.count - c.loop-at.at)) c.in_ok-n.n (with_bytes c.loop-at.mem.memory ((c.args.address + c.loop-at.at) % 2 ^ 64)) _ _ _ c.in_ok-n.ensures.took in
    let within : c.loop-at.at ≤ c.args.count = inv.within in
    let zero : c.in_ok-n.n ≡ 0 = c.if-n-eq0.true in
    record {
      took = record {
        count = c.loop-at.at + c.in_ok-n.n;
        few = omega (arith, within, zero);
        takes = takes_more c.args.mem.now.memory c.loop-at.mem.memory _ c.args.address c.loop-at.at _ c.in_ok-n.n _ _ _ refl inv.takes t.0;
        answer = omega (arith, zero);
      };
      all = none_left c.loop-at.at (with_bytes c.args.mem.now.memory c.args.address) c.loop-at.mem.memory c.in_ok-n.n c.args.count _ _ within zero inv.takes c.in_ok-n.ensures.some;
      marks = c.in_ok-n.ensures.marks ∙ inv.marks;
      cause = record { later = omega (arith, c.in_ok-n.ensures.cause.kept, inv.kept); failed = tt; kept = c.in_ok-n.ensures.cause.kept ∙ inv.kept };
    }

pub returns : goal.returns
returns g c =
    let inv = c.loop-at.invariant in
    let within : c.loop-at.at ≤ c.args.count = inv.within in
    let full : c.loop-at.at ≡ c.args.count = omega (arith, within, c.loop-at-test.false) in
    record {
      took = record { count = c.loop-at.at; few = within; takes = inv.takes; answer = refl };
      all = all_taken c.loop-at.at (with_bytes c.args.mem.now.memory c.args.address) c.loop-at.mem.memory c.args.count _ _ full inv.takes;
      marks = inv.marks;
      cause = record { later = omega (arith, inv.kept); failed = tt; kept = inv.kept };
    }
