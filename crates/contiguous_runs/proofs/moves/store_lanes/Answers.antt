use Rattle.std.proofs.Common.{◌≡◌, ◌≤◌, ◌+◌, ◌*◌, ◌%◌, true, sym, ap, ◌∙◌, arith}
use Rattle.emu_model.specs.declared.access.Kind.TheVariants.{Write}
use Rattle.emu_model.specs.Access.{allowed, page_size}
use Rattle.emu_model.specs.Marks.{MarkedMemory}
use Rattle.emu_model.specs.WithinPage.{none_refused_within}
use Rattle.contiguous_runs.proofs.moves.store_lanes.Goals as goal

pub returns-then-not-is_at_hand-clause-allowed : goal.returns-then-not-is_at_hand-clause-allowed
returns-then-not-is_at_hand-clause-allowed c = λ is.
    let gives : allowed c.args.mem.now.memory Write c.args.base ≡ true = sym c.put_away.ensures.allowed ∙ is in
    let fits : c.args.base % page_size + c.args.n * c.args.w ≤ page_size = omega (arith, c.if-base-from-gt-PAGE_SIZE.false, c.from.ensures) in
    none_refused_within c.args.mem.now.memory c.args.base (c.args.n * c.args.w) c.ranges.base.fits fits Write gives

pub returns-clause-allowed : goal.returns-clause-allowed
returns-clause-allowed c = λ is.
    let gives : allowed c.args.mem.now.memory Write c.args.base ≡ true
    = sym (ap (λ (m : MarkedMemory). allowed m.memory Write c.args.base) c.pages.ensures) ∙ c.is_at_hand.ensures c.if-not-is_at_hand.false in
    let fits : c.args.base % page_size + c.args.n * c.args.w ≤ page_size = omega (arith, c.if-base-from-gt-PAGE_SIZE.false, c.from.ensures) in
    none_refused_within c.args.mem.now.memory c.args.base (c.args.n * c.args.w) c.ranges.base.fits fits Write gives

pub put_lanes-requires-clause-within : goal.put_lanes-requires-clause-within
put_lanes-requires-clause-within c = omega (arith, c.if-base-from-gt-PAGE_SIZE.false, c.from.ensures)

pub put_lanes-requires-clause-allowed : goal.put_lanes-requires-clause-allowed
put_lanes-requires-clause-allowed c = sym (ap (λ (m : MarkedMemory). allowed m.memory Write c.args.base) c.pages.ensures) ∙ c.is_at_hand.ensures c.if-not-is_at_hand.false

pub put_away-requires-clause-within : goal.put_away-requires-clause-within
put_away-requires-clause-within c = omega (arith, c.if-base-from-gt-PAGE_SIZE.false, c.from.ensures)

pub returns-clause-within : goal.returns-clause-within
returns-clause-within c = λ h. sym (c.is_at_hand.ensures c.if-not-is_at_hand.false) ∙ ap (λ (m : MarkedMemory). allowed m.memory Write c.args.base) c.pages.ensures
