use Rattle.std.proofs.Common.{◌≡◌, sym, ◌∙◌, arith}
use Rattle.emu_model.specs.Pages.{is_free}
use Rattle.plain_pages.specs.Slots.{entries_of, pages_of}
use Rattle.plain_pages.proofs.Runs.{found, lower, none_left}
use Rattle.plain_pages.proofs.slots.free_run.Goals as goal

pub returns-then-is_free : goal.returns-then-is_free
returns-then-is_free c =
    sym (c.loop-first.invariant.rest ∙ found (λ first. is_free (pages_of (entries_of c.args.slots.now)) first c.args.count) c.loop-first.first c.loop-first-test.true (sym c.is_free.ensures ∙ c.if-is_free.true))

pub loop-first-preserved : goal.loop-first-preserved
loop-first-preserved c = record {
  within = omega (arith, c.loop-first.invariant.within);
  rest = c.loop-first.invariant.rest ∙ lower (λ first. is_free (pages_of (entries_of c.args.slots.now)) first c.args.count) c.loop-first.first c.loop-first-test.true (sym c.is_free.ensures ∙ c.if-is_free.false);
}

pub returns : goal.returns
returns c =
    let none : c.loop-first.first ≡ 0 = omega (arith, c.loop-first-test.false) in
    sym (c.loop-first.invariant.rest ∙ none_left (λ first. is_free (pages_of (entries_of c.args.slots.now)) first c.args.count) c.loop-first.first none)
