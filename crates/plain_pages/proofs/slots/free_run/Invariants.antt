use Rattle.std.proofs.Common.{◌≡◌, ◌≤◌, ◌-◌}
use Rattle.emu_model.specs.Pages.{greatest, is_free}
use Rattle.plain_pages.specs.Slots.{entries_of, pages_of}
use Rattle.plain_pages.proofs.slots.free_run.Given as goal

-- no greater page begins a free run
abbrev pub invariant-loop-first : goal.invariant-loop-first
invariant-loop-first l = record {
  within : l.first ≤ l.below - l.count;
  rest : greatest (l.below - l.count) (λ first. is_free (pages_of (entries_of l.slots)) first l.count) ≡ greatest l.first (λ first. is_free (pages_of (entries_of l.slots)) first l.count);
}

abbrev pub decreases-loop-first : goal.decreases-loop-first
decreases-loop-first l = l.first
