use Rattle.std.proofs.Common.{◌≤◌, ◌*◌, ◌/◌, length}
use Rattle.emu_model.specs.Access.{Memory}
use Rattle.sve_effects.specs.VectorElements.{elements_below}
use Rattle.guest_mem.specs.ReachLaws.{AreLoaded}
use Rattle.element_loops.specs.Layouts.{layout_of}
use Rattle.sve_gather.specs.Gathers.{AreWords}
use Rattle.sve_gather.specs.InPage.{IsPage}
use Rattle.sve_gather.proofs.in_page.words_in_page.Given as goal

abbrev pub invariant-loop-i : goal.invariant-loop-i
invariant-loop-i g l = record {
  loaded : (m : Memory) → IsPage m l.page l.bytes → AreLoaded m (elements_below (layout_of l.plan l.vec) (l.i * (64 / l.plan.bits))) l.log.items;
  words : (m : Memory) → IsPage m l.page l.bytes → AreWords l.plan l.vec m l.i l.words;
  room : length l.log.items ≤ l.i * (64 / l.plan.bits);
}
