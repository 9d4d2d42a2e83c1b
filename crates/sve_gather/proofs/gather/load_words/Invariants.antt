use Rattle.std.proofs.Common.{◌≡◌, ◌*◌, ◌/◌}
use Rattle.sve_effects.specs.VectorElements.{elements_below}
use Rattle.guest_mem.specs.ReachLaws.{AreLoaded}
use Rattle.element_loops.specs.Layouts.{layout_of}
use Rattle.sve_gather.specs.Gathers.{AreWords}
use Rattle.sve_gather.proofs.gather.load_words.Given as goal

abbrev pub invariant-loop-i : goal.invariant-loop-i
invariant-loop-i g l = record {
  loaded : AreLoaded l.fn.mem.memory (elements_below (layout_of l.plan l.vec) (l.i * (64 / l.plan.bits))) l.log.items;
  words : AreWords l.plan l.vec l.fn.mem.memory l.i l.words;
  memory : l.mem ≡ l.fn.mem;
}
