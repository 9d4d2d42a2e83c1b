use Rattle.std.proofs.Common.{◌≡◌, ◌<◌, ℕ, List, length, None}
use Rattle.std.specs.Vec.{vec_capacity}
use Rattle.page_list.specs.declared.slots.Slot.{Slot}
use Rattle.page_list.specs.Slots.{AreBeside, Changes, HasRoom, frame_at}
use Rattle.page_list.proofs.slots.pop_every.Given as goal

abbrev pub invariant-loop-i : goal.invariant-loop-i
invariant-loop-i l = record {
  count : length l.slots.items ≡ length l.fn.slots.items;
  bare : (k : ℕ) → k < l.i → frame_at l.slots.items k ≡ None;
  changes : Changes l.fn.arena l.arena l.fn.slots.items l.slots.items;
  room : (others : List Slot) → AreBeside l.fn.arena.live l.fn.slots.items others → HasRoom l.fn.arena l.arena l.fn.slots.items l.slots.items others;
  capacity : vec_capacity l.slots ≡ vec_capacity l.fn.slots;
}
