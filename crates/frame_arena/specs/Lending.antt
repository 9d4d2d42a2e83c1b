-- What becomes of a slot that lends its bytes.
use Rattle.std.specs.Prelude.{ℕ, List, [], unwrap_or}
use Rattle.std.specs.Borrow.{Lends, MutBor, Fml, Array, u8}
use Rattle.frame_arena.specs.Links.{Frame}
use Rattle.frame_arena.specs.LendingPages.{with_bytes, with_part}
use Rattle.frame_arena.specs.declared.slot.Slot.{Slot}
use Rattle.frame_arena.specs.declared.slot.Slot.TheVariants.{Spare, Used}
use Rattle.frame_arena.specs.Slots.{slot_bytes}
use Rattle.frame_arena.specs.contracts.slot.Slot.{the_row}

abbrev pub with_slot : Slot → List ℕ → Slot
with_slot Spare w = Spare
with_slot (Used others page) w = Used others (with_bytes page w)

abbrev pub LendsSlot : MutBor Slot → MutBor (List ℕ) → Fml
LendsSlot s r = Lends the_row Frame s r (with_slot s.now)

-- the slot with its bytes from place `at` on replaced
abbrev pub with_slot_part : Slot → ℕ → List ℕ → Slot
with_slot_part s at w = with_slot s (with_part (unwrap_or (slot_bytes s) []) at w)

abbrev pub LendsSlotPart : MutBor Slot → ℕ → MutBor (List ℕ) → Fml
LendsSlotPart s at r = Lends the_row (Array u8 0) s r (with_slot_part s.now at)
