-- Targets: the address that a word's text shows, and a word whose text shows an address. The address is that of the
-- entries of the Arm Architecture Reference Manual for A-profile (DDI 0487), C6, with a label: `PC + offset`, and for
-- ADRP the same of 4 KiB pages.
use Rattle.std.specs.Prelude.{ℕ, ◌+◌, ◌-◌, ◌/◌, ◌%◌, ◌^◌, ◌==◌, if◌then◌else◌, Option, Some, None, List, [], ◌∷◌}
use Rattle.std.specs.Option.{option_and_then, option_map_or}
use Rattle.emu_bits.specs.Rows.{Place}
use Rattle.text_model.specs.declared.slots.Kind.{Kind}
use Rattle.text_model.specs.declared.slots.Kind.TheVariants.{Target}
use Rattle.text_model.specs.declared.slots.Slot.{Slot}
use Rattle.text_model.specs.Slots.{places, bits_in, target_address}
use Rattle.text_model.specs.Told.{parted, all_bound}
use Rattle.text_model.specs.Text.{ones_of}

-- how a target is shown: the address `by` times the signed number at places, behind the instruction's address, which is
-- rounded down to a multiple of `page`
pub record Reach : Type 0 where
  pub by : ℕ
  pub page : ℕ
  pub parts : List Place

abbrev pub reach_or : Kind → List Place → Option Reach → Option Reach
reach_or (Target n g) ps r = Some (record { by = n; page = g; parts = ps })
reach_or k ps r = r

-- the target among some slots
abbrev pub reach_of : List Slot → Option Reach
reach_of [] = None
reach_of (s ∷ ss) = reach_or s.codec.kind (places s.codec.parts) (reach_of ss)

abbrev pub reach_bits : Option Reach → ℕ
reach_bits r = option_map_or (λ r. ones_of r.parts) r 0

-- the number of b bits that reaches an address, if one does
abbrev pub number_to : Reach → ℕ → ℕ → ℕ
number_to r pc t = (t + (2 ^ 64 - (pc - pc % r.page))) % 2 ^ 64 / r.by % 2 ^ bits_in r.parts

abbrev pub aimed_by : Reach → ℕ → ℕ → ℕ → Option ℕ
aimed_by r w pc t =
    let v = number_to r pc t in
    if target_address r.by r.page (bits_in r.parts) v pc == t
    then Some (all_bound (record { mask = 0; word = w }) (parted r.parts v)).word else None

-- A word of which the bits of its target are 0, aimed at an address; none where its field can't reach it.
abbrev pub aimed : Option Reach → ℕ → ℕ → ℕ → Option ℕ
aimed r w pc t = option_and_then (λ r. aimed_by r w pc t) r
