-- Targets of the program's slots as the definitions have them.
use Rattle.std.specs.Prelude.{◌&&◌, Bool, true, Option, Some, None, nat_lt, nat_le}
use Rattle.text_model.specs.Slots.{places, bits_in}
use Rattle.text_model.specs.Aim as model
use Rattle.text_code.specs.Sound.{are_parts}
use Rattle.text_code.specs.declared.aiming.Reach.{Reach}

abbrev pub reach_as : Reach → model.Reach
reach_as r = record { by = r.by; page = r.page; parts = places r.parts }

abbrev pub reach_told : Option Reach → Option model.Reach
reach_told None = None
reach_told (Some r) = Some (reach_as r)

-- the code can compute with it
abbrev pub is_sound_reach : Reach → Bool
is_sound_reach r =
    are_parts r.parts && (nat_le (bits_in (places r.parts)) 32
    && ((nat_lt 0 r.by && nat_lt 0 r.page) && nat_lt 0 (bits_in (places r.parts))))

abbrev pub are_sound_reaches : Option Reach → Bool
are_sound_reaches None = true
are_sound_reaches (Some r) = is_sound_reach r
