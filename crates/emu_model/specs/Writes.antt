-- What a write of all fields of FFR leaves, and a call in the present length.
use Rattle.std.specs.Prelude.{ℕ, ◌/◌, Bool}
use Rattle.emu_model.specs.Lists.{each}
use Rattle.emu_model.specs.State.{Vectors}
use Rattle.emu_model.specs.Lanes.{with_ffr, field_bit}
use Rattle.emu_model.specs.AfterCall.{cleared}

-- each field k of FFR has f k as its lowest bit, and zeros above
abbrev pub with_ffr_fields : ℕ → (ℕ → Bool) → Vectors → Vectors
with_ffr_fields e f v = with_ffr v (each (v.bits / 8) (field_bit (e / 8) f))

-- what is cleared in the present length
abbrev pub after_call : Vectors → Vectors
after_call v = cleared v.bits v
