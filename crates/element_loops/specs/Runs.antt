-- Elements one behind the other in memory; and runs, whose elements are as large as their lanes, of one register.
use Rattle.std.specs.Prelude.{◌≡◌, ◌⊎◌, ◌<◌, ◌≤◌, ℕ, ◌+◌, ◌*◌, ◌/◌, ◌%◌, true, false, List, take, get_or, if◌then◌else◌}
use Rattle.std.specs.Int.{bytes_low_first}
use Rattle.emu_model.specs.Elements.{Element}
use Rattle.emu_model.specs.State.{Vectors}
use Rattle.emu_model.specs.WithinPage.{number_in}
use Rattle.sve_effects.specs.Lane.{extended_by}
use Rattle.active_lanes.specs.Kept.{is_kept}
use Rattle.element_loops.specs.declared.plan.Plan.{Plan}
use Rattle.element_loops.specs.declared.plan.Places.TheVariants.{Consecutive, Bytes}
use Rattle.element_loops.specs.declared.plan.Target.TheVariants.{Registers}
use Rattle.element_loops.specs.Layouts.{is_on_of, layout_of}
use Rattle.element_loops.specs.SoFar.{element_of_lane}

-- from a base on, lane by lane, and within a lane register by register
abbrev pub ArePlaced : ℕ → Plan → Type 0
ArePlaced base p = (p.places ≡ Consecutive base) ⊎ ((p.places ≡ Bytes base) × (p.registers ≡ 1) × (p.bytes ≡ 1))

-- Elements one behind the other from a base on, of the lanes that are kept.
pub record IsLine (base pg whole : ℕ) (p : Plan) (v : Vectors) : Type 0 where
  pub placed : ArePlaced base p
  pub on : (k : ℕ) → k < p.lanes → is_on_of p.on p.bits v k ≡ is_kept whole pg p.bits v k
  pub few : whole ≤ v.bits / 64

-- The same of one register, with elements as large as its lanes.
pub record IsRun (base pg whole : ℕ) (p : Plan) (v : Vectors) : Type 0 where
  pub line : IsLine base pg whole p v
  pub target : p.target ≡ Registers
  pub one : p.registers ≡ 1
  pub same : p.bits ≡ 8 * p.bytes
  pub unsigned : p.is_signed ≡ false

-- All lanes before the front are on.
pub record IsFront (front : ℕ) (p : Plan) (v : Vectors) : Type 0 where
  pub few : front ≤ p.lanes
  pub on : (k : ℕ) → k < front → is_on_of p.on p.bits v k ≡ true

-- what lane k of the j-th register gets of bytes that elements of all lanes make
abbrev pub lane_in : List ℕ → Plan → ℕ → ℕ → Vectors → ℕ → ℕ → ℕ
lane_in bytes p pg whole v j k = if is_kept whole pg p.bits v k then extended_by p.is_signed p.bits (8 * p.bytes) (number_in bytes ((k * p.registers + j) * p.bytes) p.bytes) else 0

-- number i that the elements of all lanes store, in order of lanes and within a lane in order of registers
abbrev pub stored_in_turn : (Element → ℕ) → Plan → Vectors → ℕ → ℕ
stored_in_turn f p v i = f (element_of_lane (layout_of p v) (i / p.registers) (i % p.registers))

-- the low n bytes of each of the first c numbers, one behind the other
abbrev pub AreFilled : ℕ → (ℕ → ℕ) → ℕ → List ℕ → Type 0
AreFilled n f c bytes = (i t : ℕ) → i < c → t < n → get_or bytes (i * n + t) 0 ≡ get_or (take n (bytes_low_first 0 8 (f i))) t 0
