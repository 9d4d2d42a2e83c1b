-- What SVE loads and stores leave, but for the first-faulting and non-faulting ones. From the Arm Architecture
-- Reference Manual for A-profile (DDI 0487), C8.2 'Alphabetical list of SVE instructions': the operations of the
-- entries of loads and stores, with the shared pseudocode CheckSPAlignment. What an access that is refused in part has
-- done is this project's own choice where the manual leaves it open.
use Rattle.std.specs.Prelude.{ℕ, zero, suc, ◌+◌, ◌*◌, ◌/◌, ◌%◌, ◌^◌, Bool, true, false, not, ◌&&◌, List, [], ◌∷◌, get_or, nat_eq, if◌then◌else◌}
use Rattle.emu_bits.specs.Fields.{bit}
use Rattle.emu_bits.specs.Operations.{number_of_bits}
use Rattle.emu_model.specs.declared.access.Kind.TheVariants.{Read as ReadKind, Write as WriteKind}
use Rattle.emu_model.specs.declared.trap.TrapKind.TheVariants.{Read, Write, SpAlign}
use Rattle.emu_model.specs.Access.{Memory, value}
use Rattle.emu_model.specs.Done.{Done, as_far, leaves, traps}
use Rattle.emu_model.specs.Elements.{Element, Reach, reach, with_stored, accesses_of}
use Rattle.emu_model.specs.Lists.{each}
use Rattle.emu_model.specs.State.{Core, Vectors}
use Rattle.emu_model.specs.Lanes.{lane, read_z, read_p, with_lanes, with_p}
use Rattle.sve_effects.specs.Lane.{extended_by}
use Rattle.sve_effects.specs.LaneLoop.{is_active}
use Rattle.sve_effects.specs.VectorElements.{MemoryRow, LaneChoice, each_active, each_repeated, replicated, whole_z, whole_p, Brackets, scalar, vector, Layout, register_at, elements_of, row_layout}

-- ---- what is loaded

-- what lane k of the j-th register gets: its element, extended, and 0 where it has none
abbrev pub loaded_lane : Bool → Layout → Memory → ℕ → ℕ → ℕ
loaded_lane is_signed l m j k =
    if l.is_on k then extended_by is_signed l.bits (8 * l.bytes) (value m (l.address k j) l.bytes) else 0

-- the first n registers of a layout with their lanes loaded
unfoldable pub with_loaded : Bool → Layout → Memory → ℕ → Vectors → Vectors
with_loaded is_signed l m zero v = v
with_loaded is_signed l m (suc n) v =
    with_lanes l.bits (loaded_lane is_signed l m n) (register_at l n) (with_loaded is_signed l m n v)

-- ld1rq: the first 128 bits, repeated in each 128 bits
abbrev pub with_repeated : Layout → Memory → Vectors → Vectors
with_repeated l m v = with_lanes l.bits (λ k. loaded_lane false l m 0 (k % l.lanes)) l.register v

-- ld1r: the one element in each active lane
abbrev pub with_replicated : Bool → ℕ → Layout → Memory → Vectors → Vectors
with_replicated is_signed pg l m v =
    with_lanes l.bits (λ k. if is_active l.bits v pg k
    then extended_by is_signed l.bits (8 * l.bytes) (value m (l.address k 0) l.bytes) else 0) l.register v

-- ldr of a predicate: bit j is bit j % 8 of its byte j / 8
abbrev pub with_loaded_bits : Layout → Memory → Vectors → Vectors
with_loaded_bits l m v =
    with_p v l.register (each (v.bits / 8) (λ j. nat_eq (value m (l.address (j / 8) 0) 1 / 2 ^ (j % 8) % 2) 1))

-- what a load writes, by the choice of its lanes
abbrev pub after_load : LaneChoice → Bool → Layout → Memory → Vectors → Vectors
after_load (each_active pg) is_signed l m v = with_loaded is_signed l m l.registers v
after_load (each_repeated pg) is_signed l m v = with_repeated l m v
after_load (replicated pg) is_signed l m v = with_replicated is_signed pg l m v
after_load whole_z is_signed l m v = with_loaded is_signed l m l.registers v
after_load whole_p is_signed l m v = with_loaded_bits l m v

-- ---- what is stored

-- a lane of the element's register, whose low bytes are stored
abbrev pub lane_stored : Layout → Vectors → Element → ℕ
lane_stored l v e = lane l.bits (read_z v e.register) e.lane

-- str of a predicate: its bits eight by eight
abbrev pub bits_stored : Vectors → Element → ℕ
bits_stored v e = number_of_bits 8 (λ j. bit (get_or (read_p v e.register) (8 * e.lane + j) false))

abbrev pub element_stored : LaneChoice → Layout → Vectors → Element → ℕ
element_stored (each_active pg) l v e = lane_stored l v e
element_stored (each_repeated pg) l v e = lane_stored l v e
element_stored (replicated pg) l v e = lane_stored l v e
element_stored whole_z l v e = lane_stored l v e
element_stored whole_p l v e = bits_stored v e

-- ---- the test before the access

-- the base is Xn|SP, and is SP
abbrev pub has_sp_base : Brackets → Bool
has_sp_base (scalar rn offset) = nat_eq rn 31
has_sp_base (vector zn imm5) = false

-- the alignment of SP is tested where there is an element; where there is none the manual leaves it open
abbrev pub tests_sp : Bool → List Element → Bool
tests_sp has_base [] = false
tests_sp has_base (e ∷ es) = has_base

abbrev pub is_misaligned : Bool → List Element → Core → Bool
is_misaligned has_base es c = tests_sp has_base es && not (nat_eq (c.sp % 16) 0)

-- ---- what is left

-- a load that is refused changes no register
abbrev pub loaded_to : Reach → Vectors → Core → Vectors → Memory → Done
loaded_to r after c v m = as_far r.stop Read (accesses_of false r.done) (leaves c v) (leaves c after) m

-- a store that is refused has stored the elements before
abbrev pub stored_to : Reach → (Element → ℕ) → Core → Vectors → Memory → Done
stored_to r value_of c v m =
    as_far r.stop Write (accesses_of true r.done) (leaves c v) (leaves c v) (with_stored value_of r.done m)

abbrev pub unless_misaligned : Bool → List Element → Core → Vectors → Memory → Done → Done
unless_misaligned has_base es c v m d = if is_misaligned has_base es c then traps c v m SpAlign c.sp else d

-- ---- the rows

abbrev pub load_row : MemoryRow → Core → Vectors → Memory → Done
load_row r c v m =
    let l : Layout = row_layout r c v in
    unless_misaligned (has_sp_base r.brackets) (elements_of l) c v m
    (loaded_to (reach m ReadKind (elements_of l)) (after_load r.choice r.width.is_signed l m v) c v m)

abbrev pub store_row : MemoryRow → Core → Vectors → Memory → Done
store_row r c v m =
    let l : Layout = row_layout r c v in
    unless_misaligned (has_sp_base r.brackets) (elements_of l) c v m
    (stored_to (reach m WriteKind (elements_of l)) (element_stored r.choice l v) c v m)
