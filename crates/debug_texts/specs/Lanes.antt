-- The lanes of registers beside each other, lane 0 first: `>` marks a lane that each predicate among the registers has
-- active, and `*` one that the last step changed, by the registers before it.
use Rattle.std.specs.Prelude.{ℕ, ◌*◌, ◌/◌, Bool, false, not, ◌&&◌, List, [], ◌∷◌, ◌++◌, codes, get_or, flat_map, Option}
use Rattle.std.specs.Prelude.{Some, None, nat_eq, nat_lt, if◌then◌else◌}
use Rattle.std.specs.Fmt.{decimal}
use Rattle.std.specs.List.{list_all}
use Rattle.emu_bits.specs.Fields.{bit}
use Rattle.emu_bits.specs.Flags.{size_of}
use Rattle.emu_bits.specs.declared.flags.Esize.{Esize}
use Rattle.emu_bits.specs.declared.flags.Esize.TheVariants.{B}
use Rattle.emu_model.specs.Lanes.{lane, read_p, read_z}
use Rattle.emu_model.specs.State.{Vectors}
use Rattle.emu_run.specs.Registers.{lines_of}
use Rattle.emu_run.specs.Text.{hex, newline}
use Rattle.debug_names.specs.declared.registers.Thing.{Thing}
use Rattle.debug_names.specs.declared.registers.Thing.TheVariants as things
use Rattle.debug_texts.specs.Registers.{size_text, vector_name}

-- ---- how wide the lanes are: as asked, or as the first register that has a size, or bytes

abbrev pub size_or_byte : Option Esize → Esize
size_or_byte None = B
size_or_byte (Some size) = size

abbrev pub own_size : Thing → Option Esize
own_size (things.Z k size) = size
own_size (things.P k size) = size
own_size (things.Ffr size) = size
own_size (things.Scalar register) = None
own_size (things.OneLane l) = None

abbrev pub or_own : Option Esize → Thing → Option Esize
or_own None thing = own_size thing
or_own (Some size) thing = Some size

abbrev pub size_among : Option Esize → List Thing → Option Esize
size_among size [] = size
size_among size (thing ∷ rest) = size_among (or_own size thing) rest

-- ---- lane i of e bits of one register

-- the lowest bit of the field of a predicate, where the predicate has the lane
abbrev pub field_flag : Vectors → List Bool → ℕ → ℕ → Option Bool
field_flag v flags e i = if nat_lt i (v.bits / e) then Some (get_or flags (i * (e / 8)) false) else None

abbrev pub flag_at : Vectors → ℕ → ℕ → Thing → Option Bool
flag_at v e i (things.P k size) = field_flag v (read_p v k) e i
flag_at v e i (things.Ffr size) = field_flag v v.ffr e i
flag_at v e i (things.Z k size) = None
flag_at v e i (things.Scalar register) = None
flag_at v e i (things.OneLane l) = None

abbrev pub number_at : Vectors → ℕ → ℕ → Thing → ℕ
number_at v e i (things.Z k size) = if nat_lt i (v.bits / e) then lane e (read_z v k) i else 0
number_at v e i (things.P k size) = 0
number_at v e i (things.Ffr size) = 0
number_at v e i (things.Scalar register) = 0
number_at v e i (things.OneLane l) = 0

abbrev pub lane_text : ℕ → Option Bool → ℕ → List ℕ
lane_text e None v = hex (e / 4) v
lane_text e (Some flag) v = decimal (bit flag)

-- no flag, a flag that isn't set, and one that is
abbrev pub flag_number : Option Bool → ℕ
flag_number None = 2
flag_number (Some flag) = bit flag

abbrev pub same_lane : Vectors → Vectors → ℕ → ℕ → Thing → Bool
same_lane old v e i thing =
    nat_eq (flag_number (flag_at old e i thing)) (flag_number (flag_at v e i thing))
    && nat_eq (number_at old e i thing) (number_at v e i thing)

abbrev pub star : Bool → List ℕ
star same = if same then codes " " else codes "*"

abbrev pub cell_text : Vectors → Vectors → ℕ → ℕ → Thing → List ℕ
cell_text old v e i thing =
    codes "  " ++ lane_text e (flag_at v e i thing) (number_at v e i thing) ++ star (same_lane old v e i thing)

-- ---- a line, and all

abbrev pub has_active : Vectors → ℕ → ℕ → Thing → Bool
has_active v e i thing = not (nat_eq (flag_number (flag_at v e i thing)) 0)

-- before a number of at most three digits
abbrev pub spaces : ℕ → List ℕ
spaces i = if nat_lt i 10 then codes "  " else (if nat_lt i 100 then codes " " else [])

abbrev pub index_text : ℕ → Bool → List ℕ
index_text i active = (if active then codes ">" else codes " ") ++ spaces i ++ decimal i

abbrev pub lane_line : Vectors → Vectors → ℕ → List Thing → ℕ → List ℕ
lane_line old v e things i =
    index_text i (list_all (has_active v e i) things) ++ flat_map (cell_text old v e i) things ++ newline

abbrev pub column_name : Esize → Thing → List ℕ
column_name size (things.Z k own) = codes "  " ++ vector_name (codes "z") k size
column_name size (things.P k own) = codes "  " ++ vector_name (codes "p") k size
column_name size (things.Ffr own) = codes "  " ++ (codes "ffr" ++ size_text size)
column_name size (things.Scalar register) = []
column_name size (things.OneLane l) = []

abbrev pub sized_lanes : Vectors → Vectors → Esize → List Thing → List ℕ
sized_lanes old v size things =
    codes "lane" ++ flat_map (column_name size) things ++ newline
    ++ lines_of (v.bits / size_of size) (lane_line old v (size_of size) things)

abbrev pub lanes_text : Vectors → Vectors → Option Esize → List Thing → List ℕ
lanes_text old v size things = sized_lanes old v (size_or_byte (size_among size things)) things
