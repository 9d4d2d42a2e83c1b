-- Registers and lanes as `print` shows them.
use Rattle.std.specs.Prelude.{ℕ, ◌*◌, ◌/◌, Bool, false, List, ◌++◌, codes, get_or, if◌then◌else◌, nat_eq, Option, Some}
use Rattle.std.specs.Prelude.{None, unwrap_or}
use Rattle.std.specs.Fmt.{decimal}
use Rattle.emu_bits.specs.Flags.{size_of}
use Rattle.emu_bits.specs.declared.flags.Esize.{Esize}
use Rattle.emu_model.specs.Lanes.{lane, read_p, read_z}
use Rattle.emu_model.specs.State.{Vectors}
use Rattle.emu_run.specs.Registers.{lines_of}
use Rattle.emu_run.specs.Text.{newline}
use Rattle.dbg_model.specs.Session.{size_letter}
use Rattle.debug_places.specs.declared.formats.Notation.{Notation}
use Rattle.debug_places.specs.declared.formats.Notation.TheVariants.{Unsigned}
use Rattle.debug_names.specs.Registers.{register_bits}
use Rattle.debug_names.specs.declared.registers.Lane.{Lane}
use Rattle.debug_names.specs.declared.registers.Register.{Register}
use Rattle.debug_names.specs.declared.registers.Register.TheVariants.{X, W, Sp, Pc, Nzcv, Tpidr, Vl}
use Rattle.debug_texts.specs.Numbers.{hex_text, number_text}

-- ---- scalar registers

-- `x3`; `xzr` for register 31
abbrev pub general_name : List ℕ → ℕ → List ℕ
general_name letter r = if nat_eq r 31 then letter ++ codes "zr" else letter ++ decimal r

abbrev pub register_name : Register → List ℕ
register_name (X r) = general_name (codes "x") r
register_name (W r) = general_name (codes "w") r
register_name Sp = codes "sp"
register_name Pc = codes "pc"
register_name Nzcv = codes "nzcv"
register_name Tpidr = codes "tpidr"
register_name Vl = codes "vl"

-- in a notation, or where none is asked for in hexadecimal and decimal
abbrev pub noted : Option Notation → ℕ → ℕ → List ℕ
noted None bits v = hex_text v ++ codes " " ++ decimal v
noted (Some notation) bits v = number_text notation bits v

-- `x3 = 0x40 64`
abbrev pub register_line : Option Notation → Register → ℕ → List ℕ
register_line notation r v = register_name r ++ codes " = " ++ noted notation (register_bits r) v ++ newline

-- ---- names of vector registers and lanes

abbrev pub size_text : Esize → List ℕ
size_text size = codes "." ++ size_letter size

-- `z3.s`
abbrev pub vector_name : List ℕ → ℕ → Esize → List ℕ
vector_name letter k size = (letter ++ decimal k) ++ size_text size

-- `z3.s[2]`
abbrev pub lane_name : Lane → List ℕ
lane_name l = vector_name (codes "z") l.register l.size ++ codes "[" ++ decimal l.index ++ codes "]"

-- ---- their lanes, lane 0 first

abbrev pub z_lane_text : Notation → Vectors → ℕ → ℕ → ℕ → List ℕ
z_lane_text notation v k e i = codes " " ++ number_text notation e (lane e (read_z v k) i)

abbrev pub lanes_shown : Notation → Vectors → ℕ → Esize → List ℕ
lanes_shown notation v k size = lines_of (v.bits / size_of size) (z_lane_text notation v k (size_of size))

-- `z3.s = 0 1 2 3`
abbrev pub z_text : Option Notation → Vectors → ℕ → Esize → List ℕ
z_text notation v k size =
    vector_name (codes "z") k size ++ codes " =" ++ lanes_shown (unwrap_or notation Unsigned) v k size ++ newline

-- the flag of lane i of e bits is the lowest bit of its field
abbrev pub flag_digit : Bool → List ℕ
flag_digit flag = if flag then codes " 1" else codes " 0"

abbrev pub flag_text : List Bool → ℕ → ℕ → List ℕ
flag_text flags e i = flag_digit (get_or flags (i * (e / 8)) false)

abbrev pub flags_text : List Bool → ℕ → Esize → List ℕ
flags_text flags bits size = lines_of (bits / size_of size) (flag_text flags (size_of size))

abbrev pub p_text : Vectors → ℕ → Esize → List ℕ
p_text v k size = vector_name (codes "p") k size ++ codes " =" ++ flags_text (read_p v k) v.bits size ++ newline

abbrev pub ffr_text : Vectors → Esize → List ℕ
ffr_text v size = (codes "ffr" ++ size_text size) ++ codes " =" ++ flags_text v.ffr v.bits size ++ newline
