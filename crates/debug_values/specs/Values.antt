-- What a machine has where a person's words name registers, lanes, places and conditions.
use Rattle.std.specs.Prelude.{ℕ, ◌+◌, ◌/◌, ◌%◌, ◌^◌, Bool, not, nat_eq, nat_lt, nat_le, if◌then◌else◌}
use Rattle.emu_bits.specs.Flags.{size_of}
use Rattle.emu_model.specs.Lanes.{lane, read_z}
use Rattle.emu_model.specs.State.{Parts, Vectors, read_x}
use Rattle.trace_lines.specs.Lines.{flag_number}
use Rattle.debug_places.specs.declared.conditions.Compare.{Compare}
use Rattle.debug_places.specs.declared.conditions.Compare.TheVariants.{Equal, Unequal, Below, AtMost, Above, AtLeast}
use Rattle.debug_places.specs.declared.conditions.Condition.{Condition}
use Rattle.debug_places.specs.declared.conditions.Operand.{Operand}
use Rattle.debug_places.specs.declared.conditions.Operand.TheVariants.{Number, Value, LaneOf}
use Rattle.debug_places.specs.declared.places.Base.{Base}
use Rattle.debug_places.specs.declared.places.Base.TheVariants.{At, Of}
use Rattle.debug_places.specs.declared.places.Place.{Place}
use Rattle.debug_names.specs.declared.registers.Lane.{Lane}
use Rattle.debug_names.specs.declared.registers.Register.{Register}
use Rattle.debug_names.specs.declared.registers.Register.TheVariants.{X, W, Sp, Pc, Nzcv, Tpidr, Vl}

abbrev pub register_value : Parts → Register → ℕ
register_value m (X r) = read_x m.core r
register_value m (W r) = read_x m.core r % 2 ^ 32
register_value m Sp = m.core.sp
register_value m Pc = m.core.pc
register_value m Nzcv = flag_number m.core.flags
register_value m Tpidr = m.core.tpidr
register_value m Vl = m.vectors.bits

-- a lane behind the vector length is 0
abbrev pub lane_value : Vectors → Lane → ℕ
lane_value v l =
    if nat_lt l.index (v.bits / size_of l.size) then lane (size_of l.size) (read_z v l.register) l.index else 0

abbrev pub base_value : Parts → Base → ℕ
base_value m (At address) = address
base_value m (Of register) = register_value m register

abbrev pub address_of : Parts → Place → ℕ
address_of m place = (base_value m place.base + place.plus) % 2 ^ 64

-- ---- conditions

abbrev pub operand_value : Parts → Operand → ℕ
operand_value m (Number n) = n
operand_value m (Value register) = register_value m register
operand_value m (LaneOf l) = lane_value m.vectors l

abbrev pub compares : Compare → ℕ → ℕ → Bool
compares Equal a b = nat_eq a b
compares Unequal a b = not (nat_eq a b)
compares Below a b = nat_lt a b
compares AtMost a b = nat_le a b
compares Above a b = nat_lt b a
compares AtLeast a b = nat_le b a

abbrev pub holds : Parts → Condition → Bool
holds m c = compares c.compare (operand_value m c.left) (operand_value m c.right)
