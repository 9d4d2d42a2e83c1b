-- What the names of a person's line name of a machine, as `print` shows it.
use Rattle.std.specs.Prelude.{ℕ, List, ◌++◌, codes, Option}
use Rattle.emu_bits.specs.Flags.{size_of}
use Rattle.emu_model.specs.State.{Parts, Vectors}
use Rattle.emu_run.specs.Text.{newline}
use Rattle.debug_names.specs.declared.registers.Lane.{Lane}
use Rattle.debug_names.specs.declared.registers.Thing.{Thing}
use Rattle.debug_names.specs.declared.registers.Thing.TheVariants as things
use Rattle.debug_places.specs.declared.formats.Notation.{Notation}
use Rattle.debug_texts.specs.Lanes.{size_or_byte}
use Rattle.debug_texts.specs.Registers.{ffr_text, lane_name, noted, p_text, register_line, z_text}
use Rattle.debug_values.specs.Values.{lane_value, register_value}

abbrev pub lane_noted : Option Notation → Vectors → Lane → List ℕ
lane_noted notation v l = noted notation (size_of l.size) (lane_value v l)

-- `z3.s[2] = 0x40 64`
abbrev pub lane_line : Option Notation → Vectors → Lane → List ℕ
lane_line notation v l = lane_name l ++ codes " = " ++ lane_noted notation v l ++ newline

abbrev pub thing_text : Option Notation → Parts → Thing → List ℕ
thing_text notation m (things.Scalar r) = register_line notation r (register_value m r)
thing_text notation m (things.OneLane l) = lane_line notation m.vectors l
thing_text notation m (things.Z k size) = z_text notation m.vectors k (size_or_byte size)
thing_text notation m (things.P k size) = p_text m.vectors k (size_or_byte size)
thing_text notation m (things.Ffr size) = ffr_text m.vectors (size_or_byte size)
