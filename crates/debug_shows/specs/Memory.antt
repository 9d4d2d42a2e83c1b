-- Memory as `x` shows it, and the instructions of a function.
use Rattle.std.specs.Prelude.{ℕ, zero, suc, ◌+◌, ◌*◌, ◌/◌, ◌%◌, List, [], ◌∷◌, ◌++◌, codes, max, min, Option, Some}
use Rattle.std.specs.Prelude.{None, unwrap_or, nat_eq, nat_le, if◌then◌else◌}
use Rattle.elf_symbols.specs.Lookup.{last_reaching}
use Rattle.elf_symbols.specs.declared.Symbol.{Symbol}
use Rattle.emu_model.specs.Access.{Memory, address, byte_at, value}
use Rattle.emu_model.specs.Pages.{peeked}
use Rattle.emu_model.specs.State.{Parts}
use Rattle.emu_run.specs.Registers.{lines_of}
use Rattle.emu_run.specs.Text.{newline}
use Rattle.debug_places.specs.declared.formats.Format.{Format}
use Rattle.debug_places.specs.declared.formats.Notation.{Notation}
use Rattle.debug_places.specs.declared.formats.Notation.TheVariants.{Hexadecimal, Signed, Unsigned, Binary, Character}
use Rattle.debug_places.specs.declared.formats.Notation.TheVariants.{Text, Instruction}
use Rattle.debug_texts.specs.Numbers.{character, number_text}
use Rattle.debug_shows.specs.Places.{instruction_text, place_text}

-- ---- values: up to 16 bytes or 8 values a line

abbrev pub in_line : ℕ → ℕ
in_line unit = min (16 / unit) 8

-- `--` where nothing is mapped
abbrev pub mapped_text : Option ℕ → List ℕ → List ℕ
mapped_text None text = codes "--"
mapped_text (Some byte) text = text

abbrev pub value_text : Memory → Notation → ℕ → ℕ → List ℕ
value_text m notation unit a =
    codes " " ++ mapped_text (peeked m a) (number_text notation (8 * unit) (value m a unit))

-- before the first value of a line
abbrev pub break_text : ℕ → List ℕ
break_text k = if nat_eq k 0 then [] else newline

abbrev pub head_text : List Symbol → ℕ → ℕ → ℕ → List ℕ
head_text symbols unit k a =
    if nat_eq (k % in_line unit) 0 then break_text k ++ place_text symbols a ++ codes ":" else []

abbrev pub one_value : List Symbol → Memory → Notation → ℕ → ℕ → ℕ → List ℕ
one_value symbols m notation unit a k =
    head_text symbols unit k (address (a + k * unit)) ++ value_text m notation unit (address (a + k * unit))

abbrev pub values_text : List Symbol → Memory → Notation → ℕ → ℕ → ℕ → List ℕ
values_text symbols m notation unit count a = lines_of count (one_value symbols m notation unit a) ++ newline

-- ---- texts: up to a zero byte, or a byte that isn't mapped, and 4,096 characters at most

unfoldable pub characters : Memory → ℕ → ℕ → List ℕ
characters m a zero = []
characters m a (suc n) =
    if nat_eq (byte_at m a) 0 then [] else character (byte_at m a) ∷ characters m (address (a + 1)) n

unfoldable pub behind_characters : Memory → ℕ → ℕ → ℕ
behind_characters m a zero = a
behind_characters m a (suc n) =
    if nat_eq (byte_at m a) 0 then address (a + 1) else behind_characters m (address (a + 1)) n

abbrev pub most_characters : ℕ
most_characters = 4096

abbrev pub one_text : List Symbol → Memory → ℕ → List ℕ
one_text symbols m a = place_text symbols a ++ codes ": \"" ++ characters m a most_characters ++ codes "\"" ++ newline

unfoldable pub texts : List Symbol → Memory → ℕ → ℕ → List ℕ
texts symbols m a zero = []
texts symbols m a (suc n) = one_text symbols m a ++ texts symbols m (behind_characters m a most_characters) n

-- ---- instructions

abbrev pub mark : ℕ → ℕ → List ℕ
mark pc a = if nat_eq pc a then codes "=> " else codes "   "

abbrev pub line_text : List Symbol → Memory → ℕ → ℕ → List ℕ
line_text symbols m pc a =
    mark pc a ++ place_text symbols a ++ codes "  " ++ instruction_text m a ++ newline

abbrev pub lines_from : List Symbol → Memory → ℕ → ℕ → ℕ → List ℕ
lines_from symbols m pc count a = lines_of count (λ k. line_text symbols m pc (address (a + 4 * k)))

-- ---- the whole

abbrev pub unit_or : ℕ → Option ℕ → ℕ
unit_or unit None = unit
unit_or unit (Some asked) = min (max asked 1) 8

abbrev pub text_by : List Symbol → Memory → ℕ → Notation → ℕ → Option ℕ → ℕ → List ℕ
text_by symbols m pc Hexadecimal count unit a = values_text symbols m Hexadecimal (unit_or 4 unit) count a
text_by symbols m pc Signed count unit a = values_text symbols m Signed (unit_or 4 unit) count a
text_by symbols m pc Unsigned count unit a = values_text symbols m Unsigned (unit_or 4 unit) count a
text_by symbols m pc Binary count unit a = values_text symbols m Binary (unit_or 4 unit) count a
text_by symbols m pc Character count unit a = values_text symbols m Character (unit_or 1 unit) count a
text_by symbols m pc Text count unit a = texts symbols m a count
text_by symbols m pc Instruction count unit a = lines_from symbols m pc count a

abbrev pub memory_text : List Symbol → Format → Parts → ℕ → List ℕ
memory_text symbols f m a =
    text_by symbols m.memory m.core.pc (unwrap_or f.notation Hexadecimal) (max f.count 1) f.unit a

-- the whole function, at most 400 instructions, or ten of them where no symbol with a size reaches the address
unfoldable pub plain_instructions : ℕ
plain_instructions = 10

abbrev pub reached_text : List Symbol → Memory → ℕ → ℕ → Symbol → List ℕ
reached_text symbols m pc a s =
    if nat_le 4 s.size then lines_from symbols m pc (min (s.size / 4) 400) s.address
    else lines_from symbols m pc plain_instructions a

abbrev pub function_text : List Symbol → Parts → ℕ → Option Symbol → List ℕ
function_text symbols m a None = lines_from symbols m.memory m.core.pc plain_instructions a
function_text symbols m a (Some s) = reached_text symbols m.memory m.core.pc a s

abbrev pub disassembly_text : List Symbol → Parts → ℕ → List ℕ
disassembly_text symbols m a = function_text symbols m a (last_reaching a symbols)
