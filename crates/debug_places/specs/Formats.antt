-- How memory and registers are written, as gdb has it: behind a slash stand a count, a letter of the notation and a
-- letter of the size, each where it is wanted. Of several letters of a kind the last counts.
use Rattle.std.specs.Prelude.{ℕ, ◌+◌, ◌-◌, ◌*◌, Bool, ◌&&◌, List, [], ◌∷◌, Option, Some, None, nat_eq, nat_le}
use Rattle.std.specs.Prelude.{if◌then◌else◌}
use Rattle.debug_places.specs.declared.formats.Format.{Format}
use Rattle.debug_places.specs.declared.formats.Notation.{Notation}
use Rattle.debug_places.specs.declared.formats.Notation.TheVariants.{Hexadecimal, Signed, Unsigned, Binary, Character}
use Rattle.debug_places.specs.declared.formats.Notation.TheVariants.{Text, Instruction}

-- the greatest count
abbrev pub most_count : ℕ
most_count = 4096

abbrev pub is_figure : ℕ → Bool
is_figure b = nat_le 48 b && nat_le b 57

-- x d u t c s i
abbrev pub notation_of : ℕ → Option Notation
notation_of b =
    if nat_eq b 120 then Some Hexadecimal
    else (if nat_eq b 100 then Some Signed
    else (if nat_eq b 117 then Some Unsigned
    else (if nat_eq b 116 then Some Binary
    else (if nat_eq b 99 then Some Character
    else (if nat_eq b 115 then Some Text
    else (if nat_eq b 105 then Some Instruction else None))))))

-- b h w g: how many bytes
abbrev pub unit_of : ℕ → Option ℕ
unit_of b =
    if nat_eq b 98 then Some 1
    else (if nat_eq b 104 then Some 2
    else (if nat_eq b 119 then Some 4
    else (if nat_eq b 103 then Some 8 else None)))

-- nothing is asked for
abbrev pub plain_format : Format
plain_format = record { count = 0; notation = None; unit = None }

-- one figure more of the count
abbrev pub with_figure : Format → ℕ → Option Format
with_figure f figure =
    if nat_le (f.count * 10 + figure) most_count
    then Some (record { count = f.count * 10 + figure; notation = f.notation; unit = f.unit }) else None

abbrev pub with_unit : Format → Option ℕ → Option Format
with_unit f None = None
with_unit f (Some unit) = Some (record { count = f.count; notation = f.notation; unit = Some unit })

abbrev pub with_notation : Format → ℕ → Option Notation → Option Format
with_notation f b None = with_unit f (unit_of b)
with_notation f b (Some notation) =
    Some (record { count = f.count; notation = Some notation; unit = f.unit })

abbrev pub with_letter : Format → ℕ → Option Format
with_letter f b = if is_figure b then with_figure f (b - 48) else with_notation f b (notation_of b)

-- letters one after the other
abbrev pub with_letters : Option Format → List ℕ → Option Format
with_letters None bytes = None
with_letters (Some f) [] = Some f
with_letters (Some f) (b ∷ bytes) = with_letters (with_letter f b) bytes

abbrev pub format_of : List ℕ → Option Format
format_of bytes = with_letters (Some plain_format) bytes
