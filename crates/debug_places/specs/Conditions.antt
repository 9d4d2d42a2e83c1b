-- Conditions: two operands and how they compare, as numbers without a sign. An operand is a number, a register or a
-- lane. `x0 == 5`, `z3.s[2] > x1`.
use Rattle.std.specs.Prelude.{ℕ, List, codes, Option, Some, None, if◌then◌else◌}
use Rattle.std.specs.Str.{bytes_eq}
use Rattle.line_words.specs.Lines.{number_of_word}
use Rattle.debug_places.specs.declared.conditions.Compare.{Compare}
use Rattle.debug_places.specs.declared.conditions.Compare.TheVariants.{Equal, Unequal, Below, AtMost, Above, AtLeast}
use Rattle.debug_places.specs.declared.conditions.Condition.{Condition}
use Rattle.debug_places.specs.declared.conditions.Operand.{Operand}
use Rattle.debug_places.specs.declared.conditions.Operand.TheVariants as operands
use Rattle.debug_names.specs.declared.registers.Lane.{Lane}
use Rattle.debug_names.specs.declared.registers.Register.{Register}
use Rattle.debug_names.specs.Registers.{lane_of, register_of}

abbrev pub compare_of : List ℕ → Option Compare
compare_of word =
    if bytes_eq word (codes "==") then Some Equal
    else (if bytes_eq word (codes "!=") then Some Unequal
    else (if bytes_eq word (codes "<") then Some Below
    else (if bytes_eq word (codes "<=") then Some AtMost
    else (if bytes_eq word (codes ">") then Some Above
    else (if bytes_eq word (codes ">=") then Some AtLeast else None)))))

abbrev pub number_operand : Option ℕ → Option Operand
number_operand None = None
number_operand (Some n) = Some (operands.Number n)

abbrev pub register_operand : List ℕ → Option Register → Option Operand
register_operand word None = number_operand (number_of_word word)
register_operand word (Some register) = Some (operands.Value register)

abbrev pub lane_operand : List ℕ → Option Lane → Option Operand
lane_operand word None = register_operand word (register_of word)
lane_operand word (Some lane) = Some (operands.LaneOf lane)

abbrev pub operand_of : List ℕ → Option Operand
operand_of word = lane_operand word (lane_of word)

abbrev pub condition_by : Option Operand → Option Compare → Option Operand → Option Condition
condition_by None compare right = None
condition_by (Some left) None right = None
condition_by (Some left) (Some compare) None = None
condition_by (Some left) (Some compare) (Some right) =
    Some (record { left = left; compare = compare; right = right })
