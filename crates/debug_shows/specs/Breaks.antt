-- Breaks and watches as they are shown.
use Rattle.std.specs.Prelude.{ℕ, Bool, List, [], ◌++◌, codes, flat_map, length, nat_eq, Option, Some, None}
use Rattle.std.specs.Prelude.{if◌then◌else◌}
use Rattle.std.specs.Fmt.{decimal}
use Rattle.elf_symbols.specs.declared.Symbol.{Symbol}
use Rattle.emu_run.specs.Text.{newline}
use Rattle.debug_words.specs.declared.commands.WatchKind.{WatchKind}
use Rattle.debug_words.specs.declared.commands.WatchKind.TheVariants.{Writes, Reads, Both}
use Rattle.debug_places.specs.declared.conditions.Compare.{Compare}
use Rattle.debug_places.specs.declared.conditions.Compare.TheVariants.{Equal, Unequal, Below, AtMost, Above, AtLeast}
use Rattle.debug_places.specs.declared.conditions.Condition.{Condition}
use Rattle.debug_places.specs.declared.conditions.Operand.{Operand}
use Rattle.debug_places.specs.declared.conditions.Operand.TheVariants.{Number, Value, LaneOf}
use Rattle.debug_points.specs.declared.points.Point.{Point}
use Rattle.debug_points.specs.declared.points.What.{What}
use Rattle.debug_points.specs.declared.points.What.TheVariants.{Break, Watch}
use Rattle.debug_texts.specs.Registers.{lane_name, register_name}
use Rattle.debug_shows.specs.Places.{place_text}

abbrev pub kind_text : WatchKind → List ℕ
kind_text Writes = codes "watch "
kind_text Reads = codes "rwatch "
kind_text Both = codes "awatch "

abbrev pub compare_text : Compare → List ℕ
compare_text Equal = codes " == "
compare_text Unequal = codes " != "
compare_text Below = codes " < "
compare_text AtMost = codes " <= "
compare_text Above = codes " > "
compare_text AtLeast = codes " >= "

abbrev pub operand_text : Operand → List ℕ
operand_text (Number n) = decimal n
operand_text (Value register) = register_name register
operand_text (LaneOf l) = lane_name l

abbrev pub comparison_text : Condition → List ℕ
comparison_text c = codes " if " ++ operand_text c.left ++ compare_text c.compare ++ operand_text c.right

-- ` if x0 == 3`, where there is a condition
abbrev pub condition_text : Option Condition → List ℕ
condition_text None = []
condition_text (Some condition) = comparison_text condition

abbrev pub break_name : Bool → List ℕ
break_name once = if once then codes "tbreak " else codes "break "

abbrev pub what_text : List Symbol → Bool → What → List ℕ
what_text symbols once (Break a condition) = break_name once ++ place_text symbols a ++ condition_text condition
what_text symbols once (Watch kind a count) = kind_text kind ++ place_text symbols a ++ codes " " ++ decimal count

-- `2: watch 0x410040 <sum> 8`
abbrev pub point_text : List Symbol → Point → List ℕ
point_text symbols p = decimal p.number ++ codes ": " ++ what_text symbols p.once p.what

abbrev pub met_text : List Symbol → Point → List ℕ
met_text symbols p = point_text symbols p ++ newline

-- ---- in a list of all

abbrev pub passes_text : ℕ → List ℕ
passes_text ignored = if nat_eq ignored 0 then [] else codes ", passes " ++ decimal ignored

abbrev pub enabled_text : Bool → List ℕ
enabled_text enabled = if enabled then codes "\n" else codes ", disabled\n"

abbrev pub counts_text : Point → List ℕ
counts_text p = codes ", met " ++ decimal p.hits ++ passes_text p.ignored ++ enabled_text p.enabled

abbrev pub listed_text : List Symbol → Point → List ℕ
listed_text symbols p = point_text symbols p ++ counts_text p

abbrev pub points_text : List Symbol → List Point → List ℕ
points_text symbols points =
    if nat_eq (length points) 0 then codes "no breaks and no watches\n" else flat_map (listed_text symbols) points
