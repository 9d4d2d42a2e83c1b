-- What the commands of a script are held to.
use Rattle.std.specs.Prelude.{◌≤◌, ◌<◌, ◌^◌, ℕ, Bool, true, ◌&&◌, List, count_by, IsTrue, nat_le, nat_lt}
use Rattle.std.specs.List.{list_all}
use Rattle.dbg_model.specs.declared.script.Command.{Command}
use Rattle.dbg_model.specs.declared.script.Command.TheVariants.{Step, Break, Watch, Mem, Back}
use Rattle.dbg_model.specs.Commands.{is_break, is_watch, most_points}

-- so many bytes may be watched or printed at once
abbrev pub is_count : ℕ → Bool
is_count count = nat_le 1 count && nat_le count 4096

-- the numbers of a command are in its ranges; those of registers always are
abbrev pub is_within : Command → Bool
is_within (Step steps) = nat_le 1 steps
is_within (Watch address count) = is_count count
is_within (Mem address count) = nat_lt address (2 ^ 47) && is_count count
is_within (Back steps) = nat_le 1 steps
is_within command = true

pub record IsScript (commands : List Command) : Type 0 where
  pub within : IsTrue (list_all is_within commands)
  pub breaks : count_by is_break commands ≤ most_points
  pub watches : count_by is_watch commands ≤ most_points

-- a command may stand behind these
abbrev pub HasRoom : List Command → Command → Type 0
HasRoom commands (Break address) = count_by is_break commands < most_points
HasRoom commands (Watch address count) = count_by is_watch commands < most_points
HasRoom commands command = Unit {0}
