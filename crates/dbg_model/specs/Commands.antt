-- The commands of a script, and what a script keeps of them. They are this project's own choice, as docs/MANUAL.md has
-- them under "Debugging".
use Rattle.std.specs.Prelude.{ℕ, Bool, true, false, List}
use Rattle.std.specs.List.{list_any}
use Rattle.dbg_model.specs.declared.script.Command.{Command}
use Rattle.dbg_model.specs.declared.script.Command.TheVariants.{Break, Watch, Back}

abbrev pub is_break : Command → Bool
is_break (Break address) = true
is_break command = false

abbrev pub is_watch : Command → Bool
is_watch (Watch address count) = true
is_watch command = false

abbrev pub is_back : Command → Bool
is_back (Back steps) = true
is_back command = false

-- one of the commands goes back
abbrev pub has_back : List Command → Bool
has_back commands = list_any is_back commands

-- at most so many breaks, and so many watches
abbrev pub most_points : ℕ
most_points = 64
