-- What the arguments of a program are held to.
use Rattle.std.specs.Prelude.{◌≡◌, ◌≤◌, ℕ, true, List, length, sum_by}
use Rattle.std.specs.List.{list_all}
use Rattle.emu_system.specs.Arguments.{is_free_of_zeros, most_argument_bytes, most_arguments}

-- no more than may be, of no more bytes together than may be, none of which is 0
pub record AreArguments (args : List (List ℕ)) : Type 0 where
  pub few : length args ≤ most_arguments
  pub short : sum_by length args ≤ most_argument_bytes
  pub plain : list_all is_free_of_zeros args ≡ true
