-- The words that a line names by their places, as docs/MANUAL.md has them under "Commands". The places are this
-- project's own choice.
use Rattle.std.specs.Prelude.{ℕ, List, [], get_or, Option, Some, None}
use Rattle.command_model.specs.declared.command_line.Line.{Line}
use Rattle.command_model.specs.declared.command_line.Line.TheVariants.{Run, Asm, Dis, Dbg, Load, Sweep, Threads}

-- the word that names the file that is read first, where one is
abbrev pub file_named : List (List ℕ) → Line → Option (List ℕ)
file_named words (Run file_place args_place bits budget pages) = Some (get_or words file_place [])
file_named words (Asm listing_place) = Some (get_or words listing_place [])
file_named words (Dis file_place) = Some (get_or words file_place [])
file_named words (Dbg file_place script_place args_place bits budget pages) = Some (get_or words file_place [])
file_named words (Load number) = None
file_named words (Sweep file_place args_place budget pages) = Some (get_or words file_place [])
file_named words (Threads file_place schedule_place args_place bits budget pages) = Some (get_or words file_place [])
