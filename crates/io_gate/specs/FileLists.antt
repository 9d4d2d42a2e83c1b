-- The files of a list, by their names.
use Rattle.std.specs.Prelude.{String, ℕ, List, map, string_bytes}
use Rattle.std.specs.FinMap.{from_entries}
use Rattle.std.specs.Global.{Vec, Global}
use Rattle.io_gate.specs.Images.{NamedFiles}

-- a file's name and its bytes
abbrev pub file_entry : String Global × Vec ℕ → List ℕ × List ℕ
file_entry file = (string_bytes file.0, file.1.items)

-- the files of a list; of a name that stands twice, the first
abbrev pub named_files : List (String Global × Vec ℕ) → NamedFiles
named_files files = from_entries (map file_entry files)
