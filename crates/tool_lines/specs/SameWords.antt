-- The words of the line of `svemu` that does what a run of `svemu-tool` does.
use Rattle.std.specs.Prelude.{ℕ, ◌+◌, ◌&&◌, List, [], ◌∷◌, ◌++◌, drop, get_or, codes, Option, Some, None, is_none, if◌then◌else◌, nat_eq, length}
use Rattle.tool_lines.specs.declared.line.RunLine.{RunLine}
use Rattle.tool_lines.specs.ToolLine.{is_option}

-- the name of a file, in a form that is no option
abbrev pub file_word : List ℕ → List ℕ
file_word name = if is_option name then codes "./" ++ name else name

-- what a variable has, or what stands for none
abbrev pub variable_word : List ℕ → List ℕ → List ℕ
variable_word variable or = if nat_eq (length variable) 0 then or else variable

-- the value of an option: the word at its place, else what a variable has
abbrev pub value_word : List (List ℕ) → Option ℕ → List ℕ → List ℕ → List ℕ
value_word words None variable or = variable_word variable or
value_word words (Some place) variable or = get_or words place []

-- the command and its files
abbrev pub files_of : List (List ℕ) → ℕ → Option ℕ → List (List ℕ)
files_of words program None = codes "run" ∷ file_word (get_or words program []) ∷ []
files_of words program (Some schedule) = codes "threads" ∷ file_word (get_or words program []) ∷ file_word (get_or words schedule []) ∷ []

abbrev pub command_words : List (List ℕ) → RunLine → List (List ℕ)
command_words words line = files_of words line.program line.threads

-- the limit of pages, where one is given
abbrev pub pages_words : List (List ℕ) → Option ℕ → List ℕ → List (List ℕ)
pages_words words place variable =
    if is_none place && nat_eq (length variable) 0 then [] else codes "--pages" ∷ value_word words place variable [] ∷ []

-- the arguments of the program
abbrev pub argument_words : List (List ℕ) → List (List ℕ)
argument_words [] = []
argument_words (first ∷ more) = codes "--" ∷ first ∷ more

-- the whole line, with what the variables SVEMU_VL, SVEMU_BUDGET and SVEMU_PAGES have
abbrev pub same_words : List (List ℕ) → RunLine → List ℕ → List ℕ → List ℕ → List (List ℕ)
same_words words line vl budget pages =
    (((command_words words line
    ++ codes "--vl" ∷ value_word words line.length vl (codes "512") ∷ [])
    ++ codes "--budget" ∷ value_word words line.budget budget (codes "10000000000") ∷ [])
    ++ pages_words words line.pages pages)
    ++ argument_words (drop (line.program + 1) words)
