-- The places of an accepted line are those of words.
use Rattle.std.proofs.Common.{◌≡◌, ◌<◌, ◌≤◌, ℕ, ◌+◌, Bool, true, false, cond, ◌||◌, not, List, [], ◌∷◌, length, codes, Option, Some, None, is_some, Result, Ok, Err, IfOk, map, sym, subst, arith}
use Rattle.std.proofs.lemmas.List.{length-map}
use Rattle.std.specs.Str.{bytes_eq}
use Rattle.tool_lines.specs.declared.line.SeenWords.{SeenWords}
use Rattle.tool_lines.specs.declared.line.ToolLine.{ToolLine}
use Rattle.tool_lines.specs.declared.line.ToolFault.{ToolFault}
use Rattle.tool_lines.specs.declared.line.ToolOption.{ToolOption}
use Rattle.tool_lines.specs.declared.line.ToolOption.TheVariants.{Vl, Budget, Pages, Registers, Threads, Quiet, Help}
use Rattle.tool_lines.specs.ToolLine.{and_then, at_end, is_option, nothing_seen, option_of, read_item, read_next, read_option, read_word, read_words, run_of, tool_line, with_place, HasPlaces, IsPlace}

-- the places that were seen are those of words
record SeenWithin (count : ℕ) (seen : SeenWords) : Type 0 where
  program : IsPlace count seen.program
  vl : IsPlace count seen.length
  budget : IsPlace count seen.budget
  pages : IsPlace count seen.pages
  registers : IsPlace count seen.registers
  threads : IsPlace count seen.threads

abbrev Within : ℕ → Result SeenWords ToolFault → Type 0
Within count r = IfOk r (SeenWithin count)

nothing_within : (count : ℕ) → SeenWithin count nothing_seen
nothing_within count = record { program = tt; vl = tt; budget = tt; pages = tt; registers = tt; threads = tt }

either : (count : ℕ) (b : Bool) (x y : Result SeenWords ToolFault) → Within count x → Within count y → Within count (cond b x y)
either count true x y p q = p
either count false x y p q = q

place_within : (count place : ℕ) (option : ToolOption) (seen : SeenWords) → place < count → SeenWithin count seen → SeenWithin count (with_place option place seen)
place_within count place Vl seen h s = record { program = s.program; vl = h; budget = s.budget; pages = s.pages; registers = s.registers; threads = s.threads }
place_within count place Budget seen h s = record { program = s.program; vl = s.vl; budget = h; pages = s.pages; registers = s.registers; threads = s.threads }
place_within count place Pages seen h s = record { program = s.program; vl = s.vl; budget = s.budget; pages = h; registers = s.registers; threads = s.threads }
place_within count place Registers seen h s = record { program = s.program; vl = s.vl; budget = s.budget; pages = s.pages; registers = h; threads = s.threads }
place_within count place Threads seen h s = record { program = s.program; vl = s.vl; budget = s.budget; pages = s.pages; registers = s.registers; threads = h }
place_within count place Quiet seen h s = record { program = s.program; vl = s.vl; budget = s.budget; pages = s.pages; registers = s.registers; threads = s.threads }
place_within count place Help seen h s = record { program = s.program; vl = s.vl; budget = s.budget; pages = s.pages; registers = s.registers; threads = s.threads }

option_within : (count place : ℕ) (o : Option ToolOption) (seen : SeenWords) → SeenWithin count seen → Within count (read_option seen place o)
option_within count place None seen s = tt
option_within count place (Some Vl) seen s = record { program = s.program; vl = s.vl; budget = s.budget; pages = s.pages; registers = s.registers; threads = s.threads }
option_within count place (Some Budget) seen s = record { program = s.program; vl = s.vl; budget = s.budget; pages = s.pages; registers = s.registers; threads = s.threads }
option_within count place (Some Pages) seen s = record { program = s.program; vl = s.vl; budget = s.budget; pages = s.pages; registers = s.registers; threads = s.threads }
option_within count place (Some Registers) seen s = record { program = s.program; vl = s.vl; budget = s.budget; pages = s.pages; registers = s.registers; threads = s.threads }
option_within count place (Some Threads) seen s = record { program = s.program; vl = s.vl; budget = s.budget; pages = s.pages; registers = s.registers; threads = s.threads }
option_within count place (Some Quiet) seen s = record { program = s.program; vl = s.vl; budget = s.budget; pages = s.pages; registers = s.registers; threads = s.threads }
option_within count place (Some Help) seen s = record { program = s.program; vl = s.vl; budget = s.budget; pages = s.pages; registers = s.registers; threads = s.threads }

item_within : (count place : ℕ) (word : List ℕ) (seen : SeenWords) → place < count → SeenWithin count seen → Within count (read_item seen place word)
item_within count place word seen h s =
    either count (seen.plain || not (is_option word)) _ _ (record { program = h; vl = s.vl; budget = s.budget; pages = s.pages; registers = s.registers; threads = s.threads })
    (either count (bytes_eq word (codes "--")) _ _ (record { program = s.program; vl = s.vl; budget = s.budget; pages = s.pages; registers = s.registers; threads = s.threads })
    (option_within count place (option_of word) seen s))

next_within : (count place : ℕ) (word : List ℕ) (awaited : Option ToolOption) (seen : SeenWords) → place < count → SeenWithin count seen → Within count (read_next seen place word awaited)
next_within count place word None seen h s = item_within count place word seen h s
next_within count place word (Some option) seen h s = place_within count place option seen h s

word_within : (count place : ℕ) (word : List ℕ) (seen : SeenWords) → place < count → SeenWithin count seen → Within count (read_word seen place word)
word_within count place word seen h s = either count (is_some seen.program) _ _ s (next_within count place word seen.awaited seen h s)

-- the words behind one that was read
words_within : (count place : ℕ) (words : List (List ℕ)) (r : Result SeenWords ToolFault) → place + length words ≤ count → Within count r → Within count (and_then r (λ seen. read_words seen place words))
words_within count place words (Err fault) h s = tt
words_within count place [] (Ok seen) h s = s
words_within count place (word ∷ words) (Ok seen) h s =
    words_within count (place + 1) words (read_word seen place word) (omega arith) (word_within count place word seen (omega arith) s)

run_within : (count : ℕ) (program : Option ℕ) (seen : SeenWords) → IsPlace count program → SeenWithin count seen → IfOk (run_of seen count program) (HasPlaces count)
run_within count None seen p s = tt
run_within count (Some program) seen p s = record { program = p; length = s.vl; budget = s.budget; pages = s.pages; registers = s.registers; threads = s.threads }

line_either : (count : ℕ) (b : Bool) (x y : Result ToolLine ToolFault) → IfOk x (HasPlaces count) → IfOk y (HasPlaces count) → IfOk (cond b x y) (HasPlaces count)
line_either count true x y p q = p
line_either count false x y p q = q

end_within : (count : ℕ) (seen : SeenWords) → SeenWithin count seen → IfOk (at_end seen count) (HasPlaces count)
end_within count seen s = line_either count seen.help _ _ tt (line_either count (is_some seen.awaited) _ _ tt (run_within count seen.program seen s.program s))

after_within : (count : ℕ) (r : Result SeenWords ToolFault) → Within count r → IfOk (and_then r (λ seen. at_end seen count)) (HasPlaces count)
after_within count (Err fault) s = tt
after_within count (Ok seen) s = end_within count seen s

-- the places of a line
pub line_places : (words : List (List ℕ)) → IfOk (tool_line words) (HasPlaces (length words))
line_places [] = tt
line_places (name ∷ words) =
    let count = length (name ∷ words) in
    line_either count (bytes_eq name (codes "--help")) _ _ tt
    (line_either count (bytes_eq name (codes "--version")) _ _ tt
    (line_either count (bytes_eq name (codes "family")) _ _ tt
    (line_either count (bytes_eq name (codes "count")) _ _ (omega arith)
    (line_either count (bytes_eq name (codes "trace")) _ _ (omega arith)
    (line_either count (bytes_eq name (codes "debug")) _ _ (omega arith)
    (line_either count (bytes_eq name (codes "run")) _ _
    (after_within count (read_words nothing_seen 1 words) (words_within count 1 words (Ok nothing_seen) (omega arith) (nothing_within count))) tt))))))

-- of words that are strings
pub string_places : {T : Type 0} (bytes : T → List ℕ) (words : List T) (r : Result ToolLine ToolFault) → r ≡ tool_line (map bytes words) → IfOk r (HasPlaces (length words))
string_places bytes words r is =
    subst (λ (x : Result ToolLine ToolFault). IfOk x (HasPlaces (length words))) (sym is)
    (subst (λ (n : ℕ). IfOk (tool_line (map bytes words)) (HasPlaces n)) (length-map words bytes) (line_places (map bytes words)))
