-- The program's tables as the definitions'.
use Rattle.std.specs.Prelude.{Option, Some, None, List, [], ◌∷◌}
use denote.Ref.{Bor}
use Rattle.text_code.specs.declared.dictionary.Family.{Family}
use Rattle.text_code.specs.declared.dictionary.Word.{Word}
use Rattle.text_code.specs.declared.bits.Built.{Built}
use Rattle.text_code.specs.declared.patterns.Pattern.{Pattern}
use Rattle.text_model.specs.Lists.{name_at, slots_of}
use Rattle.text_model.specs.Reading as reading
use Rattle.text_model.specs.Told as told
use Rattle.text_model.specs.Words as words

abbrev pub families_of : List Family → List words.Family
families_of [] = []
families_of (f ∷ fs) =
    record { letter = f.letter; suffix = f.suffix.now; class = f.class; count = f.count } ∷ families_of fs

abbrev pub words_of : List Word → List words.Word
words_of [] = []
words_of (w ∷ ws) = record { text = w.text.now; class = w.class; value = w.value } ∷ words_of ws

abbrev pub built_of : Built → told.Built
built_of b = record { mask = b.mask; word = b.word }

-- a pattern of the program
abbrev pub pattern_of : Pattern → reading.Pattern
pattern_of p = record { name = name_at p.name; base = p.base; slots = slots_of p.slots }

abbrev pub patterns_of : List Pattern → List reading.Pattern
patterns_of [] = []
patterns_of (p ∷ ps) = pattern_of p ∷ patterns_of ps

-- a pattern that was found
abbrev pub pattern_at : Option (Bor Pattern) → Option reading.Pattern
pattern_at None = None
pattern_at (Some p) = Some (pattern_of p.now)

-- the patterns of each line
abbrev pub lines_of : List (Bor (List Pattern)) → List (List reading.Pattern)
lines_of [] = []
lines_of (l ∷ ls) = patterns_of l.now ∷ lines_of ls
