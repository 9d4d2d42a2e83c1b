-- A table of encodings: lines of rows, each row a base word with the places of its fields. This form of the encoding
-- diagrams of the Arm Architecture Reference Manual for A-profile (DDI 0487), C4 'A64 Instruction Set Encoding' is this
-- project's own.
use Rattle.std.specs.Prelude.{ℕ, suc, ◌+◌, ◌-◌, ◌*◌, ◌^◌, ◌==◌, ◌||◌, Bool, true, false, cond, Option, Some, None, List, [], ◌∷◌, get_or, bit_and, bit_or}
use Rattle.emu_bits.specs.Fields.{field}

-- where a field lies: its highest and its lowest bit
pub record Place : Type 0 where
  pub high : ℕ
  pub low : ℕ

infix 50 ◌to◌
abbrev pub ◌to◌ : ℕ → ℕ → Place
high to low = record { high = high; low = low }

abbrev pub width : Place → ℕ
width p = p.high - p.low + 1

-- the word with ones at a place, and that with ones at each of some places, which do not overlap
abbrev pub ones_at : Place → ℕ
ones_at p = 2 ^ (p.high + 1) - 2 ^ p.low

abbrev pub ones_in : List Place → ℕ
ones_in [] = 0
ones_in (p ∷ ps) = ones_at p + ones_in ps

-- the word with ones outside of all of them
abbrev pub outside : List Place → ℕ
outside ps = 2 ^ 32 - 1 - ones_in ps

-- What a word has at each of some places.
abbrev pub values : List Place → ℕ → List ℕ
values [] w = []
values (p ∷ ps) w = field w p.low (width p) ∷ values ps w

-- the value of the field at a place in a list of values
abbrev pub value_at : List ℕ → ℕ → ℕ
value_at vs i = get_or vs i 0

-- a function of so many numbers, of that many first values of a list in their order
abbrev pub of_one : {A : Type 0} → (ℕ → A) → List ℕ → A
of_one f vs = f (value_at vs 0)

abbrev pub of_two : {A : Type 0} → (ℕ → ℕ → A) → List ℕ → A
of_two f vs = f (value_at vs 0) (value_at vs 1)

abbrev pub of_three : {A : Type 0} → (ℕ → ℕ → ℕ → A) → List ℕ → A
of_three f vs = f (value_at vs 0) (value_at vs 1) (value_at vs 2)

abbrev pub of_four : {A : Type 0} → (ℕ → ℕ → ℕ → ℕ → A) → List ℕ → A
of_four f vs = f (value_at vs 0) (value_at vs 1) (value_at vs 2) (value_at vs 3)

abbrev pub of_five : {A : Type 0} → (ℕ → ℕ → ℕ → ℕ → ℕ → A) → List ℕ → A
of_five f vs = f (value_at vs 0) (value_at vs 1) (value_at vs 2) (value_at vs 3) (value_at vs 4)

abbrev pub of_six : {A : Type 0} → (ℕ → ℕ → ℕ → ℕ → ℕ → ℕ → A) → List ℕ → A
of_six f vs = f (value_at vs 0) (value_at vs 1) (value_at vs 2) (value_at vs 3) (value_at vs 4) (value_at vs 5)

abbrev pub of_seven : {A : Type 0} → (ℕ → ℕ → ℕ → ℕ → ℕ → ℕ → ℕ → A) → List ℕ → A
of_seven f vs = f (value_at vs 0) (value_at vs 1) (value_at vs 2) (value_at vs 3) (value_at vs 4) (value_at vs 5)
    (value_at vs 6)

abbrev pub of_eight : {A : Type 0} → (ℕ → ℕ → ℕ → ℕ → ℕ → ℕ → ℕ → ℕ → A) → List ℕ → A
of_eight f vs = f (value_at vs 0) (value_at vs 1) (value_at vs 2) (value_at vs 3) (value_at vs 4) (value_at vs 5)
    (value_at vs 6) (value_at vs 7)

-- the name of a row by its number, of the names of a line in their order
abbrev pub named : {A : Type 0} → A → List A → ℕ → A
named first others k = get_or (first ∷ others) k first

-- no condition
abbrev pub always : ℕ → List ℕ → Bool
always k vs = true

-- A line of the table: the base word of each of its rows, the places of its fields, its condition, and the form
-- that it makes. The last two are given the row's number and the fields' values.
pub record Line (F : Type 0) : Type 0 where
  pub words : List ℕ
  pub places : List Place
  pub holds : ℕ → List ℕ → Bool
  pub form : ℕ → List ℕ → F

-- a line by its words, its places, and the form of a row by the values of its fields; and the same where a condition is
-- given with the form
abbrev pub line_of : {F : Type 0} → List ℕ → List Place → (ℕ → List ℕ → F) → Line F
line_of words places form = record { words = words; places = places; holds = always; form = form }

abbrev pub line_if : {F : Type 0} → List ℕ → List Place → (ℕ → List ℕ → Bool × F) → Line F
line_if words places made =
    record { words = words; places = places; holds = λ k vs. (made k vs).0; form = λ k vs. (made k vs).1 }

-- An instruction as the table sees it: a line, the number of a row in it, and the values of its fields.
pub record Row (F : Type 0) : Type 0 where
  pub line : Line F
  pub number : ℕ
  pub values : List ℕ

abbrev pub next : Option ℕ → Option ℕ
next None = None
next (Some k) = Some (suc k)

-- the number of the first of some words that is this one
abbrev pub number_of : ℕ → List ℕ → Option ℕ
number_of w [] = None
number_of w (x ∷ xs) = cond (w == x) (Some 0) (next (number_of w xs))

abbrev pub where_it_holds : {F : Type 0} → Line F → ℕ → Option ℕ → Option (Row F)
where_it_holds l w None = None
where_it_holds l w (Some k) =
    cond (l.holds k (values l.places w)) (Some (record { line = l; number = k; values = values l.places w })) None

-- The row of a line that holds a word: outside of the fields the word is the base word, and the condition holds.
abbrev pub row_in : {F : Type 0} → Line F → ℕ → Option (Row F)
row_in l w = where_it_holds l w (number_of (bit_and w (outside l.places)) l.words)

abbrev pub or_else : {F : Type 0} → Option (Row F) → Option (Row F) → Option (Row F)
or_else None y = y
or_else (Some r) y = Some r

-- the first row of some lines that holds a word
abbrev pub decode : {F : Type 0} → List (Line F) → ℕ → Option (Row F)
decode [] w = None
decode (l ∷ ls) w = or_else (row_in l w) (decode ls w)

-- a row's form
abbrev pub form_of : {F : Type 0} → Row F → F
form_of r = r.line.form r.number r.values

abbrev pub formed : {F : Type 0} → Option (Row F) → Option F
formed None = None
formed (Some r) = Some (form_of r)

-- The instruction that a word is: the form of the first row that holds it.
abbrev pub instruction : {F : Type 0} → List (Line F) → ℕ → Option F
instruction ls w = formed (decode ls w)

-- a word with values put in at places
abbrev pub fill : List Place → List ℕ → ℕ → ℕ
fill [] vs w = w
fill (p ∷ ps) [] w = w
fill (p ∷ ps) (v ∷ vs) w = fill ps vs (bit_or w (v * 2 ^ p.low))

-- a row's word with its fields put in
abbrev pub encode : {F : Type 0} → Row F → ℕ
encode r = fill r.line.places r.values (get_or r.line.words r.number 0)

-- a number is one of some
abbrev pub is_among : ℕ → List ℕ → Bool
is_among v [] = false
is_among v (k ∷ ks) = v == k || is_among v ks
