-- Words for writing the patterns of a table. They are this project's own.
use Rattle.std.specs.Prelude.{ℕ, ◌+◌, ◌*◌, ◌^◌, List, [], ◌∷◌, ◌++◌, get_or, bit_or, flat_map}
use Rattle.emu_bits.specs.Rows.{Line}
use Rattle.text_model.specs.declared.classes.Class.{Class}
use Rattle.text_model.specs.declared.classes.Class.TheVariants.{Number, Comma, OpenBracket, CloseBracket, OpenBrace, CloseBrace}
use Rattle.text_model.specs.declared.slots.Bits.{Bits}
use Rattle.text_model.specs.declared.slots.Parts.{Parts}
use Rattle.text_model.specs.declared.slots.Parts.TheVariants.{Nowhere, At}
use Rattle.text_model.specs.declared.slots.Shape.{Shape}
use Rattle.text_model.specs.declared.slots.Shape.TheVariants.{Only}
use Rattle.text_model.specs.declared.slots.Kind.{Kind}
use Rattle.text_model.specs.declared.slots.Kind.TheVariants.{Fixed, Plain, Stack, Scaled, Signed, Target}
use Rattle.text_model.specs.declared.slots.Codec.{Codec}
use Rattle.text_model.specs.declared.slots.Style.{Style}
use Rattle.text_model.specs.declared.slots.Style.TheVariants as style
use Rattle.text_model.specs.declared.slots.Need.TheVariants.{Must, Begins, Inside}
use Rattle.text_model.specs.declared.slots.Slot.{Slot}
use Rattle.text_model.specs.Reading.{Pattern}

-- ---- bits

infix 50 ◌to◌
abbrev pub ◌to◌ : ℕ → ℕ → Bits
high to low = record { high = high; low = low }

-- ---- codecs

abbrev pub coded : Kind → Parts → Codec
coded k p = record { kind = k; parts = p }

abbrev pub bits : Bits → Codec
bits b = coded Plain (At b)

-- a register of which 31 is the stack pointer
abbrev pub stack : Bits → Codec
stack b = coded Stack (At b)

-- a number, n times the bits
abbrev pub times : ℕ → Parts → Codec
times n p = coded (Scaled n 0) p

abbrev pub signed_times : ℕ → Parts → Codec
signed_times n p = coded (Signed n) p

-- always this value
abbrev pub always : ℕ → Codec
always v = coded (Fixed v) Nowhere

-- ---- slots

abbrev pub slot : Style → Shape → Codec → Slot
slot s k c = record { style = s; shape = k; codec = c; need = Must }

-- a register or a word of a list
abbrev pub of : Shape → Codec → Slot
of k c = slot style.Word k c

-- a mark, or a word that is the only one of its class
abbrev pub one : Class → Slot
one c = of (Only c) (always 0)

abbrev pub then : Slot
then = one Comma

abbrev pub written : Style → Codec → Slot
written s c = slot s (Only Number) c

-- `#5`
abbrev pub counted : Codec → Slot
counted c = written style.Counted c

-- `5`
abbrev pub bare : Codec → Slot
bare c = written style.Bare c

-- `#0x1f`, of w bits
abbrev pub hexadecimal : ℕ → Codec → Slot
hexadecimal w c = written (style.Hexadecimal w) c

-- always the number n, `#5`
abbrev pub amount : ℕ → Slot
amount n = counted (always n)

-- `target`: the address n times the signed bits behind the instruction's, which is rounded down to a multiple of g
abbrev pub target : ℕ → ℕ → Parts → Slot
target n g p = written style.Address (coded (Target n g) p)

-- ---- parts that may be left out

-- the comma that begins one
abbrev pub perhaps : Slot
perhaps = record then { need = Begins }

-- an item of such a part, which has this value where the part is left out
abbrev pub inside : ℕ → Slot → Slot
inside v s = record s { need = Inside v }

-- ---- places in memory

-- `[` and `]` round some slots
abbrev pub bracketed : List Slot → List Slot
bracketed ss = one OpenBracket ∷ (ss ++ (one CloseBracket ∷ []))

abbrev pub braced : List Slot → List Slot
braced ss = one OpenBrace ∷ (ss ++ (one CloseBrace ∷ []))

-- ---- patterns

abbrev pub word_of : {F : Type 0} → Line F → ℕ → ℕ
word_of l k = get_or l.words k 0

-- the row of this number in a line, where its name settles these further bits
abbrev pub row : {F : Type 0} → Line F → ℕ → ℕ → List ℕ → List Slot → Pattern
row l k settled name ss = record { name = name; base = bit_or (word_of l k) settled; slots = ss }

-- the same for rows from number k on, one for each of some names
abbrev pub rows : {F : Type 0} → Line F → ℕ → ℕ → List (List ℕ) → List Slot → List Pattern
rows l k settled [] ss = []
rows l k settled (n ∷ ns) ss = row l k settled n ss ∷ rows l (k + 1) settled ns ss

-- all patterns of some lines
abbrev pub flat : List (List Pattern) → List Pattern
flat pss = flat_map (λ ps. ps) pss

-- a number put at a place, as the bits that a name settles
abbrev pub put_at : ℕ → ℕ → ℕ
put_at low v = v * 2 ^ low
