-- What a statement is read as. Reading is the inverse of showing: a statement is read as a word whose text by a pattern
-- of its name is the statement, where parts that may be left out may be. The word is found by the bits that each item
-- tells (Told.antt), and tested by showing it again; no word is missed so, since the items that a pattern shows of a
-- word tell it (Inverse.antt). It is refused as an unknown name where no pattern has the name; as bad operands where
-- the word's items are of other classes; and as out of range where they have other values, a bitmask or a condition
-- isn't written so, or the word isn't in the table. That instructions are texts of slots is this project's own; the
-- texts are the assembler syntax of the entries of the Arm Architecture Reference Manual for A-profile (DDI 0487), C6
-- to C8.
use Rattle.std.specs.Prelude.{ℕ, ◌-◌, ◌/◌, ◌%◌, ◌^◌, pos, ◌+ℤ◌, unsigned_abs, ◌&&◌, Bool, true, false, not, if◌then◌else◌, Result, Ok, Err, List, [], ◌∷◌, ◌++◌, nat_lt, nat_le, unwrap_or, is_some}
use Rattle.std.specs.Cmp.Lexicographic.{pointwise}
use Rattle.std.specs.Int.{is_negative}
use Rattle.std.specs.List.{list_all, list_any}
use Rattle.std.specs.Ordering.{int_eq}
use Rattle.std.specs.Str.{bytes_eq}
use Rattle.emu_bits.specs.Bitmask.{element_log}
use Rattle.text_model.specs.declared.classes.Class.TheVariants.{Comma}
use Rattle.text_model.specs.declared.slots.Kind.{Kind}
use Rattle.text_model.specs.declared.slots.Kind.TheVariants.{Target, Bitmask, Inverted}
use Rattle.text_model.specs.declared.slots.Style.{Style}
use Rattle.text_model.specs.declared.slots.Style.TheVariants.{Hexadecimal}
use Rattle.text_model.specs.declared.slots.Need.{Need}
use Rattle.text_model.specs.declared.slots.Need.TheVariants.{Must, Begins, Inside}
use Rattle.text_model.specs.declared.slots.Slot.{Slot}
use Rattle.text_model.specs.declared.slots.Item.{Item}
use Rattle.text_model.specs.declared.slots.Refusal.{Refusal}
use Rattle.text_model.specs.declared.slots.Refusal.TheVariants.{UnknownName, BadOperands, OutOfRange}
use Rattle.text_model.specs.Classes.{same_class}
use Rattle.text_model.specs.Masks.{bitmask_at}
use Rattle.text_model.specs.Slots.{places, joined, class_in, items_in, all_fit}
use Rattle.text_model.specs.Told.{built}

-- A pattern: a name, the word whose bits the name settles, and the slots that show the others.
pub record Pattern : Type 0 where
  pub name : List ℕ
  pub base : ℕ
  pub slots : List Slot

-- ---- parts that were left out

abbrev pub is_comma : List Item → Bool
is_comma [] = false
is_comma (i ∷ is) = same_class i.class Comma

-- Whether a slot's item was left out, where the slot before it was or wasn't and these items are left.
abbrev pub is_left_out : Need → Bool → List Item → Bool
is_left_out Must out is = false
is_left_out Begins out is = not (is_comma is)
is_left_out (Inside v) out is = out

abbrev pub value_left_out : Need → ℕ
value_left_out Must = 0
value_left_out Begins = 0
value_left_out (Inside v) = v

-- A negative hexadecimal stands for itself plus 2^w, where it isn't below -2^(w-1).
abbrev pub raised : Style → Item → Item
raised (Hexadecimal w) i =
    if is_negative i.value && nat_le (unsigned_abs i.value) (2 ^ (w - 1))
    then record i { value = i.value +ℤ pos (2 ^ w) } else i
raised s i = i

-- the item of a slot, if there is one
abbrev pub item_for : Bool → Slot → List Item → List Item
item_for true s is = record { class = class_in s.shape 0; value = pos (value_left_out s.need) } ∷ []
item_for false s [] = []
item_for false s (i ∷ is) = raised s.style i ∷ []

abbrev pub items_behind : Bool → List Item → List Item
items_behind true is = is
items_behind false [] = []
items_behind false (i ∷ is) = is

-- the items with those put in that were left out
abbrev pub filled : Bool → List Slot → List Item → List Item
filled out [] is = is
filled out (s ∷ ss) is = let o = is_left_out s.need out is in item_for o s is ++ filled o ss (items_behind o is)

-- ---- one pattern

abbrev pub same_classes : List Item → List Item → Bool
same_classes is js = pointwise (λ i j. same_class i.class j.class) is js

abbrev pub same_values : List Item → List Item → Bool
same_values is js = pointwise (λ i j. int_eq i.value j.value) is js

-- bits of the element that a bitmask's fields N and imms repeat
abbrev pub element_size : ℕ → ℕ
element_size v = 2 ^ unwrap_or (element_log (v / 4096) (v % 64)) 0

-- The fields of a bitmask give one, and their rotation is below the element's size; and a condition that is inverted
-- isn't one that always holds.
abbrev pub is_canonical : Kind → ℕ → Bool
is_canonical (Bitmask w) v = is_some (bitmask_at w v) && nat_lt (v / 64 % 64) (element_size v)
is_canonical Inverted v = nat_lt v 14
is_canonical k v = true

abbrev pub all_canonical : List Slot → ℕ → Bool
all_canonical ss w = list_all (λ s. is_canonical s.codec.kind (joined (places s.codec.parts) w)) ss

-- the word that the items of a statement tell
abbrev pub word_told : Pattern → List Item → ℕ
word_told p is = (built (record { mask = 0; word = p.base }) p.slots is).word

-- What a statement is read as: a word, of which the bits of a target are 0, and whether there is a target.
pub record Read : Type 0 where
  pub word : ℕ
  pub aimed : Bool

abbrev pub is_target : Kind → Bool
is_target (Target n g) = true
is_target k = false

abbrev pub has_target : List Slot → Bool
has_target ss = list_any (λ s. is_target s.codec.kind) ss

-- The items are those that a pattern shows of a word; then the word is read, if it is in the table.
abbrev pub judged : (ℕ → Bool) → Pattern → List Item → ℕ → Result Read Refusal
judged in_table p is w =
    if same_classes (items_in p.slots w) is
    then (if same_values (items_in p.slots w) is && (all_fit p.slots w && (all_canonical p.slots w && in_table w))
    then Ok (record { word = w; aimed = has_target p.slots }) else Err OutOfRange)
    else Err BadOperands

-- The items of a statement; and the same with 0 in place of the last one where it may be a target, an address or a
-- label.
pub record Operands : Type 0 where
  pub items : List Item
  pub untargeted : List Item

abbrev pub items_to_read : Pattern → Operands → List Item
items_to_read p o = filled false p.slots (if has_target p.slots then o.untargeted else o.items)

-- what a pattern makes of a statement
abbrev pub answer : (ℕ → Bool) → Pattern → List ℕ → Operands → Result Read Refusal
answer in_table p name o =
    if bytes_eq name p.name then (let is = items_to_read p o in judged in_table p is (word_told p is))
    else Err UnknownName

-- ---- all patterns

abbrev pub rank : Refusal → ℕ
rank UnknownName = 0
rank BadOperands = 1
rank OutOfRange = 2

abbrev pub later_refusal : Refusal → Refusal → Refusal
later_refusal a b = if nat_lt (rank a) (rank b) then b else a

-- the first word, or else the refusal that stands later
abbrev pub best : Result Read Refusal → Result Read Refusal → Result Read Refusal
best (Ok r) y = Ok r
best (Err a) (Ok r) = Ok r
best (Err a) (Err b) = Err (later_refusal a b)

-- What the patterns of a table make of a statement.
abbrev pub reads : (ℕ → Bool) → List Pattern → List ℕ → Operands → Result Read Refusal
reads in_table [] name o = Err UnknownName
reads in_table (p ∷ ps) name o = best (answer in_table p name o) (reads in_table ps name o)
