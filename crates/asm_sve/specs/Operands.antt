-- Operands of SVE instructions: a list of slots each, by the bits of the word where the table has them. They are the
-- assembler symbols of the entries of the Arm Architecture Reference Manual for A-profile (DDI 0487), C8.2
-- 'Alphabetical list of SVE instructions'; that an operand is a list of slots is this project's own.
use Rattle.std.specs.Prelude.{ℕ, List, [], ◌∷◌, ◌++◌, get_or, map, flat_map, codes}
use Rattle.text_model.specs.declared.classes.Class.{Class}
use Rattle.text_model.specs.declared.classes.Class.TheVariants.{Slash, Zb, Zh, Zs, Zd, Zq, P, Pb, Ph, Ps, Pd, Shift, Count, Times, Merging, Zeroing}
use Rattle.text_model.specs.declared.classes.Group.{Group}
use Rattle.text_model.specs.declared.classes.Group.TheVariants.{GeneralOfLane, Scalar, Lanes, Flags, Predication}
use Rattle.text_model.specs.declared.slots.Bits.{Bits}
use Rattle.text_model.specs.declared.slots.Parts.TheVariants.{At}
use Rattle.text_model.specs.declared.slots.Shape.TheVariants.{Only, Told, Shown}
use Rattle.text_model.specs.declared.slots.Kind.TheVariants.{NamedCount, UnnamedCount, Scaled}
use Rattle.text_model.specs.declared.slots.Codec.{Codec}
use Rattle.text_model.specs.declared.slots.Slot.{Slot}
use Rattle.text_model.specs.Reading.{Pattern}
use Rattle.text_model.specs.Writing.{◌to◌, coded, bits, stack, times, signed_times, always, of, one, then, counted, bare, perhaps, inside, bracketed}

-- operands with commas between
abbrev pub separated : List (List Slot) → List Slot
separated [] = []
separated (o ∷ []) = o
separated (o ∷ p ∷ os) = o ++ (then ∷ separated (p ∷ os))

-- ---- sizes of lanes: T is b, h, s or d by size, the numbers 0 to 3 at bits 23 to 22

abbrev pub size : Bits
size = 23 to 22

abbrev pub all_sizes : List ℕ
all_sizes = 0 ∷ 1 ∷ 2 ∷ 3 ∷ []

-- a vector register with lanes of a size, and a predicate
abbrev pub z_class : ℕ → Class
z_class s = get_or (Zb ∷ Zh ∷ Zs ∷ Zd ∷ Zq ∷ []) s Zb

abbrev pub p_class : ℕ → Class
p_class s = get_or (Pb ∷ Ph ∷ Ps ∷ Pd ∷ []) s Pb

-- the letter of a size behind a name
abbrev pub letter : ℕ → List ℕ
letter s = get_or (codes "b" ∷ codes "h" ∷ codes "w" ∷ codes "d" ∷ []) s []

-- names with letters behind them
abbrev pub ended : List ℕ → List (List ℕ) → List (List ℕ)
ended e names = map (λ n. n ++ e) names

-- the patterns of each of some sizes
abbrev pub sized : List ℕ → (ℕ → List Pattern) → List Pattern
sized ss patterns = flat_map patterns ss

-- ---- fields, by their names in the forms; of those at several places all but one have their bits behind the name

abbrev pub zd : Bits
zd = 4 to 0

abbrev pub zdn : Bits
zdn = 4 to 0

abbrev pub zda : Bits
zda = 4 to 0

abbrev pub zn : Bits
zn = 9 to 5

abbrev pub zm : Bits
zm = 20 to 16

abbrev pub zm_9_5 : Bits
zm_9_5 = 9 to 5

abbrev pub rd : Bits
rd = 4 to 0

abbrev pub rdn : Bits
rdn = 4 to 0

abbrev pub rn : Bits
rn = 9 to 5

abbrev pub rm : Bits
rm = 20 to 16

abbrev pub pd : Bits
pd = 3 to 0

abbrev pub pn : Bits
pn = 8 to 5

abbrev pub pm : Bits
pm = 19 to 16

abbrev pub pg : Bits
pg = 12 to 10

abbrev pub pg_13_10 : Bits
pg_13_10 = 13 to 10

abbrev pub imm8 : Bits
imm8 = 12 to 5

-- ---- registers

-- a register of a class
abbrev pub register : Class → Bits → List Slot
register c b = of (Only c) (bits b) ∷ []

-- a vector register with T
abbrev pub z_at : Bits → List Slot
z_at b = of (Told size Lanes) (bits b) ∷ []

-- a vector register with lanes of which size tells another one
abbrev pub z_by : Group → Bits → List Slot
z_by g b = of (Shown size g) (bits b) ∷ []

-- a predicate with T
abbrev pub p_at : Bits → List Slot
p_at b = of (Told size Flags) (bits b) ∷ []

-- R: x where T is d, else w
abbrev pub r_at : Bits → List Slot
r_at b = of (Shown size GeneralOfLane) (bits b) ∷ []

-- R|SP
abbrev pub r_sp_at : Bits → List Slot
r_sp_at b = of (Shown size GeneralOfLane) (stack b) ∷ []

-- V: the b, h, s or d register by T
abbrev pub v_at : Bits → List Slot
v_at b = of (Shown size Scalar) (bits b) ∷ []

-- ---- governing predicates

-- Pg/m and Pg/z at bits of the word
abbrev pub p_merging : Bits → List Slot
p_merging b = of (Only P) (bits b) ∷ one Slash ∷ one Merging ∷ []

abbrev pub p_zeroing : Bits → List Slot
p_zeroing b = of (Only P) (bits b) ∷ one Slash ∷ one Zeroing ∷ []

-- Pg/z where the field m is 0, Pg/m where it is 1
abbrev pub p_either : Bits → Bits → List Slot
p_either b m = of (Only P) (bits b) ∷ one Slash ∷ of (Told m Predication) (always 0) ∷ []

-- ---- numbers

-- #i
abbrev pub immediate_slots : Codec → List Slot
immediate_slots c = counted c ∷ []

abbrev pub unsigned_at : Bits → List Slot
unsigned_at b = immediate_slots (times 1 (At b))

abbrev pub signed_at : Bits → List Slot
signed_at b = immediate_slots (signed_times 1 (At b))

-- #i{, lsl #0}, where sh is lsl #8
abbrev pub shifted : Codec → List Slot
shifted c =
    let sh = 13 to 13 in
    counted c ∷ perhaps ∷ inside 0 (of (Only Shift) (always 0)) ∷ inside 0 (counted (times 8 (At sh))) ∷ []

-- [i]
abbrev pub index : Codec → List Slot
index c = bracketed (bare c ∷ [])

-- ---- counts

-- the pattern by its name, or as a number where it has none
abbrev pub named_pattern : Slot
named_pattern = of (Only Count) (coded NamedCount (At (9 to 5)))

abbrev pub pattern_number : Slot
pattern_number = counted (coded UnnamedCount (At (9 to 5)))

-- #1 in mul #1
abbrev pub imm4_plus_1 : Slot
imm4_plus_1 = counted (coded (Scaled 1 1) (At (19 to 16)))

-- {, all, mul #1}
abbrev pub by_named_pattern : List Slot
by_named_pattern = perhaps ∷ inside 31 named_pattern ∷ inside 0 then ∷ inside 0 (one Times) ∷ inside 1 imm4_plus_1 ∷ []

-- the same of a pattern that has no name
abbrev pub by_pattern_number : List Slot
by_pattern_number = then ∷ pattern_number ∷ then ∷ one Times ∷ imm4_plus_1 ∷ []
