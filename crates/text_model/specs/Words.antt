-- How items are spelled: registers by their letter, number and suffix, other words and marks by a dictionary. The names
-- are those of the Arm Architecture Reference Manual for A-profile (DDI 0487), C1.2 'Structure of the A64 assembler
-- language', of the condition codes (cc and cs for lo and hs, vc and vs), and of the patterns of SVE's predicate
-- counts.
use Rattle.std.specs.Prelude.{ℕ, ◌+◌, ◌*◌, ◌/◌, ◌%◌, ◌==◌, ◌&&◌, not, if◌then◌else◌, Option, Some, None, List, [], ◌∷◌, ◌++◌, nat_lt, codes, ℤ, pos, option_and_then, unwrap_or}
use Rattle.std.specs.Char.{is_ascii_digit, digit_value}
use Rattle.std.specs.Str.{bytes_eq}
use Rattle.text_model.specs.declared.classes.Class.{Class}
use Rattle.text_model.specs.declared.classes.Class.TheVariants.{Unknown, Comma, Slash, OpenBracket, CloseBracket, OpenBrace, CloseBrace, Exclamation, W, X, B, H, S, D, Q, V8b, V16b, V4h, V8h, V2s, V4s, V2d, Z, Zb, Zh, Zs, Zd, Zq, P, Pb, Ph, Ps, Pd, Shift, ShiftOnes, ExtendByte, ExtendHalfword, ExtendWord, ExtendDoubleword, Condition, Count, Times, VectorLength, Merging, Zeroing, TpidrEl0, Nzcv, DczidEl0}
use Rattle.text_model.specs.declared.slots.Item.{Item}
use Rattle.text_model.specs.Classes.{same_class}

abbrev pub item : Class → ℤ → Item
item c z = record { class = c; value = z }

-- a register, another word or a mark, by which one of its class it is
abbrev pub word_item : Class → ℕ → Item
word_item c v = item c (pos v)

-- ---- registers

-- Registers of a class: their letter, how many there are, and what stands behind the number.
pub record Family : Type 0 where
  pub letter : ℕ
  pub suffix : List ℕ
  pub class : Class
  pub count : ℕ

abbrev family : List ℕ → List ℕ → Class → ℕ → List Family → List Family
family [] suffix c n fs = fs
family (l ∷ ls) suffix c n fs = record { letter = l; suffix = suffix; class = c; count = n } ∷ fs

abbrev pub families : List Family
families =
    family (codes "w") [] W 31 (family (codes "x") [] X 31
    (family (codes "z") (codes ".b") Zb 32 (family (codes "z") (codes ".h") Zh 32 (family (codes "z") (codes ".s") Zs 32
    (family (codes "z") (codes ".d") Zd 32 (family (codes "z") (codes ".q") Zq 32 (family (codes "z") [] Z 32
    (family (codes "p") [] P 16 (family (codes "p") (codes ".b") Pb 16 (family (codes "p") (codes ".h") Ph 16
    (family (codes "p") (codes ".s") Ps 16 (family (codes "p") (codes ".d") Pd 16
    (family (codes "b") [] B 32 (family (codes "h") [] H 32 (family (codes "s") [] S 32 (family (codes "d") [] D 32
    (family (codes "q") [] Q 32
    (family (codes "v") (codes ".8b") V8b 32 (family (codes "v") (codes ".16b") V16b 32
    (family (codes "v") (codes ".4h") V4h 32
    (family (codes "v") (codes ".8h") V8h 32 (family (codes "v") (codes ".2s") V2s 32
    (family (codes "v") (codes ".4s") V4s 32
    (family (codes "v") (codes ".2d") V2d 32 []))))))))))))))))))))))))

-- ---- other words, in alphabetical order

pub record Word : Type 0 where
  pub text : List ℕ
  pub class : Class
  pub value : ℕ

abbrev word : List ℕ → Class → ℕ → Word
word t c v = record { text = t; class = c; value = v }

unfoldable pub dictionary : List Word
dictionary =
    word (codes "!") Exclamation 0 ∷ word (codes ",") Comma 0 ∷ word (codes "/") Slash 0
    ∷ word (codes "[") OpenBracket 0 ∷ word (codes "]") CloseBracket 0
    ∷ word (codes "al") Condition 14 ∷ word (codes "all") Count 31 ∷ word (codes "asr") Shift 2
    ∷ word (codes "cc") Condition 3 ∷ word (codes "cs") Condition 2
    ∷ word (codes "dczid_el0") DczidEl0 0
    ∷ word (codes "eq") Condition 0
    ∷ word (codes "ge") Condition 10 ∷ word (codes "gt") Condition 12
    ∷ word (codes "hi") Condition 8
    ∷ word (codes "le") Condition 13 ∷ word (codes "ls") Condition 9 ∷ word (codes "lsl") Shift 0
    ∷ word (codes "lsr") Shift 1 ∷ word (codes "lt") Condition 11
    ∷ word (codes "m") Merging 0 ∷ word (codes "mi") Condition 4 ∷ word (codes "msl") ShiftOnes 0
    ∷ word (codes "mul") Times 0 ∷ word (codes "mul3") Count 30 ∷ word (codes "mul4") Count 29
    ∷ word (codes "ne") Condition 1 ∷ word (codes "nv") Condition 15 ∷ word (codes "nzcv") Nzcv 0
    ∷ word (codes "pl") Condition 5 ∷ word (codes "pow2") Count 0
    ∷ word (codes "ror") Shift 3
    ∷ word (codes "sp") X 32 ∷ word (codes "sxtb") ExtendByte 1 ∷ word (codes "sxth") ExtendHalfword 1
    ∷ word (codes "sxtw") ExtendWord 1 ∷ word (codes "sxtx") ExtendDoubleword 1
    ∷ word (codes "tpidr_el0") TpidrEl0 0
    ∷ word (codes "uxtb") ExtendByte 0 ∷ word (codes "uxth") ExtendHalfword 0 ∷ word (codes "uxtw") ExtendWord 0
    ∷ word (codes "uxtx") ExtendDoubleword 0
    ∷ word (codes "vc") Condition 7 ∷ word (codes "vl") VectorLength 0
    ∷ word (codes "vl1") Count 1 ∷ word (codes "vl128") Count 12 ∷ word (codes "vl16") Count 9
    ∷ word (codes "vl2") Count 2 ∷ word (codes "vl256") Count 13
    ∷ word (codes "vl3") Count 3 ∷ word (codes "vl32") Count 10 ∷ word (codes "vl4") Count 4
    ∷ word (codes "vl5") Count 5 ∷ word (codes "vl6") Count 6
    ∷ word (codes "vl64") Count 11 ∷ word (codes "vl7") Count 7 ∷ word (codes "vl8") Count 8
    ∷ word (codes "vs") Condition 6
    ∷ word (codes "wsp") W 32 ∷ word (codes "wzr") W 31
    ∷ word (codes "xzr") X 31
    ∷ word (codes "z") Zeroing 0
    ∷ word (codes "{") OpenBrace 0 ∷ word (codes "}") CloseBrace 0 ∷ []

-- ---- spelling

-- a number below 100 in decimal
abbrev pub two_digits : ℕ → List ℕ
two_digits n = if nat_lt n 10 then (48 + n) ∷ [] else (48 + n / 10) ∷ (48 + n % 10) ∷ []

abbrev pub spelled_word : List Word → Class → ℕ → List ℕ
spelled_word [] c v = []
spelled_word (w ∷ ws) c v = if same_class c w.class && v == w.value then w.text else spelled_word ws c v

-- The token of an item: of a register of a family, else of a word.
abbrev pub spelled_in : List Family → Class → ℕ → List ℕ
spelled_in [] c v = spelled_word dictionary c v
spelled_in (f ∷ fs) c v =
    if same_class c f.class && nat_lt v f.count then f.letter ∷ (two_digits v ++ f.suffix) else spelled_in fs c v

abbrev pub spelled : Class → ℕ → List ℕ
spelled c v = spelled_in families c v

-- ---- and back

-- a number without a leading zero, and what stands behind it
pub record Numbered : Type 0 where
  pub value : ℕ
  pub rest : List ℕ

abbrev pub two_or_one : ℕ → ℕ → List ℕ → Numbered
two_or_one c d cs =
    if is_ascii_digit d && not (c == 48) then record { value = digit_value c * 10 + digit_value d; rest = cs }
    else record { value = digit_value c; rest = d ∷ cs }

-- the one or two digits that a text begins with
abbrev pub numbered : List ℕ → Option Numbered
numbered [] = None
numbered (c ∷ []) = if is_ascii_digit c then Some (record { value = digit_value c; rest = [] }) else None
numbered (c ∷ d ∷ cs) = if is_ascii_digit c then Some (two_or_one c d cs) else None

abbrev pub register_in : List Family → ℕ → Numbered → Option Item
register_in [] l n = None
register_in (f ∷ fs) l n =
    if l == f.letter && (bytes_eq n.rest f.suffix && nat_lt n.value f.count) then Some (word_item f.class n.value)
    else register_in fs l n

-- the register that a token is
abbrev pub register : List ℕ → Option Item
register [] = None
register (l ∷ cs) = option_and_then (register_in families l) (numbered cs)

abbrev pub word_in : List Word → List ℕ → Item
word_in [] t = word_item Unknown 0
word_in (w ∷ ws) t = if bytes_eq t w.text then word_item w.class w.value else word_in ws t

-- The item that a token in lower case is: a register, else a word.
abbrev pub classed : List ℕ → Item
classed t = unwrap_or (register t) (word_in dictionary t)
