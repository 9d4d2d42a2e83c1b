-- The texts of the table's lines of loads and stores: the assembler syntax of their entries in the Arm Architecture
-- Reference Manual for A-profile (DDI 0487), C6.2 'Alphabetical list of A64 base instructions', and of vector registers
-- in C7.2.
use Rattle.std.specs.Prelude.{ℕ, ◌+◌, ◌^◌, List, [], ◌∷◌, ◌++◌, map, codes}
use Rattle.emu_bits.specs.Rows.{Line}
use Rattle.text_model.specs.declared.classes.Class.{Class}
use Rattle.text_model.specs.declared.classes.Class.TheVariants.{W, X, B, H, S, D, Q, Shift, ExtendWord, ExtendDoubleword, Exclamation}
use Rattle.text_model.specs.declared.classes.Group.TheVariants.{General, GeneralReversed, WideScalar}
use Rattle.text_model.specs.declared.slots.Parts.TheVariants.{At}
use Rattle.text_model.specs.declared.slots.Shape.TheVariants.{Only, Told}
use Rattle.text_model.specs.declared.slots.Slot.{Slot}
use Rattle.text_model.specs.Reading.{Pattern}
use Rattle.text_model.specs.Writing.{◌to◌, bits, times, signed_times, always, of, one, then, counted, amount, perhaps, inside, bracketed, row, put_at, flat}
use Rattle.a64_insn.specs.Memory.{ls_unsigned, ls_unscaled, ls_post, ls_pre, ls_reg, ls_literal, pair, store_ex, load_ex, ordered, atomic, compare_swap}
use Rattle.asm_a64.specs.Data.{w, x, rt, rn_sp, rm, imm12}
use Rattle.asm_a64.specs.Flow.{jump, imm19}

-- ---- the kinds of loads and stores

-- An access: the two parts of its name, between which `u` stands in the unscaled forms; the fields size, V (1 for a
-- vector register) and opc; the register that it moves; and the power of two that its bytes are.
pub record Access : Type 0 where
  pub first : List ℕ
  pub rest : List ℕ
  pub size : ℕ
  pub vector : ℕ
  pub opc : ℕ
  pub register : Slot
  pub log : ℕ

-- the store `str` of a general register, of 2 to the power of log bytes
abbrev store : Slot → ℕ → Access
store s log =
    record { first = codes "st"; rest = codes "r"; size = log; vector = 0; opc = 0; register = s; log = log }

-- a store, and the load of the same, whose opc is the next
abbrev with_load : Access → List Access
with_load a = a ∷ record a { first = codes "ld"; opc = a.opc + 1 } ∷ []

-- a load of 2 to the power of log bytes, with this name behind `ld` and this opc
abbrev load_of : Slot → ℕ → List ℕ → ℕ → Access
load_of s log rest opc = let a = store s log in record a { first = codes "ld"; rest = rest; opc = opc }

-- 64 bits where opc is 2, 32 where it is 3
abbrev extended_register : Slot
extended_register = of (Told (22 to 22) GeneralReversed) rt

-- bytes or halfwords, by the letter behind the names: the store, the load that extends with zeros, and the one with the
-- sign
abbrev narrow : ℕ → List ℕ → List Access
narrow log letter =
    let a = store (w rt) log in
    with_load (record a { rest = codes "r" ++ letter }) ++ (load_of extended_register log (codes "rs" ++ letter) 2 ∷ [])

-- Rt as a scalar of a vector register
abbrev scalar : Class → ℕ → Access
scalar c log = let a = store (of (Only c) rt) log in record a { vector = 1 }

-- 16 bytes have size 0, and opc 2 for the store
abbrev quadword : Access
quadword = let a = scalar Q 4 in record a { size = 0; opc = 2 }

-- all but `prfm`, which has no forms that write their base back
abbrev pub accesses : List Access
accesses =
    narrow 0 (codes "b") ++ (narrow 1 (codes "h")
    ++ (with_load (store (w rt) 2) ++ (load_of (x rt) 2 (codes "rsw") 2 ∷ with_load (store (x rt) 3)
    ++ (with_load (scalar B 0) ++ (with_load (scalar H 1) ++ (with_load (scalar S 2) ++ (with_load (scalar D 3)
    ++ with_load quadword)))))))

-- Rt as the number of a prefetch
abbrev rt_number : Slot
rt_number = counted (times 1 (At (4 to 0)))

abbrev pub prefetch : Access
prefetch = let a = load_of rt_number 3 (codes "m") 2 in record a { first = codes "prf" }

-- the bits of an access
abbrev bits_of : Access → ℕ
bits_of a = put_at 30 a.size + (put_at 26 a.vector + put_at 22 a.opc)

-- ---- places

-- `[Xn|SP{, #0}]`
abbrev offset_place : Slot → List Slot
offset_place i = bracketed (x rn_sp ∷ perhaps ∷ inside 0 i ∷ [])

-- `[Xn|SP], #i`
abbrev post_place : Slot → List Slot
post_place i = bracketed (x rn_sp ∷ []) ++ (then ∷ i ∷ [])

-- `[Xn|SP, #i]!`
abbrev pre_place : Slot → List Slot
pre_place i = bracketed (x rn_sp ∷ then ∷ i ∷ []) ++ (one Exclamation ∷ [])

abbrev imm9 : Slot
imm9 = counted (signed_times 1 (At (20 to 12)))

-- a pattern for each access
abbrev patterns : {F : Type 0} → Line F → ℕ → (Access → List ℕ) → (Access → List Slot) → List Access → List Pattern
patterns l settled name place all =
    map (λ a. row l 0 (bits_of a + settled) (name a) (a.register ∷ then ∷ place a)) all

abbrev plain_name : Access → List ℕ
plain_name a = a.first ++ a.rest

abbrev unscaled_name : Access → List ℕ
unscaled_name a = a.first ++ (codes "u" ++ a.rest)

unfoldable pub ls_unsigned_texts : List Pattern
ls_unsigned_texts =
    patterns ls_unsigned 0 plain_name (λ a. offset_place (counted (times (2 ^ a.log) (At imm12)))) (prefetch ∷ accesses)

unfoldable pub ls_unscaled_texts : List Pattern
ls_unscaled_texts = patterns ls_unscaled 0 unscaled_name (λ a. offset_place imm9) (prefetch ∷ accesses)

unfoldable pub ls_post_texts : List Pattern
ls_post_texts = patterns ls_post 0 plain_name (λ a. post_place imm9) accesses

unfoldable pub ls_pre_texts : List Pattern
ls_pre_texts = patterns ls_pre 0 plain_name (λ a. pre_place imm9) accesses

-- ---- offsets in registers

-- `[Xn|SP, Rm, ext]` and `[Xn|SP, Rm, ext #a]`: by the bits 15 to 13 that the extension settles, the slot of Rm, and
-- the slots of the extension without an amount and before one
abbrev offsets : ℕ → Slot → List Slot → List Slot → List (List Pattern)
offsets settled m bare scaled =
    patterns ls_reg (put_at 13 settled) plain_name (λ a. bracketed (x rn_sp ∷ then ∷ m ∷ bare)) (prefetch ∷ accesses)
    ∷ patterns ls_reg (put_at 13 settled + put_at 12 1) plain_name
    (λ a. bracketed (x rn_sp ∷ then ∷ m ∷ (scaled ++ (amount a.log ∷ [])))) (prefetch ∷ accesses) ∷ []

-- uxtw and sxtw, told apart by bit 15; lsl, which isn't written without its amount; sxtx
unfoldable pub ls_reg_lines : List (List Pattern)
ls_reg_lines =
    offsets 2 (w rm) (then ∷ of (Only ExtendWord) (bits (15 to 15)) ∷ [])
    (then ∷ of (Only ExtendWord) (bits (15 to 15)) ∷ [])
    ++ (offsets 3 (x rm) [] (then ∷ one Shift ∷ [])
    ++ offsets 7 (x rm) (then ∷ of (Only ExtendDoubleword) (always 1) ∷ [])
    (then ∷ of (Only ExtendDoubleword) (always 1) ∷ []))

unfoldable pub ls_reg_texts : List Pattern
ls_reg_texts = flat ls_reg_lines

-- ---- literals

abbrev literal : ℕ → List ℕ → Slot → Pattern
literal settled name s = row ls_literal 0 settled name (s ∷ then ∷ jump imm19 ∷ [])

unfoldable pub ls_literal_texts : List Pattern
ls_literal_texts =
    literal 0 (codes "ldr") (of (Told (30 to 30) General) rt) ∷ literal (put_at 30 2) (codes "ldrsw") (x rt)
    ∷ literal (put_at 30 3) (codes "prfm") rt_number
    ∷ literal (put_at 26 1) (codes "ldr") (of (Told (31 to 30) WideScalar) rt) ∷ []

-- ---- pairs

-- two registers of a class, and the place
abbrev pair_slots : Class → List Slot → List Slot
pair_slots c place = let rt2 = bits (14 to 10) in of (Only c) rt ∷ then ∷ of (Only c) rt2 ∷ then ∷ place

abbrev imm7 : ℕ → Slot
imm7 n = counted (signed_times n (At (21 to 15)))

abbrev pair_row : ℕ → ℕ → List ℕ → List Slot → Pattern
pair_row settled mode name ss = row pair 0 (settled + put_at 23 mode) name ss

-- the three modes that `stp`, `ldp` and `ldpsw` have, by the bits that are settled, the registers' class, and the bytes
-- of one
abbrev pair_modes : ℕ → List ℕ → Class → ℕ → List Pattern
pair_modes settled name c n =
    pair_row settled 1 name (pair_slots c (post_place (imm7 n)))
    ∷ pair_row settled 2 name (pair_slots c (offset_place (imm7 n)))
    ∷ pair_row settled 3 name (pair_slots c (pre_place (imm7 n))) ∷ []

-- these, and the mode of `stnp` and `ldnp`, by opc, V, the registers' class, and the bytes of one
abbrev pairs : ℕ → ℕ → Class → ℕ → List Pattern
pairs opc v c n =
    let settled = put_at 30 opc + put_at 26 v in
    let load = put_at 22 1 in
    pair_modes settled (codes "stp") c n ++ (pair_modes (settled + load) (codes "ldp") c n
    ++ (pair_row settled 0 (codes "stnp") (pair_slots c (offset_place (imm7 n)))
    ∷ pair_row (settled + load) 0 (codes "ldnp") (pair_slots c (offset_place (imm7 n))) ∷ []))

unfoldable pub pair_texts : List Pattern
pair_texts =
    pairs 0 0 W 4 ++ (pairs 2 0 X 8
    ++ (pair_modes (put_at 30 1 + put_at 22 1) (codes "ldpsw") X 4
    ++ (pairs 0 1 S 4 ++ (pairs 1 1 D 8 ++ pairs 2 1 Q 16))))

-- ---- exclusive and ordered accesses

abbrev place : List Slot
place = bracketed (x rn_sp ∷ [])

-- a row at its sizes: bytes and halfwords by the name, words and doublewords by the register
abbrev sized : {F : Type 0} → Line F → ℕ → List ℕ → List Slot → List Pattern
sized l k name first =
    row l k 0 (name ++ codes "b") (first ++ (w rt ∷ then ∷ place))
    ∷ row l k (put_at 30 1) (name ++ codes "h") (first ++ (w rt ∷ then ∷ place))
    ∷ row l k (put_at 31 1) name (first ++ (of (Told (30 to 30) General) rt ∷ then ∷ place)) ∷ []

unfoldable pub store_ex_texts : List Pattern
store_ex_texts =
    let rs = bits (20 to 16) in
    sized store_ex 0 (codes "stxr") (w rs ∷ then ∷ []) ++ sized store_ex 1 (codes "stlxr") (w rs ∷ then ∷ [])

unfoldable pub load_ex_texts : List Pattern
load_ex_texts = sized load_ex 0 (codes "ldxr") [] ++ sized load_ex 1 (codes "ldaxr") []

unfoldable pub ordered_texts : List Pattern
ordered_texts = sized ordered 0 (codes "stlr") [] ++ sized ordered 1 (codes "ldar") []

-- ---- loads and stores as one step

-- a row with some bits settled at its sizes: bytes and halfwords by the name, words and doublewords by both registers
abbrev two_sized : {F : Type 0} → Line F → ℕ → ℕ → List ℕ → List Pattern
two_sized l k settled name = let rs = bits (20 to 16) in
    row l k settled (name ++ codes "b") (w rs ∷ then ∷ w rt ∷ then ∷ place)
    ∷ row l k (put_at 30 1 + settled) (name ++ codes "h") (w rs ∷ then ∷ w rt ∷ then ∷ place)
    ∷ row l k (put_at 31 1 + settled) name
    (of (Told (30 to 30) General) rs ∷ then ∷ of (Told (30 to 30) General) rt ∷ then ∷ place) ∷ []

-- a row by the bits that acquire and release: the name alone, with `a`, with `l` and with `al`
abbrev orders : {F : Type 0} → Line F → ℕ → ℕ → ℕ → List ℕ → List Pattern
orders l k acquires releases name =
    two_sized l k 0 name ++ (two_sized l k (put_at acquires 1) (name ++ codes "a")
    ++ (two_sized l k (put_at releases 1) (name ++ codes "l")
    ++ two_sized l k (put_at acquires 1 + put_at releases 1) (name ++ codes "al")))

-- the rows of `Atomic` from a number on
abbrev atomic_rows : ℕ → List (List ℕ) → List Pattern
atomic_rows k [] = []
atomic_rows k (name ∷ names) = orders atomic k 23 22 name ++ atomic_rows (k + 1) names

unfoldable pub atomic_texts : List Pattern
atomic_texts =
    atomic_rows 0 (codes "ldadd" ∷ codes "ldclr" ∷ codes "ldeor" ∷ codes "ldset" ∷ codes "ldsmax" ∷ codes "ldsmin"
    ∷ codes "ldumax" ∷ codes "ldumin" ∷ codes "swp" ∷ [])

unfoldable pub compare_swap_texts : List Pattern
compare_swap_texts = orders compare_swap 0 22 15 (codes "cas")

-- the patterns of these lines, in the order of the table's, with those of offsets in registers
abbrev pub memory_lines_with : List (List Pattern) → List (List Pattern)
memory_lines_with offsets =
    ls_unsigned_texts ∷ ls_unscaled_texts ∷ ls_post_texts ∷ ls_pre_texts
    ∷ (offsets ++ (ls_literal_texts ∷ pair_texts ∷ store_ex_texts ∷ load_ex_texts ∷ ordered_texts ∷ atomic_texts
    ∷ compare_swap_texts ∷ []))

-- the same, those of offsets in registers in six parts
unfoldable pub memory_lines : List (List Pattern)
memory_lines = memory_lines_with ls_reg_lines
