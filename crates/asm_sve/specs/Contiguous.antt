-- The texts of loads and stores of consecutive elements. They are the assembler syntax of the entries LD1, LDFF1,
-- LDNF1, LDNT1, LD1R, LD1RQ, LD2 to LD4, ST1, STNT1, ST2 to ST4 (each by its letters), LDR and STR of the Arm
-- Architecture Reference Manual for A-profile (DDI 0487), C8.2 'Alphabetical list of SVE instructions'.
use Rattle.std.specs.Prelude.{ℕ, ◌+◌, ◌/◌, ◌%◌, ◌^◌, List, [], ◌∷◌, ◌++◌, codes}
use Rattle.emu_bits.specs.Rows.{Line}
use Rattle.sve_insn.specs.Memory.{load_imm, load_reg, load_ff, load_nf, load_nt_imm, load_nt_reg, load_quad_imm, load_quad_reg, load_many_imm, load_many_reg, load_one, load_z, load_p, store_imm, store_reg, store_nt_imm, store_nt_reg, store_many_imm, store_many_reg, store_z, store_p}
use Rattle.text_model.specs.declared.classes.Class.TheVariants.{Z, P}
use Rattle.text_model.specs.declared.classes.Group.TheVariants.{Lanes}
use Rattle.text_model.specs.declared.slots.Parts.TheVariants.{At, Two}
use Rattle.text_model.specs.declared.slots.Shape.TheVariants.{Told}
use Rattle.text_model.specs.declared.slots.Slot.{Slot}
use Rattle.text_model.specs.Reading.{Pattern}
use Rattle.text_model.specs.Writing.{◌to◌, bits, times, signed_times, of, counted, perhaps, inside, bracketed, braced, row, put_at}
use Rattle.asm_sve.specs.Operands.{separated, all_sizes, z_class, letter, sized, pg, register, p_zeroing}
use Rattle.asm_sve.specs.Places.{zt, loading, storing, many, base, in_lengths, imm_place, reg_place}

-- ---- loads of elements into lanes of any size

-- what a load reads, by the letters behind its name, and the sizes of the elements and of the lanes, each 0 b to 3 d
pub record Loaded : Type 0 where
  pub letters : List ℕ
  pub element : ℕ
  pub lane : ℕ

abbrev load : List ℕ → ℕ → ℕ → Loaded
load l e s = record { letters = l; element = e; lane = s }

-- in the order of dtype
abbrev pub by_dtype : List Loaded
by_dtype =
    load (codes "b") 0 0 ∷ load (codes "b") 0 1 ∷ load (codes "b") 0 2 ∷ load (codes "b") 0 3
    ∷ load (codes "sw") 2 3 ∷ load (codes "h") 1 1 ∷ load (codes "h") 1 2 ∷ load (codes "h") 1 3
    ∷ load (codes "sh") 1 3 ∷ load (codes "sh") 1 2 ∷ load (codes "w") 2 2 ∷ load (codes "w") 2 3
    ∷ load (codes "sb") 0 3 ∷ load (codes "sb") 0 2 ∷ load (codes "sb") 0 1 ∷ load (codes "d") 3 3 ∷ []

-- a pattern for each of some, where the bits of a dtype and the place are given, dtype counted from k on
abbrev pub loads : {F : Type 0} → Line F → List ℕ → (ℕ → ℕ) → (ℕ → List Slot) → ℕ → List Loaded → List Pattern
loads l name settled place k [] = []
loads l name settled place k (d ∷ ds) =
    row l 0 (settled k) (name ++ d.letters) (loading (z_class d.lane) (place d.element))
    ∷ loads l name settled place (k + 1) ds

unfoldable pub load_imm_texts : List Pattern
load_imm_texts = loads load_imm (codes "ld1") (put_at 21) (λ e. imm_place 1) 0 by_dtype

unfoldable pub load_reg_texts : List Pattern
load_reg_texts = loads load_reg (codes "ld1") (put_at 21) reg_place 0 by_dtype

unfoldable pub load_ff_texts : List Pattern
load_ff_texts = loads load_ff (codes "ldff1") (put_at 21) reg_place 0 by_dtype

unfoldable pub load_nf_texts : List Pattern
load_nf_texts = loads load_nf (codes "ldnf1") (put_at 21) (λ e. imm_place 1) 0 by_dtype

-- [Xn|SP{, #0}], times the bytes of an element
abbrev pub element_place : ℕ → List Slot
element_place e =
    let imm6_21_16 = 21 to 16 in bracketed (base ∷ perhaps ∷ inside 0 (counted (times (2 ^ e) (At imm6_21_16))) ∷ [])

-- dtype stands at bits 24 to 23 and 14 to 13
unfoldable pub load_one_texts : List Pattern
load_one_texts = loads load_one (codes "ld1r") (λ k. put_at 23 (k / 4) + put_at 13 (k % 4)) element_place 0 by_dtype

-- ---- elements as long as lanes: msz, bits 24 to 23, tells both

abbrev pub load_same : {F : Type 0} → Line F → List ℕ → (ℕ → List Slot) → List Pattern
load_same l name place =
    sized all_sizes (λ s. row l 0 (put_at 23 s) (name ++ letter s) (loading (z_class s) (place s)) ∷ [])

abbrev pub store_same : {F : Type 0} → Line F → List ℕ → (ℕ → List Slot) → List Pattern
store_same l name place =
    sized all_sizes (λ s. row l 0 (put_at 23 s) (name ++ letter s) (storing (z_class s) (place s)) ∷ [])

unfoldable pub load_nt_imm_texts : List Pattern
load_nt_imm_texts = load_same load_nt_imm (codes "ldnt1") (λ s. imm_place 1)

unfoldable pub load_nt_reg_texts : List Pattern
load_nt_reg_texts = load_same load_nt_reg (codes "ldnt1") reg_place

unfoldable pub store_nt_imm_texts : List Pattern
store_nt_imm_texts = store_same store_nt_imm (codes "stnt1") (λ s. imm_place 1)

unfoldable pub store_nt_reg_texts : List Pattern
store_nt_reg_texts = store_same store_nt_reg (codes "stnt1") reg_place

-- [Xn|SP{, #0}], 16 times imm4
abbrev pub quad_place : List Slot
quad_place = let imm4 = 19 to 16 in bracketed (base ∷ perhaps ∷ inside 0 (counted (signed_times 16 (At imm4))) ∷ [])

unfoldable pub load_quad_imm_texts : List Pattern
load_quad_imm_texts = load_same load_quad_imm (codes "ld1rq") (λ s. quad_place)

unfoldable pub load_quad_reg_texts : List Pattern
load_quad_reg_texts = load_same load_quad_reg (codes "ld1rq") reg_place

-- ---- several registers: row k has k + 2

-- {Zt.T, Zu.T ..}, Pg/z, place
abbrev pub load_several : {F : Type 0} → Line F → ℕ → List ℕ → (ℕ → List Slot) → List Pattern
load_several l k name place =
    sized all_sizes (λ s. row l k (put_at 23 s) (name ++ letter s)
    (separated (many (k + 2) (z_class s) ∷ p_zeroing pg ∷ place s ∷ [])) ∷ [])

abbrev pub store_several : {F : Type 0} → Line F → ℕ → List ℕ → (ℕ → List Slot) → List Pattern
store_several l k name place =
    sized all_sizes (λ s. row l k (put_at 23 s) (name ++ letter s)
    (separated (many (k + 2) (z_class s) ∷ register P pg ∷ place s ∷ [])) ∷ [])

unfoldable pub load_many_imm_texts : List Pattern
load_many_imm_texts =
    load_several load_many_imm 0 (codes "ld2") (λ s. imm_place 2)
    ++ (load_several load_many_imm 1 (codes "ld3") (λ s. imm_place 3)
    ++ load_several load_many_imm 2 (codes "ld4") (λ s. imm_place 4))

unfoldable pub load_many_reg_texts : List Pattern
load_many_reg_texts =
    load_several load_many_reg 0 (codes "ld2") reg_place
    ++ (load_several load_many_reg 1 (codes "ld3") reg_place ++ load_several load_many_reg 2 (codes "ld4") reg_place)

unfoldable pub store_many_imm_texts : List Pattern
store_many_imm_texts =
    store_several store_many_imm 0 (codes "st2") (λ s. imm_place 2)
    ++ (store_several store_many_imm 1 (codes "st3") (λ s. imm_place 3)
    ++ store_several store_many_imm 2 (codes "st4") (λ s. imm_place 4))

unfoldable pub store_many_reg_texts : List Pattern
store_many_reg_texts =
    store_several store_many_reg 0 (codes "st2") reg_place
    ++ (store_several store_many_reg 1 (codes "st3") reg_place
    ++ store_several store_many_reg 2 (codes "st4") reg_place)

-- ---- stores from lanes of any size, bits 22 to 21, which aren't shorter than the element

abbrev pub store_lanes : {F : Type 0} → Line F → (ℕ → List Slot) → List Pattern
store_lanes l place = sized all_sizes (λ m.
    row l 0 (put_at 23 m) (codes "st1" ++ letter m)
    (separated (braced (of (Told (22 to 21) Lanes) (bits zt) ∷ []) ∷ register P pg ∷ place m ∷ [])) ∷ [])

unfoldable pub store_imm_texts : List Pattern
store_imm_texts = store_lanes store_imm (λ m. imm_place 1)

unfoldable pub store_reg_texts : List Pattern
store_reg_texts = store_lanes store_reg reg_place

-- ---- whole registers

-- [Xn|SP{, #0, mul vl}] with imm9h and imm9l
abbrev pub whole_place : List Slot
whole_place = bracketed (base ∷ in_lengths (counted (signed_times 1 (Two (21 to 16) (12 to 10)))))

unfoldable pub load_z_texts : List Pattern
load_z_texts = row load_z 0 0 (codes "ldr") (separated (register Z zt ∷ whole_place ∷ [])) ∷ []

unfoldable pub load_p_texts : List Pattern
load_p_texts = let pt = 3 to 0 in row load_p 0 0 (codes "ldr") (separated (register P pt ∷ whole_place ∷ [])) ∷ []

unfoldable pub store_z_texts : List Pattern
store_z_texts = row store_z 0 0 (codes "str") (separated (register Z zt ∷ whole_place ∷ [])) ∷ []

unfoldable pub store_p_texts : List Pattern
store_p_texts = let pt = 3 to 0 in row store_p 0 0 (codes "str") (separated (register P pt ∷ whole_place ∷ [])) ∷ []
