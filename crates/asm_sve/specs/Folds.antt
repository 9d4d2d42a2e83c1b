-- The texts of lines of folds and counts. They are the assembler syntax of the entries of reductions (as SADDV), of
-- element counts (as CNTB, INCB and SQINCB), ADDVL, ADDPL and RDVL of the Arm Architecture Reference Manual for
-- A-profile (DDI 0487), C8.2 'Alphabetical list of SVE instructions'.
use Rattle.std.specs.Prelude.{ℕ, ◌+◌, List, [], ◌∷◌, ◌++◌, codes}
use Rattle.emu_bits.specs.Rows.{Line}
use Rattle.sve_insn.specs.Folds.{reduce, count_elements, inc_x, inc_z, sat_x, sat_z, add_length, read_length}
use Rattle.text_model.specs.declared.classes.Class.TheVariants.{W, X, D, P}
use Rattle.text_model.specs.declared.slots.Shape.TheVariants.{Only}
use Rattle.text_model.specs.declared.slots.Slot.{Slot}
use Rattle.text_model.specs.Reading.{Pattern}
use Rattle.text_model.specs.Writing.{◌to◌, stack, of, row, rows, put_at}
use Rattle.asm_sve.specs.Operands.{separated, all_sizes, z_class, letter, ended, sized, zdn, zn, rd, rdn, pg, register, z_at, v_at, signed_at, by_named_pattern, by_pattern_number}

unfoldable pub reduce_texts : List Pattern
reduce_texts =
    let vd = 4 to 0 in
    rows reduce 0 0 (codes "saddv" ∷ codes "uaddv" ∷ []) (separated (register D vd ∷ register P pg ∷ z_at zn ∷ []))
    ++ rows reduce 2 0 (codes "smaxv" ∷ codes "umaxv" ∷ codes "sminv" ∷ codes "uminv" ∷ codes "orv" ∷ codes "eorv"
    ∷ codes "andv" ∷ [])
    (separated (v_at vd ∷ register P pg ∷ z_at zn ∷ []))

-- Rows whose operands end with a count: the two ways to write it.
abbrev pub counting : {F : Type 0} → Line F → ℕ → ℕ → List (List ℕ) → List Slot → List Pattern
counting l k settled names operands =
    rows l k settled names (operands ++ by_named_pattern) ++ rows l k settled names (operands ++ by_pattern_number)

unfoldable pub count_texts : List Pattern
count_texts =
    sized all_sizes (λ s. counting count_elements 0 (put_at 22 s) (ended (letter s) (codes "cnt" ∷ [])) (register X rd))

abbrev pub steps : List (List ℕ)
steps = codes "inc" ∷ codes "dec" ∷ []

unfoldable pub inc_x_texts : List Pattern
inc_x_texts = sized all_sizes (λ s. counting inc_x 0 (put_at 22 s) (ended (letter s) steps) (register X rdn))

unfoldable pub inc_z_texts : List Pattern
inc_z_texts =
    sized (1 ∷ 2 ∷ 3 ∷ []) (λ s. counting inc_z 0 (put_at 22 s) (ended (letter s) steps) (register (z_class s) zdn))

abbrev pub saturating_steps : List (List ℕ)
saturating_steps = codes "sqinc" ∷ codes "uqinc" ∷ codes "sqdec" ∷ codes "uqdec" ∷ []

-- sf is bit 20: Xdn where it is 1; else Xdn, Wdn of a signed and Wdn of an unsigned one
unfoldable pub sat_x_texts : List Pattern
sat_x_texts = sized all_sizes (λ s.
    counting sat_x 0 (put_at 22 s + put_at 20 1) (ended (letter s) saturating_steps) (register X rdn)
    ++ (counting sat_x 0 (put_at 22 s) (ended (letter s) (codes "sqinc" ∷ []))
    (separated (register X rdn ∷ register W rdn ∷ []))
    ++ (counting sat_x 1 (put_at 22 s) (ended (letter s) (codes "uqinc" ∷ [])) (register W rdn)
    ++ (counting sat_x 2 (put_at 22 s) (ended (letter s) (codes "sqdec" ∷ []))
    (separated (register X rdn ∷ register W rdn ∷ []))
    ++ counting sat_x 3 (put_at 22 s) (ended (letter s) (codes "uqdec" ∷ [])) (register W rdn)))))

unfoldable pub sat_z_texts : List Pattern
sat_z_texts =
    sized (1 ∷ 2 ∷ 3 ∷ []) (λ s. counting sat_z 0 (put_at 22 s) (ended (letter s) saturating_steps)
    (register (z_class s) zdn))

unfoldable pub add_length_texts : List Pattern
add_length_texts =
    let rn_20_16 = 20 to 16 in let imm6_10_5 = 10 to 5 in
    rows add_length 0 0 (codes "addvl" ∷ codes "addpl" ∷ [])
    (separated ((of (Only X) (stack rd) ∷ []) ∷ (of (Only X) (stack rn_20_16) ∷ []) ∷ signed_at imm6_10_5 ∷ []))

unfoldable pub read_length_texts : List Pattern
read_length_texts =
    let imm6_10_5 = 10 to 5 in
    row read_length 0 0 (codes "rdvl") (separated (register X rd ∷ signed_at imm6_10_5 ∷ [])) ∷ []
