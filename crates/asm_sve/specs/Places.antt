-- What loads and stores have in common: names by what is read or written, operands, places in memory. They are the
-- assembler symbols of the entries of loads and stores of the Arm Architecture Reference Manual for A-profile
-- (DDI 0487), C8.2 'Alphabetical list of SVE instructions'; that an operand is a list of slots is this project's own.
use Rattle.std.specs.Prelude.{ℕ, zero, suc, ◌+◌, List, [], ◌∷◌}
use Rattle.text_model.specs.declared.classes.Class.{Class}
use Rattle.text_model.specs.declared.classes.Class.TheVariants.{X, P, Shift, Times, VectorLength}
use Rattle.text_model.specs.declared.slots.Bits.{Bits}
use Rattle.text_model.specs.declared.slots.Parts.TheVariants.{At}
use Rattle.text_model.specs.declared.slots.Shape.TheVariants.{Only}
use Rattle.text_model.specs.declared.slots.Kind.TheVariants.{After}
use Rattle.text_model.specs.declared.slots.Slot.{Slot}
use Rattle.text_model.specs.Writing.{◌to◌, coded, bits, stack, signed_times, always, of, one, then, counted, amount, perhaps, inside, bracketed, braced}
use Rattle.asm_sve.specs.Operands.{separated, rn, rm, pg, register, p_zeroing}

-- ---- operands

abbrev pub zt : Bits
zt = 4 to 0

-- {Zt.T}, Pg/z, place
abbrev pub loading : Class → List Slot → List Slot
loading lanes place = separated (braced (register lanes zt) ∷ p_zeroing pg ∷ place ∷ [])

-- {Zt.T}, Pg, place
abbrev pub storing : Class → List Slot → List Slot
storing lanes place = separated (braced (register lanes zt) ∷ register P pg ∷ place ∷ [])

-- r registers, the first of them the one k places behind Zt, modulo 32
abbrev pub registers : ℕ → ℕ → Class → List (List Slot)
registers k zero lanes = []
registers k (suc r) lanes = (of (Only lanes) (coded (After k) (At zt)) ∷ []) ∷ registers (k + 1) r lanes

-- {Zt.T, Zu.T}, with r registers
abbrev pub many : ℕ → Class → List Slot
many r lanes = braced (separated (registers 0 r lanes))

-- ---- places

-- Xn|SP
abbrev pub base : Slot
base = of (Only X) (stack rn)

-- {, #0, mul vl}
abbrev pub in_lengths : Slot → List Slot
in_lengths number = perhaps ∷ inside 0 number ∷ inside 0 then ∷ inside 0 (one Times) ∷ inside 0 (one VectorLength) ∷ []

-- [Xn|SP{, #0, mul vl}], n times imm4
abbrev pub imm_place : ℕ → List Slot
imm_place n = let imm4 = 19 to 16 in bracketed (base ∷ in_lengths (counted (signed_times n (At imm4))))

-- lsl #s, which isn't written where s is 0
abbrev pub scaled : ℕ → List Slot
scaled zero = []
scaled (suc s) = then ∷ of (Only Shift) (always 0) ∷ amount (suc s) ∷ []

-- [Xn|SP, Xm, lsl #s]
abbrev pub reg_place : ℕ → List Slot
reg_place s = bracketed (base ∷ then ∷ of (Only X) (bits rm) ∷ scaled s)
