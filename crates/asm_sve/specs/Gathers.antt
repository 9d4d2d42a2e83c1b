-- The texts of gathers and scatters. They are the assembler syntax of the entries LD1, LDFF1 and ST1 (each by its
-- letters) with vectors in their addresses of the Arm Architecture Reference Manual for A-profile (DDI 0487), C8.2
-- 'Alphabetical list of SVE instructions'.
use Rattle.std.specs.Prelude.{ℕ, ◌+◌, ◌^◌, List, [], ◌∷◌, ◌++◌, codes}
use Rattle.emu_bits.specs.Rows.{Line}
use Rattle.sve_insn.specs.Memory.{gather_sx, gather_sx_scaled, gather_dx, gather_dx_scaled, gather_d, gather_d_scaled, gather_sv, gather_dv, scatter_sx, scatter_sx_scaled, scatter_dx, scatter_dx_scaled, scatter_d, scatter_d_scaled, scatter_sv, scatter_dv}
use Rattle.text_model.specs.declared.classes.Class.{Class}
use Rattle.text_model.specs.declared.classes.Class.TheVariants.{Zs, Zd, ExtendWord}
use Rattle.text_model.specs.declared.slots.Bits.{Bits}
use Rattle.text_model.specs.declared.slots.Parts.TheVariants.{At}
use Rattle.text_model.specs.declared.slots.Shape.TheVariants.{Only}
use Rattle.text_model.specs.declared.slots.Slot.{Slot}
use Rattle.text_model.specs.Reading.{Pattern}
use Rattle.text_model.specs.Writing.{◌to◌, bits, times, of, then, counted, amount, perhaps, inside, bracketed, row, put_at}
use Rattle.asm_sve.specs.Operands.{letter, sized, zn, zm}
use Rattle.asm_sve.specs.Places.{loading, storing, base, scaled}

-- ---- places; s is msz

-- [Xn|SP, Zm.T, uxtw], the extension by the field xs
abbrev pub extended_place : Class → Bits → List Slot → List Slot
extended_place lanes xs behind =
    bracketed (base ∷ then ∷ of (Only lanes) (bits zm) ∷ then ∷ of (Only ExtendWord) (bits xs) ∷ behind)

-- [Xn|SP, Zm.d, lsl #s]
abbrev pub doubleword_place : ℕ → List Slot
doubleword_place s = bracketed (base ∷ then ∷ of (Only Zd) (bits zm) ∷ scaled s)

-- [Zn.T{, #0}], imm5 times the bytes of an element
abbrev pub vector_place : Class → ℕ → List Slot
vector_place lanes s =
    let imm5 = 20 to 16 in
    bracketed (of (Only lanes) (bits zn) ∷ perhaps ∷ inside 0 (counted (times (2 ^ s) (At imm5))) ∷ [])

-- ---- gathers

-- what one reads: the letters behind its name, msz, and U, which is 1 where the sign isn't extended
pub record Gathered : Type 0 where
  pub letters : List ℕ
  pub element : ℕ
  pub unsigned : ℕ

abbrev gather_of : List ℕ → ℕ → ℕ → Gathered
gather_of l e u = record { letters = l; element = e; unsigned = u }

abbrev pub of_bytes : List Gathered
of_bytes = gather_of (codes "b") 0 1 ∷ gather_of (codes "sb") 0 0 ∷ []

abbrev pub scaled_words : List Gathered
scaled_words = gather_of (codes "h") 1 1 ∷ gather_of (codes "w") 2 1 ∷ gather_of (codes "sh") 1 0 ∷ []

abbrev pub scaled_doublewords : List Gathered
scaled_doublewords = scaled_words ++ (gather_of (codes "d") 3 1 ∷ gather_of (codes "sw") 2 0 ∷ [])

-- U stands at bit 14, and ff, which is 1 in ldff1, at bit 13
abbrev pub gathers_named : {F : Type 0} → Line F → List ℕ → ℕ → Class → (ℕ → List Slot) → List Gathered → List Pattern
gathers_named l name ff lanes place [] = []
gathers_named l name ff lanes place (g ∷ gs) =
    row l 0 (put_at 23 g.element + (put_at 14 g.unsigned + put_at 13 ff)) (name ++ g.letters)
    (loading lanes (place g.element)) ∷ gathers_named l name ff lanes place gs

abbrev pub gathers : {F : Type 0} → Line F → Class → (ℕ → List Slot) → List Gathered → List Pattern
gathers l lanes place gs =
    gathers_named l (codes "ld1") 0 lanes place gs ++ gathers_named l (codes "ldff1") 1 lanes place gs

unfoldable pub gather_sx_texts : List Pattern
gather_sx_texts = gathers gather_sx Zs (λ s. extended_place Zs (22 to 22) []) (of_bytes ++ scaled_words)

unfoldable pub gather_sx_scaled_texts : List Pattern
gather_sx_scaled_texts = gathers gather_sx_scaled Zs (λ s. extended_place Zs (22 to 22) (amount s ∷ [])) scaled_words

unfoldable pub gather_dx_texts : List Pattern
gather_dx_texts = gathers gather_dx Zd (λ s. extended_place Zd (22 to 22) []) (of_bytes ++ scaled_doublewords)

unfoldable pub gather_dx_scaled_texts : List Pattern
gather_dx_scaled_texts =
    gathers gather_dx_scaled Zd (λ s. extended_place Zd (22 to 22) (amount s ∷ [])) scaled_doublewords

unfoldable pub gather_d_texts : List Pattern
gather_d_texts = gathers gather_d Zd (λ s. doubleword_place 0) (of_bytes ++ scaled_doublewords)

unfoldable pub gather_d_scaled_texts : List Pattern
gather_d_scaled_texts = gathers gather_d_scaled Zd doubleword_place scaled_doublewords

unfoldable pub gather_sv_texts : List Pattern
gather_sv_texts = gathers gather_sv Zs (vector_place Zs) (of_bytes ++ scaled_words)

unfoldable pub gather_dv_texts : List Pattern
gather_dv_texts = gathers gather_dv Zd (vector_place Zd) (of_bytes ++ scaled_doublewords)

-- ---- scatters

abbrev pub scatters : {F : Type 0} → Line F → Class → List ℕ → (ℕ → List Slot) → List Pattern
scatters l lanes sizes place =
    sized sizes (λ s. row l 0 (put_at 23 s) (codes "st1" ++ letter s) (storing lanes (place s)) ∷ [])

unfoldable pub scatter_sx_texts : List Pattern
scatter_sx_texts = scatters scatter_sx Zs (0 ∷ 1 ∷ 2 ∷ []) (λ s. extended_place Zs (14 to 14) [])

unfoldable pub scatter_sx_scaled_texts : List Pattern
scatter_sx_scaled_texts = scatters scatter_sx_scaled Zs (1 ∷ 2 ∷ []) (λ s. extended_place Zs (14 to 14) (amount s ∷ []))

unfoldable pub scatter_dx_texts : List Pattern
scatter_dx_texts = scatters scatter_dx Zd (0 ∷ 1 ∷ 2 ∷ 3 ∷ []) (λ s. extended_place Zd (14 to 14) [])

unfoldable pub scatter_dx_scaled_texts : List Pattern
scatter_dx_scaled_texts =
    scatters scatter_dx_scaled Zd (1 ∷ 2 ∷ 3 ∷ []) (λ s. extended_place Zd (14 to 14) (amount s ∷ []))

unfoldable pub scatter_d_texts : List Pattern
scatter_d_texts = scatters scatter_d Zd (0 ∷ 1 ∷ 2 ∷ 3 ∷ []) (λ s. doubleword_place 0)

unfoldable pub scatter_d_scaled_texts : List Pattern
scatter_d_scaled_texts = scatters scatter_d_scaled Zd (1 ∷ 2 ∷ 3 ∷ []) doubleword_place

unfoldable pub scatter_sv_texts : List Pattern
scatter_sv_texts = scatters scatter_sv Zs (0 ∷ 1 ∷ 2 ∷ []) (vector_place Zs)

unfoldable pub scatter_dv_texts : List Pattern
scatter_dv_texts = scatters scatter_dv Zd (0 ∷ 1 ∷ 2 ∷ 3 ∷ []) (vector_place Zd)
