-- The table's lines of loads and stores. From the Arm Architecture Reference Manual for A-profile (DDI 0487), C4 'A64
-- Instruction Set Encoding', 'Loads and Stores', and the encodings of the entries of C6.2 and C7.2; a condition leaves
-- out what their decoding has as UNDEFINED, and what the manual has as CONSTRAINED UNPREDICTABLE, as it allows. A
-- line's rows, its fields' order and its number are this project's own.
use Rattle.std.specs.Prelude.{ℕ, ◌==◌, ◌&&◌, ◌||◌, Bool, cond, not, [], ◌∷◌, nat_lt}
use Rattle.emu_bits.specs.Rows.{◌to◌, Line, is_among, line_of, line_if, of_three, of_four, of_six, of_eight}
use Rattle.a64_insn.specs.declared.form.A64Form.{A64Form}
use Rattle.a64_insn.specs.declared.form.A64Form.TheVariants.{LsUnsigned, LsUnscaled, LsPost, LsPre, LsReg, LsLiteral, Pair, StoreEx, LoadEx, Ordered, Atomic, CompareSwap}
use Rattle.a64_insn.specs.Names.{atomic_named, load_ex_named, ordered_named, store_ex_named}

-- There are these loads and stores: of general registers all but opc 3 from 4 bytes on, of vector registers
-- opc 0 and 1 of each size, and 2 and 3 (16 bytes) with size 0.
unfoldable pub is_access : ℕ → ℕ → ℕ → Bool
is_access size v opc = cond (v == 1) (nat_lt opc 2 || size == 0) (nat_lt opc 3 || nat_lt size 2)

-- `ldr`, `str` and their kinds, at `[Xn|SP{, #0}]`
unfoldable pub ls_unsigned : Line A64Form
ls_unsigned = line_if (0x39000000 ∷ []) ((31 to 30) ∷ (26 to 26) ∷ (23 to 22) ∷ (21 to 10) ∷ (9 to 5) ∷ (4 to 0) ∷ [])
    (λ k. of_six (λ size v opc imm12 rn rt. (is_access size v opc, LsUnsigned size (v == 1) opc imm12 rn rt)))

-- `ldur`, `stur` and their kinds, at `[Xn|SP{, #0}]`
unfoldable pub ls_unscaled : Line A64Form
ls_unscaled = line_if (0x38000000 ∷ []) ((31 to 30) ∷ (26 to 26) ∷ (23 to 22) ∷ (20 to 12) ∷ (9 to 5) ∷ (4 to 0) ∷ [])
    (λ k. of_six (λ size v opc imm9 rn rt. (is_access size v opc, LsUnscaled size (v == 1) opc imm9 rn rt)))

-- `prfm`, the hint that stands among the loads and stores
unfoldable pub is_prefetch : ℕ → ℕ → ℕ → Bool
is_prefetch size v opc = size == 3 && (v == 0 && opc == 2)

-- A general register isn't the base register, whose number 31 is SP.
unfoldable pub is_not_base : ℕ → ℕ → Bool
is_not_base rn r = rn == 31 || not (r == rn)

-- A register that is loaded or stored isn't the base: it is a vector register, or another general one.
unfoldable pub keeps_base : ℕ → ℕ → ℕ → Bool
keeps_base v rn rt = v == 1 || is_not_base rn rt

-- There is such a load or store, it isn't `prfm`, and its register isn't the base, which is written back.
unfoldable pub writeback_holds_for : ℕ → ℕ → ℕ → ℕ → ℕ → Bool
writeback_holds_for size v opc rn rt = is_access size v opc && (not (is_prefetch size v opc) && keeps_base v rn rt)

-- `ldr`, `str` and their kinds, at `[Xn|SP], #i`
unfoldable pub ls_post : Line A64Form
ls_post = line_if (0x38000400 ∷ []) ((31 to 30) ∷ (26 to 26) ∷ (23 to 22) ∷ (20 to 12) ∷ (9 to 5) ∷ (4 to 0) ∷ [])
    (λ k. of_six (λ size v opc imm9 rn rt. (writeback_holds_for size v opc rn rt, LsPost size (v == 1) opc imm9 rn rt)))

-- `ldr`, `str` and their kinds, at `[Xn|SP, #i]!`
unfoldable pub ls_pre : Line A64Form
ls_pre = line_if (0x38000C00 ∷ []) ((31 to 30) ∷ (26 to 26) ∷ (23 to 22) ∷ (20 to 12) ∷ (9 to 5) ∷ (4 to 0) ∷ [])
    (λ k. of_six (λ size v opc imm9 rn rt. (writeback_holds_for size v opc rn rt, LsPre size (v == 1) opc imm9 rn rt)))

-- an offset has 32 or 64 bits: uxtw, lsl, sxtw or sxtx
unfoldable pub is_offset_extension : ℕ → Bool
is_offset_extension ext = is_among ext (2 ∷ 3 ∷ 6 ∷ 7 ∷ [])

-- There is such a load or store, and the extension is one of offsets.
unfoldable pub ls_reg_holds_for : ℕ → ℕ → ℕ → ℕ → Bool
ls_reg_holds_for size v opc ext = is_access size v opc && is_offset_extension ext

-- `ldr`, `str` and their kinds, at `[Xn|SP, Rm, ext #a]`
unfoldable pub ls_reg : Line A64Form
ls_reg = line_if (0x38200800 ∷ [])
    ((31 to 30) ∷ (26 to 26) ∷ (23 to 22) ∷ (20 to 16) ∷ (15 to 13) ∷ (12 to 12) ∷ (9 to 5) ∷ (4 to 0) ∷ [])
    (λ k. of_eight (λ size v opc rm ext s rn rt.
    (ls_reg_holds_for size v opc ext, LsReg size (v == 1) opc rm ext (s == 1) rn rt)))

-- `ldr` of 4 and 8 bytes, `ldrsw` and `prfm` of general registers, `ldr` of 4, 8 and 16 bytes of vector registers
unfoldable pub ls_literal_holds_for : ℕ → ℕ → Bool
ls_literal_holds_for opc v = v == 0 || nat_lt opc 3

-- `ldr`, `ldrsw`, `prfm Rt, target`
unfoldable pub ls_literal : Line A64Form
ls_literal = line_if (0x18000000 ∷ []) ((31 to 30) ∷ (26 to 26) ∷ (23 to 5) ∷ (4 to 0) ∷ [])
    (λ k. of_four (λ opc v imm19 rt. (ls_literal_holds_for opc v, LsLiteral opc (v == 1) imm19 rt)))

-- There are these pairs: opc is 0, 1 or 2, and 1 of general registers is `ldpsw`, which loads and has no mode 0.
unfoldable pub is_pair : ℕ → ℕ → ℕ → ℕ → Bool
is_pair opc v mode l = nat_lt opc 3 && (v == 1 || (not (opc == 1) || (l == 1 && not (mode == 0))))

-- a load has two different registers
unfoldable pub loads_two : ℕ → ℕ → ℕ → Bool
loads_two l rt2 rt = l == 0 || not (rt == rt2)

-- in the modes that write the base back, 1 and 3, neither register is the base
unfoldable pub pair_keeps_base : ℕ → ℕ → ℕ → ℕ → ℕ → Bool
pair_keeps_base v mode rt2 rn rt = is_among mode (0 ∷ 2 ∷ []) || (keeps_base v rn rt && keeps_base v rn rt2)

-- There is such a pair, a load has two different registers, and neither is a base that is written back.
unfoldable pub pair_holds_for : ℕ → ℕ → ℕ → ℕ → ℕ → ℕ → ℕ → Bool
pair_holds_for opc v mode l rt2 rn rt = is_pair opc v mode l && (loads_two l rt2 rt && pair_keeps_base v mode rt2 rn rt)

-- `ldp`, `stp`, `ldpsw`, `ldnp`, `stnp Rt, Rt2, place`
unfoldable pub pair : Line A64Form
pair = line_if (0x28000000 ∷ [])
    ((31 to 30) ∷ (26 to 26) ∷ (24 to 23) ∷ (22 to 22) ∷ (21 to 15) ∷ (14 to 10) ∷ (9 to 5) ∷ (4 to 0) ∷ [])
    (λ k. of_eight (λ opc v mode l imm7 rt2 rn rt.
    (pair_holds_for opc v mode l rt2 rn rt, Pair opc (v == 1) mode (l == 1) imm7 rt2 rn rt)))

-- the register of the outcome isn't the one that is stored, nor the base
unfoldable pub store_ex_holds_for : ℕ → ℕ → ℕ → Bool
store_ex_holds_for rs rn rt = not (rs == rt) && is_not_base rn rs

-- `stxr`, `stlxr Ws, Rt, [Xn|SP]`
unfoldable pub store_ex : Line A64Form
store_ex = line_if (0x08007C00 ∷ 0x0800FC00 ∷ []) ((31 to 30) ∷ (20 to 16) ∷ (9 to 5) ∷ (4 to 0) ∷ [])
    (λ k. of_four (λ size rs rn rt. (store_ex_holds_for rs rn rt, StoreEx (store_ex_named k) size rs rn rt)))

-- `ldxr`, `ldaxr Rt, [Xn|SP]`
unfoldable pub load_ex : Line A64Form
load_ex = line_of (0x085F7C00 ∷ 0x085FFC00 ∷ []) ((31 to 30) ∷ (9 to 5) ∷ (4 to 0) ∷ [])
    (λ k. of_three (λ size rn rt. LoadEx (load_ex_named k) size rn rt))

-- `stlr`, `ldar Rt, [Xn|SP]`
unfoldable pub ordered : Line A64Form
ordered = line_of (0x089FFC00 ∷ 0x08DFFC00 ∷ []) ((31 to 30) ∷ (9 to 5) ∷ (4 to 0) ∷ [])
    (λ k. of_three (λ size rn rt. Ordered (ordered_named k) size rn rt))

-- `ldadd`, `ldclr`, `ldeor`, `ldset`, `ldsmax`, `ldsmin`, `ldumax`, `ldumin`, `swp Rs, Rt, [Xn|SP]`: bit 23 acquires,
-- bit 22 releases
unfoldable pub atomic : Line A64Form
atomic =
    line_of (0x38200000 ∷ 0x38201000 ∷ 0x38202000 ∷ 0x38203000 ∷ 0x38204000 ∷ 0x38205000 ∷ 0x38206000 ∷ 0x38207000
    ∷ 0x38208000 ∷ [])
    ((31 to 30) ∷ (23 to 23) ∷ (22 to 22) ∷ (20 to 16) ∷ (9 to 5) ∷ (4 to 0) ∷ [])
    (λ k. of_six (λ size acquires releases rs rn rt.
    Atomic (atomic_named k) size (acquires == 1) (releases == 1) rs rn rt))

-- `cas Rs, Rt, [Xn|SP]`: bit 22 acquires, bit 15 releases
unfoldable pub compare_swap : Line A64Form
compare_swap = line_of (0x08A07C00 ∷ []) ((31 to 30) ∷ (22 to 22) ∷ (15 to 15) ∷ (20 to 16) ∷ (9 to 5) ∷ (4 to 0) ∷ [])
    (λ k. of_six (λ size acquires releases rs rn rt. CompareSwap size (acquires == 1) (releases == 1) rs rn rt))
