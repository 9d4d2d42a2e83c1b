-- The table's lines of loads and stores. From the Arm Architecture Reference Manual for A-profile (DDI 0487), C4 'A64
-- Instruction Set Encoding', 'SVE encodings', and the encodings of the entries of C8.2. A line's rows, its fields'
-- order and its number are this project's own.
use Rattle.std.specs.Prelude.{◌==◌, [], ◌∷◌}
use Rattle.emu_bits.specs.Rows.{◌to◌, Line, line_of, line_if, of_four, of_five, of_six, of_seven, of_eight}
use Rattle.sve_insn.specs.declared.form.SveForm.{SveForm}
use Rattle.sve_insn.specs.declared.form.SveForm.TheVariants.{LoadImm, LoadReg, LoadFf, LoadNf, LoadNtImm, LoadNtReg, LoadQuadImm, LoadQuadReg, LoadManyImm, LoadManyReg, LoadOne, LoadZ, LoadP, StoreImm, StoreReg, StoreNtImm, StoreNtReg, StoreManyImm, StoreManyReg, StoreZ, StoreP, GatherSx, GatherSxScaled, GatherDx, GatherDxScaled, GatherD, GatherDScaled, GatherSv, GatherDv, ScatterSx, ScatterSxScaled, ScatterDx, ScatterDxScaled, ScatterD, ScatterDScaled, ScatterSv, ScatterDv}
use Rattle.sve_insn.specs.Names.{load_many_named, store_many_named}
use Rattle.sve_insn.specs.Conditions.{is_no_byte, is_no_doubleword, is_halfword_or_word, is_register, fits_lane, store_reg_holds_for, extends_to_doubleword, gather_word_holds_for, gather_scaled_word_holds_for, gather_scaled_doubleword_holds_for}

-- `ld1 {Zt.T}, Pg/z, [Xn|SP{, #0, mul vl}]`
unfoldable pub load_imm : Line SveForm
load_imm = line_of (0xA400A000 ∷ []) ((24 to 21) ∷ (19 to 16) ∷ (12 to 10) ∷ (9 to 5) ∷ (4 to 0) ∷ [])
    (λ k. of_five (λ dtype imm4 pg rn zt. LoadImm dtype imm4 pg rn zt))

-- `ld1 {Zt.T}, Pg/z, [Xn|SP, Xm, lsl #s]`
unfoldable pub load_reg : Line SveForm
load_reg = line_if (0xA4004000 ∷ []) ((24 to 21) ∷ (20 to 16) ∷ (12 to 10) ∷ (9 to 5) ∷ (4 to 0) ∷ [])
    (λ k. of_five (λ dtype rm pg rn zt. (is_register rm, LoadReg dtype rm pg rn zt)))

-- `ldff1 {Zt.T}, Pg/z, [Xn|SP, Xm, lsl #s]`
unfoldable pub load_ff : Line SveForm
load_ff = line_of (0xA4006000 ∷ []) ((24 to 21) ∷ (20 to 16) ∷ (12 to 10) ∷ (9 to 5) ∷ (4 to 0) ∷ [])
    (λ k. of_five (λ dtype rm pg rn zt. LoadFf dtype rm pg rn zt))

-- `ldnf1 {Zt.T}, Pg/z, [Xn|SP{, #0, mul vl}]`
unfoldable pub load_nf : Line SveForm
load_nf = line_of (0xA410A000 ∷ []) ((24 to 21) ∷ (19 to 16) ∷ (12 to 10) ∷ (9 to 5) ∷ (4 to 0) ∷ [])
    (λ k. of_five (λ dtype imm4 pg rn zt. LoadNf dtype imm4 pg rn zt))

-- `ldnt1 {Zt.T}, Pg/z, [Xn|SP{, #0, mul vl}]`
unfoldable pub load_nt_imm : Line SveForm
load_nt_imm = line_of (0xA400E000 ∷ []) ((24 to 23) ∷ (19 to 16) ∷ (12 to 10) ∷ (9 to 5) ∷ (4 to 0) ∷ [])
    (λ k. of_five (λ msz imm4 pg rn zt. LoadNtImm msz imm4 pg rn zt))

-- `ldnt1 {Zt.T}, Pg/z, [Xn|SP, Xm, lsl #s]`
unfoldable pub load_nt_reg : Line SveForm
load_nt_reg = line_if (0xA400C000 ∷ []) ((24 to 23) ∷ (20 to 16) ∷ (12 to 10) ∷ (9 to 5) ∷ (4 to 0) ∷ [])
    (λ k. of_five (λ msz rm pg rn zt. (is_register rm, LoadNtReg msz rm pg rn zt)))

-- `ld1rq {Zt.T}, Pg/z, [Xn|SP{, #0}]`
unfoldable pub load_quad_imm : Line SveForm
load_quad_imm = line_of (0xA4002000 ∷ []) ((24 to 23) ∷ (19 to 16) ∷ (12 to 10) ∷ (9 to 5) ∷ (4 to 0) ∷ [])
    (λ k. of_five (λ msz imm4 pg rn zt. LoadQuadImm msz imm4 pg rn zt))

-- `ld1rq {Zt.T}, Pg/z, [Xn|SP, Xm, lsl #s]`
unfoldable pub load_quad_reg : Line SveForm
load_quad_reg = line_if (0xA4000000 ∷ []) ((24 to 23) ∷ (20 to 16) ∷ (12 to 10) ∷ (9 to 5) ∷ (4 to 0) ∷ [])
    (λ k. of_five (λ msz rm pg rn zt. (is_register rm, LoadQuadReg msz rm pg rn zt)))

-- `ld2`, `ld3`, `ld4 {Zt.T, ..}, Pg/z, [Xn|SP{, #0, mul vl}]`
unfoldable pub load_many_imm : Line SveForm
load_many_imm = line_of (0xA420E000 ∷ 0xA440E000 ∷ 0xA460E000 ∷ [])
    ((24 to 23) ∷ (19 to 16) ∷ (12 to 10) ∷ (9 to 5) ∷ (4 to 0) ∷ [])
    (λ k. of_five (λ msz imm4 pg rn zt. LoadManyImm (load_many_named k) msz imm4 pg rn zt))

-- `ld2`, `ld3`, `ld4 {Zt.T, ..}, Pg/z, [Xn|SP, Xm, lsl #s]`
unfoldable pub load_many_reg : Line SveForm
load_many_reg = line_if (0xA420C000 ∷ 0xA440C000 ∷ 0xA460C000 ∷ [])
    ((24 to 23) ∷ (20 to 16) ∷ (12 to 10) ∷ (9 to 5) ∷ (4 to 0) ∷ [])
    (λ k. of_five (λ msz rm pg rn zt. (is_register rm, LoadManyReg (load_many_named k) msz rm pg rn zt)))

-- `ld1r {Zt.T}, Pg/z, [Xn|SP{, #0}]`
unfoldable pub load_one : Line SveForm
load_one = line_of (0x84408000 ∷ []) ((24 to 23) ∷ (21 to 16) ∷ (14 to 13) ∷ (12 to 10) ∷ (9 to 5) ∷ (4 to 0) ∷ [])
    (λ k. of_six (λ dtypeh imm6 dtypel pg rn zt. LoadOne dtypeh imm6 dtypel pg rn zt))

-- `ldr Zt, [Xn|SP{, #0, mul vl}]`
unfoldable pub load_z : Line SveForm
load_z = line_of (0x85804000 ∷ []) ((21 to 16) ∷ (12 to 10) ∷ (9 to 5) ∷ (4 to 0) ∷ [])
    (λ k. of_four (λ imm9h imm9l rn zt. LoadZ imm9h imm9l rn zt))

-- `ldr Pt, [Xn|SP{, #0, mul vl}]`
unfoldable pub load_p : Line SveForm
load_p = line_of (0x85800000 ∷ []) ((21 to 16) ∷ (12 to 10) ∷ (9 to 5) ∷ (3 to 0) ∷ [])
    (λ k. of_four (λ imm9h imm9l rn pt. LoadP imm9h imm9l rn pt))

-- `st1 {Zt.T}, Pg, [Xn|SP{, #0, mul vl}]`
unfoldable pub store_imm : Line SveForm
store_imm = line_if (0xE400E000 ∷ []) ((24 to 23) ∷ (22 to 21) ∷ (19 to 16) ∷ (12 to 10) ∷ (9 to 5) ∷ (4 to 0) ∷ [])
    (λ k. of_six (λ msz size imm4 pg rn zt. (fits_lane msz size, StoreImm msz size imm4 pg rn zt)))

-- `st1 {Zt.T}, Pg, [Xn|SP, Xm, lsl #s]`
unfoldable pub store_reg : Line SveForm
store_reg = line_if (0xE4004000 ∷ []) ((24 to 23) ∷ (22 to 21) ∷ (20 to 16) ∷ (12 to 10) ∷ (9 to 5) ∷ (4 to 0) ∷ [])
    (λ k. of_six (λ msz size rm pg rn zt. (store_reg_holds_for msz size rm, StoreReg msz size rm pg rn zt)))

-- `stnt1 {Zt.T}, Pg, [Xn|SP{, #0, mul vl}]`
unfoldable pub store_nt_imm : Line SveForm
store_nt_imm = line_of (0xE410E000 ∷ []) ((24 to 23) ∷ (19 to 16) ∷ (12 to 10) ∷ (9 to 5) ∷ (4 to 0) ∷ [])
    (λ k. of_five (λ msz imm4 pg rn zt. StoreNtImm msz imm4 pg rn zt))

-- `stnt1 {Zt.T}, Pg, [Xn|SP, Xm, lsl #s]`
unfoldable pub store_nt_reg : Line SveForm
store_nt_reg = line_if (0xE4006000 ∷ []) ((24 to 23) ∷ (20 to 16) ∷ (12 to 10) ∷ (9 to 5) ∷ (4 to 0) ∷ [])
    (λ k. of_five (λ msz rm pg rn zt. (is_register rm, StoreNtReg msz rm pg rn zt)))

-- `st2`, `st3`, `st4 {Zt.T, ..}, Pg, [Xn|SP{, #0, mul vl}]`
unfoldable pub store_many_imm : Line SveForm
store_many_imm = line_of (0xE430E000 ∷ 0xE450E000 ∷ 0xE470E000 ∷ [])
    ((24 to 23) ∷ (19 to 16) ∷ (12 to 10) ∷ (9 to 5) ∷ (4 to 0) ∷ [])
    (λ k. of_five (λ msz imm4 pg rn zt. StoreManyImm (store_many_named k) msz imm4 pg rn zt))

-- `st2`, `st3`, `st4 {Zt.T, ..}, Pg, [Xn|SP, Xm, lsl #s]`
unfoldable pub store_many_reg : Line SveForm
store_many_reg = line_if (0xE4206000 ∷ 0xE4406000 ∷ 0xE4606000 ∷ [])
    ((24 to 23) ∷ (20 to 16) ∷ (12 to 10) ∷ (9 to 5) ∷ (4 to 0) ∷ [])
    (λ k. of_five (λ msz rm pg rn zt. (is_register rm, StoreManyReg (store_many_named k) msz rm pg rn zt)))

-- `str Zt, [Xn|SP{, #0, mul vl}]`
unfoldable pub store_z : Line SveForm
store_z = line_of (0xE5804000 ∷ []) ((21 to 16) ∷ (12 to 10) ∷ (9 to 5) ∷ (4 to 0) ∷ [])
    (λ k. of_four (λ imm9h imm9l rn zt. StoreZ imm9h imm9l rn zt))

-- `str Pt, [Xn|SP{, #0, mul vl}]`
unfoldable pub store_p : Line SveForm
store_p = line_of (0xE5800000 ∷ []) ((21 to 16) ∷ (12 to 10) ∷ (9 to 5) ∷ (3 to 0) ∷ [])
    (λ k. of_four (λ imm9h imm9l rn pt. StoreP imm9h imm9l rn pt))

-- `ld1`, `ldff1 {Zt.s}, Pg/z, [Xn|SP, Zm.s, uxtw]`
unfoldable pub gather_sx : Line SveForm
gather_sx = line_if (0x84000000 ∷ [])
    ((24 to 23) ∷ (22 to 22) ∷ (20 to 16) ∷ (14 to 14) ∷ (13 to 13) ∷ (12 to 10) ∷ (9 to 5) ∷ (4 to 0) ∷ [])
    (λ k. of_eight (λ msz xs zm u ff pg rn zt.
    (gather_word_holds_for msz u, GatherSx msz (xs == 1) zm (u == 1) (ff == 1) pg rn zt)))

-- `ld1`, `ldff1 {Zt.s}, Pg/z, [Xn|SP, Zm.s, uxtw #s]`
unfoldable pub gather_sx_scaled : Line SveForm
gather_sx_scaled = line_if (0x84200000 ∷ [])
    ((24 to 23) ∷ (22 to 22) ∷ (20 to 16) ∷ (14 to 14) ∷ (13 to 13) ∷ (12 to 10) ∷ (9 to 5) ∷ (4 to 0) ∷ [])
    (λ k. of_eight (λ msz xs zm u ff pg rn zt.
    (gather_scaled_word_holds_for msz u, GatherSxScaled msz (xs == 1) zm (u == 1) (ff == 1) pg rn zt)))

-- `ld1`, `ldff1 {Zt.d}, Pg/z, [Xn|SP, Zm.d, uxtw]`
unfoldable pub gather_dx : Line SveForm
gather_dx = line_if (0xC4000000 ∷ [])
    ((24 to 23) ∷ (22 to 22) ∷ (20 to 16) ∷ (14 to 14) ∷ (13 to 13) ∷ (12 to 10) ∷ (9 to 5) ∷ (4 to 0) ∷ [])
    (λ k. of_eight (λ msz xs zm u ff pg rn zt.
    (extends_to_doubleword msz u, GatherDx msz (xs == 1) zm (u == 1) (ff == 1) pg rn zt)))

-- `ld1`, `ldff1 {Zt.d}, Pg/z, [Xn|SP, Zm.d, uxtw #s]`
unfoldable pub gather_dx_scaled : Line SveForm
gather_dx_scaled = line_if (0xC4200000 ∷ [])
    ((24 to 23) ∷ (22 to 22) ∷ (20 to 16) ∷ (14 to 14) ∷ (13 to 13) ∷ (12 to 10) ∷ (9 to 5) ∷ (4 to 0) ∷ [])
    (λ k. of_eight (λ msz xs zm u ff pg rn zt.
    (gather_scaled_doubleword_holds_for msz u, GatherDxScaled msz (xs == 1) zm (u == 1) (ff == 1) pg rn zt)))

-- `ld1`, `ldff1 {Zt.d}, Pg/z, [Xn|SP, Zm.d]`
unfoldable pub gather_d : Line SveForm
gather_d = line_if (0xC4408000 ∷ [])
    ((24 to 23) ∷ (20 to 16) ∷ (14 to 14) ∷ (13 to 13) ∷ (12 to 10) ∷ (9 to 5) ∷ (4 to 0) ∷ [])
    (λ k. of_seven (λ msz zm u ff pg rn zt. (extends_to_doubleword msz u, GatherD msz zm (u == 1) (ff == 1) pg rn zt)))

-- `ld1`, `ldff1 {Zt.d}, Pg/z, [Xn|SP, Zm.d, lsl #s]`
unfoldable pub gather_d_scaled : Line SveForm
gather_d_scaled = line_if (0xC4608000 ∷ [])
    ((24 to 23) ∷ (20 to 16) ∷ (14 to 14) ∷ (13 to 13) ∷ (12 to 10) ∷ (9 to 5) ∷ (4 to 0) ∷ [])
    (λ k. of_seven (λ msz zm u ff pg rn zt.
    (gather_scaled_doubleword_holds_for msz u, GatherDScaled msz zm (u == 1) (ff == 1) pg rn zt)))

-- `ld1`, `ldff1 {Zt.s}, Pg/z, [Zn.s{, #0}]`
unfoldable pub gather_sv : Line SveForm
gather_sv = line_if (0x84208000 ∷ [])
    ((24 to 23) ∷ (20 to 16) ∷ (14 to 14) ∷ (13 to 13) ∷ (12 to 10) ∷ (9 to 5) ∷ (4 to 0) ∷ [])
    (λ k. of_seven (λ msz imm5 u ff pg zn zt.
    (gather_word_holds_for msz u, GatherSv msz imm5 (u == 1) (ff == 1) pg zn zt)))

-- `ld1`, `ldff1 {Zt.d}, Pg/z, [Zn.d{, #0}]`
unfoldable pub gather_dv : Line SveForm
gather_dv = line_if (0xC4208000 ∷ [])
    ((24 to 23) ∷ (20 to 16) ∷ (14 to 14) ∷ (13 to 13) ∷ (12 to 10) ∷ (9 to 5) ∷ (4 to 0) ∷ [])
    (λ k. of_seven (λ msz imm5 u ff pg zn zt.
    (extends_to_doubleword msz u, GatherDv msz imm5 (u == 1) (ff == 1) pg zn zt)))

-- `st1 {Zt.s}, Pg, [Xn|SP, Zm.s, uxtw]`
unfoldable pub scatter_sx : Line SveForm
scatter_sx = line_if (0xE4408000 ∷ []) ((24 to 23) ∷ (20 to 16) ∷ (14 to 14) ∷ (12 to 10) ∷ (9 to 5) ∷ (4 to 0) ∷ [])
    (λ k. of_six (λ msz zm xs pg rn zt. (is_no_doubleword msz, ScatterSx msz zm (xs == 1) pg rn zt)))

-- `st1 {Zt.s}, Pg, [Xn|SP, Zm.s, uxtw #s]`
unfoldable pub scatter_sx_scaled : Line SveForm
scatter_sx_scaled =
    line_if (0xE4608000 ∷ []) ((24 to 23) ∷ (20 to 16) ∷ (14 to 14) ∷ (12 to 10) ∷ (9 to 5) ∷ (4 to 0) ∷ [])
    (λ k. of_six (λ msz zm xs pg rn zt. (is_halfword_or_word msz, ScatterSxScaled msz zm (xs == 1) pg rn zt)))

-- `st1 {Zt.d}, Pg, [Xn|SP, Zm.d, uxtw]`
unfoldable pub scatter_dx : Line SveForm
scatter_dx = line_of (0xE4008000 ∷ []) ((24 to 23) ∷ (20 to 16) ∷ (14 to 14) ∷ (12 to 10) ∷ (9 to 5) ∷ (4 to 0) ∷ [])
    (λ k. of_six (λ msz zm xs pg rn zt. ScatterDx msz zm (xs == 1) pg rn zt))

-- `st1 {Zt.d}, Pg, [Xn|SP, Zm.d, uxtw #s]`
unfoldable pub scatter_dx_scaled : Line SveForm
scatter_dx_scaled =
    line_if (0xE4208000 ∷ []) ((24 to 23) ∷ (20 to 16) ∷ (14 to 14) ∷ (12 to 10) ∷ (9 to 5) ∷ (4 to 0) ∷ [])
    (λ k. of_six (λ msz zm xs pg rn zt. (is_no_byte msz, ScatterDxScaled msz zm (xs == 1) pg rn zt)))

-- `st1 {Zt.d}, Pg, [Xn|SP, Zm.d]`
unfoldable pub scatter_d : Line SveForm
scatter_d = line_of (0xE400A000 ∷ []) ((24 to 23) ∷ (20 to 16) ∷ (12 to 10) ∷ (9 to 5) ∷ (4 to 0) ∷ [])
    (λ k. of_five (λ msz zm pg rn zt. ScatterD msz zm pg rn zt))

-- `st1 {Zt.d}, Pg, [Xn|SP, Zm.d, lsl #s]`
unfoldable pub scatter_d_scaled : Line SveForm
scatter_d_scaled = line_if (0xE420A000 ∷ []) ((24 to 23) ∷ (20 to 16) ∷ (12 to 10) ∷ (9 to 5) ∷ (4 to 0) ∷ [])
    (λ k. of_five (λ msz zm pg rn zt. (is_no_byte msz, ScatterDScaled msz zm pg rn zt)))

-- `st1 {Zt.s}, Pg, [Zn.s{, #0}]`
unfoldable pub scatter_sv : Line SveForm
scatter_sv = line_if (0xE460A000 ∷ []) ((24 to 23) ∷ (20 to 16) ∷ (12 to 10) ∷ (9 to 5) ∷ (4 to 0) ∷ [])
    (λ k. of_five (λ msz imm5 pg zn zt. (is_no_doubleword msz, ScatterSv msz imm5 pg zn zt)))

-- `st1 {Zt.d}, Pg, [Zn.d{, #0}]`
unfoldable pub scatter_dv : Line SveForm
scatter_dv = line_of (0xE440A000 ∷ []) ((24 to 23) ∷ (20 to 16) ∷ (12 to 10) ∷ (9 to 5) ∷ (4 to 0) ∷ [])
    (λ k. of_five (λ msz imm5 pg zn zt. ScatterDv msz imm5 pg zn zt))
