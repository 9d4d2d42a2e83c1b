-- The table's lines of bit moves. From the Arm Architecture Reference Manual for A-profile (DDI 0487), C4 'A64
-- Instruction Set Encoding', 'Data Processing -- Scalar Floating-Point and Advanced SIMD', and the encodings of the
-- entries FMOV (general), MOVI and MVNI of C7.2. A line's rows, its fields' order and its number are this project's
-- own.
use Rattle.std.specs.Prelude.{◌==◌, ℕ, Bool, [], ◌∷◌}
use Rattle.emu_bits.specs.Rows.{◌to◌, Line, is_among, line_of, line_if, of_two, of_six}
use Rattle.a64_insn.specs.declared.form.A64Form.{A64Form}
use Rattle.a64_insn.specs.declared.form.A64Form.TheVariants.{FMove, MoveImm}
use Rattle.a64_insn.specs.Names.{f_move_named}

-- `fmov Wd, Sn`, `Sd, Wn`, `Xd, Dn`, `Dd, Xn`
unfoldable pub f_move : Line A64Form
f_move = line_of (0x1E260000 ∷ 0x1E270000 ∷ 0x9E660000 ∷ 0x9E670000 ∷ []) ((9 to 5) ∷ (4 to 0) ∷ [])
    (λ k. of_two (λ rn rd. FMove (f_move_named k) rn rd))

-- cmode places the byte in 32 bits (0, 2, 4, 6), in 16 bits (8, 10), with ones below it (12, 13), or spreads it (14)
unfoldable pub move_imm_holds_for : ℕ → Bool
move_imm_holds_for cmode = is_among cmode (0 ∷ 2 ∷ 4 ∷ 6 ∷ 8 ∷ 10 ∷ 12 ∷ 13 ∷ 14 ∷ [])

-- `movi`, `mvni`
unfoldable pub move_imm : Line A64Form
move_imm = line_if (0x0F000400 ∷ []) ((30 to 30) ∷ (29 to 29) ∷ (18 to 16) ∷ (15 to 12) ∷ (9 to 5) ∷ (4 to 0) ∷ [])
    (λ k. of_six (λ q op abc cmode defgh rd. (move_imm_holds_for cmode, MoveImm (q == 1) (op == 1) abc cmode defgh rd)))
