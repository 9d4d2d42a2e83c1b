-- Which lines are left where some bits of a word are known.
use Rattle.std.proofs.Common.{◌≡◌, ℕ, refl, sym, None, [], ◌∷◌, ◌∙◌}
use Rattle.emu_bits.specs.Fields.{field}
use Rattle.emu_bits.specs.Rows.{◌to◌, decode, row_in}
use Rattle.emu_bits.proofs.Computed.{IsNoneOf}
use Rattle.emu_bits.proofs.Encoding.{narrow_field, narrow_others, or_none}
use Rattle.a64_insn.specs.Table.{a64_table}
use Rattle.a64_insn.specs.Opened.{lines_open}
use Rattle.a64_insn.specs.Data.{adr, add_imm, logic_imm, move_wide, bitfield, extract, logic_reg, add_reg, add_ext, add_carry, cond_reg, cond_imm, select, mul_add, mul_long, mul_high, two_source, one_source, rev}
use Rattle.a64_insn.specs.Flow.{branch, branch_cond, compare, test_branch, branch_reg, except, hint, barrier, read_sys, write_sys}
use Rattle.a64_insn.specs.Memory.{ls_unsigned, ls_unscaled, ls_post, ls_pre, ls_reg, ls_literal, pair, store_ex, load_ex, ordered, atomic, compare_swap}
use Rattle.a64_insn.specs.BitMoves.{f_move, move_imm}
use Rattle.a64_rows.specs.Left.{lines_11_10}

pub find_at_8 : (w : ℕ) → field w 24 5 ≡ 8 → decode a64_table w ≡ decode (pair ∷ store_ex ∷ load_ex ∷ ordered ∷ compare_swap ∷ []) w
unfolding lines_open a64_table
find_at_8 w e = narrow_field (28 to 24) 8 a64_table w refl e

pub find_at_9 : (w : ℕ) → field w 24 5 ≡ 9 → decode a64_table w ≡ row_in pair w
unfolding lines_open a64_table
find_at_9 w e = narrow_field (28 to 24) 9 a64_table w refl e ∙ or_none (row_in pair w)

pub find_at_10 : (w : ℕ) → field w 24 5 ≡ 10 → decode a64_table w ≡ row_in logic_reg w
unfolding lines_open a64_table
find_at_10 w e = narrow_field (28 to 24) 10 a64_table w refl e ∙ or_none (row_in logic_reg w)

pub find_at_11 : (w : ℕ) → field w 24 5 ≡ 11 → decode a64_table w ≡ decode (add_reg ∷ add_ext ∷ []) w
unfolding lines_open a64_table
find_at_11 w e = narrow_field (28 to 24) 11 a64_table w refl e

pub find_at_12 : (w : ℕ) → field w 24 5 ≡ 12 → decode a64_table w ≡ decode (pair ∷ store_ex ∷ load_ex ∷ ordered ∷ compare_swap ∷ []) w
unfolding lines_open a64_table
find_at_12 w e = narrow_field (28 to 24) 12 a64_table w refl e ∙ sym (narrow_field (28 to 24) 12 (pair ∷ store_ex ∷ load_ex ∷ ordered ∷ compare_swap ∷ []) w refl e)

pub find_at_13 : (w : ℕ) → field w 24 5 ≡ 13 → decode a64_table w ≡ row_in pair w
unfolding lines_open a64_table
find_at_13 w e = narrow_field (28 to 24) 13 a64_table w refl e ∙ or_none (row_in pair w)

pub find_at_14 : (w : ℕ) → field w 24 5 ≡ 14 → decode a64_table w ≡ None
unfolding lines_open a64_table
find_at_14 w e = narrow_field (28 to 24) 14 a64_table w refl e

pub find_at_15 : (w : ℕ) → field w 24 5 ≡ 15 → decode a64_table w ≡ row_in move_imm w
unfolding lines_open a64_table
find_at_15 w e = narrow_field (28 to 24) 15 a64_table w refl e ∙ or_none (row_in move_imm w)

pub find_at_16 : (w : ℕ) → field w 24 5 ≡ 16 → decode a64_table w ≡ row_in adr w
unfolding lines_open a64_table
find_at_16 w e = narrow_field (28 to 24) 16 a64_table w refl e ∙ or_none (row_in adr w)

pub find_at_17 : (w : ℕ) → field w 24 5 ≡ 17 → decode a64_table w ≡ row_in add_imm w
unfolding lines_open a64_table
find_at_17 w e = narrow_field (28 to 24) 17 a64_table w refl e ∙ or_none (row_in add_imm w)

pub find_at_18 : (w : ℕ) → field w 24 5 ≡ 18 → decode a64_table w ≡ decode (logic_imm ∷ move_wide ∷ []) w
unfolding lines_open a64_table
find_at_18 w e = narrow_field (28 to 24) 18 a64_table w refl e

pub find_at_19 : (w : ℕ) → field w 24 5 ≡ 19 → decode a64_table w ≡ decode (bitfield ∷ extract ∷ []) w
unfolding lines_open a64_table
find_at_19 w e = narrow_field (28 to 24) 19 a64_table w refl e

pub find_at_20 : (w : ℕ) → field w 24 5 ≡ 20 → decode a64_table w ≡ decode (branch ∷ branch_cond ∷ compare ∷ except ∷ []) w
unfolding lines_open a64_table
find_at_20 w e = narrow_field (28 to 24) 20 a64_table w refl e

pub find_at_21 : (w : ℕ) → field w 24 5 ≡ 21 → decode a64_table w ≡ decode (branch ∷ compare ∷ hint ∷ barrier ∷ read_sys ∷ write_sys ∷ []) w
unfolding lines_open a64_table
find_at_21 w e = narrow_field (28 to 24) 21 a64_table w refl e

pub find_at_22 : (w : ℕ) → field w 24 5 ≡ 22 → decode a64_table w ≡ decode (branch ∷ test_branch ∷ branch_reg ∷ []) w
unfolding lines_open a64_table
find_at_22 w e = narrow_field (28 to 24) 22 a64_table w refl e

pub find_at_23 : (w : ℕ) → field w 24 5 ≡ 23 → decode a64_table w ≡ decode (branch ∷ test_branch ∷ []) w
unfolding lines_open a64_table
find_at_23 w e = narrow_field (28 to 24) 23 a64_table w refl e

pub find_at_24 : (w : ℕ) → field w 24 5 ≡ 24 → decode a64_table w ≡ decode (ls_unscaled ∷ ls_post ∷ ls_pre ∷ ls_reg ∷ ls_literal ∷ atomic ∷ []) w
unfolding lines_open a64_table
find_at_24 w e = narrow_field (28 to 24) 24 a64_table w refl e

pub find_at_25 : (w : ℕ) → field w 24 5 ≡ 25 → decode a64_table w ≡ row_in ls_unsigned w
unfolding lines_open a64_table
find_at_25 w e = narrow_field (28 to 24) 25 a64_table w refl e ∙ or_none (row_in ls_unsigned w)

pub find_at_26 : (w : ℕ) → field w 24 5 ≡ 26 → decode a64_table w ≡ decode lines_11_10 w
unfolding lines_open a64_table
find_at_26 w e = narrow_field (28 to 24) 26 a64_table w refl e ∙ sym (narrow_field (28 to 24) 26 lines_11_10 w refl e)

pub find_at_27 : (w : ℕ) → field w 24 5 ≡ 27 → decode a64_table w ≡ decode (mul_add ∷ mul_long ∷ mul_high ∷ []) w
unfolding lines_open a64_table
find_at_27 w e = narrow_field (28 to 24) 27 a64_table w refl e

pub find_at_28 : (w : ℕ) → field w 24 5 ≡ 28 → decode a64_table w ≡ decode (ls_unscaled ∷ ls_post ∷ ls_pre ∷ ls_reg ∷ ls_literal ∷ atomic ∷ []) w
unfolding lines_open a64_table
find_at_28 w e = narrow_field (28 to 24) 28 a64_table w refl e ∙ sym (narrow_field (28 to 24) 28 (ls_unscaled ∷ ls_post ∷ ls_pre ∷ ls_reg ∷ ls_literal ∷ atomic ∷ []) w refl e)

pub find_at_29 : (w : ℕ) → field w 24 5 ≡ 29 → decode a64_table w ≡ row_in ls_unsigned w
unfolding lines_open a64_table
find_at_29 w e = narrow_field (28 to 24) 29 a64_table w refl e ∙ or_none (row_in ls_unsigned w)

pub find_at_30 : (w : ℕ) → field w 24 5 ≡ 30 → decode a64_table w ≡ decode lines_11_10 w
unfolding lines_open a64_table
find_at_30 w e = narrow_field (28 to 24) 30 a64_table w refl e ∙ sym (narrow_field (28 to 24) 30 lines_11_10 w refl e)

pub find_at_31 : (w : ℕ) → field w 24 5 ≡ 31 → decode a64_table w ≡ None
unfolding lines_open a64_table
find_at_31 w e = narrow_field (28 to 24) 31 a64_table w refl e

pub find_at_others : (w : ℕ) → IsNoneOf (field w 27 2) (1 ∷ 2 ∷ 3 ∷ []) → decode a64_table w ≡ None
unfolding lines_open a64_table
find_at_others w n = narrow_others (28 to 27) (1 ∷ 2 ∷ 3 ∷ []) a64_table w refl n

pub words_10100_at_0 : (w : ℕ) → field w 29 2 ≡ 0 → decode (branch ∷ branch_cond ∷ compare ∷ except ∷ []) w ≡ row_in branch w
unfolding lines_open
words_10100_at_0 w e = narrow_field (30 to 29) 0 (branch ∷ branch_cond ∷ compare ∷ except ∷ []) w refl e ∙ or_none (row_in branch w)

pub words_10100_at_1 : (w : ℕ) → field w 29 2 ≡ 1 → decode (branch ∷ branch_cond ∷ compare ∷ except ∷ []) w ≡ row_in compare w
unfolding lines_open
words_10100_at_1 w e = narrow_field (30 to 29) 1 (branch ∷ branch_cond ∷ compare ∷ except ∷ []) w refl e ∙ or_none (row_in compare w)

pub words_10100_at_2 : (w : ℕ) → field w 29 2 ≡ 2 → decode (branch ∷ branch_cond ∷ compare ∷ except ∷ []) w ≡ decode (branch_cond ∷ except ∷ []) w
unfolding lines_open
words_10100_at_2 w e = narrow_field (30 to 29) 2 (branch ∷ branch_cond ∷ compare ∷ except ∷ []) w refl e

pub words_10100_at_others : (w : ℕ) → IsNoneOf (field w 29 2) (0 ∷ 1 ∷ 2 ∷ []) → decode (branch ∷ branch_cond ∷ compare ∷ except ∷ []) w ≡ None
unfolding lines_open
words_10100_at_others w n = narrow_others (30 to 29) (0 ∷ 1 ∷ 2 ∷ []) (branch ∷ branch_cond ∷ compare ∷ except ∷ []) w refl n

pub words_10101_at_0 : (w : ℕ) → field w 29 2 ≡ 0 → decode (branch ∷ compare ∷ hint ∷ barrier ∷ read_sys ∷ write_sys ∷ []) w ≡ row_in branch w
unfolding lines_open
words_10101_at_0 w e = narrow_field (30 to 29) 0 (branch ∷ compare ∷ hint ∷ barrier ∷ read_sys ∷ write_sys ∷ []) w refl e ∙ or_none (row_in branch w)

pub words_10101_at_1 : (w : ℕ) → field w 29 2 ≡ 1 → decode (branch ∷ compare ∷ hint ∷ barrier ∷ read_sys ∷ write_sys ∷ []) w ≡ row_in compare w
unfolding lines_open
words_10101_at_1 w e = narrow_field (30 to 29) 1 (branch ∷ compare ∷ hint ∷ barrier ∷ read_sys ∷ write_sys ∷ []) w refl e ∙ or_none (row_in compare w)

pub words_10101_at_2 : (w : ℕ) → field w 29 2 ≡ 2 → decode (branch ∷ compare ∷ hint ∷ barrier ∷ read_sys ∷ write_sys ∷ []) w ≡ decode (hint ∷ barrier ∷ read_sys ∷ write_sys ∷ []) w
unfolding lines_open
words_10101_at_2 w e = narrow_field (30 to 29) 2 (branch ∷ compare ∷ hint ∷ barrier ∷ read_sys ∷ write_sys ∷ []) w refl e

pub words_10101_at_others : (w : ℕ) → IsNoneOf (field w 29 2) (0 ∷ 1 ∷ 2 ∷ []) → decode (branch ∷ compare ∷ hint ∷ barrier ∷ read_sys ∷ write_sys ∷ []) w ≡ None
unfolding lines_open
words_10101_at_others w n = narrow_others (30 to 29) (0 ∷ 1 ∷ 2 ∷ []) (branch ∷ compare ∷ hint ∷ barrier ∷ read_sys ∷ write_sys ∷ []) w refl n

pub words_10110_at_0 : (w : ℕ) → field w 29 2 ≡ 0 → decode (branch ∷ test_branch ∷ branch_reg ∷ []) w ≡ row_in branch w
unfolding branch test_branch branch_reg
words_10110_at_0 w e = narrow_field (30 to 29) 0 (branch ∷ test_branch ∷ branch_reg ∷ []) w refl e ∙ or_none (row_in branch w)

pub words_10110_at_1 : (w : ℕ) → field w 29 2 ≡ 1 → decode (branch ∷ test_branch ∷ branch_reg ∷ []) w ≡ row_in test_branch w
unfolding branch test_branch branch_reg
words_10110_at_1 w e = narrow_field (30 to 29) 1 (branch ∷ test_branch ∷ branch_reg ∷ []) w refl e ∙ or_none (row_in test_branch w)

pub words_10110_at_2 : (w : ℕ) → field w 29 2 ≡ 2 → decode (branch ∷ test_branch ∷ branch_reg ∷ []) w ≡ row_in branch_reg w
unfolding branch test_branch branch_reg
words_10110_at_2 w e = narrow_field (30 to 29) 2 (branch ∷ test_branch ∷ branch_reg ∷ []) w refl e ∙ or_none (row_in branch_reg w)

pub words_10110_at_others : (w : ℕ) → IsNoneOf (field w 29 2) (0 ∷ 1 ∷ 2 ∷ []) → decode (branch ∷ test_branch ∷ branch_reg ∷ []) w ≡ None
unfolding branch test_branch branch_reg
words_10110_at_others w n = narrow_others (30 to 29) (0 ∷ 1 ∷ 2 ∷ []) (branch ∷ test_branch ∷ branch_reg ∷ []) w refl n

pub words_10111_at_0 : (w : ℕ) → field w 29 2 ≡ 0 → decode (branch ∷ test_branch ∷ []) w ≡ row_in branch w
unfolding branch test_branch
words_10111_at_0 w e = narrow_field (30 to 29) 0 (branch ∷ test_branch ∷ []) w refl e ∙ or_none (row_in branch w)

pub words_10111_at_1 : (w : ℕ) → field w 29 2 ≡ 1 → decode (branch ∷ test_branch ∷ []) w ≡ row_in test_branch w
unfolding branch test_branch
words_10111_at_1 w e = narrow_field (30 to 29) 1 (branch ∷ test_branch ∷ []) w refl e ∙ or_none (row_in test_branch w)

pub words_10111_at_others : (w : ℕ) → IsNoneOf (field w 29 2) (0 ∷ 1 ∷ []) → decode (branch ∷ test_branch ∷ []) w ≡ None
unfolding branch test_branch
words_10111_at_others w n = narrow_others (30 to 29) (0 ∷ 1 ∷ []) (branch ∷ test_branch ∷ []) w refl n

pub words_11_10_at_0 : (w : ℕ) → field w 21 3 ≡ 0 → decode lines_11_10 w ≡ row_in add_carry w
unfolding lines_open
words_11_10_at_0 w e = narrow_field (23 to 21) 0 lines_11_10 w refl e ∙ or_none (row_in add_carry w)

pub words_11_10_at_1 : (w : ℕ) → field w 21 3 ≡ 1 → decode lines_11_10 w ≡ row_in f_move w
unfolding lines_open
words_11_10_at_1 w e = narrow_field (23 to 21) 1 lines_11_10 w refl e ∙ or_none (row_in f_move w)

pub words_11_10_at_2 : (w : ℕ) → field w 21 3 ≡ 2 → decode lines_11_10 w ≡ decode (cond_reg ∷ cond_imm ∷ []) w
unfolding lines_open
words_11_10_at_2 w e = narrow_field (23 to 21) 2 lines_11_10 w refl e

pub words_11_10_at_3 : (w : ℕ) → field w 21 3 ≡ 3 → decode lines_11_10 w ≡ row_in f_move w
unfolding lines_open
words_11_10_at_3 w e = narrow_field (23 to 21) 3 lines_11_10 w refl e ∙ or_none (row_in f_move w)

pub words_11_10_at_4 : (w : ℕ) → field w 21 3 ≡ 4 → decode lines_11_10 w ≡ row_in select w
unfolding lines_open
words_11_10_at_4 w e = narrow_field (23 to 21) 4 lines_11_10 w refl e ∙ or_none (row_in select w)

pub words_11_10_at_6 : (w : ℕ) → field w 21 3 ≡ 6 → decode lines_11_10 w ≡ decode (two_source ∷ one_source ∷ rev ∷ []) w
unfolding lines_open
words_11_10_at_6 w e = narrow_field (23 to 21) 6 lines_11_10 w refl e

pub words_11_10_at_others : (w : ℕ) → IsNoneOf (field w 21 3) (0 ∷ 1 ∷ 2 ∷ 3 ∷ 4 ∷ 6 ∷ []) → decode lines_11_10 w ≡ None
unfolding lines_open
words_11_10_at_others w n = narrow_others (23 to 21) (0 ∷ 1 ∷ 2 ∷ 3 ∷ 4 ∷ 6 ∷ []) lines_11_10 w refl n
