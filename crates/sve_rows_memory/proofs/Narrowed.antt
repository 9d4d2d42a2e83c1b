-- Which lines are left where some bits of a word are known.
use Rattle.sve_insn.specs.Table.{memory_lines}
use Rattle.sve_insn.specs.Opened.{lines_open}
use Rattle.std.proofs.Common.{◌≡◌, ℕ, refl, [], ◌∷◌, ◌∙◌}
use Rattle.emu_bits.specs.Fields.{field}
use Rattle.emu_bits.specs.Rows.{◌to◌, decode, row_in}
use Rattle.emu_bits.proofs.Computed.{IsNoneOf}
use Rattle.emu_bits.proofs.Encoding.{narrow_field, narrow_others, or_none}
use Rattle.sve_insn.specs.Memory.{load_z, load_p, store_z, gather_sx, gather_sx_scaled, store_reg, load_imm, load_reg, load_ff, load_nf, load_nt_imm, load_nt_reg, load_quad_imm, load_quad_reg, load_many_imm, load_many_reg, load_one, store_imm, store_nt_imm, store_nt_reg, store_many_imm, store_many_reg, store_p, gather_dx, gather_dx_scaled, gather_d, gather_d_scaled, gather_sv, gather_dv, scatter_sx, scatter_sx_scaled, scatter_dx, scatter_dx_scaled, scatter_d, scatter_d_scaled, scatter_sv, scatter_dv}
use Rattle.sve_rows_memory.specs.Left.{contiguous_loads, all_stores, scatters_and_immediate_stores, plain_scatters_and_immediate_stores}

pub find_memory_at_0 : (w : ℕ) → field w 29 2 ≡ 0 → decode memory_lines w ≡ decode (load_z ∷ load_p ∷ gather_sx ∷ gather_sx_scaled ∷ load_one ∷ gather_sv ∷ []) w
unfolding lines_open
find_memory_at_0 w e = narrow_field (30 to 29) 0 memory_lines w refl e

pub words_of_contiguous_loads_at_0 : (w : ℕ) → field w 13 3 ≡ 0 → decode contiguous_loads w ≡ row_in load_quad_reg w
unfolding lines_open
words_of_contiguous_loads_at_0 w e = narrow_field (15 to 13) 0 contiguous_loads w refl e ∙ or_none (row_in load_quad_reg w)

pub words_of_contiguous_loads_at_1 : (w : ℕ) → field w 13 3 ≡ 1 → decode contiguous_loads w ≡ row_in load_quad_imm w
unfolding lines_open
words_of_contiguous_loads_at_1 w e = narrow_field (15 to 13) 1 contiguous_loads w refl e ∙ or_none (row_in load_quad_imm w)

pub words_of_contiguous_loads_at_2 : (w : ℕ) → field w 13 3 ≡ 2 → decode contiguous_loads w ≡ row_in load_reg w
unfolding lines_open
words_of_contiguous_loads_at_2 w e = narrow_field (15 to 13) 2 contiguous_loads w refl e ∙ or_none (row_in load_reg w)

pub words_of_contiguous_loads_at_3 : (w : ℕ) → field w 13 3 ≡ 3 → decode contiguous_loads w ≡ row_in load_ff w
unfolding lines_open
words_of_contiguous_loads_at_3 w e = narrow_field (15 to 13) 3 contiguous_loads w refl e ∙ or_none (row_in load_ff w)

pub words_of_contiguous_loads_at_5 : (w : ℕ) → field w 13 3 ≡ 5 → decode contiguous_loads w ≡ decode (load_imm ∷ load_nf ∷ []) w
unfolding lines_open
words_of_contiguous_loads_at_5 w e = narrow_field (15 to 13) 5 contiguous_loads w refl e

pub words_of_contiguous_loads_at_others : (w : ℕ) → IsNoneOf (field w 13 3) (0 ∷ 1 ∷ 2 ∷ 3 ∷ 5 ∷ []) → decode contiguous_loads w ≡ decode (load_nt_imm ∷ load_nt_reg ∷ load_many_imm ∷ load_many_reg ∷ []) w
unfolding lines_open
words_of_contiguous_loads_at_others w n = narrow_others (15 to 13) (0 ∷ 1 ∷ 2 ∷ 3 ∷ 5 ∷ []) contiguous_loads w refl n

pub find_memory_at_1 : (w : ℕ) → field w 29 2 ≡ 1 → decode memory_lines w ≡ decode contiguous_loads w
unfolding lines_open
find_memory_at_1 w e = narrow_field (30 to 29) 1 memory_lines w refl e

pub find_memory_at_2 : (w : ℕ) → field w 29 2 ≡ 2 → decode memory_lines w ≡ decode (gather_dx ∷ gather_dx_scaled ∷ gather_d ∷ gather_d_scaled ∷ gather_dv ∷ []) w
unfolding lines_open
find_memory_at_2 w e = narrow_field (30 to 29) 2 memory_lines w refl e

pub words_of_stores_at_0 : (w : ℕ) → field w 15 1 ≡ 0 → decode all_stores w ≡ decode (store_z ∷ store_reg ∷ store_nt_reg ∷ store_many_reg ∷ store_p ∷ []) w
unfolding lines_open
words_of_stores_at_0 w e = narrow_field (15 to 15) 0 all_stores w refl e

pub words_of_scatters_and_immediate_stores_at_0 : (w : ℕ) → field w 13 1 ≡ 0 → decode scatters_and_immediate_stores w ≡ decode (scatter_sx ∷ scatter_sx_scaled ∷ scatter_dx ∷ scatter_dx_scaled ∷ []) w
unfolding lines_open
words_of_scatters_and_immediate_stores_at_0 w e = narrow_field (13 to 13) 0 scatters_and_immediate_stores w refl e

pub words_of_plain_scatters_and_immediate_stores_at_0 : (w : ℕ) → field w 14 1 ≡ 0 → decode plain_scatters_and_immediate_stores w ≡ decode (scatter_d ∷ scatter_d_scaled ∷ scatter_sv ∷ scatter_dv ∷ []) w
unfolding store_imm store_nt_imm store_many_imm scatter_d scatter_d_scaled scatter_sv scatter_dv
words_of_plain_scatters_and_immediate_stores_at_0 w e = narrow_field (14 to 14) 0 plain_scatters_and_immediate_stores w refl e

pub words_of_plain_scatters_and_immediate_stores_at_others : (w : ℕ) → IsNoneOf (field w 14 1) (0 ∷ []) → decode plain_scatters_and_immediate_stores w ≡ decode (store_imm ∷ store_nt_imm ∷ store_many_imm ∷ []) w
unfolding store_imm store_nt_imm store_many_imm scatter_d scatter_d_scaled scatter_sv scatter_dv
words_of_plain_scatters_and_immediate_stores_at_others w n = narrow_others (14 to 14) (0 ∷ []) plain_scatters_and_immediate_stores w refl n

pub words_of_scatters_and_immediate_stores_at_others : (w : ℕ) → IsNoneOf (field w 13 1) (0 ∷ []) → decode scatters_and_immediate_stores w ≡ decode plain_scatters_and_immediate_stores w
unfolding lines_open
words_of_scatters_and_immediate_stores_at_others w n = narrow_others (13 to 13) (0 ∷ []) scatters_and_immediate_stores w refl n

pub words_of_stores_at_others : (w : ℕ) → IsNoneOf (field w 15 1) (0 ∷ []) → decode all_stores w ≡ decode scatters_and_immediate_stores w
unfolding lines_open
words_of_stores_at_others w n = narrow_others (15 to 15) (0 ∷ []) all_stores w refl n

pub find_memory_at_others : (w : ℕ) → IsNoneOf (field w 29 2) (0 ∷ 1 ∷ 2 ∷ []) → decode memory_lines w ≡ decode all_stores w
unfolding lines_open
find_memory_at_others w n = narrow_others (30 to 29) (0 ∷ 1 ∷ 2 ∷ []) memory_lines w refl n
