-- The lines that are left where some bits of a word are known, as the decoder looks at them.
use Rattle.std.specs.Prelude.{List, [], ◌∷◌}
use Rattle.emu_bits.specs.Rows.{Line}
use Rattle.sve_insn.specs.declared.form.SveForm.{SveForm}
use Rattle.sve_insn.specs.Memory.{store_z, store_reg, load_imm, load_reg, load_ff, load_nf, load_nt_imm, load_nt_reg, load_quad_imm, load_quad_reg, load_many_imm, load_many_reg, store_imm, store_nt_imm, store_nt_reg, store_many_imm, store_many_reg, store_p, scatter_sx, scatter_sx_scaled, scatter_dx, scatter_dx_scaled, scatter_d, scatter_d_scaled, scatter_sv, scatter_dv}

-- bits 30 to 29 are 01: contiguous loads
abbrev pub contiguous_loads : List (Line SveForm)
contiguous_loads = load_imm ∷ load_reg ∷ load_ff ∷ load_nf ∷ load_nt_imm ∷ load_nt_reg ∷ load_quad_imm ∷ load_quad_reg ∷ load_many_imm ∷ load_many_reg ∷ []

-- bits 30 to 29 are 11: stores
abbrev pub all_stores : List (Line SveForm)
all_stores = store_z ∷ store_reg ∷ store_imm ∷ store_nt_imm ∷ store_nt_reg ∷ store_many_imm ∷ store_many_reg ∷ store_p ∷ scatter_sx ∷ scatter_sx_scaled ∷ scatter_dx ∷ scatter_dx_scaled ∷ scatter_d ∷ scatter_d_scaled ∷ scatter_sv ∷ scatter_dv ∷ []

-- of the stores, bit 15 is 1: scatters, and stores at an immediate offset
abbrev pub scatters_and_immediate_stores : List (Line SveForm)
scatters_and_immediate_stores = store_imm ∷ store_nt_imm ∷ store_many_imm ∷ scatter_sx ∷ scatter_sx_scaled ∷ scatter_dx ∷ scatter_dx_scaled ∷ scatter_d ∷ scatter_d_scaled ∷ scatter_sv ∷ scatter_dv ∷ []

-- of these, bit 13 is 1: scatters at 64-bit offsets or at the addresses of a vector, and stores at an immediate offset
abbrev pub plain_scatters_and_immediate_stores : List (Line SveForm)
plain_scatters_and_immediate_stores = store_imm ∷ store_nt_imm ∷ store_many_imm ∷ scatter_d ∷ scatter_d_scaled ∷ scatter_sv ∷ scatter_dv ∷ []
