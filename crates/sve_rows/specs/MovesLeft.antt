-- The lines that are left where some bits of a word are known, as the decoder looks at them.
use Rattle.std.specs.Prelude.{List, [], ◌∷◌}
use Rattle.emu_bits.specs.Rows.{Line}
use Rattle.sve_insn.specs.declared.form.SveForm.{SveForm}
use Rattle.sve_insn.specs.Lanes.{select_z}
use Rattle.sve_insn.specs.Folds.{dup_reg, dup_lane, insert_scalar, rev_z, unpack, table_lookup, interleave, interleave_p, unpack_p, rev_p, compact, splice, ext, copy_reg, last_active, cond_last}

-- bit 21 is 1: permutes and selections
abbrev pub permutes_and_selections : List (Line SveForm)
permutes_and_selections = select_z ∷ dup_reg ∷ dup_lane ∷ insert_scalar ∷ rev_z ∷ unpack ∷ table_lookup ∷ interleave ∷ interleave_p ∷ unpack_p ∷ rev_p ∷ compact ∷ splice ∷ ext ∷ copy_reg ∷ last_active ∷ cond_last ∷ []

-- of the permutes, bits 15 to 14 are 00: moves of lanes without a predicate
abbrev pub lane_moves : List (Line SveForm)
lane_moves = dup_reg ∷ dup_lane ∷ insert_scalar ∷ rev_z ∷ unpack ∷ table_lookup ∷ ext ∷ []
