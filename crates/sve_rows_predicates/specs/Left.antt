-- The lines that are left where some bits of a word are known, as the decoder looks at them.
use Rattle.std.specs.Prelude.{List, [], ◌∷◌}
use Rattle.emu_bits.specs.Rows.{Line}
use Rattle.sve_insn.specs.declared.form.SveForm.{SveForm}
use Rattle.sve_insn.specs.Lanes.{wide_imm, min_max_imm, dup_imm}
use Rattle.sve_insn.specs.Predicates.{cmp_s_imm, logic_p, select_p, break_first, break_pair, break_next, ptest, first_active, next_active, ptrue, pfalse, read_ffr, read_ffr_all, write_ffr, count_p, inc_p, inc_p_z, while_compare, cterm}

-- bit 24 is 1: all but compares of vectors and with an unsigned immediate
abbrev pub predicates_and_immediates : List (Line SveForm)
predicates_and_immediates = cmp_s_imm ∷ logic_p ∷ select_p ∷ break_first ∷ break_pair ∷ break_next ∷ ptest ∷ first_active ∷ next_active ∷ ptrue ∷ pfalse ∷ read_ffr ∷ read_ffr_all ∷ write_ffr ∷ count_p ∷ inc_p ∷ inc_p_z ∷ while_compare ∷ cterm ∷ wide_imm ∷ min_max_imm ∷ dup_imm ∷ []

-- of these, bit 21 is 0: compares with a signed immediate, and operations on predicates
abbrev pub signed_compares_and_predicates : List (Line SveForm)
signed_compares_and_predicates = cmp_s_imm ∷ logic_p ∷ select_p ∷ break_first ∷ break_pair ∷ break_next ∷ ptest ∷ first_active ∷ next_active ∷ ptrue ∷ pfalse ∷ read_ffr ∷ read_ffr_all ∷ []

-- of these, bits 15 to 14 are 11: breaks of pairs, and operations on one predicate
abbrev pub pairs_and_single_predicates : List (Line SveForm)
pairs_and_single_predicates = break_pair ∷ ptest ∷ first_active ∷ next_active ∷ ptrue ∷ pfalse ∷ read_ffr ∷ read_ffr_all ∷ []

-- of these, bit 20 is 1: operations on one predicate
abbrev pub single_predicates : List (Line SveForm)
single_predicates = ptest ∷ first_active ∷ next_active ∷ ptrue ∷ pfalse ∷ read_ffr ∷ read_ffr_all ∷ []

-- of these, bit 21 is 1: compares of general registers, counts of predicates, and operations with an immediate
abbrev pub counts_and_immediates : List (Line SveForm)
counts_and_immediates = write_ffr ∷ count_p ∷ inc_p ∷ inc_p_z ∷ while_compare ∷ cterm ∷ wide_imm ∷ min_max_imm ∷ dup_imm ∷ []
