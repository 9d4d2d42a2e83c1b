-- The lines that are left where some bits of a word are known, as the decoder looks at them.
use Rattle.std.specs.Prelude.{List, [], ◌∷◌}
use Rattle.emu_bits.specs.Rows.{Line}
use Rattle.a64_insn.specs.declared.form.A64Form.{A64Form}
use Rattle.a64_insn.specs.Data.{add_carry, cond_reg, cond_imm, select, two_source, one_source, rev}
use Rattle.a64_insn.specs.BitMoves.{f_move}

-- of these, bits 25 to 24 are 10
abbrev pub lines_11_10 : List (Line A64Form)
lines_11_10 = add_carry ∷ cond_reg ∷ cond_imm ∷ select ∷ two_source ∷ one_source ∷ rev ∷ f_move ∷ []
