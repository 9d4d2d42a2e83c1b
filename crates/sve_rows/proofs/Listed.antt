-- Each form's line stands in the table at the form's number.
use Rattle.std.proofs.Common.{◌≡◌, refl, Some, ◌<◌, arith}
use Rattle.emu_bits.specs.RowLaws.{line_at}
use Rattle.sve_insn.specs.declared.form.SveForm.{SveForm}
use Rattle.sve_insn.specs.declared.form.SveForm.TheVariants.{LoadZ}
use Rattle.sve_insn.specs.declared.lines.TheConstants.{LINES}
use Rattle.sve_insn.specs.Table.{sve_table, memory_lines, data_lines, move_lines, predicate_lines}
use Rattle.sve_insn.specs.Rows.{row_of, line_number}

pub listed : (f : SveForm) → line_at sve_table (line_number f) ≡ Some (row_of f).line
unfolding sve_table memory_lines data_lines move_lines predicate_lines
listed (LoadZ imm9h imm9l rn zt) = refl
listed _ = refl

pub is_listed : (f : SveForm) → line_number f < LINES
is_listed (LoadZ imm9h imm9l rn zt) = omega arith
is_listed _ = omega arith
