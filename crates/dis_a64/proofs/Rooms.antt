-- The patterns of a form's lines are those of its line in the table, and their texts have 96 bytes at most.
use Rattle.std.proofs.Common.{◌≡◌, true, refl, ap, ◌∙◌}
use Rattle.std.proofs.lemmas.List.{append-nil}
use Rattle.a64_insn.specs.declared.form.A64Form.{A64Form}
use Rattle.a64_insn.specs.declared.form.A64Form.TheVariants.{LsReg}
use Rattle.asm_a64.specs.Data.{data_lines}
use Rattle.asm_a64.specs.Flow.{flow_lines}
use Rattle.asm_a64.specs.Memory.{memory_lines, ls_reg_texts, ls_reg_lines}
use Rattle.asm_a64.specs.BitMoves.{last_lines}
use Rattle.asm_a64.specs.Table.{line_texts, a64_lines}
use Rattle.asm_a64.specs.Opened.{texts_open}
use Rattle.asm_a64.specs.Law.{texts_of}
use Rattle.a64_insn.specs.Rows.{line_number}
use Rattle.text_model.specs.Words.{dictionary}
use Rattle.text_print.specs.Lines.{some_lines}
use Rattle.text_print.specs.Room.{longest, all_have_room, all_lines_have_room}
use Rattle.text_print.proofs.Chosen.{line_room}
use Rattle.dis_a64.specs.Lines.{first_line, line_count}

pub lines_are : (f : A64Form) → some_lines (first_line (line_number f)) (line_count (line_number f)) a64_lines ≡ texts_of f
unfolding a64_lines data_lines flow_lines memory_lines last_lines line_texts ls_reg_texts ls_reg_lines
lines_are (LsReg size v opc rm ext s rn rt) = refl
lines_are f = append-nil _

all_rooms : all_lines_have_room line_texts ≡ true
unfolding texts_open line_texts longest dictionary
all_rooms = refl

pub room : (f : A64Form) → all_have_room (some_lines (first_line (line_number f)) (line_count (line_number f)) a64_lines) ≡ true
room f = ap all_have_room (lines_are f) ∙ line_room line_texts (line_number f) all_rooms
