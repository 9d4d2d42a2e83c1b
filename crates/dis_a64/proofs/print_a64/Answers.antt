use Rattle.std.proofs.Common.{◌≡◌, ℕ, List, ap, ap₂, ◌∙◌}
use Rattle.a64_insn.specs.declared.form.A64Form.{A64Form}
use Rattle.a64_insn.specs.Rows.{line_number}
use Rattle.asm_a64.specs.Table.{a64_lines}
use Rattle.asm_a64.proofs.Legible.{lines_sound}
use Rattle.text_model.specs.Reading.{Pattern}
use Rattle.text_model.specs.Text.{text_of}
use Rattle.text_print.specs.Lines.{some_lines}
use Rattle.text_print.specs.Room.{all_have_room}
use Rattle.dis_a64.specs.Lines.{first_line, line_count}
use Rattle.dis_a64.proofs.Rooms.{lines_are, room}
use Rattle.dis_a64.proofs.print_a64.Goals as goal

-- the lines that the code looks at, where it has the form's number
lines_by : (f : A64Form) (n a b : ℕ) → n ≡ line_number f → a ≡ first_line n → b ≡ line_count n → some_lines a b a64_lines ≡ some_lines (first_line (line_number f)) (line_count (line_number f)) a64_lines
lines_by f n a b e p q = ap₂ (λ (x y : ℕ). some_lines x y a64_lines) (p ∙ ap first_line e) (q ∙ ap line_count e)

pub print_word-requires-clause-sound : goal.print_word-requires-clause-sound
print_word-requires-clause-sound c = lines_sound

pub print_word-requires-clause-room : goal.print_word-requires-clause-room
print_word-requires-clause-room c =
    let n : c.line_number-number.result ≡ line_number c.args.i.now = c.line_number-number.ensures.number ∙ ap line_number c.form.ensures.form in
    ap all_have_room (lines_by c.args.i.now c.line_number-number.result c.first_line-first.result c.line_count-count.result n c.first_line-first.ensures.value c.line_count-count.ensures.value)
    ∙ room c.args.i.now

pub returns : goal.returns
returns c =
    let n : c.line_number-number.result ≡ line_number c.args.i.now = c.line_number-number.ensures.number ∙ ap line_number c.form.ensures.form in
    c.print_word.ensures
    ∙ ap₂ (λ (ps : List Pattern) (w : ℕ). text_of ps w c.args.pc)
    (lines_by c.args.i.now c.line_number-number.result c.first_line-first.result c.line_count-count.result n c.first_line-first.ensures.value c.line_count-count.ensures.value ∙ lines_are c.args.i.now)
    c.encode_a64-word.ensures.table
