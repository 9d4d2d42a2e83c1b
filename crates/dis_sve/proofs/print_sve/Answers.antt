use Rattle.std.proofs.Common.{◌≡◌, ℕ, List, [], get_or, ap, ap₂, ◌∙◌}
use Rattle.sve_insn.specs.Rows.{line_number}
use Rattle.asm_sve.specs.Table.{sve_lines}
use Rattle.asm_sve.proofs.Checked.{lines_sound}
use Rattle.text_model.specs.Reading.{Pattern}
use Rattle.text_model.specs.Text.{text_of}
use Rattle.dis_sve.proofs.Rooms.{one_line, room}
use Rattle.dis_sve.proofs.print_sve.Goals as goal

pub print_word-requires-clause-sound : goal.print_word-requires-clause-sound
print_word-requires-clause-sound c = lines_sound

pub print_word-requires-clause-room : goal.print_word-requires-clause-room
print_word-requires-clause-room c = room c.line_number-number.result

pub returns : goal.returns
returns c =
    let n : c.line_number-number.result ≡ line_number c.args.i.now = c.line_number-number.ensures ∙ ap line_number c.form.ensures.form in
    c.print_word.ensures
    ∙ ap₂ (λ (ps : List Pattern) (w : ℕ). text_of ps w 0) (one_line c.line_number-number.result ∙ ap (λ (k : ℕ). get_or sve_lines k []) n) c.encode_sve-word.ensures.table
