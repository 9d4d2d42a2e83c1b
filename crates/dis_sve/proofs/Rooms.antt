-- The text of each line's patterns has 96 bytes at most.
use Rattle.asm_sve.specs.Table.{sve_lines}
use Rattle.asm_sve.specs.Opened.{texts_open}
use Rattle.std.proofs.Common.{◌≡◌, ℕ, [], true, get_or, refl, ap, ◌∙◌}
use Rattle.std.proofs.lemmas.List.{append-nil}
use Rattle.text_model.specs.Words.{dictionary}
use Rattle.text_print.specs.Lines.{some_lines}
use Rattle.text_print.specs.Room.{longest, all_have_room, all_lines_have_room}
use Rattle.text_print.proofs.Chosen.{next_line, line_room}

all_rooms : all_lines_have_room sve_lines ≡ true
unfolding texts_open longest dictionary
all_rooms = refl

pub one_line : (k : ℕ) → some_lines k 1 sve_lines ≡ get_or sve_lines k []
one_line k = next_line sve_lines k 0 ∙ append-nil (get_or sve_lines k [])

pub line_has_room : (k : ℕ) → all_have_room (get_or sve_lines k []) ≡ true
line_has_room k = line_room sve_lines k all_rooms

pub room : (k : ℕ) → all_have_room (some_lines k 1 sve_lines) ≡ true
room k = ap all_have_room (one_line k) ∙ line_has_room k
