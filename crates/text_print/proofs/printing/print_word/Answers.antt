use Rattle.std.proofs.Common.{sym}
use Rattle.text_code.specs.Tables.{pattern_of}
use Rattle.text_print.specs.Lines.{some_lines}
use Rattle.text_print.proofs.Chosen.{some_sound, chosen_sound, chosen_room}
use Rattle.text_print.proofs.printing.print_word.Goals as goal

pub print-requires-clause-sound : goal.print-requires-clause-sound
print-requires-clause-sound g c =
    chosen_sound (some_lines c.args.first c.args.count (g.T.Table.lines c.args.table.now)) c.args.word (pattern_of c.in-Some.pattern.now)
    (some_sound (g.T.Table.lines c.args.table.now) c.args.first c.args.count c.requires.sound) (sym c.in-Some.ensures)

pub print-requires-clause-room : goal.print-requires-clause-room
print-requires-clause-room g c =
    chosen_room (some_lines c.args.first c.args.count (g.T.Table.lines c.args.table.now)) c.args.word (pattern_of c.in-Some.pattern.now) c.requires.room (sym c.in-Some.ensures)
