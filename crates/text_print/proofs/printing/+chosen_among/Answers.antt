use Rattle.std.proofs.Common.{◌<◌, sym, ap, ◌∙◌, arith}
use Rattle.text_code.specs.Reads.{all_sound}
use Rattle.text_code.specs.Tables.{patterns_of, pattern_of}
use Rattle.text_print.proofs.Chosen.{line_sound, lines_some, lines_none}
use Rattle.text_print.proofs.printing.+chosen_among.Goals as goal

pub chosen-requires : goal.chosen-requires
chosen-requires g t c = ap all_sound c.line.ensures ∙ line_sound (g.T.Table.lines c.args.table.now) c.args.first c.requires.sound

pub returns-in-Some : goal.returns-in-Some
returns-in-Some g t c =
    let l : 0 < c.args.count = omega arith in
    sym (lines_some (g.T.Table.lines c.args.table.now) (patterns_of c.line.result.now) c.args.first c.args.count c.args.word (pattern_of c.in-Some.pattern.now) l c.line.ensures (sym c.in-Some.ensures))

pub returns-in-None : goal.returns-in-None
returns-in-None g t c =
    let l : 0 < c.args.count = omega arith in
    c.chosen_among.ensures
    ∙ lines_none (g.T.Table.lines c.args.table.now) (patterns_of c.line.result.now) c.args.first c.args.count c.args.word l c.line.ensures (sym c.in-None.ensures)
