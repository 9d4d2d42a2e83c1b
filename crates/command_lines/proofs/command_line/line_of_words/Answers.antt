use Rattle.std.proofs.Common.{map, length, string_bytes, Result, IfOk, sym, ◌∙◌, subst, arith}
use Rattle.std.proofs.lemmas.List.{length-map}
use Rattle.emu_system.proofs.FirstWords.{within_limits}
use Rattle.command_model.specs.declared.command_line.Line.{Line}
use Rattle.command_model.specs.declared.command_line.WordsFault.{WordsFault}
use Rattle.command_lines.specs.Scan.{scanned_line}
use Rattle.command_lines.specs.LineLimits.{HasArguments, HasLimit, HasPlaces}
use Rattle.command_lines.proofs.AcceptedLines.{arguments_fit, words_limit, words_places}
use Rattle.command_lines.proofs.SameLines.{accepted_words}
use Rattle.command_lines.proofs.command_line.line_of_words.Goals as goal

pub returns-clause-line : goal.returns-clause-line
returns-clause-line c =
    let ws = map string_bytes c.args.words.now in
    c.command_of_words.ensures
    ∙ accepted_words ws (omega (arith, length-map c.args.words.now string_bytes)) (sym c.in_default.is ∙ c.first_too_long.ensures.place) (sym c.in_default-first_with_zero.is ∙ c.first_with_zero.ensures.place)

pub returns-clause-places : goal.returns-clause-places
returns-clause-places c =
    subst (λ (r : Result Line WordsFault). IfOk r (λ line. HasPlaces line (length c.args.words.now))) (sym c.command_of_words.ensures)
    (rw (← length-map c.args.words.now string_bytes) (words_places (map string_bytes c.args.words.now)))

pub returns-clause-arguments : goal.returns-clause-arguments
returns-clause-arguments c =
    let ws = map string_bytes c.args.words.now in
    subst (λ (r : Result Line WordsFault). IfOk r (HasArguments ws)) (sym c.command_of_words.ensures)
    (arguments_fit ws
    (within_limits ws (omega (arith, length-map c.args.words.now string_bytes)) (sym c.in_default.is ∙ c.first_too_long.ensures.place) (sym c.in_default-first_with_zero.is ∙ c.first_with_zero.ensures.place))
    (scanned_line ws) (words_places ws))

pub returns-clause-limit : goal.returns-clause-limit
returns-clause-limit c = subst (λ (r : Result Line WordsFault). IfOk r HasLimit) (sym c.command_of_words.ensures) (words_limit (map string_bytes c.args.words.now))
