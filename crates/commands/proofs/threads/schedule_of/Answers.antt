use Rattle.std.proofs.Common.{◌≡◌, ℕ, List, Result, Ok, MatchResult, sym, ap, subst, ◌∙◌, arith}
use Rattle.std.proofs.lemmas.Str.{utf8_valid_len_le}
use Rattle.line_words.specs.Reading.{IsErrorOf}
use Rattle.guest_schedule.specs.Errors.{fault_in}
use Rattle.guest_schedule.specs.declared.schedule.ScheduleFault.{ScheduleFault}
use Rattle.commands.proofs.TextFiles.{bad_schedule, no_schedule, text_schedule}
use Rattle.commands.proofs.threads.schedule_of.Goals as goal

pub returns-in-Ok : goal.returns-in-Ok
returns-in-Ok c =
    subst (λ (s : Result (List (ℕ × ℕ)) ScheduleFault). MatchResult c.read_schedule.result (λ read. s ≡ Ok read) (λ error. IsErrorOf s (fault_in error))) (text_schedule c.args.bytes.now c.in-Ok.text.now c.in-Ok.ensures.cases.0 c.in-Ok.ensures.cases.1) c.read_schedule.ensures

pub line_of_place-requires-clause-within : goal.line_of_place-requires-clause-within
line_of_place-requires-clause-within c = omega (arith, c.valid_up_to.ensures ∙ c.in-Err.ensures.valid_len, utf8_valid_len_le c.args.bytes.now)

pub returns-in-Err : goal.returns-in-Err
returns-in-Err c =
    no_schedule c.args.bytes.now c.valid_up_to.result (c.valid_up_to.ensures ∙ c.in-Err.ensures.valid_len) c.in-Err.ensures.cases.0
    ∙ ap bad_schedule (sym c.line_of_place.ensures)
