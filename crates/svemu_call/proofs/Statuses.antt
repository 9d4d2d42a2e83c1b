-- The status of the process by the ending that it has.
use Rattle.std.proofs.Common.{◌≡◌, ◌<◌, ◌⊎◌, inl, inr, ℕ, true, Option, Some, None, Result, Ok, Err, IfErr, IfOk, ap, ◌∙◌, arith}
use Rattle.command_lines.specs.Outcome.{Outcome}
use Rattle.command_lines.specs.Statuses.{status_of}
use Rattle.command_lines.specs.declared.ending.Ending.{Ending}
use Rattle.command_lines.specs.declared.ending.Ending.TheVariants.{FileFault, ReadFault, WriteFault, ErrorsFault}
use Rattle.command_model.specs.declared.command_line.Line.{Line}
use Rattle.command_model.specs.declared.command_line.WordsFault.{WordsFault}
use Rattle.commands.specs.Lines.{may_end, RefusesLine}
use Rattle.svemu_call.specs.Headline.{Completes, CompletesWith, MayEndWith}

pub completes_with : (o : Option Outcome) (ending : Ending) (status : ℕ) → status ≡ status_of ending → Completes o ending → CompletesWith o status
completes_with None ending status is (inl e) = inl (is ∙ ap status_of e)
completes_with None ending status is (inr e) = inr (is ∙ ap status_of e)
completes_with (Some outcome) ending status is (inl e) = inl (is ∙ ap status_of e)
completes_with (Some outcome) ending status is (inr e) = inr (is ∙ ap status_of e)

-- a count that rose didn't stay
rose_not : (before now : ℕ) → before < now → now ≡ before → ⊥
rose_not before now less e = omega (arith, less, e)

-- the faults, each by its count, which stays where the ending is another
pub status_of_file : (before now : ℕ) (ending : Ending) (status : ℕ) → status ≡ status_of ending → before < now → ((ending ≡ FileFault → ⊥) → now ≡ before) → status ≡ 126
status_of_file before now FileFault status is less kept = is
status_of_file before now ending status is less kept = absurd (rose_not before now less (kept (λ e. cc)))

pub status_of_read : (before now : ℕ) (ending : Ending) (status : ℕ) → status ≡ status_of ending → before < now → ((ending ≡ ReadFault → ⊥) → now ≡ before) → status ≡ 124
status_of_read before now ReadFault status is less kept = is
status_of_read before now ending status is less kept = absurd (rose_not before now less (kept (λ e. cc)))

pub status_of_write : (before now : ℕ) (ending : Ending) (status : ℕ) → status ≡ status_of ending → before < now → ((ending ≡ WriteFault → ⊥) → now ≡ before) → status ≡ 125
status_of_write before now WriteFault status is less kept = is
status_of_write before now ending status is less kept = absurd (rose_not before now less (kept (λ e. cc)))

pub status_of_errors : (before now : ℕ) (ending : Ending) (status : ℕ) → status ≡ status_of ending → before < now → ((ending ≡ ErrorsFault → ⊥) → now ≡ before) → status ≡ 125
status_of_errors before now ErrorsFault status is less kept = is
status_of_errors before now ending status is less kept = absurd (rose_not before now less (kept (λ e. cc)))

pub status_of_refused : (l : Result Line WordsFault) (ending : Ending) (status : ℕ) → status ≡ status_of ending → RefusesLine l ending → IfErr l (λ _. (status ≡ 121) ⊎ (status ≡ 125))
status_of_refused (Ok l) ending status is refuses = tt
status_of_refused (Err fault) ending status is (inl e) = inl (is ∙ ap status_of e)
status_of_refused (Err fault) ending status is (inr e) = inr (is ∙ ap status_of e)

pub status_of_line : (l : Result Line WordsFault) (ending : Ending) (status : ℕ) → status ≡ status_of ending → IfOk l (λ l. may_end l ending ≡ true) → IfOk l (λ l. MayEndWith l status)
status_of_line (Ok l) ending status is may = (ending, may, is)
status_of_line (Err fault) ending status is may = tt
