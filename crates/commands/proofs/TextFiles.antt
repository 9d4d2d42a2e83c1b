-- Files that are texts, and the line of the first bad byte of one that isn't.
use Rattle.std.proofs.Common.{◌≡◌, ℕ, ◌+◌, true, false, cond, List, take, count_by, Result, Err, refl, sym, ap, ◌∙◌}
use Rattle.std.specs.Str.{IsUtf8, is_utf8}
use Rattle.std.specs.Str.Lossy.{utf8_valid_len}
use Rattle.std.proofs.lemmas.Str.{IsUtf8-from_is_utf8, is_utf8-from_IsUtf8}
use Rattle.dbg_model.specs.declared.script.Command.{Command}
use Rattle.dbg_model.specs.declared.script.ScriptFault.{ScriptFault}
use Rattle.dbg_model.specs.declared.script.ScriptWhy.TheVariants.{NotUtf8}
use Rattle.guest_schedule.specs.declared.schedule.ScheduleFault.{ScheduleFault}
use Rattle.guest_schedule.specs.declared.schedule.ScheduleWhy.TheVariants as schedules
use Rattle.guest_schedule.specs.Schedule.{schedule, schedule_of_file}
use Rattle.line_words.specs.Lines.{is_newline}
use Rattle.dbg_model.specs.Script.{script, script_of_file}

is_no_text : (bytes : List ℕ) → (IsUtf8 bytes → ⊥) → is_utf8 bytes ≡ false
is_no_text bytes none = elim (is_utf8 bytes) as (λ b. is_utf8 bytes ≡ b → b ≡ false) [ true ↦ λ e. absurd (none (IsUtf8-from_is_utf8 bytes e)) | false ↦ λ e. refl ] refl

-- what comes of a text, and of bytes that are none
pub of_text : {T : Type 0} (bytes : List ℕ) (whole bad : T) → IsUtf8 bytes → cond (is_utf8 bytes) whole bad ≡ whole
of_text bytes whole bad text = ap (λ b. cond b whole bad) (is_utf8-from_IsUtf8 bytes text)

pub of_no_text : {T : Type 0} (bytes : List ℕ) (whole bad : T) → (IsUtf8 bytes → ⊥) → cond (is_utf8 bytes) whole bad ≡ bad
of_no_text bytes whole bad none = ap (λ b. cond b whole bad) (is_no_text bytes none)

-- ---- scripts

abbrev pub bad_script : ℕ → Result (List Command) ScriptFault
bad_script line = Err (record { line = line; why = NotUtf8 })

pub text_script : (bytes text : List ℕ) → text ≡ bytes → IsUtf8 bytes → script text ≡ script_of_file bytes
text_script bytes text same is = ap script same ∙ sym (of_text bytes (script bytes) (bad_script (1 + count_by is_newline (take (utf8_valid_len bytes) bytes))) is)

pub no_script : (bytes : List ℕ) (place : ℕ) → place ≡ utf8_valid_len bytes → (IsUtf8 bytes → ⊥) → script_of_file bytes ≡ bad_script (1 + count_by is_newline (take place bytes))
no_script bytes place at none =
    of_no_text bytes (script bytes) (bad_script (1 + count_by is_newline (take (utf8_valid_len bytes) bytes))) none
    ∙ ap (λ (n : ℕ). bad_script (1 + count_by is_newline (take n bytes))) (sym at)

-- ---- schedules

abbrev pub bad_schedule : ℕ → Result (List (ℕ × ℕ)) ScheduleFault
bad_schedule line = Err (record { line = line; why = schedules.NotUtf8 })

pub text_schedule : (bytes text : List ℕ) → text ≡ bytes → IsUtf8 bytes → schedule text ≡ schedule_of_file bytes
text_schedule bytes text same is = ap schedule same ∙ sym (of_text bytes (schedule bytes) (bad_schedule (1 + count_by is_newline (take (utf8_valid_len bytes) bytes))) is)

pub no_schedule : (bytes : List ℕ) (place : ℕ) → place ≡ utf8_valid_len bytes → (IsUtf8 bytes → ⊥) → schedule_of_file bytes ≡ bad_schedule (1 + count_by is_newline (take place bytes))
no_schedule bytes place at none =
    of_no_text bytes (schedule bytes) (bad_schedule (1 + count_by is_newline (take (utf8_valid_len bytes) bytes))) none
    ∙ ap (λ (n : ℕ). bad_schedule (1 + count_by is_newline (take n bytes))) (sym at)
