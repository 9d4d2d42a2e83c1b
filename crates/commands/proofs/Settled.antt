-- Endings that rest on no input, and what an ending shares with an outcome by either way of telling.
use Rattle.std.proofs.Common.{◌≡◌, ℕ, Bool, true, false, List, Option, Some, None, IfSome, cond, nat_eq, arith, refl, sym, ap, subst, ◌∙◌}
use Rattle.std.proofs.lemmas.Option.{IfSome_then}
use Rattle.std.proofs.lemmas.Bool.Decides.{nat_tests}
use Rattle.command_model.specs.Sweep.{stream_limit}
use Rattle.command_lines.specs.Outcome.{Outcome, Files, file_limit}
use Rattle.command_lines.specs.declared.ending.Ending.{Ending}
use Rattle.command_lines.specs.declared.ending.Ending.TheVariants.{Exit, Trap, Spent, Stuck, Done, WordsRefused, ImageRefused, ListingRefused, ScriptRefused, ScheduleRefused, TooLong}
use Rattle.commands.specs.Lines.{stops_any}
use Rattle.commands.specs.Promises.{is_failure, is_refusal, rests_on_none, settled_ending, settled_reader, settles_by, EndsAs, Settles, SettlesReader}
use Rattle.commands.specs.Meets.{Meets, MeetsBy, Now}
use Rattle.commands.proofs.Meetings.{never, nothing_meets}

-- ---- refusals

-- a refusal isn't the end of a run
pub refusal_is : (e : Ending) → is_refusal e ≡ true → settled_ending e ≡ Some e
refusal_is (WordsRefused fault) is = refl
refusal_is (TooLong limit) is = refl
refusal_is (ImageRefused fault) is = refl
refusal_is (ListingRefused fault) is = refl
refusal_is (ScriptRefused fault) is = refl
refusal_is (ScheduleRefused fault) is = refl
refusal_is e is = cc

cond_some : (b : Bool) (e r : Ending) → cond b None (Some e) ≡ Some r → e ≡ r
cond_some true e r is = cc
cond_some false e r is = cc

at_limit : (limit : ℕ) → nat_eq limit file_limit ≡ true → limit ≡ file_limit
at_limit limit e = grind (arith, nat_tests)

-- nor is it that of a command that read its input
refusal_swept : (e : Ending) → is_refusal e ≡ true → settled_reader e ≡ Some e
refusal_swept (WordsRefused fault) is = refl
refusal_swept (TooLong limit) is = subst (λ (n : ℕ). settled_reader (TooLong n) ≡ Some (TooLong n)) (sym (at_limit limit is)) refl
refusal_swept (ImageRefused fault) is = refl
refusal_swept (ListingRefused fault) is = refl
refusal_swept (ScriptRefused fault) is = refl
refusal_swept (ScheduleRefused fault) is = refl
refusal_swept e is = cc

-- an ending that isn't a run's is the outcome's
ends_so : (e r : Ending) → settled_ending e ≡ Some r → e ≡ r
ends_so (Exit code) r is = cc
ends_so (Trap trap pc) r is = cc
ends_so Spent r is = cc
ends_so Stuck r is = cc
ends_so e r is = cc

swept_so : (e r : Ending) → settled_reader e ≡ Some r → e ≡ r
swept_so Done r is = cc
swept_so (TooLong limit) r is = cond_some (nat_eq limit stream_limit) (TooLong limit) r is
swept_so e r is = cc

-- where the outcome rests on no input, the ending is its
pub rests_ends : (b : Bool) (o : Option Outcome) (ending : Ending) → rests_on_none o ≡ true → settles_by b o ending → EndsAs o ending
rests_ends true None ending none settles = settles
rests_ends true (Some outcome) ending none settles = swept_so ending outcome.ending (settles ∙ refusal_swept outcome.ending none)
rests_ends false None ending none settles = settles
rests_ends false (Some outcome) ending none settles = ends_so ending outcome.ending (settles ∙ refusal_is outcome.ending none)

-- ---- either way

refused_settles : (b : Bool) (o : Option Outcome) (ending : Ending) → rests_on_none o ≡ true → Settles o ending → settles_by b o ending
refused_settles false o ending none settles = settles
refused_settles true None ending none settles = settles
refused_settles true (Some outcome) ending none settles = ap settled_reader (ends_so ending outcome.ending (settles ∙ refusal_is outcome.ending none))

file_settles : (limit : ℕ) (ending : Ending) → limit ≡ file_limit → Some (TooLong limit) ≡ settled_ending ending → settled_reader (TooLong limit) ≡ settled_reader ending
file_settles limit (Exit code) at same = cc
file_settles limit (Trap trap pc) at same = cc
file_settles limit Spent at same = cc
file_settles limit Stuck at same = cc
file_settles limit ending at same = let e : TooLong limit ≡ ending = cc in ap settled_reader e

unread_settles : (o : Option Outcome) (ending : Ending) → stops_any ending ≡ true → is_failure ending ≡ false → Settles o ending → SettlesReader o ending
unread_settles None ending kind fine settles = settles
unread_settles (Some outcome) (TooLong limit) kind fine settles = file_settles limit outcome.ending (at_limit limit kind) settles
unread_settles (Some outcome) ending kind fine settles = cc

either_settles : (b : Bool) (o : Option Outcome) (ending : Ending) → stops_any ending ≡ true → is_failure ending ≡ false → Settles o ending → settles_by b o ending
either_settles true o ending kind fine settles = unread_settles o ending kind fine settles
either_settles false o ending kind fine settles = settles

as_settled : (b : Bool) (outcome : List ℕ → Option Outcome) (ending : Ending) (old new : Now) → (is_failure ending ≡ false → (bytes : List ℕ) → settles_by b (outcome bytes) ending) → Meets outcome ending old new → MeetsBy (settles_by b) outcome ending old new
as_settled b outcome ending old new settles m = record { ends = m.ends; settled = settles; output = m.output; errors = m.errors; input = m.input }

-- what a refusal promises is promised either way
pub refused_either : (b : Bool) (outcome : List ℕ → Option Outcome) (ending : Ending) (old new : Now) → ((bytes : List ℕ) → rests_on_none (outcome bytes) ≡ true) → Meets outcome ending old new → MeetsBy (settles_by b) outcome ending old new
refused_either b outcome ending old new none m = as_settled b outcome ending old new (λ fine bytes. refused_settles b (outcome bytes) ending (none bytes) (m.settled fine bytes)) m

-- and where nothing was moved
pub failed_either : (b : Bool) (outcome : List ℕ → Option Outcome) (ending : Ending) (input output errors : Option (List ℕ)) → is_failure ending ≡ true
    → MeetsBy (settles_by b) outcome ending (record { input = input; output = output; errors = errors }) (record { input = input; output = output; errors = errors })
failed_either b outcome ending input output errors failed =
    as_settled b outcome ending (record { input = input; output = output; errors = errors }) (record { input = input; output = output; errors = errors })
    (λ fine _. never ending failed fine) (nothing_meets outcome ending input output errors failed)

-- and where a file wasn't read
pub unread_either : (told : Option Files) (b : Files → Bool) (outcome : Files → List ℕ → Option Outcome) (ending : Ending) (old new : Now) → stops_any ending ≡ true
    → IfSome told (λ files. Meets (outcome files) ending old new) → IfSome told (λ files. MeetsBy (settles_by (b files)) (outcome files) ending old new)
unread_either told b outcome ending old new kind meets =
    IfSome_then told meets (λ files m. as_settled (b files) (outcome files) ending old new (λ fine bytes. either_settles (b files) (outcome files bytes) ending kind fine (m.settled fine bytes)) m)
