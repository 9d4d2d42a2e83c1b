-- How lines may end, by how their parts end.
use Rattle.std.proofs.Common.{◌≡◌, ◌∙◌, ℕ, Bool, true, false, ◌||◌, nat_eq, Result, Ok, Err, ap, refl, subst, sym}
use Rattle.command_model.specs.Sweep.{stream_limit}
use Rattle.commands.specs.Sweeping.{ends_swept}
use Rattle.command_lines.specs.declared.ending.Ending.{Ending}
use Rattle.command_lines.specs.declared.ending.Ending.TheVariants.{Exit, Trap, Spent, Stuck, Done, ImageRefused, ListingRefused, ScriptRefused, ScheduleRefused, TooLong, ReadFault, WriteFault, ErrorsFault, OutOfMemory}
use Rattle.emu_machine.specs.declared.ends.RunEnd.{RunEnd}
use Rattle.emu_machine.specs.declared.ends.RunEnd.TheVariants as runs
use Rattle.dbg_core.specs.declared.ends.SessionEnd.{SessionEnd}
use Rattle.dbg_core.specs.declared.ends.SessionEnd.TheVariants as sessions
use Rattle.guest_threads.specs.declared.ends.WorldEnd.{WorldEnd}
use Rattle.guest_threads.specs.declared.ends.WorldEnd.TheVariants as worlds
use Rattle.emu_run.specs.declared.thread.WorldEnding.{WorldEnding}
use Rattle.emu_run.specs.declared.thread.WorldEnding.TheVariants as stops
use Rattle.command_lines.specs.Outcome.{ending_of_world}
use Rattle.commands.specs.Endings.{done_by, ended_by, ending_by, ending_of_session, stop_by}
use Rattle.commands.specs.Lines.{stops_any, ends_run, ends_asm, ends_dis, ends_dbg, ends_sweep, ends_threads}
use Rattle.commands.specs.SecondFiles.{ends_by}
use Rattle.commands.specs.declared.two_files.SecondFile.{SecondFile}
use Rattle.commands.specs.declared.two_files.SecondFile.TheVariants.{Script, Schedule}

-- behind a line on the errors, and behind the whole output
pub kind_put : {T E : Type 0} (may : Ending → Bool) (put : Result T E) (ending : Ending) → may ErrorsFault ≡ true → may ending ≡ true → may (ended_by put ending) ≡ true
kind_put may (Ok done) ending fault is = is
kind_put may (Err failed) ending fault is = fault

pub kind_done : {T E : Type 0} (may : Ending → Bool) (put : Result T E) → may WriteFault ≡ true → may Done ≡ true → may (done_by put) ≡ true
kind_done may (Ok done) fault is = is
kind_done may (Err failed) fault is = fault

-- of a run and of a session
pub kind_run : (end : RunEnd) (pc : ℕ) → ends_run (ending_by end pc) ≡ true
kind_run (runs.Exit code) pc = refl
kind_run (runs.Trap trap) pc = refl
kind_run runs.Spent pc = refl
kind_run runs.ReadFault pc = refl
kind_run runs.WriteFault pc = refl
kind_run runs.ErrorsFault pc = refl

pub kind_session : (end : SessionEnd) → ends_dbg (ending_of_session end) ≡ true
kind_session sessions.Done = refl
kind_session sessions.ReadFault = refl
kind_session sessions.WriteFault = refl
kind_session sessions.ErrorsFault = refl

-- of a world, whose run stopped or was broken off
pub kind_stop : (stop : WorldEnding) → ends_threads (ending_of_world stop) ≡ true
kind_stop (stops.Exit code) = refl
kind_stop (stops.Trap trap pc) = refl
kind_stop stops.Spent = refl
kind_stop stops.Stuck = refl

fault_kind : (ending fault : Ending) → fault ≡ ending → ends_threads fault ≡ true → ends_threads ending ≡ true
fault_kind ending fault is kind = subst (λ (x : Ending). ends_threads x ≡ true) is kind

same_err : (a b : Ending) (r : Result WorldEnding Ending) → r ≡ Err a → Err b ≡ r → a ≡ b
same_err a b r p q = cc

pub kind_broken : (end : WorldEnd) (ending : Ending) → Err ending ≡ stop_by end → ends_threads ending ≡ true
kind_broken (worlds.Exit code) ending is = cc
kind_broken (worlds.Trap trap pc) ending is = cc
kind_broken worlds.Spent ending is = cc
kind_broken worlds.Stuck ending is = cc
kind_broken worlds.ReadFault ending is = fault_kind ending ReadFault (same_err ReadFault ending (stop_by worlds.ReadFault) refl is) refl
kind_broken worlds.WriteFault ending is = fault_kind ending WriteFault (same_err WriteFault ending (stop_by worlds.WriteFault) refl is) refl
kind_broken worlds.ErrorsFault ending is = fault_kind ending ErrorsFault (same_err ErrorsFault ending (stop_by worlds.ErrorsFault) refl is) refl

either_true : (a : Bool) → (a || true) ≡ true
either_true true = refl
either_true false = refl

-- what stops any line stops each
pub stops_run : (ending : Ending) → stops_any ending ≡ true → ends_run ending ≡ true
stops_run (Exit code) is = refl
stops_run (Trap trap pc) is = refl
stops_run Spent is = refl
stops_run (ImageRefused fault) is = refl
stops_run ending is = is

pub stops_asm : (ending : Ending) → (ending ≡ ReadFault → ⊥) → stops_any ending ≡ true → ends_asm ending ≡ true
stops_asm Done unread is = refl
stops_asm (ListingRefused fault) unread is = refl
stops_asm ReadFault unread is = absurd (unread refl)
stops_asm ending unread is = is

pub stops_dis : (ending : Ending) → (ending ≡ ReadFault → ⊥) → stops_any ending ≡ true → ends_dis ending ≡ true
stops_dis Done unread is = refl
stops_dis (ImageRefused fault) unread is = refl
stops_dis ReadFault unread is = absurd (unread refl)
stops_dis ending unread is = is

pub stops_dbg : (ending : Ending) → stops_any ending ≡ true → ends_dbg ending ≡ true
stops_dbg Done is = refl
stops_dbg (ImageRefused fault) is = refl
stops_dbg (ScriptRefused fault) is = refl
stops_dbg (TooLong limit) is = ap (λ b. nat_eq limit stream_limit || b) is ∙ either_true (nat_eq limit stream_limit)
stops_dbg ending is = is

pub stops_threads : (ending : Ending) → stops_any ending ≡ true → ends_threads ending ≡ true
stops_threads Stuck is = refl
stops_threads (ScheduleRefused fault) is = refl
stops_threads ending is = stops_run ending is

-- and so a line of two files, whatever the second is
pub stops_by : (second : SecondFile) (ending : Ending) → stops_any ending ≡ true → ends_by second ending ≡ true
stops_by Script ending is = stops_dbg ending is
stops_by Schedule ending is = stops_threads ending is

pub stops_sweep : (ending : Ending) → stops_any ending ≡ true → ends_sweep ending ≡ true
stops_sweep Done is = refl
stops_sweep (ImageRefused fault) is = refl
stops_sweep (TooLong limit) is = ap (λ b. nat_eq limit stream_limit || b) is ∙ either_true (nat_eq limit stream_limit)
stops_sweep ending is = is

-- a session and a sweep that have read their input
pub swept_dbg : (ending : Ending) → ends_swept ending ≡ true → ends_dbg ending ≡ true
swept_dbg Done is = refl
swept_dbg (TooLong limit) is = ap (λ b. b || stops_any (TooLong limit)) is
swept_dbg WriteFault is = refl
swept_dbg ErrorsFault is = refl
swept_dbg OutOfMemory is = refl
swept_dbg ending is = cc

pub swept_sweep : (ending : Ending) → ends_swept ending ≡ true → ends_sweep ending ≡ true
swept_sweep Done is = refl
swept_sweep (TooLong limit) is = ap (λ b. b || stops_any (TooLong limit)) is
swept_sweep WriteFault is = refl
swept_sweep ErrorsFault is = refl
swept_sweep OutOfMemory is = refl
swept_sweep ending is = cc

-- their input was read without a fault
pub swept_no_read : (ending : Ending) → ends_swept ending ≡ true → ending ≡ ReadFault → ⊥
swept_no_read ending is e = let t : false ≡ true = sym (ap ends_swept e) ∙ is in cc
