-- The calls that speak of contexts: their numbers are those of Linux on arm64, a call's number is the low 32 bits of
-- x8, its arguments are x0 to x4, and its answer goes to x0. The tests of a call are made in the order that is written
-- here. From Linux's clone(2), futex(2) with its FUTEX_WAIT and FUTEX_WAKE, set_tid_address(2), gettid(2) and _exit(2).
-- The flags that are taken, the number of contexts, their ids and their order of waking are this project's own choice,
-- as docs/MANUAL.md has them under "Calls".
use Rattle.std.specs.Prelude.{ℕ, ◌+◌, ◌-◌, ◌%◌, ◌^◌, Bool, not, ◌||◌, ◌&&◌, bit_and, List, [], ◌∷◌, ◌++◌, length, Option, Some, is_some, nat_eq, nat_le, if◌then◌else◌}
use Rattle.std.specs.List.{list_all}
use Rattle.emu_model.specs.declared.access.Kind.TheVariants.{Read as ToRead, Write as ToWrite}
use Rattle.emu_model.specs.declared.trap.Ended.{Ended}
use Rattle.emu_model.specs.declared.trap.Ended.TheVariants.{Exit as Exited}
use Rattle.emu_model.specs.Access.{Memory, refused, value, stored}
use Rattle.emu_model.specs.State.{Core}
use Rattle.emu_system.specs.SystemCall.{call_argument, name_among, number_of_call, returned}
use Rattle.emu_run.specs.declared.thread.Standing.TheVariants.{Ready, Waiting, Gone}
use Rattle.emu_run.specs.declared.thread.ThreadCall.{ThreadCall}
use Rattle.emu_run.specs.declared.thread.ThreadCall.TheVariants.{Clone, Futex, Exit, SetTidAddress, Gettid, Alone}
use Rattle.emu_run.specs.declared.thread.ThreadErrno.{ThreadErrno}
use Rattle.emu_run.specs.declared.thread.ThreadErrno.TheVariants.{EAGAIN, EFAULT, EINVAL, ENOSYS}
use Rattle.emu_run.specs.Worlds.{Context, World, context, is_gone, parts_with, with_context, apart, with_woken, wake_count}

-- ---- names and numbers

abbrev pub thread_calls : List (ℕ × ThreadCall)
thread_calls = (93, Exit) ∷ (96, SetTidAddress) ∷ (98, Futex) ∷ (178, Gettid) ∷ (220, Clone) ∷ []

abbrev pub thread_call : Core → ThreadCall
thread_call c = name_among Alone thread_calls (number_of_call c)

abbrev pub error_number : ThreadErrno → ℕ
error_number EAGAIN = 11
error_number EFAULT = 14
error_number EINVAL = 22
error_number ENOSYS = 38

-- ---- what a call comes to, once its tests are made

-- `starts` adds a context, `waits` lets the caller wait at an address, `wakes` wakes at most so many that wait at an
-- address, `clears` sets the caller's clear address, and `leaves` ends the caller; a call that is `alone` is that of a
-- machine alone
pub data ThreadAction : Type 0 where
  fails : ThreadErrno → ThreadAction
  answers : ℕ → ThreadAction
  starts : ThreadAction
  waits : ℕ → ThreadAction
  wakes : ℕ → ℕ → ThreadAction
  clears : ℕ → ThreadAction
  leaves : ThreadAction
  alone : ThreadAction

-- a context is known to a program by its number plus 1
abbrev pub thread_id : ℕ → ℕ
thread_id k = k + 1

-- ---- clone

-- CLONE_VM, FS, FILES, SIGHAND and THREAD are asked for; SYSVSEM, SETTLS, PARENT_SETTID, CHILD_CLEARTID and DETACHED
-- may be
abbrev pub needed_flags : ℕ
needed_flags = 0x10F00

abbrev pub known_flags : ℕ
known_flags = 0x7D0F00

abbrev pub has_flag : ℕ → ℕ → Bool
has_flag flag flags = nat_eq (bit_and flags flag) flag

abbrev pub sets_tls : ℕ → Bool
sets_tls flags = has_flag 0x80000 flags

abbrev pub sets_parent : ℕ → Bool
sets_parent flags = has_flag 0x100000 flags

abbrev pub clears_child : ℕ → Bool
clears_child flags = has_flag 0x200000 flags

abbrev pub most_contexts : ℕ
most_contexts = 64

-- (flags, stack, parent, tls, clear)
abbrev pub starting : Core → World → ThreadAction
starting c world =
    if not (has_flag needed_flags (call_argument c 0))
    || not (nat_eq (bit_and (call_argument c 0) (2 ^ 64 - 1 - known_flags)) 0) then fails EINVAL
    else (if nat_le most_contexts (length world.contexts) then fails EAGAIN
    else (if sets_parent (call_argument c 0) && is_some (refused world.memory (call_argument c 2) 4 ToWrite)
    then fails EFAULT
    else starts))

-- ---- futex

-- FUTEX_PRIVATE_FLAG is 128; FUTEX_WAIT is 0, and FUTEX_WAKE is 1
abbrev pub operation : ℕ → ℕ
operation op = bit_and (op % 2 ^ 32) (2 ^ 32 - 1 - 128)

-- (address, operation, value, timeout)
abbrev pub waiting : Core → Memory → ThreadAction
waiting c m =
    if is_some (refused m (call_argument c 0) 4 ToRead) then fails EFAULT
    else (if not (nat_eq (call_argument c 3) 0) then fails ENOSYS
    else (if not (nat_eq (value m (call_argument c 0) 4) (call_argument c 2 % 2 ^ 32)) then fails EAGAIN
    else waits (call_argument c 0)))

abbrev pub futex : Core → Memory → ThreadAction
futex c m =
    if not (nat_eq (operation (call_argument c 1)) 0 || nat_eq (operation (call_argument c 1)) 1) then fails ENOSYS
    else (if not (nat_eq (call_argument c 0 % 4) 0) then fails EINVAL
    else (if nat_eq (operation (call_argument c 1)) 0 then waiting c m
    else wakes (call_argument c 0) (call_argument c 2 % 2 ^ 32)))

-- ---- the calls, by the caller's registers, the world and the caller's number

abbrev pub action_of : ThreadCall → Core → World → ℕ → ThreadAction
action_of Clone c world k = starting c world
action_of Futex c world k = futex c world.memory
action_of Exit c world k = leaves
action_of SetTidAddress c world k = clears (call_argument c 0)
action_of Gettid c world k = answers (thread_id k)
action_of Alone c world k = alone

abbrev pub action : World → ℕ → ThreadAction
action world k = action_of (thread_call (context world k).core) (context world k).core world k

-- ---- what a call makes of a world

-- the call of context k returns, with this answer, and the context is ready
abbrev pub answered : World → ℕ → ℕ → World
answered world k x = apart world k Ready (returned (parts_with world (context world k)) x)

-- SP and the thread pointer, where the call gives them
abbrev pub started_core : Core → ℕ → ℕ → ℕ → Core
started_core c flags stack tls = record c {
  sp = if nat_eq stack 0 then c.sp else stack;
  tpidr = if sets_tls flags then tls else c.tpidr;
}

-- the new context has the caller's registers behind the call, which has cleared them, but for these
abbrev pub started : World → Context → Core → Context
started world caller c = record {
  core = started_core (returned (parts_with world caller) 0).core
      (call_argument c 0) (call_argument c 1) (call_argument c 3);
  vectors = (returned (parts_with world caller) 0).vectors;
  clear = if clears_child (call_argument c 0) then call_argument c 4 else 0;
  standing = Ready;
}

abbrev pub with_started : World → Context → World
with_started world c = record world { contexts = world.contexts ++ c ∷ [] }

-- the parent's word is stored behind the test of its rights
abbrev pub parent_told : World → Core → World
parent_told world c =
    let told : Memory = stored world.memory (call_argument c 2) 4 (thread_id (length world.contexts)) in
    record world { memory = if sets_parent (call_argument c 0) then told else world.memory }

abbrev pub start_made : World → ℕ → World
start_made world k =
    with_started (answered (parent_told world (context world k).core) k (thread_id (length world.contexts)))
    (started world (context world k) (context world k).core)

abbrev pub wait_made : World → ℕ → ℕ → World
wait_made world k a = apart world k (Waiting a) (returned (parts_with world (context world k)) 0)

abbrev pub wake_made : World → ℕ → ℕ → ℕ → World
wake_made world k a n = answered (with_woken world a n) k (wake_count a n world.contexts)

abbrev pub clear_made : World → ℕ → ℕ → World
clear_made world k a = answered (with_context world k (record (context world k) { clear = a })) k (thread_id k)

-- ---- exit

-- 0 is stored at the clear address, and one context that waits there is ready
abbrev pub cleared : World → ℕ → World
cleared world a =
    if nat_eq a 0 || is_some (refused world.memory a 4 ToWrite) then world
    else with_woken (record world { memory = stored world.memory a 4 0 }) a 1

abbrev pub with_gone : World → ℕ → World
with_gone world k = with_context world k (record (context world k) { standing = Gone })

abbrev pub all_gone : World → Bool
all_gone world = list_all is_gone world.contexts

-- the last context that leaves ends the run with its code
abbrev pub ended_after_exit : World → ℕ → Option Ended
ended_after_exit world code = if all_gone world then Some (Exited code) else world.ended

abbrev pub leave_made : World → ℕ → World
leave_made world k =
    let ended : Option Ended = ended_after_exit (with_gone world k) (call_argument (context world k).core 0 % 256) in
    record (cleared (with_gone world k) (context world k).clear) { steps = world.steps + 1; ended = ended }
