-- What the sinks keep of a command that was broken off, put together from what runs, worlds and sessions keep.
use Rattle.std.proofs.Common.{◌≡◌, ◌<◌, ◌≤◌, ◌⊎◌, inl, inr, ℕ, ◌*◌, Bool, true, false, cond, List, [], ◌∷◌, ◌++◌, get_or, take, drop, length, nat_eq, nat_lt, nat_le, Option, Some, None, Result, Ok, Err, IfSome, MatchOption, is_none, refl, sym, ap, subst, ◌∙◌, append-nil}
use Rattle.std.specs.FinMap.{get}
use Rattle.std.specs.List.{list_any}
use Rattle.io_gate.specs.Images.{whole_file}
use Rattle.io_gate.specs.declared.images.ImagesError.TheVariants as images
use Rattle.emu_model.specs.declared.access.Kind.{Kind}
use Rattle.emu_model.specs.declared.access.Kind.TheVariants.{Read as ToRead, Write as ToWrite}
use Rattle.emu_model.specs.Access.{Memory}
use Rattle.emu_model.specs.State.{Core, Parts, State}
use Rattle.emu_run.specs.Run.{run, until_end}
use Rattle.dbg_model.specs.Forward.{session}
use Rattle.emu_run.specs.Threads.{WorldState, threads}
use Rattle.emu_run.specs.Threads.{with_input as world_with_input}
use Rattle.emu_run.specs.Worlds.{World}
use Rattle.emu_system.specs.Start.{with_input}
use Rattle.emu_system.specs.SystemCall.{Action, fails, answers, takes, puts, action, action_of, call_argument, buffer, call_name, cut_to, entries, file_of, is_denied, is_sink, is_too_long, most_bytes, name_of_call, number_of_call, with_buffer, with_entries, with_vector}
use Rattle.emu_system.specs.declared.system_call.CallName.{CallName}
use Rattle.emu_system.specs.declared.system_call.CallName.TheVariants.{Read, Write, Readv, Writev}
use Rattle.emu_system.specs.declared.system_call.Errno.{Errno}
use Rattle.emu_system.specs.declared.system_call.Errno.TheVariants.{EBADF, EFAULT, EINVAL}
use Rattle.emu_system.specs.declared.system_call.Range.{Range}
use Rattle.emu_machine.specs.Ends.{IsKept, Puts, is_broken_off}
use Rattle.emu_machine.specs.Machines.{MachineState, MakesWrite}
use Rattle.emu_machine.specs.declared.ends.RunEnd.{RunEnd}
use Rattle.emu_machine.specs.declared.ends.RunEnd.TheVariants as runs
use Rattle.guest_threads.specs.Ends.{IsKeptAt, last_machine}
use Rattle.guest_threads.specs.Ends.{Puts as WorldPuts, is_broken_off as world_broken_off}
use Rattle.guest_threads.specs.declared.ends.WorldEnd.{WorldEnd}
use Rattle.guest_threads.specs.declared.ends.WorldEnd.TheVariants as worlds
use Rattle.linux_calls.specs.Ends.{Stores}
use Rattle.linux_calls.specs.Names.{NamesRead, NamesWrite}
use Rattle.dbg_core.specs.Ends.{StandsWith, is_fault}
use Rattle.dbg_core.specs.declared.ends.SessionEnd.{SessionEnd}
use Rattle.dbg_core.specs.declared.ends.SessionEnd.TheVariants as sessions
use Rattle.dbg_model.specs.declared.script.Command.{Command}
use Rattle.command_lines.specs.Outcome.{Outcome, Files, file_at, file_limit}
use Rattle.command_lines.specs.declared.ending.Ending.{Ending}
use Rattle.command_lines.specs.declared.ending.Ending.TheVariants.{ReadFault, WriteFault, ErrorsFault}
use Rattle.commands.specs.Endings.{ended_by, ending_by, ending_of_session, stop_by}
use Rattle.commands.specs.Promises.{is_failure, output_of}
use Rattle.emu_run.specs.declared.thread.WorldEnding.{WorldEnding}
use Rattle.commands.specs.SecondFiles.{file_reads_first, text_reads_first}
use Rattle.commands.specs.declared.two_files.SecondFile.{SecondFile}
use Rattle.commands.proofs.RunEnds.{broken_is}
use Rattle.commands.proofs.TwoFiles.{found_reads}
use Rattle.commands.proofs.Worlds.{stops_whole}
use Rattle.commands.specs.Reading.{EndsUnread, IsTooLong}
use Rattle.commands.specs.Whole.{AtCall, GainedAt, InRun, InWorld, HasAllPut, Undone, seen_by}
use Rattle.commands.specs.Ahead.{InForward}
use Rattle.commands.proofs.Causing.{ended_other, run_fails, run_reads, run_writes, unread_no_read, unread_no_write}
use Rattle.commands.proofs.NamedFiles.{over, too_long, with_found, with_long, found_so}

-- ---- by other words

-- what the output has
abbrev Written : (State → Type 0) → Option Outcome → Ending → Option (List ℕ) → Option (List ℕ) → Type 0
Written at outcome ending old new = GainedAt at (λ st. st.output) old new ⊎ ((ending ≡ ErrorsFault) × IfSome old (λ had. new ≡ Some (had ++ output_of outcome)))

put_as : (at more : State → Type 0) (put : State → List ℕ) (old new : Option (List ℕ)) → ((st : State) → at st → more st) → GainedAt at put old new → GainedAt more put old new
put_as at more put old new to p = (p.0, to p.0 p.1, p.2)

module _ (at more : List ℕ → State → Type 0) (f h : List ℕ → Option Outcome) (ending : Ending) (o0 o1 e0 e1 : Option (List ℕ)) where
  pub keeps_as : (told : Option (List ℕ)) → ((bytes : List ℕ) (st : State) → at bytes st → more bytes st) → ((bytes : List ℕ) → f bytes ≡ h bytes) → HasAllPut at f ending told o0 o1 e0 e1 → HasAllPut more h ending told o0 o1 e0 e1
  keeps_as None to same k = tt
  keeps_as (Some bytes) to same k = (
    (λ fault. elim (k.0 fault) as (λ _. Written (more bytes) (h bytes) ending o0 o1) [
      | inl p ↦ inl (put_as (at bytes) (more bytes) (λ st. st.output) o0 o1 (to bytes) p)
      | inr w ↦ inr (w.0, subst (λ (o : Option Outcome). IfSome o0 (λ had. o1 ≡ Some (had ++ output_of o))) (same bytes) w.1)
    ]),
    (λ fault. put_as (at bytes) (more bytes) (λ st. st.errors) e0 e1 (to bytes) (k.1 fault)),
  )

-- ---- no stream but that of errors failed

-- what was put is all of the output
module _ (at : List ℕ → State → Type 0) (f : List ℕ → Option Outcome) (o0 o1 e0 e1 : Option (List ℕ)) where
  whole_keeps : (result : Ending) (told : Option (List ℕ)) → (result ≡ ReadFault → ⊥) → (result ≡ WriteFault → ⊥)
      → ((bytes : List ℕ) → told ≡ Some bytes → result ≡ ErrorsFault → IfSome o0 (λ had. o1 ≡ Some (had ++ output_of (f bytes)))) → HasAllPut at f result told o0 o1 e0 e1
  whole_keeps result None read write whole = tt
  whole_keeps result (Some bytes) read write whole = (
    (λ fault. elim fault as (λ _. Written (at bytes) (f bytes) result o0 o1) [
      | inl e ↦ absurd (read e)
      | inr e ↦ inr (e, whole bytes refl e)
    ]),
    (λ fault. elim fault as (λ _. GainedAt (at bytes) (λ st. st.errors) e0 e1) [
      | inl e ↦ absurd (read e)
      | inr e ↦ absurd (write e)
    ]),
  )

  told_whole : (told : Option (List ℕ)) → IfSome told (λ bytes. IfSome o0 (λ had. o1 ≡ Some (had ++ output_of (f bytes)))) → (bytes : List ℕ) → told ≡ Some bytes → IfSome o0 (λ had. o1 ≡ Some (had ++ output_of (f bytes)))
  told_whole told whole bytes is = subst (λ (t : Option (List ℕ)). IfSome t (λ b. IfSome o0 (λ had. o1 ≡ Some (had ++ output_of (f b))))) is whole

  pub keeps_ended : {T E : Type 0} (put : Result T E) (ending result : Ending) (told : Option (List ℕ)) → result ≡ ended_by put ending → (ending ≡ ReadFault → ⊥) → (ending ≡ WriteFault → ⊥)
      → IfSome told (λ bytes. IfSome o0 (λ had. o1 ≡ Some (had ++ output_of (f bytes)))) → HasAllPut at f result told o0 o1 e0 e1
  keeps_ended put ending result told by read write whole =
      whole_keeps result told (ended_other put ending result ReadFault by (λ e. cc) read) (ended_other put ending result WriteFault by (λ e. cc) write) (λ bytes is _. told_whole told whole bytes is)

  pub keeps_none : (result : Ending) (told : Option (List ℕ)) → (result ≡ ReadFault → ⊥) → (result ≡ WriteFault → ⊥) → (result ≡ ErrorsFault → ⊥) → HasAllPut at f result told o0 o1 e0 e1
  keeps_none result told read write errs = whole_keeps result told read write (λ bytes _ e. absurd (errs e))

-- nothing was put, and nothing was to be
same_held : (o : Option Outcome) (held : Option (List ℕ)) → output_of o ≡ [] → IfSome held (λ had. held ≡ Some (had ++ output_of o))
same_held o None none = tt
same_held o (Some had) none = ap (λ (l : List ℕ). Some l) (sym (ap (λ (l : List ℕ). had ++ l) none ∙ append-nil had))

pub none_put : (f : List ℕ → Option Outcome) (told held : Option (List ℕ)) → ((bytes : List ℕ) → output_of (f bytes) ≡ []) → IfSome told (λ bytes. IfSome held (λ had. held ≡ Some (had ++ output_of (f bytes))))
none_put f None held none = tt
none_put f (Some bytes) held none = same_held (f bytes) held (none bytes)

-- ---- the call that registers name

choice : (P : Action → Type 0) (b : Bool) (x y : Action) → P x → P y → P (cond b x y)
choice P true x y p q = p
choice P false x y p q = q

-- a call that moves bytes comes to an error, to an answer, or to the moving
module _ (P : Action → Type 0) (fail : (e : Errno) → P (fails e)) (none : P (answers 0)) (moves : List Range → Action) (move : (ranges : List Range) → P (moves ranges)) (kind : Kind) (c : Core) (m : Memory) where
  buffered : P (with_buffer kind moves c m)
  buffered =
      choice P (nat_eq (call_argument c 2) 0) (answers 0) _ none
      (choice P (is_denied m kind (buffer c)) (fails EFAULT) (moves (buffer c ∷ [])) (fail EFAULT) (move (buffer c ∷ [])))

  entered : (ranges : List Range) → P (with_entries kind moves ranges m)
  entered ranges =
      choice P (list_any is_too_long ranges) (fails EINVAL) _ (fail EINVAL)
      (choice P (list_any (is_denied m kind) (cut_to most_bytes ranges)) (fails EFAULT) (moves (cut_to most_bytes ranges)) (fail EFAULT) (move (cut_to most_bytes ranges)))

  vectored : P (with_vector kind moves c m)
  vectored =
      choice P (nat_lt 1024 (call_argument c 2)) (fails EINVAL) _ (fail EINVAL)
      (choice P (is_denied m ToRead (record { address = call_argument c 1; length = 16 * call_argument c 2 })) (fails EFAULT) (with_entries kind moves (entries m (call_argument c 1) (call_argument c 2)) m) (fail EFAULT)
      (entered (entries m (call_argument c 1) (call_argument c 2))))

-- by the number of the call
named : (P : Action → Type 0) (m : Parts) (name : CallName) → name_of_call m.core ≡ name → P (action_of name m.core m.vectors m.memory m.brk) → P (action m)
named P m name is p = subst (λ (n : CallName). P (action_of n m.core m.vectors m.memory m.brk)) (sym is) p

module _ (m : Parts) (now : Memory) (input : List ℕ) (left : Option (List ℕ)) where
  abbrev Reads : Action → Type 0
  Reads a = Stores a m.memory now (Some input) left → Undone ReadFault a input left

  fail_reads : (e : Errno) → Reads (fails e)
  fail_reads e s = absurd s

  none_reads : Reads (answers 0)
  none_reads s = absurd s

  take_reads : (ranges : List Range) → Reads (takes ranges)
  take_reads ranges s = (s.0, s.1, s.2.first.1)

  undone_read : NamesRead m.core → Reads (action m)
  undone_read names =
      elim names.call as (λ _. Reads (action m)) [
        | inl e ↦ named Reads m Read (ap call_name e)
            (choice Reads (nat_eq (file_of m.core) 0) (with_buffer ToWrite takes m.core m.memory) (fails EBADF) (buffered Reads fail_reads none_reads takes take_reads ToWrite m.core m.memory) (fail_reads EBADF))
        | inr e ↦ named Reads m Readv (ap call_name e)
            (choice Reads (nat_eq (file_of m.core) 0) (with_vector ToWrite takes m.core m.memory) (fails EBADF) (vectored Reads fail_reads none_reads takes take_reads ToWrite m.core m.memory) (fail_reads EBADF))
      ]

  -- a write to a file, by the fault of that file
  module _ (fault : Ending) (k : ℕ) (undone : (ranges : List Range) (file : ℕ) → file ≡ k → Undone fault (puts file ranges) input left) (names : NamesWrite m.core k) where
    abbrev Writes : Action → Type 0
    Writes a = Stores a m.memory now (Some input) left → Undone fault a input left

    fail_writes : (e : Errno) → Writes (fails e)
    fail_writes e s = absurd s

    none_writes : Writes (answers 0)
    none_writes s = absurd s

    put_writes : (ranges : List Range) → Writes (puts (file_of m.core) ranges)
    put_writes ranges s = undone ranges (file_of m.core) names.to

    undone_write : Writes (action m)
    undone_write =
        elim names.call as (λ _. Writes (action m)) [
          | inl e ↦ named Writes m Write (ap call_name e)
              (choice Writes (is_sink (file_of m.core)) (with_buffer ToRead (puts (file_of m.core)) m.core m.memory) (fails EBADF) (buffered Writes fail_writes none_writes (puts (file_of m.core)) put_writes ToRead m.core m.memory) (fail_writes EBADF))
          | inr e ↦ named Writes m Writev (ap call_name e)
              (choice Writes (is_sink (file_of m.core)) (with_vector ToRead (puts (file_of m.core)) m.core m.memory) (fails EBADF) (vectored Writes fail_writes none_writes (puts (file_of m.core)) put_writes ToRead m.core m.memory) (fail_writes EBADF))
        ]

-- ---- a machine that stands before its call, but for the bytes that were stored

module _ (st : State) (n : Parts) (left : Option (List ℕ)) (kept : IsKept st.parts n (Some st.input) left) (goes : is_none n.ended ≡ true) where
  core_kept : n.core ≡ st.parts.core
  core_kept = ap (λ (m : Parts). m.core) kept.is

  goes_kept : is_none st.parts.ended ≡ true
  goes_kept = sym (ap (λ (m : Parts). is_none m.ended) kept.is) ∙ goes

  pub at_read : NamesRead n.core → AtCall ReadFault left st
  at_read names = (goes_kept, undone_read st.parts n.memory st.input left (subst (λ (c : Core). NamesRead c) core_kept names) kept.stored)

  pub at_write : NamesWrite n.core 1 → AtCall WriteFault left st
  at_write names = (goes_kept, undone_write st.parts n.memory st.input left WriteFault 1 (λ ranges file is. is) (subst (λ (c : Core). NamesWrite c 1) core_kept names) kept.stored)

  pub at_errors : NamesWrite n.core 2 → AtCall ErrorsFault left st
  at_errors names = (goes_kept, undone_write st.parts n.memory st.input left ErrorsFault 2 (λ ranges file is. is) (subst (λ (c : Core). NamesWrite c 2) core_kept names) kept.stored)

as_ending : (ending fault : Ending) (left : Option (List ℕ)) (st : State) → ending ≡ fault → AtCall fault left st → AtCall ending left st
as_ending ending fault left st is at = subst (λ (e : Ending). AtCall e left st) (sym is) at

-- ---- of a run

module _ (m n : Parts) (budget : ℕ) (end : RunEnd) (pc : ℕ) (ending : Ending) (left o0 o1 e0 e1 : Option (List ℕ)) (by : ending ≡ ending_by end pc)
    (goes : is_broken_off end ≡ true → is_none n.ended ≡ true) (below : is_broken_off end ≡ true → n.steps < budget)
    (reads : end ≡ runs.ReadFault → NamesRead n.core) (writes : end ≡ runs.WriteFault → MakesWrite n 1) (errs : end ≡ runs.ErrorsFault → MakesWrite n 2) where
  abbrev run_put : List ℕ → State
  run_put bytes = run (with_input m bytes) n.steps

  run_in : (bytes : List ℕ) (put : State → List ℕ) (old new : Option (List ℕ)) → is_broken_off end ≡ true → AtCall ending left (run_put bytes)
      → IfSome old (λ had. new ≡ Some (had ++ put (run_put bytes))) → GainedAt (InRun m budget ending left bytes) put old new
  run_in bytes put old new broken at gained = (run_put bytes, (n.steps, below broken, refl, at), gained)

  pub run_keeps : (f : List ℕ → Option Outcome) (told : Option (List ℕ))
      → IfSome told (λ bytes. is_broken_off end ≡ true → IsKept (run (with_input m bytes) n.steps).parts n (Some (run (with_input m bytes) n.steps).input) left)
      → ((end ≡ runs.ReadFault) ⊎ (end ≡ runs.ErrorsFault) → Puts (λ st. (run st n.steps).output) m told o0 o1 false)
      → ((end ≡ runs.ReadFault) ⊎ (end ≡ runs.WriteFault) → Puts (λ st. (run st n.steps).errors) m told e0 e1 false) → HasAllPut (InRun m budget ending left) f ending told o0 o1 e0 e1
  run_keeps f None kept out_put more = tt
  run_keeps f (Some bytes) kept out_put more =
      let out : State → List ℕ = λ st. st.output in
      let err : State → List ℕ = λ st. st.errors in (
        (λ fault. elim fault as (λ _. Written (InRun m budget ending left bytes) (f bytes) ending o0 o1) [
          | inl e ↦
              let r : end ≡ runs.ReadFault = run_reads end pc (sym by ∙ e) in
              let broken : is_broken_off end ≡ true = ap is_broken_off r in
              inl (run_in bytes out o0 o1 broken (as_ending ending ReadFault left (run_put bytes) e (at_read (run_put bytes) n left (kept broken) (goes broken) (reads r))) (out_put (inl r)))
          | inr e ↦
              let r : end ≡ runs.ErrorsFault = run_fails end pc (sym by ∙ e) in
              let broken : is_broken_off end ≡ true = ap is_broken_off r in
              inl (run_in bytes out o0 o1 broken (as_ending ending ErrorsFault left (run_put bytes) e (at_errors (run_put bytes) n left (kept broken) (goes broken) (errs r).names)) (out_put (inr r)))
        ]),
        (λ fault. elim fault as (λ _. GainedAt (InRun m budget ending left bytes) err e0 e1) [
          | inl e ↦
              let r : end ≡ runs.ReadFault = run_reads end pc (sym by ∙ e) in
              let broken : is_broken_off end ≡ true = ap is_broken_off r in
              run_in bytes err e0 e1 broken (as_ending ending ReadFault left (run_put bytes) e (at_read (run_put bytes) n left (kept broken) (goes broken) (reads r))) (more (inl r))
          | inr e ↦
              let r : end ≡ runs.WriteFault = run_writes end pc (sym by ∙ e) in
              let broken : is_broken_off end ≡ true = ap is_broken_off r in
              run_in bytes err e0 e1 broken (as_ending ending WriteFault left (run_put bytes) e (at_write (run_put bytes) n left (kept broken) (goes broken) (writes r).names)) (more (inr r))
        ]),
      )

-- ---- of a session

session_reads : (end : SessionEnd) → ending_of_session end ≡ ReadFault → end ≡ sessions.ReadFault
session_reads sessions.ReadFault e = refl
session_reads end e = cc

session_writes : (end : SessionEnd) → ending_of_session end ≡ WriteFault → end ≡ sessions.WriteFault
session_writes sessions.WriteFault e = refl
session_writes end e = cc

session_errs : (end : SessionEnd) → ending_of_session end ≡ ErrorsFault → end ≡ sessions.ErrorsFault
session_errs sessions.ErrorsFault e = refl
session_errs end e = cc

failed_so : (failed : Bool) (end other : SessionEnd) → end ≡ other → is_fault other ≡ true → (other ≡ sessions.WriteFault → ⊥) → (failed ≡ false → is_fault end ≡ true → end ≡ sessions.WriteFault) → failed ≡ true
failed_so true end other is fault apart_so line = refl
failed_so false end other is fault apart_so line = absurd (apart_so (sym is ∙ line refl (ap is_fault is ∙ fault)))

-- in a step, or in a line
either : {P Q : Type 0} (failed : Bool) → (failed ≡ true → P) → (failed ≡ false → Q) → P ⊎ Q
either true step line = inl (step refl)
either false step line = inr (line refl)

module _ (m : Parts) (n : MachineState) (commands : List Command) (budget : ℕ) (end : SessionEnd) (ending : Ending) (left o0 o1 e0 e1 : Option (List ℕ)) (by : ending ≡ ending_of_session end)
    (line : n.failed ≡ false → is_fault end ≡ true → end ≡ sessions.WriteFault) (goes : n.failed ≡ true → is_none n.parts.ended ≡ true) (below : n.failed ≡ true → n.parts.steps < budget)
    (reads : end ≡ sessions.ReadFault → NamesRead n.parts.core) (writes : n.failed ≡ true → end ≡ sessions.WriteFault → MakesWrite n.parts 1) (errs : end ≡ sessions.ErrorsFault → MakesWrite n.parts 2) where
  abbrev session_put : List ℕ → ℕ → ℕ → State
  session_put bytes first steps = until_end (session (take first commands) budget (with_input m bytes)) steps

  -- at a call, within the budget
  abbrev SessionAt : List ℕ → ℕ → ℕ → Type 0
  SessionAt bytes first steps = (within : (session_put bytes first steps).parts.steps < budget) × AtCall ending left (session_put bytes first steps)

  session_within : (bytes : List ℕ) (put : State → List ℕ) (old new : Option (List ℕ)) (s : StandsWith put commands budget (with_input m bytes) n left old new)
      → n.failed ≡ true → (session_put bytes s.first s.steps).parts.steps < budget
  session_within bytes put old new s failed = subst (λ (x : ℕ). x < budget) (ap (λ (p : Parts). p.steps) (s.kept failed).is) (below failed)

  session_in : (bytes : List ℕ) (put : State → List ℕ) (old new : Option (List ℕ)) (s : StandsWith put commands budget (with_input m bytes) n left old new)
      → SessionAt bytes s.first s.steps ⊎ ((s.steps ≡ 0) × (ending ≡ WriteFault)) → GainedAt (InForward commands m budget ending left bytes) put old new
  session_in bytes put old new s at = (session_put bytes s.first s.steps, (s.first, s.steps, refl, at), s.gained)

  session_read : (bytes : List ℕ) (put : State → List ℕ) (old new : Option (List ℕ)) → ending ≡ ReadFault → StandsWith put commands budget (with_input m bytes) n left old new → GainedAt (InForward commands m budget ending left bytes) put old new
  session_read bytes put old new e s =
      let r : end ≡ sessions.ReadFault = session_reads end (sym by ∙ e) in
      let failed : n.failed ≡ true = failed_so n.failed end sessions.ReadFault r refl (λ e. cc) line in
      session_in bytes put old new s (inl (session_within bytes put old new s failed, as_ending ending ReadFault left (session_put bytes s.first s.steps) e (at_read (session_put bytes s.first s.steps) n.parts left (s.kept failed) (goes failed) (reads r))))

  pub session_keeps : (f : List ℕ → Option Outcome) (told : Option (List ℕ))
      → ((end ≡ sessions.ReadFault) ⊎ (end ≡ sessions.ErrorsFault) → IfSome told (λ bytes. StandsWith (λ st. st.output) commands budget (with_input m bytes) n left o0 o1))
      → ((end ≡ sessions.ReadFault) ⊎ (end ≡ sessions.WriteFault) → IfSome told (λ bytes. StandsWith (λ st. st.errors) commands budget (with_input m bytes) n left e0 e1)) → HasAllPut (InForward commands m budget ending left) f ending told o0 o1 e0 e1
  session_keeps f None stands more = tt
  session_keeps f (Some bytes) stands more =
      let out : State → List ℕ = λ st. st.output in
      let err : State → List ℕ = λ st. st.errors in (
        (λ fault. elim fault as (λ _. Written (InForward commands m budget ending left bytes) (f bytes) ending o0 o1) [
          | inl e ↦ inl (session_read bytes out o0 o1 e (stands (inl (session_reads end (sym by ∙ e)))))
          | inr e ↦
              let r : end ≡ sessions.ErrorsFault = session_errs end (sym by ∙ e) in
              let failed : n.failed ≡ true = failed_so n.failed end sessions.ErrorsFault r refl (λ e. cc) line in
              let s : StandsWith out commands budget (with_input m bytes) n left o0 o1 = stands (inr r) in
              inl (session_in bytes out o0 o1 s (inl (session_within bytes out o0 o1 s failed, as_ending ending ErrorsFault left (session_put bytes s.first s.steps) e (at_errors (session_put bytes s.first s.steps) n.parts left (s.kept failed) (goes failed) (errs r).names))))
        ]),
        (λ fault. elim fault as (λ _. GainedAt (InForward commands m budget ending left bytes) err e0 e1) [
          | inl e ↦ session_read bytes err e0 e1 e (more (inl (session_reads end (sym by ∙ e))))
          | inr e ↦
              let r : end ≡ sessions.WriteFault = session_writes end (sym by ∙ e) in
              let s : StandsWith err commands budget (with_input m bytes) n left e0 e1 = more (inr r) in
              session_in bytes err e0 e1 s
              (either n.failed
              (λ failed. let at : SessionAt bytes s.first s.steps = (session_within bytes err e0 e1 s failed, as_ending ending WriteFault left (session_put bytes s.first s.steps) e (at_write (session_put bytes s.first s.steps) n.parts left (s.kept failed) (goes failed) (writes failed r).names)) in at)
              (λ none. ((s.whole none).0, e)))
        ]),
      )

-- ---- of a world

world_reads : (end : WorldEnd) (ending : Ending) → Err ending ≡ stop_by end → ending ≡ ReadFault → end ≡ worlds.ReadFault
world_reads (worlds.Exit code) ending is e = cc
world_reads (worlds.Trap trap pc) ending is e = cc
world_reads worlds.Spent ending is e = cc
world_reads worlds.Stuck ending is e = cc
world_reads worlds.ReadFault ending is e = refl
world_reads worlds.WriteFault ending is e = cc
world_reads worlds.ErrorsFault ending is e = cc

world_writes : (end : WorldEnd) (ending : Ending) → Err ending ≡ stop_by end → ending ≡ WriteFault → end ≡ worlds.WriteFault
world_writes (worlds.Exit code) ending is e = cc
world_writes (worlds.Trap trap pc) ending is e = cc
world_writes worlds.Spent ending is e = cc
world_writes worlds.Stuck ending is e = cc
world_writes worlds.ReadFault ending is e = cc
world_writes worlds.WriteFault ending is e = refl
world_writes worlds.ErrorsFault ending is e = cc

world_errs : (end : WorldEnd) (ending : Ending) → Err ending ≡ stop_by end → ending ≡ ErrorsFault → end ≡ worlds.ErrorsFault
world_errs (worlds.Exit code) ending is e = cc
world_errs (worlds.Trap trap pc) ending is e = cc
world_errs worlds.Spent ending is e = cc
world_errs worlds.Stuck ending is e = cc
world_errs worlds.ReadFault ending is e = cc
world_errs worlds.WriteFault ending is e = cc
world_errs worlds.ErrorsFault ending is e = refl

module _ (turns : List (ℕ × ℕ)) (budget : ℕ) (w n : World) (end : WorldEnd) (ending : Ending) (left o0 o1 e0 e1 : Option (List ℕ)) (by : Err ending ≡ stop_by end)
    (goes : world_broken_off end ≡ true → is_none n.ended ≡ true) (below : world_broken_off end ≡ true → n.steps < budget)
    (reads : end ≡ worlds.ReadFault → NamesRead (last_machine n).core) (writes : end ≡ worlds.WriteFault → MakesWrite (last_machine n) 1) (errs : end ≡ worlds.ErrorsFault → MakesWrite (last_machine n) 2) where
  abbrev world_put : List ℕ → WorldState
  world_put bytes = threads turns n.steps (world_with_input w bytes)

  abbrev world_seen : List ℕ → State
  world_seen bytes = seen_by n.last (world_put bytes)

  world_in : (bytes : List ℕ) (put : State → List ℕ) (old new : Option (List ℕ)) → world_broken_off end ≡ true → AtCall ending left (world_seen bytes)
      → IfSome old (λ had. new ≡ Some (had ++ put (world_seen bytes))) → GainedAt (InWorld turns w budget ending left bytes) put old new
  world_in bytes put old new broken at gained = (world_seen bytes, (n.steps, below broken, n.last, refl, at), gained)

  -- the machine of the context
  world_kept : (bytes : List ℕ) → IsKeptAt (world_put bytes) n left → IsKept (world_seen bytes).parts (last_machine n) (Some (world_put bytes).input) left
  world_kept bytes kept = record { is = ap last_machine kept.is; stored = kept.stored }

  pub world_keeps : (f : List ℕ → Option Outcome) (told : Option (List ℕ)) → IfSome told (λ bytes. world_broken_off end ≡ true → IsKeptAt (threads turns n.steps (world_with_input w bytes)) n left)
      → ((end ≡ worlds.ReadFault) ⊎ (end ≡ worlds.ErrorsFault) → WorldPuts (λ st. (threads turns n.steps st).output) w told o0 o1 false)
      → ((end ≡ worlds.ReadFault) ⊎ (end ≡ worlds.WriteFault) → WorldPuts (λ st. (threads turns n.steps st).errors) w told e0 e1 false) → HasAllPut (InWorld turns w budget ending left) f ending told o0 o1 e0 e1
  world_keeps f None kept out_put more = tt
  world_keeps f (Some bytes) kept out_put more =
      let out : State → List ℕ = λ st. st.output in
      let err : State → List ℕ = λ st. st.errors in (
        (λ fault. elim fault as (λ _. Written (InWorld turns w budget ending left bytes) (f bytes) ending o0 o1) [
          | inl e ↦
              let r : end ≡ worlds.ReadFault = world_reads end ending by e in
              let broken : world_broken_off end ≡ true = ap world_broken_off r in
              inl (world_in bytes out o0 o1 broken (as_ending ending ReadFault left (world_seen bytes) e (at_read (world_seen bytes) (last_machine n) left (world_kept bytes (kept broken)) (goes broken) (reads r))) (out_put (inl r)))
          | inr e ↦
              let r : end ≡ worlds.ErrorsFault = world_errs end ending by e in
              let broken : world_broken_off end ≡ true = ap world_broken_off r in
              inl (world_in bytes out o0 o1 broken (as_ending ending ErrorsFault left (world_seen bytes) e (at_errors (world_seen bytes) (last_machine n) left (world_kept bytes (kept broken)) (goes broken) (errs r).names)) (out_put (inr r)))
        ]),
        (λ fault. elim fault as (λ _. GainedAt (InWorld turns w budget ending left bytes) err e0 e1) [
          | inl e ↦
              let r : end ≡ worlds.ReadFault = world_reads end ending by e in
              let broken : world_broken_off end ≡ true = ap world_broken_off r in
              world_in bytes err e0 e1 broken (as_ending ending ReadFault left (world_seen bytes) e (at_read (world_seen bytes) (last_machine n) left (world_kept bytes (kept broken)) (goes broken) (reads r))) (more (inl r))
          | inr e ↦
              let r : end ≡ worlds.WriteFault = world_writes end ending by e in
              let broken : world_broken_off end ≡ true = ap world_broken_off r in
              world_in bytes err e0 e1 broken (as_ending ending WriteFault left (world_seen bytes) e (at_write (world_seen bytes) (last_machine n) left (world_kept bytes (kept broken)) (goes broken) (writes r).names)) (more (inr r))
        ]),
      )

-- ---- behind the reading of a file

there_is : (o : Option (List ℕ)) (bytes : List ℕ) → whole_file o file_limit ≡ Ok bytes → o ≡ Some bytes
there_is None bytes e = cc
there_is (Some found) bytes e = ap (λ (l : List ℕ). Some l) (found_so (nat_le (length found) file_limit) found bytes e).0

-- where a command may be broken off behind the file that the word at a place names
abbrev pub behind_file : (Files → List ℕ → List ℕ → State → Type 0) → List (List ℕ) → ℕ → Files → List ℕ → State → Type 0
behind_file at words place files input st = MatchOption (file_at words files place) ⊥ (λ bytes. at files bytes input st)

-- the file was read
pub found_keeps : (at : Files → List ℕ → List ℕ → State → Type 0) (next : Files → List ℕ → List ℕ → Option Outcome) (told : Option Files) (words : List (List ℕ)) (place : ℕ) (name bytes items : List ℕ) (i o o1 e e1 : Option (List ℕ)) (result : Ending) (P : Files → Type 0)
    → name ≡ get_or words place [] → bytes ≡ items → IfSome told (λ files. whole_file (get files name) file_limit ≡ Ok items)
    → IfSome told (λ files. P files → HasAllPut (at files bytes) (next files bytes) result i o o1 e e1)
    → IfSome told (λ files. P files → HasAllPut (behind_file at words place files) (over next words place files) result i o o1 e e1)
found_keeps at next None words place name bytes items i o o1 e e1 result P named are found keeps = tt
found_keeps at next (Some files) words place name bytes items i o o1 e e1 result P named are found keeps = λ p.
    let whole : whole_file (get files (get_or words place [])) file_limit ≡ Ok bytes = ap (λ (n : List ℕ). whole_file (get files n) file_limit) (sym named) ∙ found ∙ ap (λ (xs : List ℕ). Ok xs) (sym are) in
    let there : file_at words files place ≡ Some bytes = there_is (file_at words files place) bytes whole in
    keeps_as (at files bytes) (behind_file at words place files) (next files bytes) (over next words place files) result o o1 e e1 i
    (λ input st passed. subst (λ (x : Option (List ℕ)). MatchOption x ⊥ (λ b. at files b input st)) (sym there) passed)
    (λ input. sym (with_found (file_at words files place) bytes (λ b. next files b input) whole)) (keeps p)

-- it wasn't
pub unread_keeps : (at : Files → List ℕ → State → Type 0) (next : Files → List ℕ → List ℕ → Option Outcome) (told : Option Files) (words : List (List ℕ)) (place : ℕ) (name : List ℕ) (ending : Ending) (i o e e1 : Option (List ℕ)) (P : Files → Type 0)
    → name ≡ get_or words place [] → EndsUnread told name ending → IfSome told (λ files. P files → HasAllPut (at files) (over next words place files) ending i o o e e1)
unread_keeps at next None words place name ending i o e e1 P named unread = tt
unread_keeps at next (Some files) words place name ending i o e e1 P named unread = λ p.
    whole_keeps (at files) (over next words place files) o o e e1 ending i (unread_no_read (Some files) name ending unread) (unread_no_write (Some files) name ending unread)
    (λ bytes _ fault.
    let long : IsTooLong (Some files) name = subst (λ (x : Ending). EndsUnread (Some files) name x) fault unread in
    let there : whole_file (file_at words files place) file_limit ≡ Err images.TooLong = ap (λ (n : List ℕ). whole_file (get files n) file_limit) (sym named) ∙ long in
    same_held (over next words place files bytes) o (ap output_of (with_long (file_at words files place) (λ b. next files b bytes) there)))

-- the same, whatever else the files are
module _ (at : Files → List ℕ → List ℕ → State → Type 0) (next : Files → List ℕ → List ℕ → Option Outcome) where
  pub found_told : (told : Option Files) (words : List (List ℕ)) (place : ℕ) (name bytes items : List ℕ) (i o o1 e e1 : Option (List ℕ)) (result : Ending)
      → name ≡ get_or words place [] → bytes ≡ items → IfSome told (λ files. whole_file (get files name) file_limit ≡ Ok items)
      → IfSome told (λ files. HasAllPut (at files bytes) (next files bytes) result i o o1 e e1)
      → IfSome told (λ files. HasAllPut (behind_file at words place files) (over next words place files) result i o o1 e e1)
  found_told None words place name bytes items i o o1 e e1 result named are found keeps = tt
  found_told (Some files) words place name bytes items i o o1 e e1 result named are found keeps =
      found_keeps at next (Some files) words place name bytes items i o o1 e e1 result (λ _. Unit {0}) named are found (λ _. keeps) tt

  -- a second file that isn't one whose input is read first
  pub found_behind : (second : SecondFile) (told : Option Files) (words : List (List ℕ)) (place : ℕ) (name bytes items : List ℕ) (i o o1 e e1 : Option (List ℕ)) (result : Ending)
      → name ≡ get_or words place [] → bytes ≡ items → IfSome told (λ files. whole_file (get files name) file_limit ≡ Ok items)
      → ((files : Files) → text_reads_first second bytes ≡ false → HasAllPut (at files bytes) (next files bytes) result i o o1 e e1)
      → IfSome told (λ files. file_reads_first second (file_at words files place) ≡ false → HasAllPut (behind_file at words place files) (over next words place files) result i o o1 e e1)
  found_behind second None words place name bytes items i o o1 e e1 result named are found keeps = tt
  found_behind second (Some files) words place name bytes items i o o1 e e1 result named are found keeps = λ later.
      let whole : whole_file (file_at words files place) file_limit ≡ Ok bytes = ap (λ (n : List ℕ). whole_file (get files n) file_limit) (sym named) ∙ found ∙ ap (λ (xs : List ℕ). Ok xs) (sym are) in
      found_keeps at next (Some files) words place name bytes items i o o1 e e1 result (λ _. Unit {0}) named are found
      (λ _. keeps files (found_reads second (file_at words files place) bytes whole ∙ later)) tt

pub unread_told : (at : Files → List ℕ → State → Type 0) (next : Files → List ℕ → List ℕ → Option Outcome) (told : Option Files) (words : List (List ℕ)) (place : ℕ) (name : List ℕ) (ending : Ending) (i o e e1 : Option (List ℕ))
    → name ≡ get_or words place [] → EndsUnread told name ending → IfSome told (λ files. HasAllPut (at files) (over next words place files) ending i o o e e1)
unread_told at next None words place name ending i o e e1 named unread = tt
unread_told at next (Some files) words place name ending i o e e1 named unread = unread_keeps at next (Some files) words place name ending i o e e1 (λ _. Unit {0}) named unread tt

-- ---- a run that wasn't broken off has put all

pub puts_whole : (m : Parts) (budget : ℕ) (end : RunEnd) (pc : ℕ) (ending : Ending) → ending ≡ ending_by end pc → is_failure ending ≡ false → (told o0 o1 : Option (List ℕ)) → Puts (λ st. (run st budget).output) m told o0 o1 (is_broken_off end)
    → IfSome told (λ bytes. IfSome o0 (λ had. o1 ≡ Some (had ++ (run (with_input m bytes) budget).output)))
puts_whole m budget end pc ending by fine told o0 o1 gains =
    let whole : is_broken_off end ≡ false = sym (broken_is end pc) ∙ ap is_failure (sym by) ∙ fine in
    subst (λ (b : Bool). Puts (λ st. (run st budget).output) m told o0 o1 b) whole gains

pub world_whole : (turns : List (ℕ × ℕ)) (budget : ℕ) (w : World) (end : WorldEnd) (stop : WorldEnding) → Ok stop ≡ stop_by end → (told o0 o1 : Option (List ℕ)) → WorldPuts (λ st. (threads turns budget st).output) w told o0 o1 (world_broken_off end)
    → IfSome told (λ bytes. IfSome o0 (λ had. o1 ≡ Some (had ++ (threads turns budget (world_with_input w bytes)).output)))
world_whole turns budget w end stop is told o0 o1 gains = subst (λ (b : Bool). WorldPuts (λ st. (threads turns budget st).output) w told o0 o1 b) (stops_whole end stop is) gains
