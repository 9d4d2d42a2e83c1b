-- What a call makes of all that it sees, by what it did.
use Rattle.std.proofs.Common.{◌≡◌, ◌/◌, ℕ, Bool, true, false, List, [], ◌++◌, length, drop, min, Option, Some, None, IfSome, MatchBool, Ok, Err, nat_eq, if◌then◌else◌, refl, sym, ap, subst, ◌∙◌, append-nil}
use Rattle.emu_model.specs.declared.program_break.Break.{Break}
use Rattle.emu_model.specs.Access.{Memory}
use Rattle.emu_model.specs.State.{Core, Vectors, Parts}
use Rattle.emu_model.specs.SoundState.{IsSoundBreak}
use Rattle.emu_model.specs.AfterCall.{cleared}
use Rattle.emu_model.specs.Writes.{after_call}
use Rattle.emu_system.specs.declared.system_call.CallName.{CallName}
use Rattle.emu_system.specs.declared.system_call.Errno.{Errno}
use Rattle.emu_system.specs.declared.system_call.Range.{Range}
use Rattle.emu_system.specs.SystemCall.{Action, fails, answers, maps, moves_break, sets_length, takes, puts, exits, Stepped, action_of, answered_core, call_done, error_answer, with_ranges, range_bytes, error_number, quiet, returned_in, total}
use Rattle.linux_calls.specs.declared.end.CallEnd.{CallEnd}
use Rattle.linux_calls.specs.declared.end.CallEnd.TheVariants.{Returned, Exit, ReadFault, WriteFault, ErrorsFault}
use Rattle.linux_calls.specs.declared.reply.Reply.{Reply}
use Rattle.linux_calls.specs.declared.reply.Reply.TheVariants.{Answer, Error}
use Rattle.linux_calls.specs.Done.{Around, IsDone}
use Rattle.linux_calls.specs.Ends.{OfInput, behind, caller, end_of, is_fault}
use Rattle.emu_system.specs.Gained.{Gains}
use Rattle.linux_calls.specs.Puts.{HasWritten, fault_of}
use Rattle.linux_calls.specs.Replies.{HasBrokenOff, HasDone, HasTaken, replied, value_of}

-- ---- streams that stay

still_left : (told : Option (List ℕ)) → IfSome told (λ bytes. told ≡ Some bytes)
still_left None = tt
still_left (Some bytes) = refl

still_held : (held : Option (List ℕ)) → IfSome held (λ had. held ≡ Some (had ++ []))
still_held None = tt
still_held (Some had) = ap Some (sym (append-nil had))

pub nothing_gained : (held now : Option (List ℕ)) (broken : Bool) → now ≡ held → IfSome held (λ had. Gains broken now had [])
nothing_gained None now broken same = tt
nothing_gained (Some had) now false same = same ∙ still_held (Some had)
nothing_gained (Some had) now true same = record { gained = []; is = same ∙ still_held (Some had); first = ([], refl) }

-- what a sink gained, where the file is its own and where it isn't
gained_by : (mine broken : Bool) (held now : Option (List ℕ)) (bytes : List ℕ) (same : Type 0) → (same → now ≡ held) → MatchBool mine (IfSome held (λ had. Gains broken now had bytes)) same → IfSome held (λ had. Gains broken now had (if mine then bytes else []))
gained_by true broken held now bytes same keeps p = p
gained_by false broken held now bytes same keeps p = nothing_gained held now broken (keeps p)

kept_by : (mine : Bool) (P Q : Type 0) → MatchBool mine P Q → mine ≡ false → Q
kept_by true P Q p is = let no : true ≡ false = is in cc
kept_by false P Q p is = p

no_fault : (P : Type 0) → false ≡ true → P
no_fault P e = let no : false ≡ true = e in cc

fault : (P : Type 0) → true ≡ false → P
fault P e = let no : true ≡ false = e in cc

-- where the input tells nothing to look at
of_some : (told : Option (List ℕ)) (P : List ℕ → Type 0) → ((bytes : List ℕ) → P bytes) → IfSome told P
of_some None P f = tt
of_some (Some bytes) P f = f bytes

module _ (c : Core) (v : Vectors) (m : Memory) (b : Break) (told ho he : Option (List ℕ)) (si so se : Type 0) where
  abbrev old : Around
  old = record { core = c; vectors = v; memory = m; brk = b; left = told; output = ho; errors = he }

  -- ---- a call that returned

  module _ (c' : Core) (v' : Vectors) (m' : Memory) (b' : Break) (left ho' he' : Option (List ℕ)) (sound : IsSoundBreak b') where
    abbrev new : Around
    new = record { core = c'; vectors = v'; memory = m'; brk = b'; left = left; output = ho'; errors = he' }

    state_of : (bits x : ℕ) (m2 : Memory) (b2 : Break) → v' ≡ cleared bits v → c' ≡ answered_core c x → m' ≡ m2 → b' ≡ b2 → behind Returned c' v' m' b' ≡ returned_in bits (record (caller c v m b) { memory = m2; brk = b2 }) x
    state_of bits x m2 b2 vectors ce me be = λ i. behind Returned (ce i) (vectors i) (me i) (be i)

    -- and moved no byte
    module _ (same_left : left ≡ told) (same_written : ho' ≡ ho) (same_told : he' ≡ he) (i : si) (o : so) (e : se) where
      left_is : IfSome told (λ bytes. left ≡ Some bytes)
      left_is = subst (λ (l : Option (List ℕ)). IfSome told (λ bytes. l ≡ Some bytes)) (sym same_left) (still_left told)

      -- in this length, with this answer, memory and break
      module _ (a : Action) (bits x : ℕ) (m2 : Memory) (b2 : Break) (is : (bytes : List ℕ) → call_done a (caller c v m b) bytes ≡ quiet (returned_in bits (record (caller c v m b) { memory = m2; brk = b2 }) x) bytes)
          (ends : Returned ≡ end_of a) (any : (P : List ℕ → Type 0) → ((bytes : List ℕ) → P bytes) → OfInput a told P) (vectors : v' ≡ cleared bits v) (ce : c' ≡ answered_core c x) (me : m' ≡ m2) (be : b' ≡ b2) where
        left_of : (t : Option (List ℕ)) → IfSome t (λ bytes. left ≡ Some bytes) → IfSome t (λ bytes. false ≡ false → left ≡ Some (call_done a (caller c v m b) bytes).input)
        left_of None h = tt
        left_of (Some bytes) h = λ _. h ∙ ap (λ (t : Stepped). Some t.input) (sym (is bytes))

        quietly : IsDone a old new si so se Returned
        quietly = record {
          state = any (λ bytes. false ≡ false → behind Returned c' v' m' b' ≡ (call_done a (caller c v m b) bytes).parts) (λ bytes _. state_of bits x m2 b2 vectors ce me be ∙ ap (λ (t : Stepped). t.parts) (sym (is bytes)));
          input = left_of told left_is;
          output = λ bytes. subst (λ (t : Stepped). IfSome ho (λ had. Gains false ho' had t.output)) (sym (is bytes)) (nothing_gained ho ho' false same_written);
          errors = λ bytes. subst (λ (t : Stepped). IfSome he (λ had. Gains false he' had t.errors)) (sym (is bytes)) (nothing_gained he he' false same_told);
          end = λ _. ends;
          sound = sound;
          kept = no_fault _;
          stored = no_fault _;
          untaken = λ _. i;
          output_kept = λ _. o;
          errors_kept = λ _. e;
        }

      -- and set the length
      pub done_length : (bits : ℕ) → v' ≡ cleared bits v → c' ≡ answered_core c (bits / 8) → m' ≡ m → b' ≡ b → IsDone (sets_length bits) old new si so se Returned
      done_length bits vectors ce me be = quietly (sets_length bits) bits (bits / 8) m b (λ bytes. refl) refl (λ P f. f) vectors ce me be

      -- and left the length
      module _ (vectors : v' ≡ after_call v) where
        reply_of : (r s : Reply) → c' ≡ answered_core c (value_of r) → r ≡ s → c' ≡ answered_core c (value_of s)
        reply_of r s ce is = ce ∙ ap (λ (r : Reply). answered_core c (value_of r)) is

        pub done_still : (a : Action) (r : Reply) → HasDone a m b m' b' r → c' ≡ answered_core c (value_of r) → IsDone a old new si so se Returned
        done_still (fails x) r h ce = quietly (fails x) v.bits (error_answer (error_number x)) m b (λ bytes. refl) refl (λ P f. f) vectors (reply_of r (Error x) ce h.0) h.1 h.2
        done_still (answers x) r h ce = quietly (answers x) v.bits x m b (λ bytes. refl) refl (λ P f. f) vectors (reply_of r (Answer x) ce h.0) h.1 h.2
        done_still (maps memory x) r h ce = quietly (maps memory x) v.bits x memory b (λ bytes. refl) refl (λ P f. f) vectors (reply_of r (Answer x) ce h.0) h.1 h.2
        done_still (moves_break memory to) r h ce = quietly (moves_break memory to) v.bits to memory (record { start = b.start; now = to }) (λ bytes. refl) refl (λ P f. f) vectors (reply_of r (Answer to) ce h.0) h.1 h.2
        done_still (sets_length bits) r h ce = absurd h
        done_still (takes ranges) r h ce = absurd h
        done_still (puts file ranges) r h ce = absurd h
        done_still (exits code) r h ce = absurd h

        -- the same of a reply alone
        pub done_replied : (a : Action) (r : Reply) → a ≡ replied r → m' ≡ m → b' ≡ b → c' ≡ answered_core c (value_of r) → IsDone a old new si so se Returned
        done_replied a (Answer x) is me be ce = subst (λ (a : Action). IsDone a old new si so se Returned) (sym is) (done_still (answers x) (Answer x) (refl, me, be) ce)
        done_replied a (Error x) is me be ce = subst (λ (a : Action). IsDone a old new si so se Returned) (sym is) (done_still (fails x) (Error x) (refl, me, be) ce)

    module _ (vectors : v' ≡ after_call v) where
      -- and took bytes
      module _ (same : b' ≡ b) (keeps : si → left ≡ told) (same_written : ho' ≡ ho) (same_told : he' ≡ he) (o : so) (e : se) where
        of_reply : (a : Action) (r : Reply) → (a ≡ replied r) × (m' ≡ m) × si → c' ≡ answered_core c (value_of r) → IsDone a old new si so se Returned
        of_reply a r h ce = done_replied (keeps h.2) same_written same_told h.2 o e vectors a r h.0 h.1 same ce

        taken_state : (ranges : List Range) (r : Reply) (t : Option (List ℕ)) → IfSome t (λ bytes. (r ≡ Answer (min (total ranges) (length bytes))) × (m' ≡ with_ranges m ranges bytes) × (left ≡ Some (drop (total ranges) bytes))) → c' ≡ answered_core c (value_of r)
            → IfSome t (λ bytes. false ≡ false → behind Returned c' v' m' b' ≡ (call_done (takes ranges) (caller c v m b) bytes).parts)
        taken_state ranges r None h ce = tt
        taken_state ranges r (Some bytes) h ce = λ _. state_of v.bits (min (total ranges) (length bytes)) (with_ranges m ranges bytes) b vectors (ce ∙ ap (λ (r : Reply). answered_core c (value_of r)) h.0) h.1 same

        taken_left : (ranges : List Range) (r : Reply) (t : Option (List ℕ)) → IfSome t (λ bytes. (r ≡ Answer (min (total ranges) (length bytes))) × (m' ≡ with_ranges m ranges bytes) × (left ≡ Some (drop (total ranges) bytes)))
            → IfSome t (λ bytes. false ≡ false → left ≡ Some (drop (total ranges) bytes))
        taken_left ranges r None h = tt
        taken_left ranges r (Some bytes) h = λ _. h.2

        pub done_taken : (a : Action) (r : Reply) → HasTaken a m m' told left si r → c' ≡ answered_core c (value_of r) → IsDone a old new si so se Returned
        done_taken (takes ranges) r h ce = record {
          state = taken_state ranges r told h ce;
          input = taken_left ranges r told h;
          output = λ bytes. nothing_gained ho ho' false same_written;
          errors = λ bytes. nothing_gained he he' false same_told;
          end = λ _. refl;
          sound = sound;
          kept = no_fault _;
          stored = no_fault _;
          untaken = fault _;
          output_kept = λ _. o;
          errors_kept = λ _. e;
        }
        done_taken (fails x) r h ce = of_reply (fails x) r h ce
        done_taken (answers x) r h ce = of_reply (answers x) r h ce
        done_taken (maps memory x) r h ce = of_reply (maps memory x) r h ce
        done_taken (moves_break memory to) r h ce = of_reply (moves_break memory to) r h ce
        done_taken (sets_length bits) r h ce = of_reply (sets_length bits) r h ce
        done_taken (puts file ranges) r h ce = of_reply (puts file ranges) r h ce
        done_taken (exits code) r h ce = of_reply (exits code) r h ce

      -- and put bytes
      module _ (same : b' ≡ b) (stays : m' ≡ m) (same_left : left ≡ told) (keeps_output : so → ho' ≡ ho) (keeps_errors : se → he' ≡ he) (i : si) where
        put_reply : (a : Action) (r : Reply) → a ≡ replied r → so → se → c' ≡ answered_core c (value_of r) → IsDone a old new si so se Returned
        put_reply a r is o e ce = done_replied same_left (keeps_output o) (keeps_errors e) i o e vectors a r is stays same ce

        put_left : (t : Option (List ℕ)) → IfSome t (λ bytes. left ≡ Some bytes) → IfSome t (λ bytes. false ≡ false → left ≡ Some bytes)
        put_left None h = tt
        put_left (Some bytes) h = λ _. h

        pub done_written : (a : Action) (r : Reply) → HasWritten a m ho ho' so he he' se (Ok r) → c' ≡ answered_core c (value_of r) → IsDone a old new si so se Returned
        done_written (puts file ranges) r h ce = record {
          state = λ bytes _. state_of v.bits (total ranges) m b vectors (ce ∙ ap (λ (r : Reply). answered_core c (value_of r)) h.replied) stays same;
          input = put_left told (subst (λ (l : Option (List ℕ)). IfSome told (λ bytes. l ≡ Some bytes)) (sym same_left) (still_left told));
          output = λ bytes. gained_by (nat_eq file 1) false ho ho' (range_bytes m ranges) so keeps_output h.output;
          errors = λ bytes. gained_by (nat_eq file 2) false he he' (range_bytes m ranges) se keeps_errors h.errors;
          end = λ _. refl;
          sound = sound;
          kept = no_fault _;
          stored = no_fault _;
          untaken = λ _. i;
          output_kept = kept_by (nat_eq file 1) _ so h.output;
          errors_kept = kept_by (nat_eq file 2) _ se h.errors;
        }
        done_written (fails x) r h ce = put_reply (fails x) r h.replied h.output h.errors ce
        done_written (answers x) r h ce = put_reply (answers x) r h.replied h.output h.errors ce
        done_written (maps memory x) r h ce = put_reply (maps memory x) r h.replied h.output h.errors ce
        done_written (moves_break memory to) r h ce = put_reply (moves_break memory to) r h.replied h.output h.errors ce
        done_written (sets_length bits) r h ce = put_reply (sets_length bits) r h.replied h.output h.errors ce
        done_written (takes ranges) r h ce = put_reply (takes ranges) r h.replied h.output h.errors ce
        done_written (exits code) r h ce = put_reply (exits code) r h.replied h.output h.errors ce

  -- ---- a call that a stream broke off

  module _ (m' : Memory) (left ho' he' : Option (List ℕ)) (sound : IsSoundBreak b) where
    abbrev broken : Around
    broken = record { core = c; vectors = v; memory = m'; brk = b; left = left; output = ho'; errors = he' }

    -- while it took
    pub done_failed : (a : Action) → HasBrokenOff a m m' told left → ho' ≡ ho → he' ≡ he → so → se → IsDone a old broken si so se ReadFault
    done_failed (takes ranges) h same_written same_told o e = record {
      state = of_some told _ (λ bytes. fault _);
      input = of_some told _ (λ bytes. fault _);
      output = λ bytes. nothing_gained ho ho' true same_written;
      errors = λ bytes. nothing_gained he he' true same_told;
      end = fault _;
      sound = sound;
      kept = λ _. (refl, refl, refl);
      stored = λ _. h;
      untaken = fault _;
      output_kept = λ _. o;
      errors_kept = λ _. e;
    }
    done_failed (fails x) h same_written same_told o e = absurd h
    done_failed (answers x) h same_written same_told o e = absurd h
    done_failed (maps memory x) h same_written same_told o e = absurd h
    done_failed (moves_break memory to) h same_written same_told o e = absurd h
    done_failed (sets_length bits) h same_written same_told o e = absurd h
    done_failed (puts file ranges) h same_written same_told o e = absurd h
    done_failed (exits code) h same_written same_told o e = absurd h

    -- while it put
    of_file : (file : ℕ) → is_fault (fault_of file) ≡ true
    of_file file = elim (nat_eq file 1) as (λ (b : Bool). is_fault (if b then WriteFault else ErrorsFault) ≡ true) [ true ↦ refl | false ↦ refl ]

    by_fault : (P : Bool → Type 0) (end : CallEnd) → is_fault end ≡ true → P true → P (is_fault end)
    by_fault P end is p = subst P (sym is) p

    is_broken : (end : CallEnd) (P : Type 0) → is_fault end ≡ true → is_fault end ≡ false → P
    is_broken end P is isnt = let no : true ≡ false = sym is ∙ isnt in cc

    pub done_unwritten : (a : Action) (end : CallEnd) → HasWritten a m ho ho' so he he' se (Err end) → m' ≡ m → (so → ho' ≡ ho) → (se → he' ≡ he) → si → IsDone a old broken si so se end
    done_unwritten (puts file ranges) end h stays keeps_output keeps_errors i =
        let is : is_fault end ≡ true = ap is_fault h.failed ∙ of_file file in
        record {
          state = λ bytes. is_broken end _ is;
          input = of_some told _ (λ bytes. is_broken end _ is);
          output = λ bytes. by_fault (λ b. IfSome ho (λ had. Gains b ho' had (if nat_eq file 1 then range_bytes m ranges else []))) end is (gained_by (nat_eq file 1) true ho ho' (range_bytes m ranges) so keeps_output h.output);
          errors = λ bytes. by_fault (λ b. IfSome he (λ had. Gains b he' had (if nat_eq file 2 then range_bytes m ranges else []))) end is (gained_by (nat_eq file 2) true he he' (range_bytes m ranges) se keeps_errors h.errors);
          end = is_broken end _ is;
          sound = sound;
          kept = λ _. (refl, refl, refl);
          stored = λ _. stays;
          untaken = λ _. i;
          output_kept = kept_by (nat_eq file 1) _ so h.output;
          errors_kept = kept_by (nat_eq file 2) _ se h.errors;
        }
    done_unwritten (fails x) end h stays keeps_output keeps_errors i = absurd h.failed
    done_unwritten (answers x) end h stays keeps_output keeps_errors i = absurd h.failed
    done_unwritten (maps memory x) end h stays keeps_output keeps_errors i = absurd h.failed
    done_unwritten (moves_break memory to) end h stays keeps_output keeps_errors i = absurd h.failed
    done_unwritten (sets_length bits) end h stays keeps_output keeps_errors i = absurd h.failed
    done_unwritten (takes ranges) end h stays keeps_output keeps_errors i = absurd h.failed
    done_unwritten (exits code) end h stays keeps_output keeps_errors i = absurd h.failed

-- what holds at a call's name and end holds at the same
pub named : (P : Action → CallEnd → Type 0) (c : Core) (v : Vectors) (m : Memory) (b : Break) (name other : CallName) (call_end end : CallEnd) → name ≡ other → call_end ≡ end → P (action_of other c v m b) end → P (action_of name c v m b) call_end
named P c v m b name other call_end end is ended p = subst (λ (n : CallName). P (action_of n c v m b) call_end) (sym is) (subst (P (action_of other c v m b)) (sym ended) p)

-- ---- a call that is refused

not_failed : (old new : Around) (si so se : Type 0) (e : Errno) (end : CallEnd) → IsDone (fails e) old new si so se end → is_fault end ≡ false
not_failed x y si so se e Returned d = refl
not_failed x y si so se e (Exit code) d = refl
not_failed x y si so se e ReadFault d = absurd (d.stored refl)
not_failed x y si so se e WriteFault d = absurd (d.stored refl)
not_failed x y si so se e ErrorsFault d = absurd (d.stored refl)

memory_behind : (end : CallEnd) (a : Around) → (behind end a.core a.vectors a.memory a.brk).memory ≡ a.memory
memory_behind Returned a = refl
memory_behind (Exit code) a = refl
memory_behind ReadFault a = refl
memory_behind WriteFault a = refl
memory_behind ErrorsFault a = refl

break_behind : (end : CallEnd) (a : Around) → (behind end a.core a.vectors a.memory a.brk).brk ≡ a.brk
break_behind Returned a = refl
break_behind (Exit code) a = refl
break_behind ReadFault a = refl
break_behind WriteFault a = refl
break_behind ErrorsFault a = refl

refusal : (old new : Around) (si so se : Type 0) (e : Errno) (end : CallEnd) → IsDone (fails e) old new si so se end → (new.memory ≡ old.memory) × (new.brk ≡ old.brk) × si × so × se
refusal old new si so se e end d =
    let parts = d.state [] (not_failed old new si so se e end d) in (
      sym (memory_behind end new) ∙ ap (λ (p : Parts). p.memory) parts,
      sym (break_behind end new) ∙ ap (λ (p : Parts). p.brk) parts,
      d.untaken refl,
      d.output_kept refl,
      d.errors_kept refl,
    )

pub refused_done : (a b : Action) (old new : Around) (si so se : Type 0) (e : Errno) (end : CallEnd) → a ≡ b → IsDone a old new si so se end → b ≡ fails e → (new.memory ≡ old.memory) × (new.brk ≡ old.brk) × si × so × se
refused_done a b old new si so se e end same d is = refusal old new si so se e end (subst (λ (a : Action). IsDone a old new si so se end) (same ∙ is) d)
