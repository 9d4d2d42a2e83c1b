-- What a call makes, takes and puts, by what it made of a machine without steps.
use Rattle.std.proofs.Common.{◌≡◌, ℕ, Bool, true, false, List, length, length-drop, take, Option, Some, None, is_some, ◌||◌, IfSome, ◌+◌, refl, sym, ap, subst, ◌∙◌, arith}
use Rattle.std.proofs.lemmas.List.{length-take}
use Rattle.emu_model.specs.declared.program_break.Break.{Break}
use Rattle.emu_model.specs.declared.trap.Ended.{Ended}
use Rattle.emu_model.specs.Access.{Memory}
use Rattle.emu_model.specs.State.{Core, Vectors, Parts}
use Rattle.emu_system.specs.Start.{with_input}
use Rattle.emu_system.specs.SystemCall.{Action, fails, answers, maps, moves_break, sets_length, takes, puts, exits, action, call, call_done, total}
use Rattle.linux_calls.specs.declared.end.CallEnd.{CallEnd}
use Rattle.linux_calls.specs.declared.end.CallEnd.TheVariants.{Returned, Exit, ReadFault, WriteFault, ErrorsFault}
use Rattle.linux_calls.specs.Ends.{OfInput, Stores, behind, caller, does_take, end_of, is_fault, is_put_fault}
use Rattle.emu_system.specs.Gained.{Gains}
use Rattle.emu_machine.specs.declared.ends.StepEnd.{StepEnd}
use Rattle.emu_machine.specs.declared.ends.StepEnd.TheVariants.{Going, Exit as StepExit, Trap as StepTrap, ReadFault as StepReadFault, WriteFault as StepWriteFault, ErrorsFault as StepErrorsFault}
use Rattle.emu_machine.specs.Ends.{Becomes, IsKept, LeftOf, Puts, TakesWithin, is_undone, is_unput, left_by, step_by, step_end}
use Rattle.emu_machine.specs.Machines.{call_made}

undone_by : (end : CallEnd) → is_undone (step_by end) ≡ is_fault end
undone_by Returned = refl
undone_by (Exit code) = refl
undone_by ReadFault = refl
undone_by WriteFault = refl
undone_by ErrorsFault = refl

abbrev without_steps : Parts → Parts
without_steps p = caller p.core p.vectors p.memory p.brk

-- ---- what it puts

same_output : (a : Action) (p : Parts) (bytes : List ℕ) → (call_done a (without_steps p) bytes).output ≡ (call_done a p bytes).output
same_output (fails e) p bytes = refl
same_output (answers v) p bytes = refl
same_output (maps memory v) p bytes = refl
same_output (moves_break memory to) p bytes = refl
same_output (sets_length bits) p bytes = refl
same_output (takes ranges) p bytes = refl
same_output (puts file ranges) p bytes = refl
same_output (exits code) p bytes = refl

same_errors : (a : Action) (p : Parts) (bytes : List ℕ) → (call_done a (without_steps p) bytes).errors ≡ (call_done a p bytes).errors
same_errors (fails e) p bytes = refl
same_errors (answers v) p bytes = refl
same_errors (maps memory v) p bytes = refl
same_errors (moves_break memory to) p bytes = refl
same_errors (sets_length bits) p bytes = refl
same_errors (takes ranges) p bytes = refl
same_errors (puts file ranges) p bytes = refl
same_errors (exits code) p bytes = refl

same_input : (a : Action) (p : Parts) (bytes : List ℕ) → (call_done a (without_steps p) bytes).input ≡ (call_done a p bytes).input
same_input (fails e) p bytes = refl
same_input (answers v) p bytes = refl
same_input (maps memory v) p bytes = refl
same_input (moves_break memory to) p bytes = refl
same_input (sets_length bits) p bytes = refl
same_input (takes ranges) p bytes = refl
same_input (puts file ranges) p bytes = refl
same_input (exits code) p bytes = refl

-- ---- what it makes of a machine that hasn't ended

pub not_ended : (e : Option Ended) (failed : Bool) → (is_some e || failed) ≡ false → e ≡ None
not_ended None failed going = refl
not_ended (Some x) failed going = cc

-- with so many steps counted before
abbrev counted : ℕ → Parts → Parts
counted steps m = record m { steps = steps + m.steps }

left_counted : (end : CallEnd) (m : Parts) → is_fault end ≡ false → left_by end (record m { ended = None }) ≡ counted m.steps (behind end m.core m.vectors m.memory m.brk)
left_counted Returned m done = refl
left_counted (Exit code) m done = refl
left_counted ReadFault m done = let no : true ≡ false = done in cc
left_counted WriteFault m done = let no : true ≡ false = done in cc
left_counted ErrorsFault m done = let no : true ≡ false = done in cc

done_counted : (a : Action) (m : Parts) (bytes : List ℕ) → counted m.steps (call_done a (without_steps m) bytes).parts ≡ (call_done a (record m { ended = None }) bytes).parts
done_counted (fails e) m bytes = refl
done_counted (answers v) m bytes = refl
done_counted (maps memory v) m bytes = refl
done_counted (moves_break memory to) m bytes = refl
done_counted (sets_length bits) m bytes = refl
done_counted (takes ranges) m bytes = refl
done_counted (puts file ranges) m bytes = refl
done_counted (exits code) m bytes = refl

ends_as : (a : Action) (m : Parts) (bytes : List ℕ) → m.ended ≡ None → step_by (end_of a) ≡ step_end (call_done a m bytes).parts.ended
ends_as (fails e) m bytes none = ap step_end (sym none)
ends_as (answers v) m bytes none = ap step_end (sym none)
ends_as (maps memory v) m bytes none = ap step_end (sym none)
ends_as (moves_break memory to) m bytes none = ap step_end (sym none)
ends_as (sets_length bits) m bytes none = ap step_end (sym none)
ends_as (takes ranges) m bytes none = ap step_end (sym none)
ends_as (puts file ranges) m bytes none = ap step_end (sym none)
ends_as (exits code) m bytes none = refl

-- what is so of any bytes is so where the input tells them, and of a call that takes none whatever they are
pub of_each : (a : Action) (told : Option (List ℕ)) (P Q : List ℕ → Type 0) → ((bytes : List ℕ) → P bytes → Q bytes) → OfInput a told P → OfInput a told Q
of_each (fails e) told P Q f h = λ bytes. f bytes (h bytes)
of_each (answers v) told P Q f h = λ bytes. f bytes (h bytes)
of_each (maps memory v) told P Q f h = λ bytes. f bytes (h bytes)
of_each (moves_break memory to) told P Q f h = λ bytes. f bytes (h bytes)
of_each (sets_length bits) told P Q f h = λ bytes. f bytes (h bytes)
of_each (takes ranges) None P Q f h = tt
of_each (takes ranges) (Some bytes) P Q f h = f bytes h
of_each (puts file ranges) told P Q f h = λ bytes. f bytes (h bytes)
of_each (exits code) told P Q f h = λ bytes. f bytes (h bytes)

pub of_all : (a : Action) (told : Option (List ℕ)) (P : List ℕ → Type 0) → ((bytes : List ℕ) → P bytes) → OfInput a told P
of_all (fails e) told P f = f
of_all (answers v) told P f = f
of_all (maps memory v) told P f = f
of_all (moves_break memory to) told P f = f
of_all (sets_length bits) told P f = f
of_all (takes ranges) None P f = tt
of_all (takes ranges) (Some bytes) P f = f bytes
of_all (puts file ranges) told P f = f
of_all (exits code) told P f = f

-- of bytes that the input told
of_told : (a : Action) (bytes : List ℕ) (P : List ℕ → Type 0) → OfInput a (Some bytes) P → P bytes
of_told (fails e) bytes P h = h bytes
of_told (answers v) bytes P h = h bytes
of_told (maps memory v) bytes P h = h bytes
of_told (moves_break memory to) bytes P h = h bytes
of_told (sets_length bits) bytes P h = h bytes
of_told (takes ranges) bytes P h = h
of_told (puts file ranges) bytes P h = h bytes
of_told (exits code) bytes P h = h bytes

-- ---- how the machine stands behind it

end_by_left : (end : CallEnd) (m : Parts) → m.ended ≡ None → is_fault end ≡ false → step_by end ≡ step_end (left_by end m).ended
end_by_left Returned m none done = ap step_end (sym none)
end_by_left (Exit code) m none done = refl
end_by_left ReadFault m none done = let no : true ≡ false = done in cc
end_by_left WriteFault m none done = let no : true ≡ false = done in cc
end_by_left ErrorsFault m none done = let no : true ≡ false = done in cc

count_by_left : (end : CallEnd) (m : Parts) → step_by end ≡ Going → (left_by end m).steps ≡ m.steps + 1
count_by_left Returned m going = refl
count_by_left (Exit code) m going = refl
count_by_left ReadFault m going = let no : StepReadFault ≡ Going = going in cc
count_by_left WriteFault m going = let no : StepWriteFault ≡ Going = going in cc
count_by_left ErrorsFault m going = let no : StepErrorsFault ≡ Going = going in cc

fault_left : (end : CallEnd) (m : Parts) → is_fault end ≡ true → left_by end m ≡ m
fault_left Returned m fault = let no : false ≡ true = fault in cc
fault_left (Exit code) m fault = let no : false ≡ true = fault in cc
fault_left ReadFault m fault = refl
fault_left WriteFault m fault = refl
fault_left ErrorsFault m fault = refl

unput_by : (end : CallEnd) → is_unput (step_by end) ≡ is_put_fault end
unput_by Returned = refl
unput_by (Exit code) = refl
unput_by ReadFault = refl
unput_by WriteFault = refl
unput_by ErrorsFault = refl

put_is_fault : (end : CallEnd) → is_put_fault end ≡ true → is_fault end ≡ true
put_is_fault Returned put = put
put_is_fault (Exit code) put = put
put_is_fault ReadFault put = refl
put_is_fault WriteFault put = refl
put_is_fault ErrorsFault put = refl

-- the call that a step's answer comes from
abbrev call_of : StepEnd → CallEnd
call_of Going = Returned
call_of (StepExit code) = Exit code
call_of (StepTrap t) = Returned
call_of StepReadFault = ReadFault
call_of StepWriteFault = WriteFault
call_of StepErrorsFault = ErrorsFault

call_of_step : (end : CallEnd) → call_of (step_by end) ≡ end
call_of_step Returned = refl
call_of_step (Exit code) = refl
call_of_step ReadFault = refl
call_of_step WriteFault = refl
call_of_step ErrorsFault = refl

module _ (end : CallEnd) (r : StepEnd) (p q : Parts) (is : r ≡ step_by end) (same : p ≡ q) where
  pub undone : is_fault end ≡ is_undone r
  undone = sym (undone_by end) ∙ ap is_undone (sym is)

  -- the call's answer by the step's
  pub ended_as : (x : StepEnd) → r ≡ x → end ≡ call_of x
  ended_as x so = sym (call_of_step end) ∙ ap call_of (sym is ∙ so)

  pub end_made : (bytes : List ℕ) → p.ended ≡ None → (is_fault end ≡ false → end ≡ end_of (action p)) → is_undone r ≡ false → r ≡ step_end (call_made (with_input q bytes)).parts.ended
  end_made bytes none ends fine =
      is ∙ ap step_by (ends (undone ∙ fine)) ∙ ends_as (action p) p bytes none ∙ ap (λ (x : Parts). step_end (call x bytes).parts.ended) same

  module _ (c : Core) (v : Vectors) (m : Memory) (brk : Break) (new : Parts) (none : p.ended ≡ None) (left : new ≡ left_by end (record p { core = c; vectors = v; memory = m; brk = brk })) where
    pub end_left : is_undone r ≡ false → r ≡ step_end new.ended
    end_left fine = is ∙ end_by_left end (record p { core = c; vectors = v; memory = m; brk = brk }) none (undone ∙ fine) ∙ ap (λ (x : Parts). step_end x.ended) (sym left)

    pub count_left : r ≡ Going → new.steps ≡ q.steps + 1
    count_left going =
        ap (λ (x : Parts). x.steps) left ∙ count_by_left end (record p { core = c; vectors = v; memory = m; brk = brk }) (sym is ∙ going) ∙ ap (λ (x : Parts). x.steps + 1) same

    -- where it wasn't done
    faulted : is_fault end ≡ true → (c ≡ p.core) × (v ≡ p.vectors) × (brk ≡ p.brk) → new ≡ record q { memory = m }
    faulted fault kept =
        left
        ∙ fault_left end (record p { core = c; vectors = v; memory = m; brk = brk }) fault
        ∙ ap (λ (x : Core). record p { core = x; vectors = v; memory = m; brk = brk }) kept.0
        ∙ ap (λ (x : Vectors). record p { vectors = x; memory = m; brk = brk }) kept.1
        ∙ ap (λ (x : Break). record p { memory = m; brk = x }) kept.2
        ∙ ap (λ (x : Parts). record x { memory = m }) same

    pub kept_left : (told now : Option (List ℕ)) → (is_fault end ≡ true → (c ≡ p.core) × (v ≡ p.vectors) × (brk ≡ p.brk)) → (is_fault end ≡ true → Stores (action p) p.memory m told now) → is_undone r ≡ true → IsKept q new told now
    kept_left told now kept stored broken =
        let fault = undone ∙ broken in
        let so : new ≡ record q { memory = m } = faulted fault (kept fault) in
        let memory : new.memory ≡ m = ap (λ (x : Parts). x.memory) so in
        record {
          is = so ∙ ap (λ (x : Memory). record q { memory = x }) (sym memory);
          stored = subst (λ (x : Memory). Stores (action q) q.memory x told now) (sym memory) (subst (λ (x : Parts). Stores (action x) x.memory m told now) same (stored fault));
        }

    pub unstored_left : (is_fault end ≡ true → (c ≡ p.core) × (v ≡ p.vectors) × (brk ≡ p.brk)) → (is_put_fault end ≡ true → m ≡ p.memory) → is_unput r ≡ true → new ≡ q
    unstored_left kept stays unput =
        let put : is_put_fault end ≡ true = sym (unput_by end) ∙ ap is_unput (sym is) ∙ unput in
        let fault = put_is_fault end put in
        faulted fault (kept fault) ∙ ap (λ (x : Memory). record q { memory = x }) (stays put ∙ ap (λ (x : Parts). x.memory) same)

    made_at : (bytes : List ℕ) → (is_fault end ≡ false → behind end c v m brk ≡ (call (without_steps p) bytes).parts) → is_undone r ≡ false → new ≡ (call_made (with_input q bytes)).parts
    made_at bytes made fine =
        left
        ∙ ap (λ (e : Option Ended). left_by end (record p { core = c; vectors = v; memory = m; brk = brk; ended = e })) none
        ∙ left_counted end (record p { core = c; vectors = v; memory = m; brk = brk }) (undone ∙ fine)
        ∙ ap (λ (x : Parts). counted p.steps x) (made (undone ∙ fine))
        ∙ done_counted (action p) p bytes
        ∙ ap (λ (e : Option Ended). (call (record p { ended = e }) bytes).parts) (sym none)
        ∙ ap (λ (x : Parts). (call x bytes).parts) same

    pub parts_made : (told : Option (List ℕ)) → OfInput (action p) told (λ bytes. is_fault end ≡ false → behind end c v m brk ≡ (call (without_steps p) bytes).parts)
        → OfInput (action q) told (λ bytes. is_undone r ≡ false → new ≡ (call_made (with_input q bytes)).parts)
    parts_made told made =
        subst (λ (x : Parts). OfInput (action x) told (λ bytes. is_undone r ≡ false → new ≡ (call_made (with_input q bytes)).parts)) same
        (of_each (action p) told (λ bytes. is_fault end ≡ false → behind end c v m brk ≡ (call (without_steps p) bytes).parts) (λ bytes. is_undone r ≡ false → new ≡ (call_made (with_input q bytes)).parts) made_at made)

    pub state_made : (told now : Option (List ℕ)) → OfInput (action p) told (λ bytes. is_fault end ≡ false → behind end c v m brk ≡ (call (without_steps p) bytes).parts)
        → IfSome told (λ bytes. is_fault end ≡ false → now ≡ Some (call (without_steps p) bytes).input) → Becomes call_made q new told now (is_undone r)
    state_made None now made rest = tt
    state_made (Some bytes) now made rest = λ fine. (
      made_at bytes (of_told (action p) bytes (λ bytes. is_fault end ≡ false → behind end c v m brk ≡ (call (without_steps p) bytes).parts) made) fine,
      rest (undone ∙ fine) ∙ ap (λ (l : List ℕ). Some l) (same_input (action p) p bytes ∙ ap (λ (x : Parts). (call x bytes).input) same),
    )

  -- ---- what it puts

  pub output_made : (told ho hn : Option (List ℕ)) → ((bytes : List ℕ) → IfSome ho (λ had. Gains (is_fault end) hn had (call (without_steps p) bytes).output))
      → Puts (λ st. (call_made st).output) q told ho hn (is_undone r)
  output_made None ho hn gains = tt
  output_made (Some bytes) None hn gains = tt
  output_made (Some bytes) (Some had) hn gains =
      subst (λ (b : Bool). Gains b hn had (call q bytes).output) undone
      (subst (λ (l : List ℕ). Gains (is_fault end) hn had l) (same_output (action p) p bytes ∙ ap (λ (x : Parts). (call x bytes).output) same) (gains bytes))

  pub errors_made : (told ho hn : Option (List ℕ)) → ((bytes : List ℕ) → IfSome ho (λ had. Gains (is_fault end) hn had (call (without_steps p) bytes).errors))
      → Puts (λ st. (call_made st).errors) q told ho hn (is_undone r)
  errors_made None ho hn gains = tt
  errors_made (Some bytes) None hn gains = tt
  errors_made (Some bytes) (Some had) hn gains =
      subst (λ (b : Bool). Gains b hn had (call q bytes).errors) undone
      (subst (λ (l : List ℕ). Gains (is_fault end) hn had l) (same_errors (action p) p bytes ∙ ap (λ (x : Parts). (call x bytes).errors) same) (gains bytes))

  -- ---- what it takes: no more than its action does

  within : (a : Action) (bytes : List ℕ) (now : Memory) (left : Option (List ℕ)) → Stores a p.memory now (Some bytes) left → (does_take a ≡ false → left ≡ Some bytes)
      → LeftOf bytes (length (call_done a p bytes).input) left
  within (takes ranges) bytes now left (count, few, t) kept = record {
    taken = count;
    most =
        let long : length (take count bytes) ≡ count = ap length (sym t.first.0) ∙ t.long in
        let taken = length-take count bytes in
        let rest = length-drop (total ranges) bytes in
        omega (arith, few, long, taken, rest);
    is = t.first.1;
  }
  within (puts file ranges) bytes now left stored kept = record { taken = 0; most = omega arith; is = kept refl }
  within (fails e) bytes now left stored kept = absurd stored
  within (answers v) bytes now left stored kept = absurd stored
  within (maps memory v) bytes now left stored kept = absurd stored
  within (moves_break memory to) bytes now left stored kept = absurd stored
  within (sets_length bits) bytes now left stored kept = absurd stored
  within (exits code) bytes now left stored kept = absurd stored

  pub taken_within : (told left : Option (List ℕ)) (now : Memory) → (is_fault end ≡ true → Stores (action p) p.memory now told left) → (does_take (action p) ≡ false → left ≡ told)
      → TakesWithin call_made q told left (is_undone r)
  taken_within None left now stored kept = tt
  taken_within (Some bytes) left now stored kept = λ h.
      subst (λ (x : Parts). LeftOf bytes (length (call x bytes).input) left) same (within (action p) bytes now left (stored (undone ∙ h)) kept)
