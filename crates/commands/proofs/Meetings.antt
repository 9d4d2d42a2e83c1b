-- What the steps of a command together promise: lines on the errors, the whole output, a run and its report, a session, and nothing at all.
use Rattle.std.proofs.Common.{◌≡◌, ℕ, ◌-◌, Bool, true, false, List, [], ◌++◌, length, take, drop, Option, Some, None, Result, Ok, Err, IfSome, MatchBool, refl, sym, ap, subst, ◌∙◌, append-nil, append_assoc, take-append-drop, length-drop, arith}
use Rattle.std.proofs.lemmas.Option.{IfSome_then}
use Rattle.io_gate.specs.Pieces.{PutsAll}
use Rattle.emu_model.specs.State.{Parts, State}
use Rattle.emu_model.specs.declared.trap.Ended.{Ended}
use Rattle.emu_model.specs.declared.trap.Ended.TheVariants.{Exit as Exited, Trap as Trapped}
use Rattle.emu_system.specs.Start.{with_input}
use Rattle.command_lines.specs.Outcome.{Outcome, refusal, written, outcome_of_run, outcome_of_session, ending_of}
use Rattle.emu_run.specs.Reports.{report}
use Rattle.dbg_core.specs.Ends.{is_fault}
use Rattle.dbg_core.specs.declared.ends.SessionEnd.{SessionEnd}
use Rattle.dbg_core.specs.declared.ends.SessionEnd.TheVariants as sessions
use Rattle.dbg_model.specs.declared.script.Command.{Command}
use Rattle.dbg_model.specs.Forward.{session}
use Rattle.emu_run.specs.Run.{run}
use Rattle.emu_run.specs.RunLaws.{IsRest, until_end_moves, prefix_refl, prefix_trans}
use Rattle.command_lines.specs.declared.ending.Ending.{Ending}
use Rattle.command_lines.specs.declared.ending.Ending.TheVariants.{WriteFault, ErrorsFault}
use Rattle.emu_machine.specs.Ends.{Becomes, TakesWithin, LeftOf, Puts, run_end, is_broken_off}
use Rattle.emu_machine.specs.declared.ends.RunEnd.{RunEnd}
use Rattle.commands.specs.Endings.{done_by, ended_by, ending_by, ending_of_session}
use Rattle.commands.proofs.RunEnds.{broken_is, ending_is, session_rest}
use Rattle.emu_system.specs.Gained.{Gains, GainedFirst}
use Rattle.emu_system.specs.GainedLaws.{put_first}
use Rattle.commands.specs.Promises.{is_failure, settled_ending, is_refusal, output_of, errors_of, taken_of, CountsFor, LostAtMost, Loses}
use Rattle.commands.specs.Meets.{now, Meets}

-- ---- by whether something failed

pub never : (ending : Ending) {P : Type 0} → is_failure ending ≡ true → is_failure ending ≡ false → P
never ending failed fine = let e : true ≡ false = sym failed ∙ fine in cc

pub gains_all : (ending : Ending) (held : Option (List ℕ)) (had bytes : List ℕ) → is_failure ending ≡ false → held ≡ Some (had ++ bytes) → Gains (is_failure ending) held had bytes
gains_all ending held had bytes fine is = subst (λ (b : Bool). Gains b held had bytes) (sym fine) is

gains_first : (ending : Ending) (held : Option (List ℕ)) (had bytes : List ℕ) → is_failure ending ≡ true → GainedFirst held had bytes → Gains (is_failure ending) held had bytes
gains_first ending held had bytes failed first = subst (λ (b : Bool). Gains b held had bytes) (sym failed) first

loses_just : (ending : Ending) (left : Option (List ℕ)) (bytes : List ℕ) (count : ℕ) → is_failure ending ≡ false → left ≡ Some (drop count bytes) → Loses (is_failure ending) left bytes count
loses_just ending left bytes count fine is = subst (λ (b : Bool). Loses b left bytes count) (sym fine) is

pub loses_within : (ending : Ending) (left : Option (List ℕ)) (bytes : List ℕ) (count : ℕ) → is_failure ending ≡ true → LostAtMost left bytes count → Loses (is_failure ending) left bytes count
loses_within ending left bytes count failed lost = subst (λ (b : Bool). Loses b left bytes count) (sym failed) lost

-- ---- streams that nothing was moved of

-- what holds of all bytes holds of those that were told
pub told : (bytes : Option (List ℕ)) {P : List ℕ → Type 0} → ((xs : List ℕ) → P xs) → IfSome bytes P
told None p = tt
told (Some xs) p = p xs

-- what holds of the bytes that were told
pub at_told : (bytes : Option (List ℕ)) (P : List ℕ → Type 0) (xs : List ℕ) → IfSome bytes P → bytes ≡ Some xs → P xs
at_told None P xs p is = cc
at_told (Some ys) P xs p is = let same : ys ≡ xs = cc in subst P same p

no_bytes : (had bytes : List ℕ) → GainedFirst (Some had) had bytes
no_bytes had bytes = record { gained = []; is = ap (λ (xs : List ℕ). Some xs) (sym (append-nil had)); first = (bytes, refl) }

pub none_gained : (failed : Bool) (held : Option (List ℕ)) → IfSome held (λ had. Gains failed held had [])
none_gained failed None = tt
none_gained false (Some had) = ap (λ (xs : List ℕ). Some xs) (sym (append-nil had))
none_gained true (Some had) = no_bytes had []

pub no_first : (ending : Ending) (held : Option (List ℕ)) (bytes : List ℕ) → is_failure ending ≡ true → IfSome held (λ had. Gains (is_failure ending) held had bytes)
no_first ending None bytes failed = tt
no_first ending (Some had) bytes failed = gains_first ending (Some had) had bytes failed (no_bytes had bytes)

none_lost : (failed : Bool) (left : Option (List ℕ)) → IfSome left (λ bytes. Loses failed left bytes 0)
none_lost failed None = tt
none_lost false (Some bytes) = refl
none_lost true (Some bytes) = record { taken = 0; within = omega arith; is = refl }

not_lost : (ending : Ending) (left : Option (List ℕ)) (count : List ℕ → ℕ) → is_failure ending ≡ true → IfSome left (λ bytes. Loses (is_failure ending) left bytes (count bytes))
not_lost ending None count failed = tt
not_lost ending (Some bytes) count failed = loses_within ending (Some bytes) bytes (count bytes) failed (record { taken = 0; within = omega arith; is = refl })

-- nothing was taken and nothing was written
pub nothing_meets : (outcome : List ℕ → Option Outcome) (ending : Ending) (input output errors : Option (List ℕ)) → is_failure ending ≡ true → Meets outcome ending (now input output errors) (now input output errors)
nothing_meets outcome ending input output errors failed = record {
  ends = told input (λ _ whole. never ending failed whole);
  settled = λ whole _. never ending failed whole;
  output = λ bytes _. no_first ending output (output_of (outcome bytes)) failed;
  errors = λ bytes _. no_first ending errors (errors_of (outcome bytes)) failed;
  input = not_lost ending input (λ bytes. taken_of (outcome bytes)) failed;
}

-- ---- a text that was put

-- a refusal, by its line on the errors
pub line_meets : {T E : Type 0} (ending : Ending) (text : List ℕ) (input output errors new : Option (List ℕ)) (put : Result T E) → is_failure ending ≡ false → PutsAll errors new text put
    → Meets (λ _. Some (refusal ending text)) (ended_by put ending) (now input output errors) (now input output new)
line_meets ending text input output errors new (Ok done) fine puts = record {
  ends = told input (λ _ _. refl);
  settled = λ _ _. refl;
  output = λ _ _. none_gained (is_failure ending) output;
  errors = λ _ _. IfSome_then errors puts (λ had is. gains_all ending new had text fine is);
  input = none_lost (is_failure ending) input;
}
line_meets ending text input output errors new (Err failed) fine puts = record {
  ends = told input (λ _ whole. never ErrorsFault refl whole);
  settled = λ whole _. never ErrorsFault refl whole;
  output = λ _ _. none_gained true output;
  errors = λ _ _. IfSome_then errors puts (λ had p. put_first new had text p);
  input = none_lost true input;
}

-- the whole output of a command
pub output_meets : {T E : Type 0} (text : List ℕ) (input output errors new : Option (List ℕ)) (put : Result T E) → PutsAll output new text put
    → Meets (λ _. Some (written text)) (done_by put) (now input output errors) (now input new errors)
output_meets text input output errors new (Ok done) puts = record {
  ends = told input (λ _ _. refl);
  settled = λ _ _. refl;
  output = λ _ _. puts;
  errors = λ _ _. none_gained false errors;
  input = none_lost false input;
}
output_meets text input output errors new (Err failed) puts = record {
  ends = told input (λ _ whole. never WriteFault refl whole);
  settled = λ whole _. never WriteFault refl whole;
  output = λ _ _. IfSome_then output puts (λ had p. put_first new had text p);
  errors = λ _ _. none_gained true errors;
  input = none_lost true input;
}

-- ---- a run and its report

-- the ending of a run: it rests on the input, and is neither a refusal nor a failure
pub record IsStop (ending : Ending) : Type 0 where
  pub settles : settled_ending ending ≡ None
  pub accepts : is_refusal ending ≡ false
  pub whole : is_failure ending ≡ false

-- what a run comes to: what it put on the output and on the errors, what it left of the input, the text of its report and its ending
pub record Stopped : Type 0 where
  pub output : List ℕ
  pub errors : List ℕ
  pub rest : List ℕ
  pub text : List ℕ
  pub ending : Ending

abbrev pub outcome_of_stop : List ℕ → Stopped → Outcome
outcome_of_stop i s = record { ending = s.ending; output = s.output; errors = s.errors ++ s.text; taken = length i - length s.rest }

rest_is : (old new : List ℕ) → IsRest old new → new ≡ drop (length old - length new) old
rest_is old new r =
    let count : length old - length new ≡ r.taken = (let e : length new ≡ length old - r.taken = ap length r.is ∙ length-drop r.taken old in let w = r.within in omega arith) in
    r.is ∙ ap (λ n. drop n old) (sym count)

-- what a sink gained, and after it the first bytes of a text
gained_then : (had first text : List ℕ) (n : ℕ) (held : Option (List ℕ)) → held ≡ Some ((had ++ first) ++ take n text) → GainedFirst held had (first ++ text)
gained_then had first text n held is = record {
  gained = first ++ take n text;
  is = is ∙ ap (λ (xs : List ℕ). Some xs) (append_assoc had first (take n text));
  first = (drop n text, ap (λ (xs : List ℕ). first ++ xs) (sym (take-append-drop n text)) ∙ sym (append_assoc first (take n text) (drop n text)));
}

all_gained : (had bytes : List ℕ) (held : Option (List ℕ)) → held ≡ Some (had ++ bytes) → GainedFirst held had bytes
all_gained had bytes held is = record { gained = bytes; is = is; first = prefix_refl bytes }

-- first bytes of what comes before a text
first_then : (held : Option (List ℕ)) (had first text : List ℕ) → GainedFirst held had first → GainedFirst held had (first ++ text)
first_then held had first text h = record { gained = h.gained; is = h.is; first = prefix_trans h.gained first (first ++ text) h.first (text, refl) }

lost_of : (bytes : List ℕ) (least : ℕ) (left : Option (List ℕ)) → LeftOf bytes least left → LostAtMost left bytes (length bytes - least)
lost_of bytes least left l = record { taken = l.taken; within = l.most; is = l.is }

-- what a run comes to by the bytes of its input
module _ (at : List ℕ → Stopped) (moves : (i : List ℕ) → IsRest i (at i).rest) (stops : (i : List ℕ) → IsStop (at i).ending) where
  abbrev outcome : List ℕ → Option Outcome
  outcome i = Some (outcome_of_stop i (at i))

  -- its outcome is for the bytes that the input told
  of_told : (i0 : Option (List ℕ)) (i : List ℕ) → CountsFor i0 (outcome i) i → i0 ≡ Some i
  of_told i0 i of = subst (λ (b : Bool). MatchBool b (Unit {0}) (i0 ≡ Some i)) (stops i).accepts of

  left_is : (i : List ℕ) → (at i).rest ≡ drop (length i - length (at i).rest) i
  left_is i = rest_is i (at i).rest (moves i)

  -- what the errors gained by the run and by its report, whole and in part
  reported : (i0 e0 e1 e2 : Option (List ℕ)) (shown : List ℕ) → IfSome i0 (λ i. shown ≡ (at i).text) → IfSome i0 (λ i. IfSome e0 (λ had. e1 ≡ Some (had ++ (at i).errors)))
      → IfSome e1 (λ was. e2 ≡ Some (was ++ shown)) → IfSome i0 (λ i. IfSome e0 (λ had. e2 ≡ Some (had ++ ((at i).errors ++ (at i).text))))
  reported None e0 e1 e2 shown is errs puts = tt
  reported (Some i) e0 e1 e2 shown is errs puts = IfSome_then e0 errs (λ had held.
      let whole : e2 ≡ Some ((had ++ (at i).errors) ++ shown) = subst (λ (h : Option (List ℕ)). IfSome h (λ was. e2 ≡ Some (was ++ shown))) held puts in
      whole ∙ ap (λ (xs : List ℕ). Some ((had ++ (at i).errors) ++ xs)) is ∙ ap (λ (xs : List ℕ). Some xs) (append_assoc had (at i).errors (at i).text))

  reported_first : (i0 e0 e1 e2 : Option (List ℕ)) (shown : List ℕ) → IfSome i0 (λ i. shown ≡ (at i).text) → IfSome i0 (λ i. IfSome e0 (λ had. e1 ≡ Some (had ++ (at i).errors)))
      → IfSome e1 (λ was. (k : ℕ) × (e2 ≡ Some (was ++ take k shown))) → IfSome i0 (λ i. IfSome e0 (λ had. GainedFirst e2 had ((at i).errors ++ (at i).text)))
  reported_first None e0 e1 e2 shown is errs puts = tt
  reported_first (Some i) e0 e1 e2 shown is errs puts = IfSome_then e0 errs (λ had held.
      let part : (k : ℕ) × (e2 ≡ Some ((had ++ (at i).errors) ++ take k shown)) = subst (λ (h : Option (List ℕ)). IfSome h (λ was. (k : ℕ) × (e2 ≡ Some (was ++ take k shown)))) held puts in
      gained_then had (at i).errors (at i).text part.0 e2 (part.1 ∙ ap (λ (xs : List ℕ). Some ((had ++ (at i).errors) ++ take part.0 xs)) is))

  -- the run stopped, and its report was put
  pub stopped_meets : {T E : Type 0} (i0 i1 o0 o1 e0 e1 e2 : Option (List ℕ)) (shown : List ℕ) (ending : Ending) (put : Result T E)
      → IfSome i0 (λ i. (shown ≡ (at i).text) × (ending ≡ (at i).ending) × (i1 ≡ Some (at i).rest))
      → IfSome i0 (λ i. IfSome o0 (λ had. o1 ≡ Some (had ++ (at i).output))) → IfSome i0 (λ i. IfSome e0 (λ had. e1 ≡ Some (had ++ (at i).errors)))
      → IsStop ending → PutsAll e1 e2 shown put → Meets outcome (ended_by put ending) (now i0 o0 e0) (now i1 o1 e2)
  stopped_meets i0 i1 o0 o1 e0 e1 e2 shown ending (Ok done) becomes outs errs is puts = record {
    ends = IfSome_then i0 becomes (λ i b _. b.1);
    settled = λ _ i. is.settles ∙ sym (stops i).settles;
    output = λ i of. IfSome_then o0 (at_told i0 _ i outs (of_told i0 i of)) (λ had held. gains_all ending o1 had (at i).output is.whole held);
    errors = λ i of. IfSome_then e0 (at_told i0 _ i (reported i0 e0 e1 e2 shown (IfSome_then i0 becomes (λ i b. b.0)) errs puts) (of_told i0 i of))
        (λ had held. gains_all ending e2 had ((at i).errors ++ (at i).text) is.whole held);
    input = IfSome_then i0 becomes (λ i b. loses_just ending i1 i (length i - length (at i).rest) is.whole (b.2 ∙ ap (λ (xs : List ℕ). Some xs) (left_is i)));
  }
  stopped_meets i0 i1 o0 o1 e0 e1 e2 shown ending (Err failed) becomes outs errs is puts = record {
    ends = told i0 (λ _ whole. never ErrorsFault refl whole);
    settled = λ whole _. never ErrorsFault refl whole;
    output = λ i of. IfSome_then o0 (at_told i0 _ i outs (of_told i0 i of)) (λ had held. all_gained had (at i).output o1 held);
    errors = λ i of. at_told i0 _ i (reported_first i0 e0 e1 e2 shown (IfSome_then i0 becomes (λ i b. b.0)) errs puts) (of_told i0 i of);
    input = IfSome_then i0 becomes (λ i b. record { taken = length i - length (at i).rest; within = omega arith; is = b.2 ∙ ap (λ (xs : List ℕ). Some xs) (left_is i) });
  }

  -- the run was broken off
  pub broken_meets : (i0 i1 o0 o1 e0 e1 : Option (List ℕ)) (ending : Ending)
      → IfSome i0 (λ i. true ≡ true → LeftOf i (length (at i).rest) i1) → IfSome i0 (λ i. IfSome o0 (λ had. GainedFirst o1 had (at i).output))
      → IfSome i0 (λ i. IfSome e0 (λ had. GainedFirst e1 had (at i).errors)) → is_failure ending ≡ true
      → Meets outcome ending (now i0 o0 e0) (now i1 o1 e1)
  broken_meets i0 i1 o0 o1 e0 e1 ending takes outs errs failed = record {
    ends = told i0 (λ _ whole. never ending failed whole);
    settled = λ whole _. never ending failed whole;
    output = λ i of. IfSome_then o0 (at_told i0 _ i outs (of_told i0 i of)) (λ had first. gains_first ending o1 had (at i).output failed first);
    errors = λ i of. IfSome_then e0 (at_told i0 _ i errs (of_told i0 i of))
        (λ had first. gains_first ending e1 had ((at i).errors ++ (at i).text) failed (first_then e1 had (at i).errors (at i).text first));
    input = IfSome_then i0 takes (λ i t. loses_within ending i1 i (length i - length (at i).rest) failed (lost_of i (length (at i).rest) i1 (t refl)));
  }

-- ---- a run of a machine, by its answer

-- the state in which the run of a machine with this input stops
abbrev stop : Parts → ℕ → List ℕ → State
stop m budget i = run (with_input m i) budget

abbrev stopped_at : State → Stopped
stopped_at st = record { output = st.output; errors = st.errors; rest = st.input; text = report st.parts; ending = ending_of st.parts st.parts.ended }

ends_as_run : (m : Parts) (ended : Option Ended) → IsStop (ending_of m ended)
ends_as_run m None = record { settles = refl; accepts = refl; whole = refl }
ends_as_run m (Some (Exited code)) = record { settles = refl; accepts = refl; whole = refl }
ends_as_run m (Some (Trapped trap)) = record { settles = refl; accepts = refl; whole = refl }

module _ (m n : Parts) (budget : ℕ) (end : RunEnd) (pc : ℕ) where
  moves : (i : List ℕ) → IsRest i (stop m budget i).input
  moves i = (until_end_moves (with_input m i) (budget - m.steps)).input

  stops : (i : List ℕ) → IsStop (stopped_at (stop m budget i)).ending
  stops i = ends_as_run (stop m budget i).parts (stop m budget i).parts.ended

  -- a run that was broken off
  pub broken_run : (i0 i1 o0 o1 e0 e1 : Option (List ℕ)) (ending : Ending) → ending ≡ ending_by end pc → is_failure ending ≡ true
      → TakesWithin (λ st. run st budget) m i0 i1 (is_broken_off end) → Puts (λ st. (run st budget).output) m i0 o0 o1 (is_broken_off end) → Puts (λ st. (run st budget).errors) m i0 e0 e1 (is_broken_off end)
      → Meets (λ i. Some (outcome_of_run i (run (with_input m i) budget))) ending (now i0 o0 e0) (now i1 o1 e1)
  broken_run i0 i1 o0 o1 e0 e1 ending is failed takes outs errs =
      let broken : is_broken_off end ≡ true = sym (broken_is end pc) ∙ ap is_failure (sym is) ∙ failed in
      broken_meets (λ i. stopped_at (stop m budget i)) moves stops i0 i1 o0 o1 e0 e1 ending
      (subst (λ (b : Bool). TakesWithin (λ st. run st budget) m i0 i1 b) broken takes)
      (subst (λ (b : Bool). Puts (λ st. (run st budget).output) m i0 o0 o1 b) broken outs)
      (subst (λ (b : Bool). Puts (λ st. (run st budget).errors) m i0 e0 e1 b) broken errs) failed

  -- a run that stopped, and its report
  pub reported_run : {T E : Type 0} (i0 i1 o0 o1 e0 e1 e2 : Option (List ℕ)) (ending result : Ending) (put : Result T E) → ending ≡ ending_by end pc → is_failure ending ≡ false
      → Becomes (λ st. run st budget) m n i0 i1 (is_broken_off end) → Puts (λ st. (run st budget).output) m i0 o0 o1 (is_broken_off end) → Puts (λ st. (run st budget).errors) m i0 e0 e1 (is_broken_off end)
      → (is_broken_off end ≡ false → end ≡ run_end n.ended) → pc ≡ n.core.pc → PutsAll e1 e2 (report n) put → result ≡ ended_by put ending
      → Meets (λ i. Some (outcome_of_run i (run (with_input m i) budget))) result (now i0 o0 e0) (now i1 o1 e2)
  reported_run i0 i1 o0 o1 e0 e1 e2 ending result put is fine becomes outs errs ends at puts by =
      let whole : is_broken_off end ≡ false = sym (broken_is end pc) ∙ ap is_failure (sym is) ∙ fine in
      let of_machine : ending ≡ ending_of n n.ended = is ∙ ap (λ (x : RunEnd). ending_by x pc) (ends whole) ∙ ap (λ (a : ℕ). ending_by (run_end n.ended) a) at ∙ ending_is n n.ended in
      subst (λ (r : Ending). Meets (λ i. Some (outcome_of_run i (run (with_input m i) budget))) r (now i0 o0 e0) (now i1 o1 e2)) (sym by)
      (stopped_meets (λ i. stopped_at (stop m budget i)) moves stops i0 i1 o0 o1 e0 e1 e2 (report n) ending put
      (IfSome_then i0 (subst (λ (b : Bool). Becomes (λ st. run st budget) m n i0 i1 b) whole becomes)
      (λ i b. (ap report (b refl).0, of_machine ∙ ap (λ (x : Parts). ending_of x x.ended) (b refl).0, (b refl).1)))
      (subst (λ (b : Bool). Puts (λ st. (run st budget).output) m i0 o0 o1 b) whole outs)
      (subst (λ (b : Bool). Puts (λ st. (run st budget).errors) m i0 e0 e1 b) whole errs)
      (subst (λ (e : Ending). IsStop e) (sym of_machine) (ends_as_run n n.ended)) puts)

-- ---- a session

module _ (m n : Parts) (commands : List Command) (budget : ℕ) where
  abbrev obeyed : State → State
  obeyed st = session commands budget st

  abbrev last : List ℕ → State
  last i = obeyed (with_input m i)

  abbrev session_outcome : List ℕ → Option Outcome
  session_outcome i = Some (outcome_of_session i (last i))

  -- all commands were obeyed
  session_done : (i0 i1 o0 o1 e0 e1 : Option (List ℕ)) → Becomes obeyed m n i0 i1 false → Puts (λ st. (obeyed st).output) m i0 o0 o1 false → Puts (λ st. (obeyed st).errors) m i0 e0 e1 false
      → Meets session_outcome (ending_of_session sessions.Done) (now i0 o0 e0) (now i1 o1 e1)
  session_done i0 i1 o0 o1 e0 e1 becomes outs errs = record {
    ends = told i0 (λ _ _. refl);
    settled = λ _ _. refl;
    output = λ i of. at_told i0 _ i outs of;
    errors = λ i of. at_told i0 _ i errs of;
    input = IfSome_then i0 becomes (λ i b. (b refl).1 ∙ ap (λ (xs : List ℕ). Some xs) (rest_is i (last i).input (session_rest commands budget (with_input m i))));
  }

  -- a stream failed
  session_broken : (i0 i1 o0 o1 e0 e1 : Option (List ℕ)) (ending : Ending)
      → TakesWithin obeyed m i0 i1 true → Puts (λ st. (obeyed st).output) m i0 o0 o1 true → Puts (λ st. (obeyed st).errors) m i0 e0 e1 true → is_failure ending ≡ true
      → Meets session_outcome ending (now i0 o0 e0) (now i1 o1 e1)
  session_broken i0 i1 o0 o1 e0 e1 ending takes outs errs failed = record {
    ends = told i0 (λ _ whole. never ending failed whole);
    settled = λ whole _. never ending failed whole;
    output = λ i of. IfSome_then o0 (at_told i0 _ i outs of) (λ had first. gains_first ending o1 had (last i).output failed first);
    errors = λ i of. IfSome_then e0 (at_told i0 _ i errs of) (λ had first. gains_first ending e1 had (last i).errors failed first);
    input = IfSome_then i0 takes (λ i t. loses_within ending i1 i (length i - length (last i).input) failed (lost_of i (length (last i).input) i1 (t refl)));
  }

  pub session_meets : (i0 i1 o0 o1 e0 e1 : Option (List ℕ)) (end : SessionEnd)
      → Becomes obeyed m n i0 i1 (is_fault end) → TakesWithin obeyed m i0 i1 (is_fault end) → Puts (λ st. (obeyed st).output) m i0 o0 o1 (is_fault end) → Puts (λ st. (obeyed st).errors) m i0 e0 e1 (is_fault end)
      → Meets session_outcome (ending_of_session end) (now i0 o0 e0) (now i1 o1 e1)
  session_meets i0 i1 o0 o1 e0 e1 sessions.Done becomes takes outs errs = session_done i0 i1 o0 o1 e0 e1 becomes outs errs
  session_meets i0 i1 o0 o1 e0 e1 sessions.ReadFault becomes takes outs errs = session_broken i0 i1 o0 o1 e0 e1 (ending_of_session sessions.ReadFault) takes outs errs refl
  session_meets i0 i1 o0 o1 e0 e1 sessions.WriteFault becomes takes outs errs = session_broken i0 i1 o0 o1 e0 e1 (ending_of_session sessions.WriteFault) takes outs errs refl
  session_meets i0 i1 o0 o1 e0 e1 sessions.ErrorsFault becomes takes outs errs = session_broken i0 i1 o0 o1 e0 e1 (ending_of_session sessions.ErrorsFault) takes outs errs refl
