-- What the parts of a debugger session promise, put together: its script and its machine.
use Rattle.std.proofs.Common.{◌≡◌, ℕ, Bool, true, false, List, length, Option, Some, None, Result, Ok, Err, IfSome, refl, sym, ap, subst, ◌∙◌, cond, take}
use Rattle.std.proofs.Math.Path.{fun_ext}
use Rattle.command_model.specs.Refusals.{script_line}
use Rattle.dbg_back.specs.Ends.{is_fault}
use Rattle.dbg_back.specs.declared.ends.BackEnd.{BackEnd}
use Rattle.dbg_back.specs.declared.ends.BackEnd.TheVariants as backs
use Rattle.dbg_model.specs.Commands.{has_back}
use Rattle.dbg_model.specs.Forward as forward
use Rattle.dbg_model.specs.ForwardLaws.{session_ahead, take_ahead}
use Rattle.dbg_model.specs.Session.{session}
use Rattle.dbg_model.specs.declared.script.Command.{Command}
use Rattle.dbg_model.specs.declared.script.ScriptFault.{ScriptFault}
use Rattle.dbg_core.specs.Errors.{fault_in}
use Rattle.line_words.specs.Reading.{IsErrorOf}
use Rattle.dbg_core.specs.declared.script_reader.ScriptError.{ScriptError}
use Rattle.dbg_core.specs.declared.script_reader.ScriptError.TheVariants.{Refused}
use Rattle.emu_model.specs.State.{Parts, State}
use Rattle.emu_run.specs.Run.{until_end}
use Rattle.command_lines.specs.Outcome.{Outcome, outcome_of_commands, outcome_of_script, outcome_of_session, outcome_of_session_back, over_whole}
use Rattle.command_lines.specs.declared.ending.Ending.{Ending}
use Rattle.command_lines.specs.declared.ending.Ending.TheVariants.{Done, ScriptRefused, WriteFault, ErrorsFault}
use Rattle.emu_system.specs.Gained.{Gains}
use Rattle.emu_system.specs.Start.{with_input}
use Rattle.io_gate.specs.Pieces.{PutsAll}
use Rattle.commands.specs.Endings.{ended_by, ending_of_back}
use Rattle.commands.specs.Ahead.{InForward}
use Rattle.commands.specs.Lines.{script_goes_back}
use Rattle.commands.specs.Whole.{InSession}
use Rattle.commands.specs.Promises.{is_refusal, settled_reader, settles_by}
use Rattle.commands.specs.Meets.{Now, now, Meets, MeetsBy, MeetsSweep}
use Rattle.commands.specs.Sweeping.{ends_swept, Writes}
use Rattle.commands.proofs.Meetings.{line_meets, never}

-- ---- the script

pub is_refused : (r : Result (List Command) ScriptFault) (error : ScriptError) (fault : ScriptFault) → error ≡ Refused fault → IsErrorOf r (fault_in error) → r ≡ Err fault
is_refused r error fault is told = subst (λ (e : ScriptError). IsErrorOf r (fault_in e)) is told

module _ (budget : ℕ) (m : Parts) (r : Result (List Command) ScriptFault) (old : Now) where
  abbrev pub of_script : List ℕ → Option Outcome
  of_script i = Some (outcome_of_script i budget m r)

  pub refused_script : {T E : Type 0} (fault : ScriptFault) (new : Option (List ℕ)) (put : Result T E) (result : Ending) → r ≡ Err fault → result ≡ ended_by put (ScriptRefused fault) → PutsAll old.errors new (script_line fault) put
      → MeetsBy (settles_by (script_goes_back r)) of_script result old (now old.input old.output new)
  refused_script fault new put result is by puts =
      subst (λ (x : Ending). MeetsBy (settles_by (script_goes_back r)) of_script x old (now old.input old.output new)) (sym by)
      (subst (λ (x : Result (List Command) ScriptFault). MeetsBy (settles_by (script_goes_back x)) (λ i. Some (outcome_of_script i budget m x)) (ended_by put (ScriptRefused fault)) old (now old.input old.output new)) (sym is)
      (line_meets (ScriptRefused fault) (script_line fault) old.input old.output old.errors new put refl puts))

  pub obeyed_script : (commands : List Command) (new : Now) (result : Ending) → r ≡ Ok commands
      → MeetsBy (settles_by (has_back commands)) (λ i. Some (outcome_of_commands i budget m commands)) result old new → MeetsBy (settles_by (script_goes_back r)) of_script result old new
  obeyed_script commands new result is meets =
      subst (λ (x : Result (List Command) ScriptFault). MeetsBy (settles_by (script_goes_back x)) (λ i. Some (outcome_of_script i budget m x)) result old new) (sym is) meets

pub forward_script : (r : Result (List Command) ScriptFault) (commands : List Command) → r ≡ Ok commands → script_goes_back r ≡ false → has_back commands ≡ false
forward_script r commands is forward = sym (ap script_goes_back is) ∙ forward

pub backward_script : (r : Result (List Command) ScriptFault) (commands : List Command) → r ≡ Ok commands → script_goes_back r ≡ true → has_back commands ≡ true
backward_script r commands is back = sym (ap script_goes_back is) ∙ back

-- ---- forward and back

-- what a session whose commands only go forward wrote, by the states alone
abbrev pub ahead_outcome : List Command → ℕ → Parts → List ℕ → Option Outcome
ahead_outcome commands budget m i = Some (outcome_of_session i (forward.session commands budget (with_input m i)))

session_outcome : (commands : List Command) (budget : ℕ) (m : Parts) (i : List ℕ) → has_back commands ≡ false → m.steps ≡ 0
    → Some (outcome_of_session i (session commands budget (with_input m i))) ≡ ahead_outcome commands budget m i
session_outcome commands budget m i is none = ap (λ (st : State). Some (outcome_of_session i st)) (session_ahead commands budget (with_input m i) is none)

pub ahead_is : (commands : List Command) (budget : ℕ) (m : Parts) (i : List ℕ) → has_back commands ≡ false → m.steps ≡ 0
    → ahead_outcome commands budget m i ≡ Some (outcome_of_commands i budget m commands)
ahead_is commands budget m i is none =
    sym (session_outcome commands budget m i is none)
    ∙ ap (λ (b : Bool). Some (cond b (over_whole (outcome_of_session_back commands budget m) i) (outcome_of_session i (session commands budget (with_input m i))))) (sym is)

-- where it was broken off
pub ahead_in : (commands : List Command) (m : Parts) (budget : ℕ) (ending : Ending) (left : Option (List ℕ)) (input : List ℕ) (st : State) → has_back commands ≡ false → m.steps ≡ 0
    → InForward commands m budget ending left input st → InSession commands m budget ending left input st
ahead_in commands m budget ending left input st is none p =
    (p.0, p.1, p.2 ∙ ap (λ (s : State). until_end s p.1) (sym (session_ahead (take p.0 commands) budget (with_input m input) (take_ahead p.0 commands is) none)), p.3)

-- by whether a command goes back
module _ (budget : ℕ) (m : Parts) (commands : List Command) (old new : Now) (result : Ending) where
  abbrev either : Bool → List ℕ → Option Outcome
  either b i = Some (cond b (over_whole (outcome_of_session_back commands budget m) i) (outcome_of_session i (session commands budget (with_input m i))))

  pub gone_forward : has_back commands ≡ false → m.steps ≡ 0 → Meets (ahead_outcome commands budget m) result old new
      → MeetsBy (settles_by (has_back commands)) (λ i. Some (outcome_of_commands i budget m commands)) result old new
  gone_forward is none meets =
      let same : ahead_outcome commands budget m ≡ either false = fun_ext (λ i. sym (session_outcome commands budget m i is none)) in
      subst (λ (b : Bool). MeetsBy (settles_by b) (either b) result old new) (sym is)
      (subst (λ (f : List ℕ → Option Outcome). Meets f result old new) same meets)

  pub gone_back : has_back commands ≡ true → MeetsSweep (λ i. Some (over_whole (outcome_of_session_back commands budget m) i)) result old new
      → MeetsBy (settles_by (has_back commands)) (λ i. Some (outcome_of_commands i budget m commands)) result old new
  gone_back is meets = subst (λ (b : Bool). MeetsBy (settles_by b) (either b) result old new) (sym is) meets

pub session_of : (commands : List Command) (budget : ℕ) (m opened : Parts) (old new : Now) (result : Ending) → m ≡ opened
    → Meets (λ i. Some (outcome_of_session i (forward.session commands budget (with_input m i)))) result old new → Meets (λ i. Some (outcome_of_session i (forward.session commands budget (with_input opened i)))) result old new
session_of commands budget m opened old new result of meets = subst (λ (x : Parts). Meets (λ i. Some (outcome_of_session i (forward.session commands budget (with_input x i)))) result old new) of meets

-- what a session wrote that may go back
back_writes : (outcome : Outcome) (o0 o1 e0 e1 : Option (List ℕ)) (end : BackEnd) → outcome.ending ≡ Done → IfSome o0 (λ had. Gains (is_fault end) o1 had outcome.output) → IfSome e0 (λ had. Gains (is_fault end) e1 had outcome.errors)
    → Writes outcome (ending_of_back end) o0 o1 e0 e1
back_writes outcome o0 o1 e0 e1 backs.Done is outs errs = record { ends = λ _. sym is; output = outs; errors = errs }
back_writes outcome o0 o1 e0 e1 backs.WriteFault is outs errs = record { ends = λ fine. never WriteFault refl fine; output = outs; errors = errs }
back_writes outcome o0 o1 e0 e1 backs.ErrorsFault is outs errs = record { ends = λ fine. never ErrorsFault refl fine; output = outs; errors = errs }

pub kind_back : (end : BackEnd) → ends_swept (ending_of_back end) ≡ true
kind_back backs.Done = refl
kind_back backs.WriteFault = refl
kind_back backs.ErrorsFault = refl

pub back_wrote : (commands : List Command) (budget : ℕ) (m opened : Parts) (input : List ℕ) (o0 o1 e0 e1 : Option (List ℕ)) (end : BackEnd) (result : Ending)
    → m ≡ opened → result ≡ ending_of_back end
    → IfSome o0 (λ had. Gains (is_fault end) o1 had (session commands budget (with_input m input)).output)
    → IfSome e0 (λ had. Gains (is_fault end) e1 had (session commands budget (with_input m input)).errors)
    → Writes (outcome_of_session_back commands budget opened input) result o0 o1 e0 e1
back_wrote commands budget m opened input o0 o1 e0 e1 end result same by outs errs =
    subst (λ (x : Ending). Writes (outcome_of_session_back commands budget opened input) x o0 o1 e0 e1) (sym by)
    (back_writes (outcome_of_session_back commands budget opened input) o0 o1 e0 e1 end refl
    (subst (λ (x : Parts). IfSome o0 (λ had. Gains (is_fault end) o1 had (session commands budget (with_input x input)).output)) same outs)
    (subst (λ (x : Parts). IfSome e0 (λ had. Gains (is_fault end) e1 had (session commands budget (with_input x input)).errors)) same errs))

-- an input that was read is all of it
pub back_takes : (commands : List Command) (budget : ℕ) (m : Parts) (i : List ℕ) → (outcome_of_session_back commands budget m i).taken ≡ length i
back_takes commands budget m i = refl

pub back_settles : (commands : List Command) (budget : ℕ) (m : Parts) (i : List ℕ) → settled_reader (outcome_of_session_back commands budget m i).ending ≡ None
back_settles commands budget m i = refl

pub back_accepts : (commands : List Command) (budget : ℕ) (m : Parts) (i : List ℕ) → is_refusal (outcome_of_session_back commands budget m i).ending ≡ false
back_accepts commands budget m i = refl
