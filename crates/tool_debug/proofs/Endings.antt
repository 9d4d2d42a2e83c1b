-- What an ending leaves.
use Rattle.std.proofs.Common.{◌≡◌, Bool, true, false, ◌||◌, Result, Ok, Err, IfErr, refl, sym, ap, ◌∙◌}
use Rattle.std.specs.Result.{IsErrAnd}
use Rattle.command_lines.specs.declared.ending.Ending.{Ending}
use Rattle.debug_options.specs.Endings.{is_refused}
use Rattle.tool_debug.specs.Endings.{EndsSo, is_session_end, may_end}

or_true : (b : Bool) → (b || true) ≡ true
or_true b = elim b as (λ x. (x || true) ≡ true) [
  | true ↦ refl
  | false ↦ refl
]

-- no session was begun
pub refused_may : (ending : Ending) → is_refused ending ≡ true → may_end ending ≡ true
refused_may ending is = ap (λ (b : Bool). b || is_session_end ending) is

pub refused_so : {A B : Type 0} (ending : Ending) → is_refused ending ≡ true → A → B → EndsSo ending A B
refused_so ending is same_commands same_output = record {
  kind = refused_may ending is;
  untaken = λ _. same_commands;
  unwritten = λ _. same_output;
}

-- an error that is handed on as it is
pub handed_on : {T : Type 0} (ending : Ending) (r : Result T Ending) → IsErrAnd r (λ e. e ≡ ending) → is_refused ending ≡ true → IfErr r (λ e. is_refused e ≡ true)
handed_on ending (Ok x) handed is = tt
handed_on ending (Err e) handed is = ap is_refused handed ∙ is

-- one was, or memory was wanting before
pub session_so : {A B : Type 0} (ending : Ending) → is_session_end ending ≡ true → EndsSo ending A B
session_so ending is = record {
  kind = ap (λ (b : Bool). is_refused ending || b) is ∙ or_true (is_refused ending);
  untaken = λ (none : is_session_end ending ≡ false). let both : true ≡ false = sym is ∙ none in cc;
  unwritten = λ (none : is_session_end ending ≡ false). let both : true ≡ false = sym is ∙ none in cc;
}
