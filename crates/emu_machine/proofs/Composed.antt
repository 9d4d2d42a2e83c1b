-- What functions of states make of a machine and of its streams, one after the other.
use Rattle.std.proofs.Common.{◌≡◌, ℕ, ◌+◌, ◌-◌, Bool, true, false, List, [], ◌++◌, length, drop, Option, Some, None, IfSome, refl, sym, ap, subst, ◌∙◌, append_assoc, append-nil, length-drop, arith}
use Rattle.std.proofs.lemmas.List.{drop-drop}
use Rattle.emu_model.specs.State.{Parts, State, IsPrefix}
use Rattle.emu_system.specs.Start.{with_input}
use Rattle.emu_run.specs.RunLaws.{IsRest, rest_all, rest_trans, Moves, prefix_trans, behind}
use Rattle.emu_system.specs.Gained.{Gains}
use Rattle.emu_machine.specs.Ends.{Becomes, TakesWithin, Puts, LeftOf}

-- a function that doesn't look at what was written before it
abbrev pub Blind : (State → State) → Type 0
Blind f = (o e : List ℕ) (st : State) → f (behind o e st) ≡ behind o e (f st)

-- one that appends to the outputs, and takes from the front of the input
abbrev pub Moving : (State → State) → Type 0
Moving f = (st : State) → Moves st (f st)

-- ---- a state that was reached, or that was to be reached where the way was broken off

pub record Came (s : State) (new : Parts) (bytes : List ℕ) (left held_old held_new errs_old errs_new : Option (List ℕ)) (broken : Bool) : Type 0 where
  pub state : broken ≡ false → (new ≡ s.parts) × (left ≡ Some s.input)
  pub input : broken ≡ true → LeftOf bytes (length s.input) left
  pub output : IfSome held_old (λ had. Gains broken held_new had s.output)
  pub errors : IfSome errs_old (λ had. Gains broken errs_new had s.errors)

-- the same, where the input may not tell its bytes
abbrev pub Comes : (State → State) → Parts → Parts → Option (List ℕ) → Option (List ℕ) → Option (List ℕ) → Option (List ℕ) → Option (List ℕ) → Option (List ℕ) → Bool → Type 0
Comes f old new told left held_old held_new errs_old errs_new broken =
    IfSome told (λ bytes. Came (f (with_input old bytes)) new bytes left held_old held_new errs_old errs_new broken)

-- by the clauses
pub comes_by : (f : State → State) (p q : Parts) (told left hp hq ep eq : Option (List ℕ)) (b c : Bool) → b ≡ c → Becomes f p q told left b → TakesWithin f p told left b
    → Puts (λ st. (f st).output) p told hp hq b → Puts (λ st. (f st).errors) p told ep eq b → Comes f p q told left hp hq ep eq c
comes_by f p q None left hp hq ep eq b c is state input output errors = tt
comes_by f p q (Some bytes) left hp hq ep eq b c is state input output errors =
    subst (λ (broken : Bool). Came (f (with_input p bytes)) q bytes left hp hq ep eq broken) is (record { state = state; input = input; output = output; errors = errors })

-- where it is known whether it was broken off
pub comes_when : (f : State → State) (p q : Parts) (told left hp hq ep eq : Option (List ℕ)) (b c : Bool) → b ≡ c → Comes f p q told left hp hq ep eq b → Comes f p q told left hp hq ep eq c
comes_when f p q told left hp hq ep eq b c is h = subst (λ (broken : Bool). Comes f p q told left hp hq ep eq broken) is h

-- ---- what a sink gained, and then gained more

all_gained : (b : Bool) (held : Option (List ℕ)) (had so_far more whole : List ℕ) → whole ≡ so_far ++ more → Gains b held (had ++ so_far) more → Gains b held had whole
all_gained false held had so_far more whole is g = g ∙ ap (λ (l : List ℕ). Some l) (append_assoc had so_far more ∙ ap (λ (l : List ℕ). had ++ l) (sym is))
all_gained true held had so_far more whole is g = record {
  gained = so_far ++ g.gained;
  is = g.is ∙ ap (λ (l : List ℕ). Some l) (append_assoc had so_far g.gained);
  first = (g.first.0, is ∙ ap (λ (l : List ℕ). so_far ++ l) g.first.1 ∙ sym (append_assoc so_far g.gained g.first.0));
}

pub gains_more : (b : Bool) (ho hp hq : Option (List ℕ)) (so_far more whole : List ℕ) → whole ≡ so_far ++ more → IfSome ho (λ had. hp ≡ Some (had ++ so_far)) → IfSome hp (λ had. Gains b hq had more) → IfSome ho (λ had. Gains b hq had whole)
gains_more b None hp hq so_far more whole is before g = tt
gains_more b (Some had) hp hq so_far more whole is before g =
    all_gained b hq had so_far more whole is (subst (λ (h : Option (List ℕ)). IfSome h (λ had. Gains b hq had more)) before g)

-- the first of some bytes are the first of more
gains_first : (hp hq : Option (List ℕ)) (some more : List ℕ) → IsPrefix some more → IfSome hp (λ had. Gains true hq had some) → IfSome hp (λ had. Gains true hq had more)
gains_first None hq some more p g = tt
gains_first (Some had) hq some more p g = record { gained = g.gained; is = g.is; first = prefix_trans g.gained some more g.first p }

pub gains_none : (b : Bool) (held : Option (List ℕ)) → IfSome held (λ had. Gains b held had [])
gains_none b None = tt
gains_none false (Some had) = ap (λ (l : List ℕ). Some l) (sym (append-nil had))
gains_none true (Some had) = record { gained = []; is = ap (λ (l : List ℕ). Some l) (sym (append-nil had)); first = ([], refl) }

none_came : (held : Option (List ℕ)) → IfSome held (λ had. held ≡ Some (had ++ []))
none_came None = tt
none_came (Some had) = ap (λ (l : List ℕ). Some l) (sym (append-nil had))

behind_behind : (o e p q : List ℕ) (st : State) → behind o e (behind p q st) ≡ behind (o ++ p) (e ++ q) st
behind_behind o e p q st = simp append_assoc

-- a state, by what was written
pub from_nothing : (s : State) → s ≡ behind s.output s.errors (with_input s.parts s.input)
from_nothing s = simp append-nil

-- ---- broken off in the first of two

module _ (s t : State) (q : Parts) (bytes : List ℕ) (left hp hq ep eq : Option (List ℕ)) (more : Moves s t) where
  pub came_cut : Came s q bytes left hp hq ep eq true → Came t q bytes left hp hq ep eq true
  came_cut c =
      let l = c.input refl in
      let a : length t.input ≡ length s.input - more.input.taken = ap length more.input.is ∙ length-drop more.input.taken s.input in
      let most = l.most in
      record {
        state = λ (h : true ≡ false). cc;
        input = λ _. record { taken = l.taken; most = omega (arith, a, most); is = l.is };
        output = gains_first hp hq s.output t.output more.output c.output;
        errors = gains_first ep eq s.errors t.errors more.errors c.errors;
      }

pub comes_cut : (h g : State → State) (p q : Parts) (told left hp hq ep eq : Option (List ℕ)) → ((input : List ℕ) → Moves (h (with_input p input)) (g (with_input p input)))
    → Comes h p q told left hp hq ep eq true → Comes g p q told left hp hq ep eq true
comes_cut h g p q None left hp hq ep eq more c = tt
comes_cut h g p q (Some bytes) left hp hq ep eq more c = came_cut (h (with_input p bytes)) (g (with_input p bytes)) q bytes left hp hq ep eq (more bytes) c

-- ---- what has come so far, and what remains

-- What has come to the streams since these bytes were to come, and that g of what remains ends as f of the whole does.
pub record Led (f g : State → State) (old now : Parts) (bytes : List ℕ) (left_now held_old held_now errs_old errs_now : Option (List ℕ)) : Type 0 where
  pub input : List ℕ
  pub output : List ℕ
  pub errors : List ℕ
  pub left : left_now ≡ Some input
  pub rest : IsRest bytes input
  pub same : f (with_input old bytes) ≡ behind output errors (g (with_input now input))
  pub held : IfSome held_old (λ had. held_now ≡ Some (had ++ output))
  pub errs : IfSome errs_old (λ had. errs_now ≡ Some (had ++ errors))

abbrev pub Leads : (State → State) → (State → State) → Parts → Parts → Option (List ℕ) → Option (List ℕ) → Option (List ℕ) → Option (List ℕ) → Option (List ℕ) → Option (List ℕ) → Type 0
Leads f g old now told left held_old held_now errs_old errs_now = IfSome told (λ bytes. Led f g old now bytes left held_old held_now errs_old errs_now)

pub leads_start : (f : State → State) (old : Parts) (told held errs : Option (List ℕ)) → Leads f f old old told told held held errs errs
leads_start f old None held errs = tt
leads_start f old (Some bytes) held errs = record { input = bytes; output = []; errors = []; left = refl; rest = rest_all bytes; same = refl; held = none_came held; errs = none_came errs }

module _ (f g : State → State) (old p q : Parts) (bytes : List ℕ) (left_p left_q ho hp hq eo ep eq : Option (List ℕ)) (led : Led f g old p bytes left_p ho hp eo ep) where
  -- h was done, and r remains of g behind it
  led_on : (h r : State → State) → Blind r → Moving h → (q ≡ (h (with_input p led.input)).parts → g (with_input p led.input) ≡ r (h (with_input p led.input)))
      → Came (h (with_input p led.input)) q led.input left_q hp hq ep eq false → Led f r old q bytes left_q ho hq eo eq
  led_on h r blind moving split c =
      let s : State = h (with_input p led.input) in
      let d = c.state refl in
      let moved = moving (with_input p led.input) in
      let behind_it : g (with_input p led.input) ≡ behind s.output s.errors (r (with_input q s.input)) =
      split d.0 ∙ ap r (from_nothing s) ∙ blind s.output s.errors (with_input s.parts s.input) ∙ ap (λ (x : Parts). behind s.output s.errors (r (with_input x s.input))) (sym d.0) in
      record {
        input = s.input;
        output = led.output ++ s.output;
        errors = led.errors ++ s.errors;
        left = d.1;
        rest = rest_trans bytes led.input s.input led.rest moved.input;
        same = led.same ∙ ap (λ (x : State). behind led.output led.errors x) behind_it ∙ behind_behind led.output led.errors s.output s.errors (r (with_input q s.input));
        held = gains_more false ho hp hq led.output s.output _ refl led.held c.output;
        errs = gains_more false eo ep eq led.errors s.errors _ refl led.errs c.errors;
      }

  led_done : Came (g (with_input p led.input)) q led.input left_q hp hq ep eq false → Came (f (with_input old bytes)) q bytes left_q ho hq eo eq false
  led_done c =
      let s : State = g (with_input p led.input) in
      let d = c.state refl in
      record {
        state = λ _. (d.0 ∙ ap (λ (x : State). x.parts) (sym led.same), d.1 ∙ ap (λ (x : State). Some x.input) (sym led.same));
        input = λ (h : false ≡ true). cc;
        output = gains_more false ho hp hq led.output s.output _ (ap (λ (x : State). x.output) led.same) led.held c.output;
        errors = gains_more false eo ep eq led.errors s.errors _ (ap (λ (x : State). x.errors) led.same) led.errs c.errors;
      }

  led_broken : Moving g → Came (g (with_input p led.input)) q led.input left_q hp hq ep eq true → Came (f (with_input old bytes)) q bytes left_q ho hq eo eq true
  led_broken moving c =
      let s : State = g (with_input p led.input) in
      let l = c.input refl in
      let moved = moving (with_input p led.input) in
      record {
        state = λ (h : true ≡ false). cc;
        input = λ _. record {
          taken = led.rest.taken + l.taken;
          most =
              let within = led.rest.within in
              let most = l.most in
              let a : length led.input ≡ length bytes - led.rest.taken = ap length led.rest.is ∙ length-drop led.rest.taken bytes in
              let b : length s.input ≡ length led.input - moved.input.taken = ap length moved.input.is ∙ length-drop moved.input.taken led.input in
              let d : length (f (with_input old bytes)).input ≡ length s.input = ap (λ (x : State). length x.input) led.same in
              omega (arith, within, most, a, b, d);
          is = l.is ∙ ap (λ (x : List ℕ). Some x) (ap (λ (x : List ℕ). drop l.taken x) led.rest.is ∙ drop-drop l.taken led.rest.taken bytes);
        };
        output = gains_more true ho hp hq led.output s.output _ (ap (λ (x : State). x.output) led.same) led.held c.output;
        errors = gains_more true eo ep eq led.errors s.errors _ (ap (λ (x : State). x.errors) led.same) led.errs c.errors;
      }

  led_end : (b : Bool) → Moving g → Came (g (with_input p led.input)) q led.input left_q hp hq ep eq b → Came (f (with_input old bytes)) q bytes left_q ho hq eo eq b
  led_end false moving c = led_done c
  led_end true moving c = led_broken moving c

-- ---- the same, where the input may not tell its bytes

pub came_at : (f : State → State) (p q : Parts) (told left hp hq ep eq : Option (List ℕ)) (b : Bool) (bytes : List ℕ) → told ≡ Some bytes → Comes f p q told left hp hq ep eq b → Came (f (with_input p bytes)) q bytes left hp hq ep eq b
came_at f p q told left hp hq ep eq b bytes is c = subst (λ (t : Option (List ℕ)). Comes f p q t left hp hq ep eq b) is c

module _ (f g : State → State) (old p q : Parts) (left_p left_q ho hp hq eo ep eq : Option (List ℕ)) where
  pub leads_on : (told : Option (List ℕ)) (h r : State → State) → Blind r → Moving h → ((input : List ℕ) → q ≡ (h (with_input p input)).parts → g (with_input p input) ≡ r (h (with_input p input)))
      → Leads f g old p told left_p ho hp eo ep → Comes h p q left_p left_q hp hq ep eq false → Leads f r old q told left_q ho hq eo eq
  leads_on None h r blind moving split led c = tt
  leads_on (Some bytes) h r blind moving split led c =
      led_on f g old p q bytes left_p left_q ho hp hq eo ep eq led h r blind moving (split led.input) (came_at h p q left_p left_q hp hq ep eq false led.input led.left c)

  pub leads_end : (told : Option (List ℕ)) (b : Bool) → Moving g → Leads f g old p told left_p ho hp eo ep → Comes g p q left_p left_q hp hq ep eq b → Comes f old q told left_q ho hq eo eq b
  leads_end None b moving led c = tt
  leads_end (Some bytes) b moving led c =
      led_end f g old p q bytes left_p left_q ho hp hq eo ep eq led b moving (came_at g p q left_p left_q hp hq ep eq b led.input led.left c)

-- h, and then r
pub comes_then : (h r : State → State) (p q u : Parts) (told left_q left_u hp hq hu ep eq eu : Option (List ℕ)) (b : Bool) → Blind r → Moving h → Moving r
    → Comes h p q told left_q hp hq ep eq false → Comes r q u left_q left_u hq hu eq eu b → Comes (λ st. r (h st)) p u told left_u hp hu ep eu b
comes_then h r p q u told left_q left_u hp hq hu ep eq eu b blind_r moving_h moving_r c d =
    let both : State → State = λ st. r (h st) in
    leads_end both r p q u left_q left_u hp hq hu ep eq eu told b moving_r
    (leads_on both both p p q told left_q hp hp hq ep ep eq told h r blind_r moving_h (λ input is. refl) (leads_start both p told hp ep) c) d

-- another function that makes the same
pub comes_same : (f g : State → State) (p q : Parts) (told left hp hq ep eq : Option (List ℕ)) (b : Bool) → ((input : List ℕ) → f (with_input p input) ≡ g (with_input p input)) → Comes f p q told left hp hq ep eq b → Comes g p q told left hp hq ep eq b
comes_same f g p q None left hp hq ep eq b same c = tt
comes_same f g p q (Some bytes) left hp hq ep eq b same c = subst (λ (s : State). Came s q bytes left hp hq ep eq b) (same bytes) c

-- nothing was done
pub comes_still : (p : Parts) (told held errs : Option (List ℕ)) → Comes (λ st. st) p p told told held held errs errs false
comes_still p None held errs = tt
comes_still p (Some bytes) held errs = record {
  state = λ _. (refl, refl);
  input = λ (h : false ≡ true). cc;
  output = gains_none false held;
  errors = gains_none false errs;
}
