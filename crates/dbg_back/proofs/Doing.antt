-- Calls one after the other, and what is left to do.
use Rattle.std.proofs.Common.{◌≡◌, ℕ, Bool, true, false, List, [], Option, Some, None, Result, Ok, Err, refl, sym, ap, subst, ◌∙◌, append-nil}
use Rattle.io_gate.specs.declared.streams.Failed.{Failed}
use Rattle.io_gate.specs.Pieces.{PutsAll}
use Rattle.emu_model.specs.State.{Parts, State}
use Rattle.emu_machine.specs.Machines.{MachineState}
use Rattle.emu_report.proofs.Puts.{puts_equal}
use Rattle.dbg_model.specs.Session.{Course, printed}
use Rattle.dbg_back.specs.declared.trail.Trail.{Trail}
use Rattle.dbg_back.specs.Ends.{end_of_put, is_fault}
use Rattle.dbg_back.specs.Walks.{CanWalk, Does, Gained, IsIn, IsWalk}
use Rattle.dbg_back.proofs.Courses.{Appends}
use Rattle.dbg_back.proofs.Streams.{gained_as, gained_first, gained_put}

-- ---- one call

module _ (input : List ℕ) (m n : MachineState) (t v : Trail) (hp hq ep eq : Option (List ℕ)) where
  pub does_when : (f : State → Course → Course) (b c : Bool) → b ≡ c → Does f input m n t v hp hq ep eq b → Does f input m n t v hp hq ep eq c
  does_when f b c is d = subst (λ (x : Bool). Does f input m n t v hp hq ep eq x) is d

  pub does_as : (f g : State → Course → Course) (b : Bool) → ((start : State) (c : Course) → IsWalk start input c m t → f start c ≡ g start c) → Does f input m n t v hp hq ep eq b → Does g input m n t v hp hq ep eq b
  does_as f g b same d = record {
    walks = λ start c h fine. subst (λ (e : Course). IsWalk start input e n v) (same start c h) (d.walks start c h fine);
    output = λ start c had h before. gained_as had b hq (f start c).state.output (g start c).state.output (ap (λ (e : Course). e.state.output) (same start c h)) (d.output start c had h before);
    errors = λ start c had h before. gained_as had b eq (f start c).state.errors (g start c).state.errors (ap (λ (e : Course). e.state.errors) (same start c h)) (d.errors start c had h before);
  }

  -- broken off in f, where g only appends to what f makes
  pub does_cut : (f g : State → Course → Course) → ((start : State) (c : Course) → IsWalk start input c m t → Appends (f start c) (g start c)) → Does f input m n t v hp hq ep eq true → Does g input m n t v hp hq ep eq true
  does_cut f g more d = record {
    walks = λ start c h (broken : true ≡ false). cc;
    output = λ start c had h before. gained_first had hq (f start c).state.output (g start c).state.output (more start c h).output (d.output start c had h before);
    errors = λ start c had h before. gained_first had eq (f start c).state.errors (g start c).state.errors (more start c h).errors (d.errors start c had h before);
  }

  -- in some session it still is
  pub still_walks : (f : State → Course → Course) → Does f input m n t v hp hq ep eq false → CanWalk input m t → CanWalk input n v
  still_walks f d w = record { start = w.start; course = f w.start w.course; walk = d.walks w.start w.course w.walk refl }

-- nothing is done
pub does_nothing : (input : List ℕ) (m : MachineState) (t : Trail) (held errs : Option (List ℕ)) → Does (λ start c. c) input m m t t held held errs errs false
does_nothing input m t held errs = record { walks = λ start c h _. h; output = λ start c had h before. before; errors = λ start c had h before. before }

-- one call and then another
module _ (input : List ℕ) (m n u : MachineState) (t v w : Trail) (hp hq hu ep eq eu : Option (List ℕ)) where
  pub does_then : (f g : State → Course → Course) (b : Bool) → Does f input m n t v hp hq ep eq false → Does g input n u v w hq hu eq eu b → Does (λ start c. g start (f start c)) input m u t w hp hu ep eu b
  does_then f g b p q = record {
    walks = λ start c h fine. q.walks start (f start c) (p.walks start c h refl) fine;
    output = λ start c had h before. q.output start (f start c) had (p.walks start c h refl) (p.output start c had h before);
    errors = λ start c had h before. q.errors start (f start c) had (p.walks start c h refl) (p.errors start c had h before);
  }

-- ---- a line

pub walk_put : (start : State) (input : List ℕ) (c : Course) (m : MachineState) (t : Trail) (text : Parts → List ℕ) → IsWalk start input c m t → IsWalk start input (printed text c) m t
walk_put start input c m t text h = record {
  here = record { parts = h.here.parts; failed = h.here.failed; left = h.here.left; within = h.here.within };
  on = record { count = h.on.count; parts = h.on.parts; input = h.on.input };
  top = h.top;
  below = h.below;
  none = h.none;
  marks = h.marks;
}

text_of : (text : Parts → List ℕ) (st : State) (input : List ℕ) (m : MachineState) (place : ℕ) → IsIn st input m place → text m.parts ≡ text st.parts
text_of text st input m place h = ap text h.parts

-- where a line ends the call, the errors are as they were
errs_stay : (had : Option (List ℕ)) (line : Result (Unit {0}) Failed) (errs : Option (List ℕ)) (bytes : List ℕ) → Gained had false errs bytes → Gained had (is_fault (end_of_put line)) errs bytes
errs_stay had (Ok done) errs bytes g = g
errs_stay None (Err failed) errs bytes g = tt
errs_stay (Some h) (Err failed) errs bytes g = record { gained = bytes; is = g; first = ([], sym (append-nil bytes)) }

pub does_put : (input : List ℕ) (m : MachineState) (t : Trail) (hp hq errs : Option (List ℕ)) (text : Parts → List ℕ) (line : Result (Unit {0}) Failed) → PutsAll hp hq (text m.parts) line
    → Does (λ start. printed text) input m m t t hp hq errs errs (is_fault (end_of_put line))
does_put input m t hp hq errs text line puts = record {
  walks = λ start c h fine. walk_put start input c m t text h;
  output = λ start c had h before.
      gained_put had hp hq c.state.output (text c.state.parts) line before (puts_equal hp hq (text m.parts) (text c.state.parts) line (text_of text c.state input m t.place h.here) puts);
  errors = λ start c had h before. errs_stay had line errs c.state.errors before;
}

-- ---- what is left to do in a loop

-- a course that the machine has come to, of which g makes what f makes of the one that it began with
pub record Led (f g : Course → Course) (start : State) (input : List ℕ) (c : Course) (m : MachineState) (t : Trail) (hp hq ep eq : Option (List ℕ)) : Type 0 where
  pub course : Course
  pub walk : IsWalk start input course m t
  pub same : f c ≡ g course
  pub output : (had : Option (List ℕ)) → Gained had false hp c.state.output → Gained had false hq course.state.output
  pub errors : (had : Option (List ℕ)) → Gained had false ep c.state.errors → Gained had false eq course.state.errors

abbrev pub Leads : (State → Course → Course) → (State → Course → Course) → List ℕ → MachineState → MachineState → Trail → Trail → Option (List ℕ) → Option (List ℕ) → Option (List ℕ) → Option (List ℕ) → Type 0
Leads f g input m n t v hp hq ep eq = (start : State) (c : Course) → IsWalk start input c m t → Led (f start) (g start) start input c n v hp hq ep eq

pub leads_start : (f : State → Course → Course) (input : List ℕ) (m : MachineState) (t : Trail) (held errs : Option (List ℕ)) → Leads f f input m m t t held held errs errs
leads_start f input m t held errs = λ start c h. record { course = c; walk = h; same = refl; output = λ had before. before; errors = λ had before. before }

module _ (f g : State → Course → Course) (input : List ℕ) (m n : MachineState) (t v : Trail) (hp hq ep eq : Option (List ℕ)) (led : Leads f g input m n t v hp hq ep eq) where
  pub leads_walk : CanWalk input m t → CanWalk input n v
  leads_walk w = let l = led w.start w.course w.walk in record { start = w.start; course = l.course; walk = l.walk }

  -- the machine is marked
  pub leads_kept : (u : MachineState) (w : Trail) → ((start : State) (input : List ℕ) (c : Course) → IsWalk start input c n v → IsWalk start input c u w) → Leads f g input m u t w hp hq ep eq
  leads_kept u w kept = λ start c h.
      let l = led start c h in
      record { course = l.course; walk = kept start input l.course l.walk; same = l.same; output = l.output; errors = l.errors }

  -- a call is done, and r is left
  pub leads_on : (h r : State → Course → Course) (u : MachineState) (w : Trail) (hu eu : Option (List ℕ)) → ((start : State) (c : Course) → IsWalk start input c n v → g start c ≡ r start (h start c))
      → Does h input n u v w hq hu eq eu false → Leads f r input m u t w hp hu ep eu
  leads_on h r u w hu eu split d = λ start c s.
      let l = led start c s in
      record {
        course = h start l.course;
        walk = d.walks start l.course l.walk refl;
        same = l.same ∙ split start l.course l.walk;
        output = λ had before. d.output start l.course had l.walk (l.output had before);
        errors = λ had before. d.errors start l.course had l.walk (l.errors had before);
      }

  -- the last call
  pub leads_end : (u : MachineState) (w : Trail) (hu eu : Option (List ℕ)) (b : Bool) → Does g input n u v w hq hu eq eu b → Does f input m u t w hp hu ep eu b
  leads_end u w hu eu b d = record {
    walks = λ start c s fine. let l = led start c s in subst (λ (e : Course). IsWalk start input e u w) (sym l.same) (d.walks start l.course l.walk fine);
    output = λ start c had s before.
        let l = led start c s in
        gained_as had b hu (g start l.course).state.output (f start c).state.output (ap (λ (e : Course). e.state.output) (sym l.same)) (d.output start l.course had l.walk (l.output had before));
    errors = λ start c had s before.
        let l = led start c s in
        gained_as had b eu (g start l.course).state.errors (f start c).state.errors (ap (λ (e : Course). e.state.errors) (sym l.same)) (d.errors start l.course had l.walk (l.errors had before));
  }

  -- nothing is left
  pub leads_done : ((start : State) (c : Course) → IsWalk start input c n v → c ≡ g start c) → Does f input m n t v hp hq ep eq false
  leads_done none = leads_end n v hq eq false (does_as input n n v v hq hq eq eq (λ start c. c) g false none (does_nothing input n v hq eq))

  -- the session is broken off in a call
  pub leads_cut : (h : State → Course → Course) (u : MachineState) (w : Trail) (hu eu : Option (List ℕ)) → ((start : State) (c : Course) → IsWalk start input c n v → Appends (h start c) (g start c))
      → Does h input n u v w hq hu eq eu true → Does f input m u t w hp hu ep eu true
  leads_cut h u w hu eu more d = leads_end u w hu eu true (does_cut input n u v w hq hu eq eu h g more d)
