-- What is left to seek, as a loop goes from one stop that is passed to the next.
use Rattle.std.proofs.Common.{◌≡◌, ℕ, Bool, true, false, List, Option, Some, None, refl, sym, ap, subst, ◌∙◌}
use Rattle.emu_model.specs.State.{State}
use Rattle.emu_machine.specs.Machines.{MachineState}
use Rattle.dbg_model.specs.Session.{Course}
use Rattle.dbg_back.specs.declared.trail.Trail.{Trail}
use Rattle.dbg_back.specs.Walks.{Does, Gained, IsWalk}
use Rattle.dbg_back.proofs.Courses.{Appends}
use Rattle.dbg_back.proofs.Streams.{gained_as, gained_first}
use Rattle.debug_points.specs.Points.{Points}
use Rattle.debug_moves.specs.declared.session.Reached.{Reached}
use Rattle.debug_moves.specs.Sessions.{Moved, stop_or}

-- what comes of the breaks and watches that are left, and of how far the session has come
abbrev pub Sought : Type 0
Sought = Points → Course → Moved

-- a course that the machine has come to, of which and of the points that are left comes what came of the first ones
pub record Seeks (seek : Sought) (input : List ℕ) (start : State) (first : Points) (c : Course) (points : Points) (m : MachineState) (t : Trail) (hp hq ep eq : Option (List ℕ)) : Type 0 where
  pub course : Course
  pub walk : IsWalk start input course m t
  pub same : seek first c ≡ seek points course
  pub output : (had : Option (List ℕ)) → Gained had false hp c.state.output → Gained had false hq course.state.output
  pub errors : (had : Option (List ℕ)) → Gained had false ep c.state.errors → Gained had false eq course.state.errors

abbrev pub AllSeek : (State → Sought) → List ℕ → Points → Points → MachineState → MachineState → Trail → Trail → Option (List ℕ) → Option (List ℕ) → Option (List ℕ) → Option (List ℕ) → Type 0
AllSeek seek input first points m n t v hp hq ep eq = (start : State) (c : Course) → IsWalk start input c m t → Seeks (seek start) input start first c points n v hp hq ep eq

pub seeks_start : (seek : State → Sought) (input : List ℕ) (points : Points) (m : MachineState) (t : Trail) (held errs : Option (List ℕ)) → AllSeek seek input points points m m t t held held errs errs
seeks_start seek input points m t held errs = λ start c w. record { course = c; walk = w; same = refl; output = λ had before. before; errors = λ had before. before }

-- where one more move ends
abbrev pub OnTo : (State → Sought) → List ℕ → Points → Points → MachineState → Trail → (State → Course → Course) → Option Reached → Type 0
OnTo seek input points left n v next o = (start : State) (c : Course) → IsWalk start input c n v → seek start points c ≡ stop_or o left (next start c) (λ more. seek start more (next start c))

-- by input that is another name of the same bytes, and another name of the budget
pub on_as : (seek : ℕ → State → Sought) (a b : ℕ) (input other : List ℕ) (points left : Points) (n : MachineState) (v : Trail) (next : State → Course → Course) (o : Option Reached) → a ≡ b → other ≡ input
    → OnTo (seek a) other points left n v next o → OnTo (seek b) input points left n v next o
on_as seek a b input other points left n v next o budget same on =
    subst (λ (x : ℕ). OnTo (seek x) input points left n v next o) budget (subst (λ (i : List ℕ). OnTo (seek a) i points left n v next o) same on)

pub does_in : (next : State → Course → Course) (input other : List ℕ) (n u : MachineState) (v w : Trail) (hq hu eq eu : Option (List ℕ)) (b : Bool) → other ≡ input → Does next other n u v w hq hu eq eu b → Does next input n u v w hq hu eq eu b
does_in next input other n u v w hq hu eq eu b same d = subst (λ (i : List ℕ). Does next i n u v w hq hu eq eu b) same d

-- one more move, to the next machine that is met or to where none is
module _ (seek : State → Sought) (input : List ℕ) (first points left : Points) (m n u : MachineState) (t v w : Trail) (hp hq hu ep eq eu : Option (List ℕ)) (next : State → Course → Course)
    (all : AllSeek seek input first points m n t v hp hq ep eq) where
  module _ (d : Does next input n u v w hq hu eq eu false) where
    module _ (o : Option Reached) (on : OnTo seek input points left n v next o) where
      -- a stop is passed
      pub seeks_pass : o ≡ None → AllSeek seek input first left m u t w hp hu ep eu
      seeks_pass none = λ start c s.
          let l = all start c s in
          record {
            course = next start l.course;
            walk = d.walks start l.course l.walk refl;
            same = l.same ∙ on start l.course l.walk ∙ ap (λ (x : Option Reached). stop_or x left (next start l.course) (λ more. seek start more (next start l.course))) none;
            output = λ had before. d.output start l.course had l.walk (l.output had before);
            errors = λ had before. d.errors start l.course had l.walk (l.errors had before);
          }

      -- it is where the move ends
      module _ (reached : Reached) (some : o ≡ Some reached) where
        ends : (start : State) (c : Course) (s : IsWalk start input c m t) → seek start first c ≡ record { course = next start (all start c s).course; points = left; reached = reached }
        ends start c s =
            let l = all start c s in
            l.same ∙ on start l.course l.walk ∙ ap (λ (x : Option Reached). stop_or x left (next start l.course) (λ more. seek start more (next start l.course))) some

        pub ends_points : (start : State) (c : Course) → IsWalk start input c m t → left ≡ (seek start first c).points
        ends_points start c s = ap (λ (x : Moved). x.points) (sym (ends start c s))

        pub ends_reached : (start : State) (c : Course) → IsWalk start input c m t → reached ≡ (seek start first c).reached
        ends_reached start c s = ap (λ (x : Moved). x.reached) (sym (ends start c s))

        pub ends_does : Does (λ start c. (seek start first c).course) input m u t w hp hu ep eu false
        ends_does = record {
          walks = λ start c s fine.
              let l = all start c s in
              subst (λ (e : Course). IsWalk start input e u w) (ap (λ (x : Moved). x.course) (sym (ends start c s))) (d.walks start l.course l.walk refl);
          output = λ start c had s before.
              let l = all start c s in
              gained_as had false hu (next start l.course).state.output (seek start first c).course.state.output (ap (λ (x : Moved). x.course.state.output) (sym (ends start c s))) (d.output start l.course had l.walk (l.output had before));
          errors = λ start c had s before.
              let l = all start c s in
              gained_as had false eu (next start l.course).state.errors (seek start first c).course.state.errors (ap (λ (x : Moved). x.course.state.errors) (sym (ends start c s))) (d.errors start l.course had l.walk (l.errors had before));
        }

  -- a stream failed in it
  pub cut_does : Does next input n u v w hq hu eq eu true → ((start : State) (c : Course) → IsWalk start input c n v → Appends (next start c) (seek start points c).course) → Does (λ start c. (seek start first c).course) input m u t w hp hu ep eu true
  cut_does d more = record {
    walks = λ start c s (broken : true ≡ false). cc;
    output = λ start c had s before.
        let l = all start c s in
        gained_as had true hu (seek start points l.course).course.state.output (seek start first c).course.state.output (ap (λ (x : Moved). x.course.state.output) (sym l.same))
        (gained_first had hu (next start l.course).state.output (seek start points l.course).course.state.output (more start l.course l.walk).output (d.output start l.course had l.walk (l.output had before)));
    errors = λ start c had s before.
        let l = all start c s in
        gained_as had true eu (seek start points l.course).course.state.errors (seek start first c).course.state.errors (ap (λ (x : Moved). x.course.state.errors) (sym l.same))
        (gained_first had eu (next start l.course).state.errors (seek start points l.course).course.state.errors (more start l.course l.walk).errors (d.errors start l.course had l.walk (l.errors had before)));
  }
