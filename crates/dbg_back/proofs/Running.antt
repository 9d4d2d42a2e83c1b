-- A run of the machine from its place in the input, and of the state that it is in.
use Rattle.std.proofs.Common.{◌≡◌, ◌≤◌, ◌<◌, ◌⊎◌, ℕ, ◌+◌, ◌-◌, min, Bool, true, false, ◌||◌, List, ◌++◌, length, drop, take, Option, Some, None, is_none, is_some, nat_lt, IfSome, if◌then◌else◌, inl, inr, refl, sym, ap, subst, ◌∙◌, arith, length-drop}
use Rattle.std.proofs.lemmas.Bool.Decides.{nat_tests}
use Rattle.std.proofs.lemmas.List.{drop-drop, take_all}
use Rattle.emu_model.specs.declared.access.Access.{Access}
use Rattle.emu_model.specs.declared.trap.Ended.{Ended}
use Rattle.emu_model.specs.Marks.{Marks}
use Rattle.emu_model.specs.State.{Parts, State}
use Rattle.emu_run.specs.Step.{accesses}
use Rattle.emu_run.specs.Run.{run, until_end}
use Rattle.emu_run.specs.RunLaws.{IsRest, behind, run_behind, until_end_moves}
use Rattle.emu_system.specs.Gained.{Gains}
use Rattle.emu_system.specs.Start.{with_input}
use Rattle.emu_machine.specs.Accesses.{run_accesses}
use Rattle.emu_machine.specs.Ends.{Becomes, Puts, run_end}
use Rattle.emu_machine.specs.Machines.{MachineState}
use Rattle.emu_machine.specs.declared.ends.RunEnd.{RunEnd}
use Rattle.emu_machine.specs.declared.ends.RunEnd.TheVariants as runs
use Rattle.emu_machine.proofs.Composed.{from_nothing}
use Rattle.emu_machine.proofs.Logs.{last_none, log_one}
use Rattle.dbg_model.specs.CourseLaws.{moved_below, moved_beyond, on_same, on_until}
use Rattle.dbg_model.specs.Session.{Course, walked, moved_to}
use Rattle.dbg_back.specs.declared.trail.Trail.{Trail}
use Rattle.dbg_back.specs.Walks.{AreMarks, CanWalk, Does, Gained, IsIn, IsWalk, Runs, Stopped, advanced, part_end}
use Rattle.dbg_back.proofs.Courses.{until_most}
use Rattle.dbg_back.proofs.Streams.{gained_as, gained_more}

-- ---- the run, whatever was written

module _ (st : State) (input : List ℕ) (m : MachineState) (place until : ℕ) (h : IsIn st input m place) where
  abbrev quiet_state : State
  quiet_state = with_input st.parts st.input

  ran_there : run (with_input m.parts st.input) until ≡ run quiet_state until
  ran_there = ap (λ (p : Parts). run (with_input p st.input) until) h.parts

  ran_behind : run st until ≡ behind st.output st.errors (run quiet_state until)
  ran_behind = ap (λ (s : State). run s until) (from_nothing st) ∙ run_behind st.output st.errors quiet_state until

  -- the machine that it leaves
  pub ran_parts : (n : MachineState) (told left : Option (List ℕ)) → told ≡ Some st.input → Becomes (λ s. run s until) m.parts n.parts told left false → n.parts ≡ (run st until).parts
  ran_parts n told left is done =
      let d = subst (λ (t : Option (List ℕ)). Becomes (λ s. run s until) m.parts n.parts t left false) is done refl in
      d.0 ∙ ap (λ (s : State). s.parts) ran_there ∙ ap (λ (s : State). s.parts) (sym ran_behind)

  -- what is left of the input
  pub ran_left : (n : MachineState) (told : Option (List ℕ)) (rest : List ℕ) → told ≡ Some st.input → Becomes (λ s. run s until) m.parts n.parts told (Some rest) false → rest ≡ (run st until).input
  ran_left n told rest is done =
      let d = subst (λ (t : Option (List ℕ)). Becomes (λ s. run s until) m.parts n.parts t (Some rest) false) is done refl in
      let one : rest ≡ (run (with_input m.parts st.input) until).input = cc (d.1) in
      one ∙ ap (λ (s : State). s.input) ran_there ∙ ap (λ (s : State). s.input) (sym ran_behind)

  -- its place there
  place_of : (rest : List ℕ) (after : ℕ) → rest ≡ (run st until).input → after ≡ length input - length rest → (drop after input ≡ (run st until).input) × (after ≤ length input)
  place_of rest after is count =
      let r : IsRest st.input (run st until).input = (until_end_moves st (until - st.parts.steps)).input in
      let within = r.within in
      let inside = h.within in
      let a : length rest ≡ length st.input - r.taken = ap length (is ∙ r.is) ∙ length-drop r.taken st.input in
      let b : length st.input ≡ length input - place = ap length (sym h.left) ∙ length-drop place input in
      let sum : after ≡ place + r.taken = omega (arith, a, b, count, within, inside) in
      (ap (λ (n : ℕ). drop n input) sum ∙ sym (drop-drop r.taken place input) ∙ ap (λ (l : List ℕ). drop r.taken l) h.left ∙ sym r.is, omega (arith, count))

  pub ran_in : (n : MachineState) (told : Option (List ℕ)) (rest : List ℕ) (after : ℕ) → told ≡ Some st.input → Becomes (λ s. run s until) m.parts n.parts told (Some rest) false → n.failed ≡ false → after ≡ length input - length rest
      → IsIn (run st until) input n after
  ran_in n told rest after is done fine count =
      let there = place_of rest after (ran_left n told rest is done) count in
      record { parts = ran_parts n told (Some rest) is done; failed = fine; left = there.0; within = there.1 }

  -- what a sink gained
  module _ (b : Bool) (told had hp hq : Option (List ℕ)) (is : told ≡ Some st.input) where
    pub ran_output : Puts (λ s. (run s until).output) m.parts told hp hq b → Gained had false hp st.output → Gained had b hq (run st until).output
    ran_output puts before =
        let p = subst (λ (t : Option (List ℕ)). Puts (λ s. (run s until).output) m.parts t hp hq b) is puts in
        let q : IfSome hp (λ x. Gains b hq x (run quiet_state until).output) = subst (λ (s : State). IfSome hp (λ x. Gains b hq x s.output)) ran_there p in
        gained_as had b hq (st.output ++ (run quiet_state until).output) (run st until).output (ap (λ (s : State). s.output) (sym ran_behind))
        (gained_more b had hp hq st.output (run quiet_state until).output before q)

    pub ran_errors : Puts (λ s. (run s until).errors) m.parts told hp hq b → Gained had false hp st.errors → Gained had b hq (run st until).errors
    ran_errors puts before =
        let p = subst (λ (t : Option (List ℕ)). Puts (λ s. (run s until).errors) m.parts t hp hq b) is puts in
        let q : IfSome hp (λ x. Gains b hq x (run quiet_state until).errors) = subst (λ (s : State). IfSome hp (λ x. Gains b hq x s.errors)) ran_there p in
        gained_as had b hq (st.errors ++ (run quiet_state until).errors) (run st until).errors (ap (λ (s : State). s.errors) (sym ran_behind))
        (gained_more b had hp hq st.errors (run quiet_state until).errors before q)

-- all that stands behind a place
pub whole_rest : (xs : List ℕ) (i : ℕ) → take (length xs - i) (drop i xs) ≡ drop i xs
whole_rest xs i = let count = length-drop i xs in take_all (length xs - i) (drop i xs) (omega (arith, count))

-- the clauses of a run, together
pub runs_by : (until : ℕ) (input : List ℕ) (m n : MachineState) (place after : ℕ) (b : Bool) (told : Option (List ℕ)) (rest : List ℕ) (hp hq ep eq : Option (List ℕ)) → told ≡ Some (drop place input)
    → Becomes (λ s. run s until) m.parts n.parts told (Some rest) b → Puts (λ s. (run s until).output) m.parts told hp hq b → Puts (λ s. (run s until).errors) m.parts told ep eq b → n.failed ≡ b → after ≡ length input - length rest
    → Runs until input m n place after hp hq ep eq b
runs_by until input m n place after b told rest hp hq ep eq is state output errors failed count = record {
  here = λ st h fine.
      ran_in st input m place until h n told rest after (is ∙ ap (λ (l : List ℕ). Some l) h.left) (subst (λ (x : Bool). Becomes (λ s. run s until) m.parts n.parts told (Some rest) x) fine state) (failed ∙ fine) count;
  output = λ st had h before. ran_output st input m place until h b told had hp hq (is ∙ ap (λ (l : List ℕ). Some l) h.left) output before;
  errors = λ st had h before. ran_errors st input m place until h b told had ep eq (is ∙ ap (λ (l : List ℕ). Some l) h.left) errors before;
}

-- ---- how the run stopped

stop_of : (e : Option Ended) (r : RunEnd) → r ≡ run_end e → (is_none e ≡ false) ⊎ (r ≡ runs.Spent)
stop_of None r is = inr is
stop_of (Some x) r is = inl refl

pub ran_stopped : (until : ℕ) (m : Parts) (r : RunEnd) → r ≡ run_end m.ended → (r ≡ runs.Spent → m.steps ≡ until) → Stopped until m
ran_stopped until m r is spent =
    elim (stop_of m.ended r is) as (λ _. Stopped until m) [
      | inl over ↦ inl over
      | inr same ↦ inr (spent same)
    ]

-- a machine that goes on has come further
pub stopped_further : (part steps : ℕ) (n : MachineState) → steps < part → Stopped part n.parts → is_none n.parts.ended ≡ true → steps < n.parts.steps
stopped_further part steps n below stopped going =
    elim stopped as (λ _. steps < n.parts.steps) [
      | inl over ↦ let both : true ≡ false = sym going ∙ over in cc
      | inr counted ↦ omega (arith, counted, below)
    ]

-- the accesses of one step
pub ran_accesses : (before : List Access) (m : Parts) (bytes : List ℕ) (until : ℕ) → is_none m.ended ≡ true → until ≡ m.steps + 1 → run_accesses before m bytes until ≡ accesses m
ran_accesses before m bytes until going one =
    let below : m.steps < until = omega (arith, one) in
    let none : until - (m.steps + 1) ≡ 0 = omega (arith, one) in
    log_one before m bytes until going below ∙ rw none (last_none (accesses m) _ _)

-- ---- of the course of a session

pub same_marks : (start : State) (input : List ℕ) (m n : MachineState) (t v : Trail) → n.marks ≡ m.marks → n.saved ≡ m.saved → v.steps ≡ t.steps → v.places ≡ t.places
    → AreMarks start input m.marks m.saved t.steps t.places → AreMarks start input n.marks n.saved v.steps v.places
same_marks start input m n t v marks saved steps places h =
    subst (λ (x : Marks). AreMarks start input x n.saved v.steps v.places) (sym marks)
    (subst (λ s. AreMarks start input m.marks s v.steps v.places) (sym saved)
    (subst (λ (s : List ℕ). AreMarks start input m.marks m.saved s v.places) (sym steps)
    (subst (λ (p : List ℕ). AreMarks start input m.marks m.saved t.steps p) (sym places) h)))

module _ (input : List ℕ) (m n : MachineState) (t v : Trail) (part : ℕ) (marks : n.marks ≡ m.marks) (saved : n.saved ≡ m.saved) (steps : v.steps ≡ t.steps) (places : v.places ≡ t.places) where
  -- up to the furthest count
  pub walk_below : (start : State) (c : Course) → IsWalk start input c m t → c.state.parts.steps ≤ part → part ≤ c.top → v.top ≡ t.top → IsIn (run c.state part) input n v.place
      → IsWalk start input (walked c (part - c.state.parts.steps)) n v
  walk_below start c w from to top here =
      let k : ℕ = part - c.state.parts.steps in
      let within : c.state.parts.steps + k ≤ c.top = omega (arith, from, to) in
      let most = until_most k c.state in
      rw (moved_below k c within) (record {
        here = record { parts = here.parts; failed = here.failed; left = here.left; within = here.within };
        on = on_same start (until_end c.state k) (moved_to (until_end c.state k) c.state) refl refl (on_until start c.state k w.on);
        top = top ∙ w.top;
        below = omega (arith, within, most);
        none = w.none;
        marks = same_marks start input m n t v marks saved steps places w.marks;
      })

  -- from it on
  pub walk_beyond : (start : State) (c : Course) → IsWalk start input c m t → c.top ≡ c.state.parts.steps → v.top ≡ n.parts.steps → IsIn (run c.state part) input n v.place
      → IsWalk start input (walked c (part - c.state.parts.steps)) n v
  walk_beyond start c w at top here =
      let k : ℕ = part - c.state.parts.steps in
      rw (moved_beyond k c at) (record {
        here = here;
        on = on_until start c.state k w.on;
        top = top ∙ ap (λ (p : Parts). p.steps) here.parts;
        below = omega arith;
        none = w.none;
        marks = same_marks start input m n t v marks saved steps places w.marks;
      })

-- where a part ends
pub part_below : (c : Course) (until : ℕ) → c.state.parts.steps < c.top → part_end c until ≡ min until c.top
part_below c until below = let is : nat_lt c.state.parts.steps c.top ≡ true = grind (arith, nat_tests, below) in ap (λ (b : Bool). if b then min until c.top else until) is

pub part_beyond : (c : Course) (until : ℕ) → c.top ≤ c.state.parts.steps → part_end c until ≡ until
part_beyond c until beyond = let is : nat_lt c.state.parts.steps c.top ≡ false = grind (arith, nat_tests, beyond) in ap (λ (b : Bool). if b then min until c.top else until) is

pub part_bounds : (c : Course) (until : ℕ) → c.state.parts.steps < until → c.state.parts.steps ≤ c.top → (c.state.parts.steps ≤ part_end c until) × (part_end c until ≤ until)
part_bounds c until before below =
    elim (nat_lt c.state.parts.steps c.top) as (λ b. nat_lt c.state.parts.steps c.top ≡ b → (c.state.parts.steps ≤ (if b then min until c.top else until)) × ((if b then min until c.top else until) ≤ until)) [
      | true ↦ λ h. (omega (arith, before, below), omega arith)
      | false ↦ λ h. (omega (arith, before), omega arith)
    ] refl

-- ---- the two ways to take steps

module _ (input : List ℕ) (m n : MachineState) (t v : Trail) (until : ℕ) (hp hq ep eq : Option (List ℕ)) where
  steps_of : (start : State) (c : Course) → IsWalk start input c m t → m.parts.steps ≡ c.state.parts.steps
  steps_of start c w = ap (λ (p : Parts). p.steps) w.here.parts

  -- below the furthest count, by sinks that drop what they get
  pub advances_below : (part : ℕ) → part ≡ min until t.top → m.parts.steps < t.top → m.parts.steps < until → n.marks ≡ m.marks → n.saved ≡ m.saved → v.steps ≡ t.steps → v.places ≡ t.places → v.top ≡ t.top
      → ((st : State) → IsIn st input m t.place → IsIn (run st part) input n v.place) → Does (λ start. advanced until) input m n t v hp hp ep ep false
  advances_below part is below before marks saved steps places top here =
      let ends : (start : State) (c : Course) → IsWalk start input c m t → part_end c until ≡ part =
      λ start c w.
      let same = steps_of start c w in
      let tops = w.top in
      let under : c.state.parts.steps < c.top = omega (arith, same, tops, below) in
      part_below c until under ∙ ap (λ (n : ℕ). min until n) (sym tops) ∙ sym is in
      let bounds : (start : State) (c : Course) → IsWalk start input c m t → (c.state.parts.steps ≤ part) × (part ≤ c.top) × (c.state.parts.steps + (part - c.state.parts.steps) ≤ c.top) =
      λ start c w.
      let same = steps_of start c w in
      let tops = w.top in
      (omega (arith, same, tops, below, before, is), omega (arith, tops, is), omega (arith, same, tops, below, before, is)) in
      record {
        walks = λ start c w fine.
            rw (ends start c w) (walk_below input m n t v part marks saved steps places start c w (bounds start c w).0 (bounds start c w).1 top (here c.state w.here));
        output = λ start c had w had_before.
            rw (ends start c w, moved_below (part - c.state.parts.steps) c (bounds start c w).2) had_before;
        errors = λ start c had w had_before.
            rw (ends start c w, moved_below (part - c.state.parts.steps) c (bounds start c w).2) had_before;
      }

  -- from it on, by those of the session
  pub advances_beyond : (b : Bool) → t.top ≤ m.parts.steps → n.marks ≡ m.marks → n.saved ≡ m.saved → v.steps ≡ t.steps → v.places ≡ t.places → v.top ≡ n.parts.steps
      → Runs until input m n t.place v.place hp hq ep eq b → Does (λ start. advanced until) input m n t v hp hq ep eq b
  advances_beyond b beyond marks saved steps places top ran =
      let at : (start : State) (c : Course) → IsWalk start input c m t → c.top ≡ c.state.parts.steps =
      λ start c w. let same = steps_of start c w in let tops = w.top in let below = w.below in omega (arith, same, tops, below, beyond) in
      let ends : (start : State) (c : Course) → IsWalk start input c m t → part_end c until ≡ until =
      λ start c w. let same = at start c w in part_beyond c until (omega (arith, same)) in
      record {
        walks = λ start c w fine.
            rw (ends start c w) (walk_beyond input m n t v until marks saved steps places start c w (at start c w) top (ran.here c.state w.here fine));
        output = λ start c had w had_before.
            rw (ends start c w, moved_beyond (until - c.state.parts.steps) c (at start c w)) (ran.output c.state had w.here had_before);
        errors = λ start c had w had_before.
            rw (ends start c w, moved_beyond (until - c.state.parts.steps) c (at start c w)) (ran.errors c.state had w.here had_before);
      }

pub unfailed : (e : Option Ended) (failed : Bool) → (is_some e || failed) ≡ false → failed ≡ false
unfailed None failed is = is
unfailed (Some x) failed is = cc

-- ---- what walks hasn't failed, and stands within its input
pub can_fine : (input : List ℕ) (m : MachineState) (t : Trail) → CanWalk input m t → m.failed ≡ false
can_fine input m t w = w.walk.here.failed

pub can_place : (input : List ℕ) (m : MachineState) (t : Trail) → CanWalk input m t → t.place ≤ length input
can_place input m t w = w.walk.here.within
