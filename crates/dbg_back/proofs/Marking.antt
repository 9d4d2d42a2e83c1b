-- Marks that are made, dropped and gone back to, in a session that has come so far.
use Rattle.std.proofs.Common.{◌≡◌, ◌≤◌, ◌<◌, ℕ, ◌+◌, ◌-◌, Bool, true, false, List, length, drop, get_or, set, Option, Some, None, is_none, is_some, option_map, inl, inr, refl, sym, ap, subst, ◌∙◌, arith}
use Rattle.std.specs.List.{count_by}
use Rattle.std.specs.Ordering.{nat_cmp}
use Rattle.std.specs.FinMap.{FinMap}
use Rattle.std.proofs.lemmas.Bool.{cases_eq}
use Rattle.std.proofs.lemmas.List.{get_or-set_same, get_or-set_other, length-set}
use Rattle.emu_model.specs.declared.trap.Ended.{Ended}
use Rattle.emu_model.specs.Access.{Page}
use Rattle.emu_model.specs.Marks.{Marks}
use Rattle.emu_model.specs.State.{Parts, State}
use Rattle.emu_run.specs.Run.{goes_on, until_end}
use Rattle.emu_run.specs.RunLaws.{until_end_none}
use Rattle.emu_system.specs.Start.{with_input}
use Rattle.emu_machine.specs.Machines.{MachineState, Saved, has_ended, mark_at, parts_saved, saved_of}
use Rattle.emu_run.specs.Steps.{until_end_added}
use Rattle.dbg_model.specs.Reached.{until_end_counts}
use Rattle.dbg_model.specs.CourseLaws.{IsOn, moved_below, moved_same, on_start, until_input, until_parts}
use Rattle.dbg_model.specs.Limits.{until_end_limit}
use Rattle.dbg_model.specs.Session.{Course, back_to, begun, walked, moved_to}
use Rattle.dbg_back.specs.declared.trail.Trail.{Trail}
use Rattle.dbg_back.specs.Walks.{AreMarks, IsIn, IsMark, IsTurned, IsWalk}
use Rattle.dbg_back.proofs.Counts.{all_none}

never : (X : Type 0) (b : Bool) → b ≡ false → b ≡ true → X
never X b fine broken = let e : true ≡ false = sym broken ∙ fine in cc

-- ---- the run from the start has counted as many steps as the machine

pub on_counted : (start st : State) → IsOn start st → goes_on st ≡ true → start.parts.steps ≡ 0 → (st.parts ≡ (until_end start st.parts.steps).parts) × (st.input ≡ (until_end start st.parts.steps).input)
on_counted start st p going zero_steps =
    elim (until_end_counts p.count start) as (λ _. (st.parts ≡ (until_end start st.parts.steps).parts) × (st.input ≡ (until_end start st.parts.steps).input)) [
      | inl over ↦ let both : true ≡ false = sym going ∙ ap (λ (m : Parts). is_none m.ended) p.parts ∙ over in cc
      | inr counted ↦
          let steps = ap (λ (m : Parts). m.steps) p.parts in
          let same : p.count ≡ st.parts.steps = omega (arith, steps, counted, zero_steps) in
          (p.parts ∙ ap (λ (n : ℕ). (until_end start n).parts) same, p.input ∙ ap (λ (n : ℕ). (until_end start n).input) same)
    ]

-- ---- marks that are dropped

mark_as : (start : State) (input : List ℕ) (l n : Marks) (s u : List Saved) (k steps place : ℕ) → get_or n k None ≡ get_or l k None → ((d : Saved) → get_or u k d ≡ get_or s k d) → IsMark start input l s k steps place → IsMark start input n u k steps place
mark_as start input l n s u k steps place pages saved h = record {
  pages = pages ∙ h.pages;
  rest = λ d. saved d ∙ h.rest d;
  going = h.going;
  counted = h.counted;
  left = h.left;
  within = h.within;
}

pub marks_dropped : (start : State) (input : List ℕ) (l n : Marks) (s : List Saved) (steps places : List ℕ) → length n ≡ 16 → get_or n 0 None ≡ get_or l 0 None
    → ((k : ℕ) → is_some (get_or n k None) ≡ true → get_or n k None ≡ get_or l k None) → AreMarks start input l s steps places → AreMarks start input n s steps places
marks_dropped start input l n s steps places count first kept h = record {
  count = count;
  count_saved = h.count_saved;
  count_steps = h.count_steps;
  count_places = h.count_places;
  first = ap (λ (o : Option (FinMap nat_cmp Page)). is_some o) first ∙ h.first;
  start_steps = h.start_steps;
  each = λ k set.
      let same = kept k set in
      mark_as start input l n s s k (get_or steps k 0) (get_or places k 0) same (λ d. refl) (h.each k (ap (λ (o : Option (FinMap nat_cmp Page)). is_some o) (sym same) ∙ set));
}

-- the same machine is in the same state
pub in_marked : (st : State) (input : List ℕ) (m n : MachineState) (place : ℕ) → n.parts ≡ m.parts → n.failed ≡ m.failed → IsIn st input m place → IsIn st input n place
in_marked st input m n place parts failed h = record {
  parts = parts ∙ h.parts;
  failed = failed ∙ h.failed;
  left = h.left;
  within = h.within;
}

pub walk_dropped : (start : State) (input : List ℕ) (c : Course) (m n : MachineState) (t : Trail) → n.parts ≡ m.parts → length n.marks ≡ 16
    → get_or n.marks 0 None ≡ get_or m.marks 0 None
    → ((k : ℕ) → is_some (get_or n.marks k None) ≡ true → get_or n.marks k None ≡ get_or m.marks k None)
    → n.saved ≡ m.saved → n.failed ≡ m.failed → IsWalk start input c m t → IsWalk start input c n t
walk_dropped start input c m n t parts count first kept saved failed w = record {
  here = in_marked c.state input m n t.place parts failed w.here;
  on = w.on;
  top = w.top;
  below = w.below;
  none = w.none;
  marks = subst (λ (s : List Saved). AreMarks start input n.marks s t.steps t.places) (sym saved)
      (marks_dropped start input m.marks n.marks m.saved t.steps t.places count first kept w.marks);
}

-- ---- a mark that is made

-- what a mark of a machine in this state keeps
made_mark : (start : State) (input : List ℕ) (st : State) (m : MachineState) (place k : ℕ) (n : Marks) (u : List Saved) → IsIn st input m place → IsOn start st → goes_on st ≡ true → start.parts.steps ≡ 0
    → get_or n k None ≡ Some m.parts.memory.pages → ((d : Saved) → get_or u k d ≡ saved_of m.parts) → IsMark start input n u k m.parts.steps place
made_mark start input st m place k n u h on going zero_steps pages saved =
    let at = on_counted start st on going zero_steps in
    let steps : m.parts.steps ≡ st.parts.steps = ap (λ (p : Parts). p.steps) h.parts in
    let mark : IsMark start input n u k st.parts.steps place = record {
      pages = pages ∙ ap (λ (p : Parts). Some p.memory.pages) h.parts ∙ ap (λ (p : Parts). Some p.memory.pages) at.0;
      rest = λ d. saved d ∙ ap saved_of h.parts ∙ ap saved_of at.0;
      going = ap (λ (p : Parts). is_none p.ended) (sym at.0) ∙ going;
      counted = ap (λ (p : Parts). p.steps) (sym at.0);
      left = h.left ∙ at.1;
      within = h.within;
    } in
    subst (λ (s : ℕ). IsMark start input n u k s place) (sym steps) mark

pub walk_marked : (start : State) (input : List ℕ) (c : Course) (m n : MachineState) (t v : Trail) (k : ℕ) → 1 ≤ k → k < 16 → is_none m.parts.ended ≡ true → n.parts ≡ m.parts
    → n.marks ≡ set m.marks k (Some m.parts.memory.pages) → n.saved ≡ set m.saved k (saved_of m.parts) → n.failed ≡ m.failed
    → v.place ≡ t.place → v.top ≡ t.top → v.steps ≡ set t.steps k m.parts.steps → v.places ≡ set t.places k t.place → IsWalk start input c m t → IsWalk start input c n v
walk_marked start input c m n t v k some below goes parts pages saved failed place top steps places w =
    let l = m.marks in
    let marks = w.marks in
    let going : goes_on c.state ≡ true = ap (λ (p : Parts). is_none p.ended) (sym w.here.parts) ∙ goes in
    let first : get_or n.marks 0 None ≡ get_or l 0 None =
    ap (λ (x : Marks). get_or x 0 None) pages ∙ get_or-set_other l k 0 (Some m.parts.memory.pages) None (λ (e : 0 ≡ k). omega (arith, e, some)) in
    let in_list : k < length l = let count = marks.count in omega (arith, count, below) in
    let in_saved : k < length m.saved = let count = marks.count_saved in omega (arith, count, below) in
    let in_steps : k < length t.steps = let count = marks.count_steps in omega (arith, count, below) in
    let in_places : k < length t.places = let count = marks.count_places in omega (arith, count, below) in
    record {
      here = subst (λ (p : ℕ). IsIn c.state input n p) (sym place) (in_marked c.state input m n t.place parts failed w.here);
      on = w.on;
      top = top ∙ w.top;
      below = w.below;
      none = w.none;
      marks = record {
        count = ap length pages ∙ length-set l k (Some m.parts.memory.pages) ∙ marks.count;
        count_saved = ap length saved ∙ length-set m.saved k (saved_of m.parts) ∙ marks.count_saved;
        count_steps = ap length steps ∙ length-set t.steps k m.parts.steps ∙ marks.count_steps;
        count_places = ap length places ∙ length-set t.places k t.place ∙ marks.count_places;
        first = ap (λ (o : Option (FinMap nat_cmp Page)). is_some o) first ∙ marks.first;
        start_steps = ap (λ (x : List ℕ). get_or x 0 0) steps ∙ get_or-set_other t.steps k 0 m.parts.steps 0 (λ (e : 0 ≡ k). omega (arith, e, some)) ∙ marks.start_steps;
        each = λ j set_j. elim (cases_eq j k) as (λ _. IsMark start input n.marks n.saved j (get_or v.steps j 0) (get_or v.places j 0)) [
          | inl same ↦
              let mark : IsMark start input n.marks n.saved k m.parts.steps t.place =
              made_mark start input c.state m t.place k n.marks n.saved w.here w.on going w.none
              (ap (λ (x : Marks). get_or x k None) pages ∙ get_or-set_same l k (Some m.parts.memory.pages) None in_list)
              (λ d. ap (λ (x : List Saved). get_or x k d) saved ∙ get_or-set_same m.saved k (saved_of m.parts) d in_saved) in
              let s : m.parts.steps ≡ get_or v.steps k 0 = sym (ap (λ (x : List ℕ). get_or x k 0) steps ∙ get_or-set_same t.steps k m.parts.steps 0 in_steps) in
              let p : t.place ≡ get_or v.places k 0 = sym (ap (λ (x : List ℕ). get_or x k 0) places ∙ get_or-set_same t.places k t.place 0 in_places) in
              subst (λ (i : ℕ). IsMark start input n.marks n.saved i (get_or v.steps i 0) (get_or v.places i 0)) (sym same)
              (subst (λ (x : ℕ). IsMark start input n.marks n.saved k (get_or v.steps k 0) x) p
              (subst (λ (x : ℕ). IsMark start input n.marks n.saved k x t.place) s mark))
          | inr other ↦
              let there : get_or n.marks j None ≡ get_or l j None = ap (λ (x : Marks). get_or x j None) pages ∙ get_or-set_other l k j (Some m.parts.memory.pages) None other in
              let kept = marks.each j (ap (λ (o : Option (FinMap nat_cmp Page)). is_some o) (sym there) ∙ set_j) in
              let s : get_or t.steps j 0 ≡ get_or v.steps j 0 = sym (ap (λ (x : List ℕ). get_or x j 0) steps ∙ get_or-set_other t.steps k j m.parts.steps 0 other) in
              let p : get_or t.places j 0 ≡ get_or v.places j 0 = sym (ap (λ (x : List ℕ). get_or x j 0) places ∙ get_or-set_other t.places k j t.place 0 other) in
              subst (λ (x : ℕ). IsMark start input n.marks n.saved j (get_or v.steps j 0) x) p
              (subst (λ (x : ℕ). IsMark start input n.marks n.saved j x (get_or t.places j 0)) s
              (mark_as start input l n.marks m.saved n.saved j (get_or t.steps j 0) (get_or t.places j 0) there
              (λ d. ap (λ (x : List Saved). get_or x j d) saved ∙ get_or-set_other m.saved k j (saved_of m.parts) d other) kept))
        ];
      };
    }

-- ---- the beginning of a session

pub walk_begun : (input : List ℕ) (m n : MachineState) (t : Trail) → length m.marks ≡ 16 → length m.saved ≡ 16 → count_by is_some m.marks ≡ 0 → m.parts.steps ≡ 0 → has_ended m ≡ false
    → n.parts ≡ m.parts → n.marks ≡ set m.marks 0 (Some m.parts.memory.pages) → n.saved ≡ set m.saved 0 (saved_of m.parts) → n.failed ≡ m.failed
    → is_none m.parts.ended ≡ true → m.failed ≡ false
    → t.place ≡ 0 → t.top ≡ 0 → length t.steps ≡ 16 → length t.places ≡ 16 → get_or t.steps 0 0 ≡ 0 → get_or t.places 0 0 ≡ 0
    → IsWalk (with_input m.parts input) input (begun (with_input m.parts input)) n t
walk_begun input m n t count count_saved none zero_steps going parts pages saved failed goes fine place top count_steps count_places steps places =
    let start : State = with_input m.parts input in
    let l = m.marks in
    let in_list : 0 < length l = omega (arith, count) in
    let in_saved : 0 < length m.saved = omega (arith, count_saved) in
    let here_pages : get_or n.marks 0 None ≡ Some m.parts.memory.pages = ap (λ (o : Marks). get_or o 0 None) pages ∙ get_or-set_same l 0 (Some m.parts.memory.pages) None in_list in
    let mark : IsMark start input n.marks n.saved 0 0 0 = record {
      pages = here_pages ∙ ap (λ (s : State). Some s.parts.memory.pages) (sym (until_end_none start));
      rest = λ d. ap (λ (o : List Saved). get_or o 0 d) saved ∙ get_or-set_same m.saved 0 (saved_of m.parts) d in_saved ∙ ap (λ (s : State). saved_of s.parts) (sym (until_end_none start));
      going = ap goes_on (until_end_none start) ∙ goes;
      counted = ap (λ (s : State). s.parts.steps) (until_end_none start) ∙ zero_steps;
      left = ap (λ (s : State). s.input) (sym (until_end_none start));
      within = omega arith;
    } in
    record {
      here = record {
        parts = parts;
        failed = failed ∙ fine;
        left = ap (λ (i : ℕ). drop i input) place;
        within = omega (arith, place);
      };
      on = on_start start;
      top = top;
      below = omega (arith, zero_steps);
      none = zero_steps;
      marks = record {
        count = ap length pages ∙ length-set l 0 (Some m.parts.memory.pages) ∙ count;
        count_saved = ap length saved ∙ length-set m.saved 0 (saved_of m.parts) ∙ count_saved;
        count_steps = count_steps;
        count_places = count_places;
        first = ap (λ (o : Option (FinMap nat_cmp Page)). is_some o) here_pages;
        start_steps = steps;
        each = λ j set_j. elim (cases_eq j 0) as (λ _. IsMark start input n.marks n.saved j (get_or t.steps j 0) (get_or t.places j 0)) [
          | inl same ↦
              subst (λ (i : ℕ). IsMark start input n.marks n.saved i (get_or t.steps i 0) (get_or t.places i 0)) (sym same)
              (subst (λ (p : ℕ). IsMark start input n.marks n.saved 0 (get_or t.steps 0 0) p) (sym places)
              (subst (λ (s : ℕ). IsMark start input n.marks n.saved 0 s 0) (sym steps) mark))
          | inr other ↦
              let unset : get_or n.marks j None ≡ None = ap (λ (o : Marks). get_or o j None) pages ∙ get_or-set_other l 0 j (Some m.parts.memory.pages) None other ∙ all_none l j none in
              never (IsMark start input n.marks n.saved j (get_or t.steps j 0) (get_or t.places j 0)) (is_some (get_or n.marks j None)) (ap (λ (o : Option (FinMap nat_cmp Page)). is_some o) unset) set_j
        ];
      };
    }

-- ---- back to a mark

-- the parts that a mark gives back are those of the run
given_back : (limit : ℕ) (s : Parts) → limit ≡ s.memory.limit → is_none s.ended ≡ true → parts_saved limit (saved_of s) s.memory.pages ≡ s
given_back limit s same going =
    ap (λ (n : ℕ). parts_saved n (saved_of s) s.memory.pages) same ∙ ap (λ (e : Option Ended). record s { ended = e }) (sym (none_of s.ended going))
  where
    none_of : (e : Option Ended) → is_none e ≡ true → e ≡ None
    none_of None h = refl
    none_of (Some x) h = cc

restored : (m : MachineState) (k : ℕ) (s : Parts) (p : Parts) → get_or m.marks k None ≡ Some s.memory.pages → ((d : Saved) → get_or m.saved k d ≡ saved_of s) → mark_at m k ≡ Some p → p ≡ parts_saved m.parts.memory.limit (saved_of s) s.memory.pages
restored m k s p pages saved is =
    let made : mark_at m k ≡ Some (parts_saved m.parts.memory.limit (saved_of s) s.memory.pages) =
    ap (λ (o : Option (FinMap nat_cmp Page)). option_map (parts_saved m.parts.memory.limit (get_or m.saved k (saved_of m.parts))) o) pages
    ∙ ap (λ (x : Saved). Some (parts_saved m.parts.memory.limit x s.memory.pages)) (saved (saved_of m.parts)) in
    let both : Some p ≡ Some (parts_saved m.parts.memory.limit (saved_of s) s.memory.pages) = sym is ∙ made in cc

pub walk_turned : (target : ℕ) (start : State) (input : List ℕ) (c : Course) (m n : MachineState) (t v : Trail) (k : ℕ) → target ≤ c.state.parts.steps → is_some (get_or m.marks k None) ≡ true → get_or t.steps k 0 ≤ target
    → mark_at m k ≡ Some n.parts → n.marks ≡ m.marks → n.saved ≡ m.saved → n.failed ≡ false → v.place ≡ get_or t.places k 0 → v.top ≡ t.top → v.steps ≡ t.steps → v.places ≡ t.places → IsWalk start input c m t → IsTurned target start input c n v
walk_turned target start input c m n t v k within set_k before is marks saved failed place top steps places w =
    let count : ℕ = get_or t.steps k 0 in
    let s : State = until_end start count in
    let mark = w.marks.each k set_k in
    let limit : m.parts.memory.limit ≡ s.parts.memory.limit =
    ap (λ (p : Parts). p.memory.limit) w.here.parts ∙ ap (λ (p : Parts). p.memory.limit) w.on.parts ∙ until_end_limit start w.on.count ∙ sym (until_end_limit start count) in
    let counted = mark.counted in
    let below = w.below in
    record {
      count = count;
      before = before;
      counted = counted;
      walk = record {
        here = record {
          parts = restored m k s.parts n.parts mark.pages mark.rest is ∙ given_back m.parts.memory.limit s.parts limit mark.going;
          failed = failed;
          left = ap (λ (i : ℕ). drop i input) place ∙ mark.left;
          within = let inside = mark.within in omega (arith, place, inside);
        };
        on = record { count = count; parts = refl; input = refl };
        top = top ∙ w.top;
        below = omega (arith, counted, before, within, below);
        none = w.none;
        marks =
            subst (λ (x : Marks). AreMarks start input x n.saved v.steps v.places) (sym marks)
            (subst (λ (x : List Saved). AreMarks start input m.marks x v.steps v.places) (sym saved)
            (subst (λ (x : List ℕ). AreMarks start input m.marks m.saved x v.places) (sym steps)
            (subst (λ (x : List ℕ). AreMarks start input m.marks m.saved t.steps x) (sym places) w.marks)));
      };
    }

-- ---- and from there on

-- steps from a mark on, up to the place to go back to
pub steps_from : (start : State) (c : Course) (count target k : ℕ) → (until_end start count).parts.steps ≡ count → count ≤ target → target ≡ c.state.parts.steps - k → c.state.parts.steps ≤ c.top
    → walked (record { state = moved_to (until_end start count) c.state; top = c.top }) (target - (until_end start count).parts.steps) ≡ back_to start k c
steps_from start c count target k counted before is below =
    let s : State = until_end start count in
    let d : Course = record { state = moved_to s c.state; top = c.top } in
    let n : ℕ = target - s.parts.steps in
    let within : s.parts.steps + n ≤ c.top = omega (arith, counted, before, is, below) in
    let sum : count + n ≡ c.state.parts.steps - k = omega (arith, counted, before, is) in
    moved_below n d within
    ∙ ap (λ (x : State). record { state = x; top = c.top })
    (moved_same (until_end d.state n) (until_end start (c.state.parts.steps - k)) c.state
    (until_parts d.state s n refl refl ∙ ap (λ (x : State). x.parts) (until_end_added count n start) ∙ ap (λ (i : ℕ). (until_end start i).parts) sum)
    (until_input d.state s n refl refl ∙ ap (λ (x : State). x.input) (until_end_added count n start) ∙ ap (λ (i : ℕ). (until_end start i).input) sum))
