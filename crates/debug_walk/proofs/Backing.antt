-- Back to the last machine that meets a test, from mark to mark.
use Rattle.std.proofs.Common.{◌≡◌, ◌≤◌, ◌<◌, ◌⊎◌, ℕ, suc, ◌+◌, ◌-◌, Bool, true, false, ◌&&◌, List, [], Option, Some, None, is_none, nat_eq, nat_le, if◌then◌else◌, inl, inr, refl, sym, ap, subst, ◌∙◌, arith}
use Rattle.std.specs.Prelude.{unwrap_or}
use Rattle.std.proofs.lemmas.Bool.Decides.{nat_tests}
use Rattle.emu_model.specs.declared.access.Access.{Access}
use Rattle.emu_model.specs.State.{Parts, State}
use Rattle.emu_run.specs.Run.{goes_on, until_end}
use Rattle.emu_run.specs.RunLaws.{until_end_none, until_end_one}
use Rattle.emu_run.specs.Step.{accesses, step}
use Rattle.emu_run.specs.Steps.{until_end_added}
use Rattle.emu_machine.specs.Machines.{MachineState, has_ended}
use Rattle.dbg_core.proofs.Obeying.{going_by, not_ended, over_by}
use Rattle.dbg_model.specs.CourseLaws.{moved_over, moved_one, moved_same, stepped_parts, until_parts}
use Rattle.dbg_model.specs.Session.{Course, moved_to, stepped, walked}
use Rattle.dbg_back.specs.declared.trail.Trail.{Trail}
use Rattle.dbg_back.specs.Walks.{IsWalk}
use Rattle.dbg_back.proofs.Courses.{moved_done, stepped_counts}
use Rattle.dbg_back.proofs.Marking.{on_counted, steps_from}
use Rattle.debug_walk.specs.Walks.{Tested, at_step, back_at, first_asked, is_met_at, last_met, machines_before, sought_back}
use Rattle.debug_walk.proofs.Asking.{either_way, found_first, found_next, found_none}
use Rattle.debug_walk.proofs.Counting.{goes_before, trap_most}

-- ---- a machine that the run from the start passes, behind what was put so far

abbrev pub placed : State → ℕ → Course → Course
placed start j c = record { state = moved_to (until_end start j) c.state; top = c.top }

-- the session's machine stands so
pub placed_now : (start : State) (input : List ℕ) (c : Course) (m : MachineState) (t : Trail) (w : IsWalk start input c m t) → IsWalk start input (placed start w.on.count c) m t
placed_now start input c m t w =
    subst (λ (s : State). IsWalk start input (record { state = s; top = c.top }) m t) (moved_same c.state (until_end start w.on.count) c.state w.on.parts w.on.input) w

-- further back, or where it stands
pub placed_back : (start : State) (c : Course) (j k : ℕ) → k ≤ (until_end start j).parts.steps → at_step start k (placed start j c) ≡ placed start k c
placed_back start c j k within =
    let d : Course = placed start j c in
    let is : nat_le k d.state.parts.steps ≡ true = grind (arith, nat_tests, within) in
    let same : d.state.parts.steps - (d.state.parts.steps - k) ≡ k = omega (arith, within) in
    ap (λ (b : Bool). if b then back_at start k d else walked d (k - d.state.parts.steps)) is ∙ ap (λ (i : ℕ). placed start i c) same

-- back from any course
pub at_back : (start : State) (c : Course) (k : ℕ) → k ≤ c.state.parts.steps → at_step start k c ≡ placed start k c
at_back start c k within =
    let is : nat_le k c.state.parts.steps ≡ true = grind (arith, nat_tests, within) in
    let same : c.state.parts.steps - (c.state.parts.steps - k) ≡ k = omega (arith, within) in
    ap (λ (b : Bool). if b then back_at start k c else walked c (k - c.state.parts.steps)) is ∙ ap (λ (i : ℕ). placed start i c) same

-- what is sought
pub sought_is : (test : Tested) (start : State) (least : ℕ) (c : Course) (found : Option ℕ) (k : ℕ) → last_met test start least (machines_before c.state.parts) ≡ found → unwrap_or found least ≡ k → k ≤ c.state.parts.steps
    → placed start k c ≡ sought_back test start least c
sought_is test start least c found k is or within =
    let same : c.state.parts.steps - (c.state.parts.steps - k) ≡ k = omega (arith, within) in
    sym (ap (λ (o : Option ℕ). back_at start (unwrap_or o least) c) is ∙ ap (λ (i : ℕ). back_at start i c) or ∙ ap (λ (i : ℕ). placed start i c) same)

pub before_most : (m : Parts) → machines_before m ≤ m.steps + 1
before_most m = let one = trap_most m.ended in omega (arith, one)

-- steps from a mark on
pub placed_on : (start : State) (c : Course) (mark last : ℕ) → (until_end start mark).parts.steps ≡ mark → mark ≤ last → last ≤ c.state.parts.steps → c.state.parts.steps ≤ c.top
    → walked (placed start mark c) (last - (until_end start mark).parts.steps) ≡ placed start last c
placed_on start c mark last counted before within below =
    let same : c.state.parts.steps - (c.state.parts.steps - last) ≡ last = omega (arith, within) in
    steps_from start c mark last (c.state.parts.steps - last) counted before (sym same) below ∙ ap (λ (i : ℕ). placed start i c) same

-- ---- from mark to mark

-- from `end` on no machine of those before the session's meets the test
pub record Stands (test : Tested) (least : ℕ) (start : State) (input : List ℕ) (c : Course) (m : MachineState) (t : Trail) (end : ℕ) : Type 0 where
  pub count : ℕ
  pub walk : IsWalk start input (placed start count c) m t
  pub asked : last_met test start least (machines_before c.state.parts) ≡ last_met test start least end
  pub before : end ≤ machines_before c.state.parts
  pub within : end ≤ (until_end start count).parts.steps + 1
  pub behind : least ≤ (until_end start count).parts.steps

-- ---- a step taken again

zero_test : (n : ℕ) → nat_eq n 0 ≡ nat_le n 0
zero_test n =
    elim (either_way n 0) as (λ _. nat_eq n 0 ≡ nat_le n 0) [
      | inl h ↦ let a : nat_eq n 0 ≡ true = grind (arith, nat_tests, h) in let b : nat_le n 0 ≡ true = grind (arith, nat_tests, h) in a ∙ sym b
      | inr h ↦ let a : nat_eq n 0 ≡ false = grind (arith, nat_tests, h) in let b : nat_le n 0 ≡ false = grind (arith, nat_tests, h) in a ∙ sym b
    ]

pub record AskedSo (test : Tested) (least mark last : ℕ) (start : State) (m : MachineState) (found : Option ℕ) : Type 0 where
  pub running : has_ended m ≡ false
  pub behind : mark ≤ m.parts.steps
  pub most : m.parts.steps ≤ last
  pub tells : found ≡ last_met test start (first_asked least mark) (m.parts.steps + 1)

-- so far the machines behind the mark were asked
pub record Asked (test : Tested) (least mark last : ℕ) (start : State) (input : List ℕ) (c : Course) (m : MachineState) (t : Trail) (found : Option ℕ) : Type 0 where
  pub course : Course
  pub walk : IsWalk start input course m t
  pub rest : walked c (last - c.state.parts.steps) ≡ walked course (last - course.state.parts.steps)
  pub so : mark ≤ last → goes_on (until_end start last) ≡ true → AskedSo test least mark last start m found

module _ (test : Tested) (least : ℕ) (start : State) (input : List ℕ) (c : Course) (m : MachineState) (t : Trail) (w : IsWalk start input c m t) (running : has_ended m ≡ false) where
  goes : goes_on c.state ≡ true
  goes = ap (λ (p : Parts). is_none p.ended) (sym w.here.parts) ∙ going_by m running

  -- the machine is that of the run from the start behind so many steps
  here_parts : m.parts ≡ (until_end start m.parts.steps).parts
  here_parts =
      let at = on_counted start c.state w.on goes w.none in
      w.here.parts ∙ at.0 ∙ ap (λ (p : Parts). (until_end start p.steps).parts) (sym w.here.parts)

  -- nothing is asked yet
  pub asked_here : m.accesses ≡ [] → (found : Option ℕ) → found ≡ (if nat_eq m.parts.steps 0 && (nat_eq least 0 && test m.parts.core.pc m.parts m.accesses) then Some 0 else None)
      → found ≡ last_met test start (first_asked least m.parts.steps) (m.parts.steps + 1)
  asked_here none found is =
      elim (either_way m.parts.steps 0) as (λ _. found ≡ last_met test start (first_asked least m.parts.steps) (m.parts.steps + 1)) [
        | inl h ↦
            let zero_steps : m.parts.steps ≡ 0 = omega (arith, h) in
            let first : m.parts ≡ start.parts = here_parts ∙ ap (λ (n : ℕ). (until_end start n).parts) zero_steps ∙ ap (λ (s : State). s.parts) (until_end_none start) in
            let met : test m.parts.core.pc m.parts m.accesses ≡ is_met_at test start 0 = ap (λ (a : List Access). test m.parts.core.pc m.parts a) none ∙ ap (λ (p : Parts). test p.core.pc p []) first in
            let counts : nat_eq m.parts.steps 0 ≡ true = grind (arith, nat_tests, zero_steps) in
            let same = zero_test least in
            is ∙ ap (λ (b : Bool). if b && (nat_eq least 0 && test m.parts.core.pc m.parts m.accesses) then Some 0 else None) counts
            ∙ ap (λ (b : Bool). if true && (nat_eq least 0 && b) then Some 0 else None) met
            ∙ ap (λ (b : Bool). if true && (b && is_met_at test start 0) then Some 0 else None) same
            ∙ found_first test start least (is_met_at test start 0) refl
            ∙ ap (λ (n : ℕ). last_met test start (first_asked least n) (n + 1)) (sym zero_steps)
        | inr h ↦
            let counts : nat_eq m.parts.steps 0 ≡ false = grind (arith, nat_tests, h) in
            is ∙ ap (λ (b : Bool). if b && (nat_eq least 0 && test m.parts.core.pc m.parts m.accesses) then Some 0 else None) counts
            ∙ sym (found_none test start least m.parts.steps h)
      ]

  module _ (last : ℕ) (below : m.parts.steps < last) (n : MachineState) (v : Trail) (there : IsWalk start input (stepped c) n v) where
    -- a step is one of those that are left
    pub rest_on : walked c (last - c.state.parts.steps) ≡ walked (stepped c) (last - (stepped c).state.parts.steps)
    rest_on =
        let same = ap (λ (p : Parts). p.steps) w.here.parts in
        let left : last - c.state.parts.steps ≡ suc (last - (c.state.parts.steps + 1)) = omega (arith, same, below) in
        ap (walked c) left ∙ moved_one c (last - (c.state.parts.steps + 1)) goes
        ∙ elim (goes_on (stepped c).state) as (λ b. goes_on (stepped c).state ≡ b → walked (stepped c) (last - (c.state.parts.steps + 1)) ≡ walked (stepped c) (last - (stepped c).state.parts.steps)) [
          | true ↦ λ h. ap (λ (k : ℕ). walked (stepped c) (last - k)) (sym (stepped_counts c h))
          | false ↦ λ h. moved_over (stepped c) (last - (c.state.parts.steps + 1)) h ∙ sym (moved_over (stepped c) (last - (stepped c).state.parts.steps) h)
        ] refl

    -- the machine behind it
    there_parts : n.parts ≡ (until_end start (m.parts.steps + 1)).parts
    there_parts =
        let at = on_counted start c.state w.on goes w.none in
        let one : until_end c.state 1 ≡ step c.state = until_end_one c.state 0 goes ∙ until_end_none (step c.state) in
        there.here.parts ∙ stepped_parts c ∙ ap (λ (s : State). s.parts) (sym one)
        ∙ until_parts c.state (until_end start c.state.parts.steps) 1 at.0 at.1
        ∙ ap (λ (s : State). s.parts) (until_end_added c.state.parts.steps 1 start)
        ∙ ap (λ (p : Parts). (until_end start (p.steps + 1)).parts) (sym w.here.parts)

    pub asked_on : (mark : ℕ) (from : ℕ) (before found : Option ℕ) → n.accesses ≡ accesses m.parts → from ≡ m.parts.core.pc
        → found ≡ (if nat_le least n.parts.steps && test from n.parts n.accesses then Some n.parts.steps else before)
        → mark ≤ last → goes_on (until_end start last) ≡ true → AskedSo test least mark last start m before → AskedSo test least mark last start n found
    asked_on mark from before found made at is within going so =
        let goes_there = goes_before start (m.parts.steps + 1) last (omega (arith, below)) going in
        let next_goes : goes_on (stepped c).state ≡ true = ap (λ (p : Parts). is_none p.ended) (sym there.here.parts ∙ there_parts) ∙ goes_there in
        let counted = stepped_counts c next_goes in
        let same = ap (λ (p : Parts). p.steps) w.here.parts in
        let same_there = ap (λ (p : Parts). p.steps) there.here.parts in
        let steps : n.parts.steps ≡ m.parts.steps + 1 = omega (arith, counted, same, same_there) in
        let s : ℕ = m.parts.steps in
        let one_more : s + 1 ≡ suc s = omega arith in
        let there_is : n.parts ≡ (until_end start (suc s)).parts = there_parts ∙ ap (λ (k : ℕ). (until_end start k).parts) one_more in
        let met : is_met_at test start (suc s) ≡ test from n.parts n.accesses =
        sym (ap (λ (pc : ℕ). test pc n.parts n.accesses) (at ∙ ap (λ (p : Parts). p.core.pc) here_parts)
        ∙ ap (λ (p : Parts). test (until_end start s).parts.core.pc p n.accesses) there_is
        ∙ ap (λ (a : List Access). test (until_end start s).parts.core.pc (until_end start (suc s)).parts a) (made ∙ ap accesses here_parts)) in
        let behind = so.behind in
        record {
          running = not_ended n (ap (λ (p : Parts). is_none p.ended) there_parts ∙ goes_there) there.here.failed;
          behind = omega (arith, behind, steps);
          most = omega (arith, steps, below);
          tells = is ∙ ap (λ (k : ℕ). if nat_le least k && test from n.parts n.accesses then Some k else before) steps
              ∙ found_next test start least mark s (test from n.parts n.accesses) before behind met so.tells
              ∙ ap (λ (k : ℕ). last_met test start (first_asked least mark) (k + 1)) (sym steps);
        }

-- it has ended, or there is no step left
pub rests : (last : ℕ) (start : State) (input : List ℕ) (c : Course) (m : MachineState) (t : Trail) → (has_ended m ≡ true) ⊎ (last ≤ m.parts.steps) → IsWalk start input c m t → walked c (last - c.state.parts.steps) ≡ c
rests last start input c m t over w = elim over as (λ _. walked c (last - c.state.parts.steps) ≡ c) [
  | inl ended ↦ moved_over c (last - c.state.parts.steps) (ap (λ (p : Parts). is_none p.ended) (sym w.here.parts) ∙ over_by m w.here.failed ended)
  | inr counted ↦ let same = ap (λ (p : Parts). p.steps) w.here.parts in moved_done last c (omega (arith, counted, same))
]

-- all that were to be asked were
pub asked_all : (test : Tested) (least mark last : ℕ) (start : State) (m : MachineState) (found : Option ℕ) → (has_ended m ≡ true) ⊎ (last ≤ m.parts.steps) → AskedSo test least mark last start m found
    → found ≡ last_met test start (first_asked least mark) (last + 1)
asked_all test least mark last start m found over so = elim over as (λ _. found ≡ last_met test start (first_asked least mark) (last + 1)) [
  | inl ended ↦ let both : true ≡ false = sym ended ∙ so.running in cc
  | inr counted ↦
      let most = so.most in
      let same : m.parts.steps ≡ last = omega (arith, counted, most) in
      so.tells ∙ ap (λ (k : ℕ). last_met test start (first_asked least mark) (k + 1)) same
]
