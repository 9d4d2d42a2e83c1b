-- On to the first machine that meets a test, a step at a time.
use Rattle.std.proofs.Common.{◌≡◌, ◌≤◌, ◌<◌, ◌⊎◌, ℕ, zero, suc, ◌+◌, ◌-◌, Bool, true, false, List, [], is_none, nat_eq, if◌then◌else◌, inl, inr, refl, sym, ap, subst, ◌∙◌, arith}
use Rattle.emu_model.specs.declared.access.Access.{Access}
use Rattle.emu_model.specs.State.{Parts, State}
use Rattle.emu_run.specs.Run.{goes_on}
use Rattle.emu_run.specs.Step.{accesses}
use Rattle.emu_machine.specs.Machines.{MachineState, has_ended}
use Rattle.dbg_model.specs.Session.{Course, stepped}
use Rattle.dbg_core.proofs.Obeying.{going_by, over_by}
use Rattle.dbg_back.specs.declared.trail.Trail.{Trail}
use Rattle.dbg_back.specs.Walks.{IsWalk}
use Rattle.dbg_back.proofs.Courses.{Appends, appends_not, appends_stepped, appends_trans, stepped_counts}
use Rattle.debug_walk.specs.Walks.{Tested, first_sought, sought}

abbrev pub first_at : {A : Type 0} → (Course → A) → (Course → A) → Tested → ℕ → Course → A
first_at found unfound test until c = first_sought found unfound test c (until - c.state.parts.steps)

abbrev pub sought_at : Tested → ℕ → Course → Course
sought_at test until c = first_at stepped (λ d. d) test until c

abbrev pub is_sought_at : Tested → ℕ → Course → Bool
is_sought_at test until c = first_at (λ d. true) (λ d. false) test until c

abbrev pub made_at : Tested → ℕ → Course → List Access
made_at test until c = first_at (λ d. accesses d.state.parts) (λ d. []) test until c

-- what is made before the machine that is sought is what is left to tell
pub record MadeSo (test : Tested) (until : ℕ) (start : State) (input : List ℕ) (c : Course) (m : MachineState) (t : Trail) : Type 0 where
  pub course : Course
  pub walk : IsWalk start input course m t
  pub same : made_at test until c ≡ made_at test until course

-- the machine behind the next step meets the test
abbrev pub met_behind : Tested → Course → Bool
met_behind test c = test c.state.parts.core.pc (stepped c).state.parts (accesses c.state.parts)

-- ---- something that is told as a course, so that what is left to do tells it

abbrev pub told : Bool → State → Course
told b start = record { state = start; top = if b then 1 else 0 }

read_back : (b : Bool) (start : State) → nat_eq (told b start).top 1 ≡ b
read_back true start = refl
read_back false start = refl

pub told_is : (a b : Bool) (start : State) → told a start ≡ told b start → a ≡ b
told_is a b start e = sym (read_back a start) ∙ ap (λ (c : Course). nat_eq c.top 1) e ∙ read_back b start

-- ---- the equations

module _ {A : Type 0} (found unfound : Course → A) (test : Tested) where
  pub first_zero : (c : Course) → first_sought found unfound test c 0 ≡ unfound c
  unfolding first_sought
  first_zero c = refl

  first_suc : (c : Course) (n : ℕ) → first_sought found unfound test c (suc n) ≡ (if goes_on c.state then (if met_behind test c then found c else first_sought found unfound test (stepped c) n) else unfound c)
  unfolding first_sought
  first_suc c n = refl

  -- at the machine's end
  pub first_over : (c : Course) (k : ℕ) → goes_on c.state ≡ false → first_sought found unfound test c k ≡ unfound c
  first_over c zero over = first_zero c
  first_over c (suc k) over = first_suc c k ∙ ap (λ (b : Bool). if b then (if met_behind test c then found c else first_sought found unfound test (stepped c) k) else unfound c) over

  pub first_one : (c : Course) (k : ℕ) → goes_on c.state ≡ true → first_sought found unfound test c (suc k) ≡ (if met_behind test c then found c else first_sought found unfound test (stepped c) k)
  first_one c k going = first_suc c k ∙ ap (λ (b : Bool). if b then (if met_behind test c then found c else first_sought found unfound test (stepped c) k) else unfound c) going

  -- from a machine that goes on, with steps left
  module _ (until : ℕ) (c : Course) (going : goes_on c.state ≡ true) (below : c.state.parts.steps < until) where
    left : until - c.state.parts.steps ≡ suc (until - (c.state.parts.steps + 1))
    left = omega (arith, below)

    -- where the step meets the test
    first_here : met_behind test c ≡ true → first_at found unfound test until c ≡ found c
    first_here met =
        ap (first_sought found unfound test c) left ∙ first_one c (until - (c.state.parts.steps + 1)) going
        ∙ ap (λ (b : Bool). if b then found c else first_sought found unfound test (stepped c) (until - (c.state.parts.steps + 1))) met

    -- where it doesn't
    first_on : met_behind test c ≡ false → first_at found unfound test until c ≡ first_at found unfound test until (stepped c)
    first_on unmet =
        ap (first_sought found unfound test c) left ∙ first_one c (until - (c.state.parts.steps + 1)) going
        ∙ ap (λ (b : Bool). if b then found c else first_sought found unfound test (stepped c) (until - (c.state.parts.steps + 1))) unmet
        ∙ elim (goes_on (stepped c).state) as (λ b. goes_on (stepped c).state ≡ b → first_sought found unfound test (stepped c) (until - (c.state.parts.steps + 1)) ≡ first_at found unfound test until (stepped c)) [
          | true ↦ λ h. ap (λ (k : ℕ). first_sought found unfound test (stepped c) (until - k)) (sym (stepped_counts c h))
          | false ↦ λ h. first_over (stepped c) (until - (c.state.parts.steps + 1)) h ∙ sym (first_over (stepped c) (until - (stepped c).state.parts.steps) h)
        ] refl

  -- with no step left
  first_none : (until : ℕ) (c : Course) → until ≤ c.state.parts.steps → first_at found unfound test until c ≡ unfound c
  first_none until c over = let none : until - c.state.parts.steps ≡ 0 = omega (arith, over) in ap (first_sought found unfound test c) none ∙ first_zero c

-- ---- what is done is what is sought

module _ (test : Tested) where
  appends_sought : (k : ℕ) (c : Course) → Appends c (sought test c k)
  appends_sought zero c = rw (first_zero stepped (λ d. d) test c) (appends_not c)
  appends_sought (suc k) c =
      elim (goes_on c.state) as (λ b. goes_on c.state ≡ b → Appends c (sought test c (suc k))) [
        | true ↦ λ h. rw (first_one stepped (λ d. d) test c k h) (
            elim (met_behind test c) as (λ b. Appends c (if b then stepped c else sought test (stepped c) k)) [
              | true ↦ appends_stepped c
              | false ↦ appends_trans c (stepped c) (sought test (stepped c) k) (appends_stepped c) (appends_sought k (stepped c))
            ])
        | false ↦ λ h. rw (first_over stepped (λ d. d) test c (suc k) h) (appends_not c)
      ] refl

  -- the step is the first of it
  first_appends : (until : ℕ) (c : Course) → goes_on c.state ≡ true → c.state.parts.steps < until → Appends (stepped c) (sought_at test until c)
  first_appends until c going below =
      elim (met_behind test c) as (λ b. met_behind test c ≡ b → Appends (stepped c) (sought_at test until c)) [
        | true ↦ λ h. subst (λ (d : Course). Appends (stepped c) d) (sym (first_here stepped (λ d. d) test until c going below h)) (appends_not (stepped c))
        | false ↦ λ h. subst (λ (d : Course). Appends (stepped c) d) (sym (first_on stepped (λ d. d) test until c going below h)) (appends_sought (until - (stepped c).state.parts.steps) (stepped c))
      ] refl

-- ---- the same of the machine

module _ (test : Tested) (until : ℕ) (input : List ℕ) (m : MachineState) (t : Trail) (start : State) (c : Course) (w : IsWalk start input c m t) where
  -- it goes on
  module _ (running : has_ended m ≡ false) (below : m.parts.steps < until) where
    goes : goes_on c.state ≡ true
    goes = ap (λ (p : Parts). is_none p.ended) (sym w.here.parts) ∙ going_by m running

    under : c.state.parts.steps < until
    under = let same = ap (λ (p : Parts). p.steps) w.here.parts in omega (arith, same, below)

    pub walk_appends : Appends (stepped c) (sought_at test until c)
    walk_appends = first_appends test until c goes under

    module _ (n : MachineState) (v : Trail) (made : n.accesses ≡ accesses m.parts) (from : ℕ) (place : from ≡ m.parts.core.pc) (there : IsWalk start input (stepped c) n v) where
      met_of : (b : Bool) → b ≡ test from n.parts n.accesses → met_behind test c ≡ b
      met_of b is =
          sym (is
          ∙ ap (λ (pc : ℕ). test pc n.parts n.accesses) (place ∙ ap (λ (p : Parts). p.core.pc) w.here.parts)
          ∙ ap (λ (p : Parts). test c.state.parts.core.pc p n.accesses) there.here.parts
          ∙ ap (λ (a : List Access). test c.state.parts.core.pc (stepped c).state.parts a) (made ∙ ap accesses w.here.parts))

      pub walk_here : {A : Type 0} (found unfound : Course → A) → true ≡ test from n.parts n.accesses → first_at found unfound test until c ≡ found c
      walk_here found unfound is = first_here found unfound test until c goes under (met_of true is)

      pub walk_on : {A : Type 0} (found unfound : Course → A) → false ≡ test from n.parts n.accesses → first_at found unfound test until c ≡ first_at found unfound test until (stepped c)
      walk_on found unfound is = first_on found unfound test until c goes under (met_of false is)

      -- the accesses are those of the step
      pub walk_made : n.accesses ≡ accesses c.state.parts
      walk_made = made ∙ ap accesses w.here.parts

  -- it has ended, or there is no step left
  pub walk_over : {A : Type 0} (found unfound : Course → A) → (has_ended m ≡ true) ⊎ (until ≤ m.parts.steps) → first_at found unfound test until c ≡ unfound c
  walk_over found unfound over = elim over as (λ _. first_at found unfound test until c ≡ unfound c) [
    | inl ended ↦ first_over found unfound test c (until - c.state.parts.steps) (ap (λ (p : Parts). is_none p.ended) (sym w.here.parts) ∙ over_by m w.here.failed ended)
    | inr counted ↦ let same = ap (λ (p : Parts). p.steps) w.here.parts in first_none found unfound test until c (omega (arith, counted, same))
  ]
