-- On to a stop: the first machine that meets a break, a watch or the aim, by what a walk on tells.
use Rattle.std.proofs.Common.{◌≡◌, ◌≤◌, ◌<◌, ℕ, zero, suc, ◌-◌, Bool, true, false, ◌&&◌, ◌||◌, List, [], Option, Some, None, is_none, if◌then◌else◌, inl, inr, refl, sym, ap, subst, ◌∙◌, arith}
use Rattle.std.specs.List.{list_any}
use Rattle.emu_model.specs.declared.access.Access.{Access}
use Rattle.emu_model.specs.State.{Parts}
use Rattle.emu_run.specs.Run.{goes_on}
use Rattle.emu_run.specs.Step.{accesses}
use Rattle.dbg_model.specs.CourseLaws.{moved_one, moved_over, step_least, stepped_parts}
use Rattle.dbg_model.specs.Session.{Course, stepped, walked}
use Rattle.dbg_model.specs.SessionEquations.{walked-zero}
use Rattle.dbg_back.proofs.Courses.{Appends, appends_not, appends_stepped, appends_trans, stepped_counts}
use Rattle.debug_walk.specs.Walks.{Tested, first_sought, is_sought, made_before_sought, sought}
use Rattle.debug_walk.proofs.Asking.{either_way}
use Rattle.debug_walk.proofs.Seeking.{first_one, first_over, first_zero, met_behind}
use Rattle.debug_points.specs.declared.aims.Aim.{Aim}
use Rattle.debug_points.specs.declared.aims.Aim.TheVariants as aims
use Rattle.debug_points.specs.declared.points.Point.{Point}
use Rattle.debug_points.specs.Points.{Points, aim_meets, goal_meets, point_meets}
use Rattle.debug_moves.specs.declared.session.Reached.{Reached}
use Rattle.debug_moves.specs.Sessions.{Met, Moved, met_first, moved_unmet, seek_on, seek_until, stop_or}

-- ---- each question about the first machine that meets a test is answered by the course before its step, or by the last

abbrev pub pick : {A : Type 0} → (Course → A) → (Course → A) → Bool × Course → A
pick found unfound (true, c) = found c
pick found unfound (false, c) = unfound c

abbrev pub tell_met : Course → Bool × Course
tell_met c = (true, c)

abbrev pub tell_unmet : Course → Bool × Course
tell_unmet c = (false, c)

abbrev pub told : Tested → Course → ℕ → Bool × Course
told test c n = first_sought tell_met tell_unmet test c n

pub picked : {A : Type 0} (found unfound : Course → A) (test : Tested) (n : ℕ) (c : Course) → first_sought found unfound test c n ≡ pick found unfound (told test c n)
picked found unfound test zero c = first_zero found unfound test c ∙ ap (pick found unfound) (sym (first_zero tell_met tell_unmet test c))
picked found unfound test (suc n) c =
    elim (goes_on c.state) as (λ b. goes_on c.state ≡ b → first_sought found unfound test c (suc n) ≡ pick found unfound (told test c (suc n))) [
      | true ↦ λ h.
          first_one found unfound test c n h
          ∙ elim (met_behind test c) as (λ b. (if b then found c else first_sought found unfound test (stepped c) n) ≡ pick found unfound (if b then (true, c) else told test (stepped c) n)) [
            | true ↦ refl
            | false ↦ picked found unfound test n (stepped c)
          ]
          ∙ ap (pick found unfound) (sym (first_one tell_met tell_unmet test c n h))
      | false ↦ λ h. first_over found unfound test c (suc n) h ∙ ap (pick found unfound) (sym (first_over tell_met tell_unmet test c (suc n) h))
    ] refl

-- ---- a goal is met only by a machine that goes on

pub goal_goes : (points : List Point) (aim : Aim) (from : ℕ) (m : Parts) (made : List Access) → goal_meets points aim from m made ≡ true → is_none m.ended ≡ true
goal_goes points aim from m made met =
    elim (is_none m.ended) as (λ b. (b && (list_any (point_meets m made) points || aim_meets aim from m made)) ≡ true → b ≡ true) [
      | true ↦ λ h. refl
      | false ↦ λ h. h
    ] met

-- ---- the equations

module _ (aim : Aim) (budget : ℕ) where
  seek-zero : (points : Points) (c : Course) → seek_on aim budget points c 0 ≡ moved_unmet budget points c
  unfolding seek_on
  seek-zero points c = refl

  abbrev met_there : Points → Course → Met
  met_there points c = met_first points (stepped c).state.parts (accesses c.state.parts)

  abbrev stop_there : Points → Course → ℕ → Moved
  stop_there points c n = stop_or (met_there points c).reached (met_there points c).points (stepped c) (λ left. seek_on aim budget left (stepped c) n)

  seek-suc : (points : Points) (c : Course) (n : ℕ) → seek_on aim budget points c (suc n) ≡ (if goes_on c.state then (if met_behind (goal_meets points.items aim) c then stop_there points c n else seek_on aim budget points (stepped c) n) else moved_unmet budget points c)
  unfolding seek_on
  seek-suc points c n = refl

  seek_over : (points : Points) (c : Course) (n : ℕ) → goes_on c.state ≡ false → seek_on aim budget points c n ≡ moved_unmet budget points c
  seek_over points c zero over = seek-zero points c
  seek_over points c (suc n) over = seek-suc points c n ∙ ap (λ (b : Bool). if b then (if met_behind (goal_meets points.items aim) c then stop_there points c n else seek_on aim budget points (stepped c) n) else moved_unmet budget points c) over

  seek_one : (points : Points) (c : Course) (n : ℕ) → goes_on c.state ≡ true → seek_on aim budget points c (suc n) ≡ (if met_behind (goal_meets points.items aim) c then stop_there points c n else seek_on aim budget points (stepped c) n)
  seek_one points c n going = seek-suc points c n ∙ ap (λ (b : Bool). if b then (if met_behind (goal_meets points.items aim) c then stop_there points c n else seek_on aim budget points (stepped c) n) else moved_unmet budget points c) going

  -- ---- where so many steps are counted

  pub seek_none : (until : ℕ) (points : Points) (c : Course) → until ≤ c.state.parts.steps → seek_until aim budget until points c ≡ moved_unmet budget points c
  seek_none until points c over = let none : until - c.state.parts.steps ≡ 0 = omega (arith, over) in ap (seek_on aim budget points c) none ∙ seek-zero points c

  -- ---- what is put stays in front

  abbrev AppendsSought : Course → ℕ → Type 0
  AppendsSought c n = (points : Points) → Appends c (seek_on aim budget points c n).course

  appends_stop : (o : Option Reached) (left : Points) (c d : Course) (n : ℕ) → Appends c d → AppendsSought d n → Appends c (stop_or o left d (λ more. seek_on aim budget more d n)).course
  appends_stop (Some reached) left c d n here rest = here
  appends_stop None left c d n here rest = appends_trans c d (seek_on aim budget left d n).course here (rest left)

  pub appends_seek : (n : ℕ) (points : Points) (c : Course) → Appends c (seek_on aim budget points c n).course
  appends_seek zero points c = rw (seek-zero points c) (appends_not c)
  appends_seek (suc n) points c =
      elim (goes_on c.state) as (λ b. goes_on c.state ≡ b → Appends c (seek_on aim budget points c (suc n)).course) [
        | true ↦ λ h. rw (seek_one points c n h) (
            elim (met_behind (goal_meets points.items aim) c) as (λ b. Appends c (if b then stop_there points c n else seek_on aim budget points (stepped c) n).course) [
              | true ↦ appends_stop (met_there points c).reached (met_there points c).points c (stepped c) n (appends_stepped c) (λ left. appends_seek n left (stepped c))
              | false ↦ appends_trans c (stepped c) (seek_on aim budget points (stepped c) n).course (appends_stepped c) (appends_seek n points (stepped c))
            ])
        | false ↦ λ h. rw (seek_over points c (suc n) h) (appends_not c)
      ] refl

  -- ---- a stop by the first machine that meets the goal

  -- what is done where the first machine that meets the goal is behind the next step
  abbrev found_there : ℕ → Points → Course → Moved
  found_there until points c = stop_or (met_there points c).reached (met_there points c).points (stepped c) (λ left. seek_until aim budget until left (stepped c))

  module _ (until : ℕ) (points : Points) where
    -- the steps that are left behind one
    left_behind : (c : Course) (n : ℕ) → goes_on (stepped c).state ≡ true → suc n ≡ until - c.state.parts.steps → n ≡ until - (stepped c).state.parts.steps
    left_behind c n going is = let counted = stepped_counts c going in omega (arith, counted, is)

    seek_first : (n : ℕ) (c : Course) → n ≡ until - c.state.parts.steps → seek_on aim budget points c n ≡ first_sought (found_there until points) (moved_unmet budget points) (goal_meets points.items aim) c n
    seek_first zero c is = seek-zero points c ∙ sym (first_zero (found_there until points) (moved_unmet budget points) (goal_meets points.items aim) c)
    seek_first (suc n) c is =
        elim (goes_on c.state) as (λ b. goes_on c.state ≡ b → seek_on aim budget points c (suc n) ≡ first_sought (found_there until points) (moved_unmet budget points) (goal_meets points.items aim) c (suc n)) [
          | false ↦ λ h. seek_over points c (suc n) h ∙ sym (first_over (found_there until points) (moved_unmet budget points) (goal_meets points.items aim) c (suc n) h)
          | true ↦ λ h.
              seek_one points c n h
              ∙ elim (met_behind (goal_meets points.items aim) c) as (λ b. met_behind (goal_meets points.items aim) c ≡ b → (if b then stop_there points c n else seek_on aim budget points (stepped c) n) ≡ (if b then found_there until points c else first_sought (found_there until points) (moved_unmet budget points) (goal_meets points.items aim) (stepped c) n)) [
                | true ↦ λ met.
                    let going = goal_goes points.items aim c.state.parts.core.pc (stepped c).state.parts (accesses c.state.parts) met in
                    ap (λ (k : ℕ). stop_there points c k) (left_behind c n going is)
                | false ↦ λ unmet.
                    elim (goes_on (stepped c).state) as (λ b. goes_on (stepped c).state ≡ b → seek_on aim budget points (stepped c) n ≡ first_sought (found_there until points) (moved_unmet budget points) (goal_meets points.items aim) (stepped c) n) [
                      | true ↦ λ going. seek_first n (stepped c) (left_behind c n going is)
                      | false ↦ λ over. seek_over points (stepped c) n over ∙ sym (first_over (found_there until points) (moved_unmet budget points) (goal_meets points.items aim) (stepped c) n over)
                    ] refl
              ] refl
              ∙ sym (first_one (found_there until points) (moved_unmet budget points) (goal_meets points.items aim) c n h)
        ] refl

    -- steps are counted up to the one that it meets
    told_counts : (n : ℕ) (c : Course) → pick (λ d. true) (λ d. false) (told (goal_meets points.items aim) c n) ≡ true → c.state.parts.steps < (pick stepped (λ d. d) (told (goal_meets points.items aim) c n)).state.parts.steps
    told_counts zero c met =
        let none : false ≡ true = sym (ap (pick (λ d. true) (λ d. false)) (first_zero tell_met tell_unmet (goal_meets points.items aim) c)) ∙ met in cc
    told_counts (suc n) c met =
        elim (goes_on c.state) as (λ b. goes_on c.state ≡ b → c.state.parts.steps < (pick stepped (λ d. d) (told (goal_meets points.items aim) c (suc n))).state.parts.steps) [
          | false ↦ λ h.
              let none : false ≡ true = sym (ap (pick (λ d. true) (λ d. false)) (first_over tell_met tell_unmet (goal_meets points.items aim) c (suc n) h)) ∙ met in cc
          | true ↦ λ h.
              let one = first_one tell_met tell_unmet (goal_meets points.items aim) c n h in
              subst (λ (w : Bool × Course). c.state.parts.steps < (pick stepped (λ d. d) w).state.parts.steps) (sym one) (
              elim (met_behind (goal_meets points.items aim) c) as (λ b. met_behind (goal_meets points.items aim) c ≡ b → pick (λ d. true) (λ d. false) (if b then (true, c) else told (goal_meets points.items aim) (stepped c) n) ≡ true
              → c.state.parts.steps < (pick stepped (λ d. d) (if b then (true, c) else told (goal_meets points.items aim) (stepped c) n)).state.parts.steps) [
                | true ↦ λ here _.
                    let counted = stepped_counts c (goal_goes points.items aim c.state.parts.core.pc (stepped c).state.parts (accesses c.state.parts) here) in
                    omega (arith, counted)
                | false ↦ λ _ rest.
                    let more = told_counts n (stepped c) rest in
                    let least = step_least c.state in
                    let same = ap (λ (p : Parts). p.steps) (stepped_parts c) in
                    omega (arith, more, least, same)
              ] refl (sym (ap (pick (λ d. true) (λ d. false)) one) ∙ met))
        ] refl

    -- ---- by what a walk on tells

    module _ (c : Course) where
      seek_told : seek_until aim budget until points c ≡ pick (found_there until points) (moved_unmet budget points) (told (goal_meets points.items aim) c (until - c.state.parts.steps))
      seek_told = seek_first (until - c.state.parts.steps) c refl ∙ picked (found_there until points) (moved_unmet budget points) (goal_meets points.items aim) (until - c.state.parts.steps) c

      -- it met nothing
      met_none : (w : Bool × Course) → pick (λ d. true) (λ d. false) w ≡ false → pick (found_there until points) (moved_unmet budget points) w ≡ moved_unmet budget points (pick stepped (λ d. d) w)
      met_none (true, d) none = let both : true ≡ false = none in cc
      met_none (false, d) none = refl

      pub unmet_on : false ≡ is_sought (goal_meets points.items aim) c (until - c.state.parts.steps) → seek_until aim budget until points c ≡ moved_unmet budget points (sought (goal_meets points.items aim) c (until - c.state.parts.steps))
      unmet_on none =
          seek_told ∙ met_none (told (goal_meets points.items aim) c (until - c.state.parts.steps)) (sym (none ∙ picked (λ d. true) (λ d. false) (goal_meets points.items aim) (until - c.state.parts.steps) c))
          ∙ ap (λ (d : Course). moved_unmet budget points d) (sym (picked stepped (λ d. d) (goal_meets points.items aim) (until - c.state.parts.steps) c))

      -- it met something
      met_one : (w : Bool × Course) → pick (λ d. true) (λ d. false) w ≡ true
          → pick (found_there until points) (moved_unmet budget points) w
          ≡ (let d = pick stepped (λ e. e) w in let met = met_first points d.state.parts (pick (λ e. accesses e.state.parts) (λ e. []) w) in stop_or met.reached met.points d (λ left. seek_until aim budget until left d))
      met_one (true, d) met = refl
      met_one (false, d) met = let both : false ≡ true = met in cc

      pub met_on : true ≡ is_sought (goal_meets points.items aim) c (until - c.state.parts.steps)
          → seek_until aim budget until points c
          ≡ (let d = sought (goal_meets points.items aim) c (until - c.state.parts.steps) in let met = met_first points d.state.parts (made_before_sought (goal_meets points.items aim) c (until - c.state.parts.steps)) in stop_or met.reached met.points d (λ left. seek_until aim budget until left d))
      met_on met =
          let w = told (goal_meets points.items aim) c (until - c.state.parts.steps) in
          seek_told ∙ met_one w (sym (met ∙ picked (λ d. true) (λ d. false) (goal_meets points.items aim) (until - c.state.parts.steps) c))
          ∙ ap (λ (d : Course). let m = met_first points d.state.parts (pick (λ e. accesses e.state.parts) (λ e. []) w) in stop_or m.reached m.points d (λ left. seek_until aim budget until left d)) (sym (picked stepped (λ d. d) (goal_meets points.items aim) (until - c.state.parts.steps) c))
          ∙ ap (λ (made : List Access). let m = met_first points (sought (goal_meets points.items aim) c (until - c.state.parts.steps)).state.parts made in stop_or m.reached m.points (sought (goal_meets points.items aim) c (until - c.state.parts.steps)) (λ left. seek_until aim budget until left (sought (goal_meets points.items aim) c (until - c.state.parts.steps)))) (sym (picked (λ d. accesses d.state.parts) (λ d. []) (goal_meets points.items aim) (until - c.state.parts.steps) c))

      appends_met : (b : Bool) → b ≡ is_sought (goal_meets points.items aim) c (until - c.state.parts.steps) → Appends (sought (goal_meets points.items aim) c (until - c.state.parts.steps)) (seek_until aim budget until points c).course
      appends_met true met =
          let d = sought (goal_meets points.items aim) c (until - c.state.parts.steps) in
          let there = met_first points d.state.parts (made_before_sought (goal_meets points.items aim) c (until - c.state.parts.steps)) in
          rw (met_on met) (appends_stop there.reached there.points d d (until - d.state.parts.steps) (appends_not d) (λ left. appends_seek (until - d.state.parts.steps) left d))
      appends_met false none = rw (unmet_on none) (appends_not (sought (goal_meets points.items aim) c (until - c.state.parts.steps)))

      pub appends_next : Appends (sought (goal_meets points.items aim) c (until - c.state.parts.steps)) (seek_until aim budget until points c).course
      appends_next = appends_met (is_sought (goal_meets points.items aim) c (until - c.state.parts.steps)) refl

      -- it could take steps
      pub met_left : true ≡ is_sought (goal_meets points.items aim) c (until - c.state.parts.steps) → c.state.parts.steps < until
      met_left met = elim (either_way until c.state.parts.steps) as (λ _. c.state.parts.steps < until) [
        | inl over ↦
            let zero_left : until - c.state.parts.steps ≡ 0 = omega (arith, over) in
            let both : true ≡ false = met ∙ ap (is_sought (goal_meets points.items aim) c) zero_left ∙ first_zero (λ d. true) (λ d. false) (goal_meets points.items aim) c in cc
        | inr below ↦ below
      ]

      pub met_counts : true ≡ is_sought (goal_meets points.items aim) c (until - c.state.parts.steps) → c.state.parts.steps < (sought (goal_meets points.items aim) c (until - c.state.parts.steps)).state.parts.steps
      met_counts met =
          let more = told_counts (until - c.state.parts.steps) c (sym (met ∙ picked (λ d. true) (λ d. false) (goal_meets points.items aim) (until - c.state.parts.steps) c)) in
          let same = ap (λ (d : Course). d.state.parts.steps) (picked stepped (λ d. d) (goal_meets points.items aim) (until - c.state.parts.steps) c) in
          omega (arith, more, same)

-- ---- where nothing is sought

module _ (budget : ℕ) (points : Points) (none : points.items ≡ []) where
  free_unmet : (from : ℕ) (m : Parts) (made : List Access) → goal_meets points.items aims.Stops from m made ≡ false
  free_unmet from m made =
      ap (λ (items : List Point). goal_meets items aims.Stops from m made) none
      ∙ elim (is_none m.ended) as (λ b. (b && false) ≡ false) [
        | true ↦ refl
        | false ↦ refl
      ]

  pub seek_free : (n : ℕ) (c : Course) → seek_on aims.Stops budget points c n ≡ moved_unmet budget points (walked c n)
  seek_free zero c = seek-zero aims.Stops budget points c ∙ ap (λ (d : Course). moved_unmet budget points d) (sym (walked-zero c))
  seek_free (suc n) c =
      elim (goes_on c.state) as (λ b. goes_on c.state ≡ b → seek_on aims.Stops budget points c (suc n) ≡ moved_unmet budget points (walked c (suc n))) [
        | true ↦ λ h.
            seek_one aims.Stops budget points c n h
            ∙ ap (λ (b : Bool). if b then stop_there aims.Stops budget points c n else seek_on aims.Stops budget points (stepped c) n) (free_unmet c.state.parts.core.pc (stepped c).state.parts (accesses c.state.parts))
            ∙ seek_free n (stepped c) ∙ ap (λ (d : Course). moved_unmet budget points d) (sym (moved_one c n h))
        | false ↦ λ h. seek_over aims.Stops budget points c (suc n) h ∙ ap (λ (d : Course). moved_unmet budget points d) (sym (moved_over c (suc n) h))
      ] refl
