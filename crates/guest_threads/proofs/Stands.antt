-- A run of a world, step after step: with any budget that isn't counted yet, what remains leaves the world and the input that the
-- whole leaves.
use Rattle.std.proofs.Common.{◌≡◌, ◌≤◌, ℕ, ◌+◌, Bool, true, false, List, Option, Some, None, IfSome, refl, sym, ap, subst, ◌∙◌, arith}
use Rattle.emu_run.specs.declared.thread.SchedulePlace.{SchedulePlace}
use Rattle.emu_run.specs.Worlds.{World}
use Rattle.emu_run.specs.Threads.{WorldState, first_place, goes_on, next_place, pick, stepped, threads, with_input}
use Rattle.emu_run.specs.ThreadLaws.{rest_behind, rest_of, rest_spent}
use Rattle.guest_threads.specs.Ends.{IsKept, IsKeptAt}
use Rattle.guest_threads.proofs.Composed.{Led, from_nothing}
use Rattle.guest_threads.proofs.Runs.{LeadsRun, Ran, one_on, ran_at}

-- a world and what is left of its input
abbrev seen : WorldState → World × List ℕ
seen s = (s.world, s.input)

module _ (schedule : List (ℕ × ℕ)) where
  abbrev pub StandsAt : World → List ℕ → SchedulePlace → World → List ℕ → Type 0
  StandsAt old bytes place now input = (b : ℕ) → now.steps ≤ b → seen (threads schedule b (with_input old bytes)) ≡ seen (rest_of schedule b place (with_input now input))

  abbrev pub Stands : World → Option (List ℕ) → SchedulePlace → World → Option (List ℕ) → Type 0
  Stands old told place now left = IfSome told (λ bytes. IfSome left (λ input. StandsAt old bytes place now input))

  pub stands_start : (old : World) (told : Option (List ℕ)) → Stands old told first_place old told
  stands_start old None = tt
  stands_start old (Some bytes) = λ b h. refl

  module _ (budget : ℕ) (place : SchedulePlace) (old p : World) (left_p ho hp eo ep : Option (List ℕ)) where
    abbrev LedRun : List ℕ → Type 0
    LedRun bytes = Led (λ s. threads schedule budget s) (λ s. rest_of schedule budget place s) old p bytes left_p ho hp eo ep

    stands_at : (bytes : List ℕ) (led : LedRun bytes) → IfSome left_p (λ input. StandsAt old bytes place p input) → StandsAt old bytes place p led.input
    stands_at bytes led stands = subst (λ (left : Option (List ℕ)). IfSome left (λ input. StandsAt old bytes place p input)) led.left stands

    -- a step counted
    pub stands_on : (q : World) (k : ℕ) (left_q hq eq told : Option (List ℕ)) → LeadsRun schedule budget place old p told left_p ho hp eo ep
        → Ran (λ st. stepped st k) p q left_p left_q hp hq ep eq false → goes_on p ≡ true → k ≡ pick p schedule place → q.steps ≡ p.steps + 1
        → Stands old told place p left_p → Stands old told (next_place q schedule place k) q left_q
    stands_on q k left_q hq eq None led r going picked counted stands = tt
    stands_on q k left_q hq eq (Some bytes) led r going picked counted stands =
        let s : WorldState = stepped (with_input p led.input) k in
        let d = (ran_at (λ st. stepped st k) p q led.input left_p left_q hp hq ep eq false led.left r).state refl in
        let next : SchedulePlace = next_place q schedule place k in
        let now : StandsAt old bytes next q s.input = λ b h.
        stands_at bytes led stands b (omega (arith, counted, h))
        ∙ ap seen (one_on schedule b place p q k led.input going (omega (arith, counted, h)) picked counted d.0)
        ∙ ap (λ (x : WorldState). seen (rest_of schedule b next x)) (from_nothing s)
        ∙ ap seen (rest_behind schedule b next s.output s.errors (with_input s.world s.input))
        ∙ ap (λ (x : World). seen (rest_of schedule b next (with_input x s.input))) (sym d.0) in
        subst (λ (left : Option (List ℕ)). IfSome left (λ input. StandsAt old bytes next q input)) (sym d.1) now

    -- it is what the run with just the steps counted leaves, and so is the input
    pub stands_there : (told : Option (List ℕ)) → LeadsRun schedule budget place old p told left_p ho hp eo ep → Stands old told place p left_p
        → IfSome told (λ bytes. (p ≡ (threads schedule p.steps (with_input old bytes)).world) × (left_p ≡ Some (threads schedule p.steps (with_input old bytes)).input))
    stands_there None led stands = tt
    stands_there (Some bytes) led stands =
        let same : seen (threads schedule p.steps (with_input old bytes)) ≡ (p, led.input) =
        stands_at bytes led stands p.steps (omega arith) ∙ ap seen (rest_spent schedule p.steps place (with_input p led.input) (omega arith)) in
        (sym (ap (λ (x : World × List ℕ). x.0) same), led.left ∙ ap (λ (x : World × List ℕ). Some x.1) (sym same))

  -- and a world whose next step, of context k, wasn't done is kept as that run leaves it
  pub kept_there : (old p q : World) (k : ℕ) (told left_p left_q : Option (List ℕ)) (broken : Bool) → (broken ≡ true → IsKept p q k left_p left_q) → q.last ≡ k
      → IfSome told (λ bytes. (p ≡ (threads schedule p.steps (with_input old bytes)).world) × (left_p ≡ Some (threads schedule p.steps (with_input old bytes)).input))
      → IfSome told (λ bytes. broken ≡ true → IsKeptAt (threads schedule q.steps (with_input old bytes)) q left_q)
  kept_there old p q k None left_p left_q broken kept last there = tt
  kept_there old p q k (Some bytes) left_p left_q broken kept last there = λ h.
      let was = kept h in
      let steps : p.steps ≡ q.steps = sym (ap (λ (x : World). x.steps) was.is) in
      let st : WorldState = threads schedule p.steps (with_input old bytes) in
      let same : IsKept st.world q k (Some st.input) left_q =
      subst (λ (t : Option (List ℕ)). IsKept st.world q k t left_q) there.1 (subst (λ (x : World). IsKept x q k left_p left_q) there.0 was) in
      subst (λ (n : ℕ). IsKeptAt (threads schedule n (with_input old bytes)) q left_q) steps
      (subst (λ (n : ℕ). IsKept st.world q n (Some st.input) left_q) (sym last) same)
