-- What is so behind a turn that is used up, where the next one begins.
use Rattle.std.proofs.Common.{◌≡◌, ◌<◌, ◌≤◌, ◌⊎◌, inl, inr, ℕ, zero, suc, ◌+◌, Bool, true, false, not, ◌&&◌, ◌||◌, if◌then◌else◌, nat_eq, nat_le, nat_lt, is_some, List, [], ◌∷◌, length, get_or, set, refl, sym, ap, subst, ◌∙◌, arith}
use Rattle.std.proofs.lemmas.Bool.{and_from, and_parts, eq-eqb, le-leb, leb-true, lt-ltb, ne_eqb, or_left, or_right}
use Rattle.std.proofs.lemmas.List.{length-set}
use Rattle.std.specs.List.{list_all, list_any}
use Rattle.emu_model.specs.State.{Core, Parts, Vectors}
use Rattle.guest_schedule.specs.Turns.{has_steps}
use Rattle.emu_run.specs.Threads.{next_turn, turn_at}
use Rattle.emu_run.specs.Worlds.{Context, no_context, taken_by_context}
use Rattle.guest_contexts.specs.Begins.{TurnAt, begins_next, context_of}
use Rattle.guest_contexts.specs.Laid.{world_of}
use Rattle.guest_contexts.specs.Standings.{AreReady, has_monitor}
use Rattle.guest_contexts.proofs.Kept.{ready_set, unwatched_at, unwatched_set}
use Rattle.guest_contexts.proofs.Laid.{brought}
use Rattle.guest_contexts.proofs.Lists.{default_same}

-- a turn has a step
pub has_one : (schedule : List (ℕ × ℕ)) (t : ℕ) → list_all has_steps schedule ≡ true → t < length schedule → 0 < (turn_at schedule t).1
has_one [] t all h = absurd (omega (arith, h))
has_one (x ∷ xs) zero all h = leb-true 1 x.1 (and_parts (has_steps x) (list_all has_steps xs) all).0
has_one (x ∷ xs) (suc t) all h = has_one xs t (and_parts (has_steps x) (list_all has_steps xs) all).1 (omega (arith, h))

-- a turn of the schedule, whatever stands for one that isn't there
pub turn_is : (schedule : List (ℕ × ℕ)) (t : ℕ) → t < length schedule → get_or schedule t (0, 0) ≡ turn_at schedule t
turn_is schedule t within = default_same schedule t (0, 0) (0, 1) within

pub turn_over : (schedule : List (ℕ × ℕ)) (t : ℕ) → t + 1 ≡ length schedule → 0 ≡ next_turn schedule t
turn_over schedule t h = sym (ap (λ (b : Bool). if b then 0 else t + 1) (eq-eqb (t + 1) (length schedule) h))

pub turn_on : (schedule : List (ℕ × ℕ)) (t : ℕ) → (t + 1 ≡ length schedule → ⊥) → t + 1 ≡ next_turn schedule t
turn_on schedule t h = sym (ap (λ (b : Bool). if b then 0 else t + 1) (ne_eqb (t + 1) (length schedule) h))

-- ---- whether the next one begins

module _ (schedule : List (ℕ × ℕ)) (numbers : List ℕ) (old : TurnAt) where
  abbrev next : ℕ × ℕ
  next = turn_at schedule (next_turn schedule old.turn.place)

  abbrev scheduled : Bool
  scheduled = nat_lt 0 (length schedule)

  abbrev fits : Bool
  fits = nat_le (old.turn.until + next.1) old.turn.budget

  abbrev some_ready : Bool
  some_ready = nat_lt 0 (length numbers)

  abbrev same : Bool
  same = nat_eq (context_of numbers next) old.turn.context

  abbrev free : Bool
  free = same || not (is_some old.core.monitor)

  free_by : (context_of numbers next ≡ old.turn.context) ⊎ (is_some old.core.monitor ≡ false) → free ≡ true
  free_by (inl own) = or_left same (not (is_some old.core.monitor)) (eq-eqb (context_of numbers next) old.turn.context own)
  free_by (inr none) = or_right same (not (is_some old.core.monitor)) (ap not none)

  pub one_begins : 0 < length schedule → old.turn.until + next.1 ≤ old.turn.budget → 0 < length numbers → (context_of numbers next ≡ old.turn.context) ⊎ (is_some old.core.monitor ≡ false)
      → true ≡ begins_next schedule numbers old
  one_begins some most one is =
      sym (and_from scheduled (fits && (some_ready && free)) (lt-ltb 0 (length schedule) some)
      (and_from fits (some_ready && free) (le-leb (old.turn.until + next.1) old.turn.budget most) (and_from some_ready free (lt-ltb 0 (length numbers) one) (free_by is))))

-- the registers of context k took the place of those of the one at `last`, which went back to it
pub record IsChanged (numbers : List ℕ) (last k : ℕ) (cs : List Context) (c : Core) (v : Vectors) (new : List Context) (d : Core) (u : Vectors) : Type 0 where
  pub count : length new ≡ length cs
  pub ready : AreReady new numbers
  pub unwatched : list_any has_monitor new ≡ false
  pub world : (m : Parts) → world_of (record m { core = d; vectors = u }) k new ≡ taken_by_context k (world_of (record m { core = c; vectors = v }) last cs)

module _ (numbers : List ℕ) (last k : ℕ) (cs : List Context) (c : Core) (v : Vectors) (ready : AreReady cs numbers) (unwatched : list_any has_monitor cs ≡ false) where
  -- it is the same context
  pub stayed : k ≡ last → (cs2 : List Context) (d : Core) (u : Vectors) → cs2 ≡ cs → d ≡ c → u ≡ v → IsChanged numbers last k cs c v cs2 d u
  stayed same cs2 d u contexts core vectors =
      subst (λ (l : List Context). IsChanged numbers last k cs c v l d u) (sym contexts)
      (subst (λ (x : Core). IsChanged numbers last k cs c v cs x u) (sym core)
      (subst (λ (x : Vectors). IsChanged numbers last k cs c v cs c x) (sym vectors)
      (record { count = refl; ready = ready; unwatched = unwatched; world = λ m. subst (λ (n : ℕ). world_of (record m { core = c; vectors = v }) n cs ≡ taken_by_context n (world_of (record m { core = c; vectors = v }) last cs)) (sym same) refl })))

  -- they were exchanged with those of the context at `last`, and then with those of context k
  pub exchanged : (c1 c2 : Core) (v1 v2 : Vectors) (cs1 cs2 : List Context)
      → c1 ≡ (get_or cs last no_context).core → v1 ≡ (get_or cs last no_context).vectors → cs1 ≡ set cs last (record (get_or cs last no_context) { core = c; vectors = v })
      → c2 ≡ (get_or cs1 k no_context).core → v2 ≡ (get_or cs1 k no_context).vectors → cs2 ≡ set cs1 k (record (get_or cs1 k no_context) { core = c1; vectors = v1 })
      → k < length cs → is_some c.monitor ≡ false → IsChanged numbers last k cs c v cs2 c2 v2
  exchanged c1 c2 v1 v2 cs1 cs2 core1 vectors1 contexts1 core2 vectors2 contexts2 within none =
      let back : Context = record (get_or cs last no_context) { core = c; vectors = v } in
      let gone : Context = record (get_or cs1 k no_context) { core = c1; vectors = v1 } in
      let ready1 : AreReady cs1 numbers = subst (λ (l : List Context). AreReady l numbers) (sym contexts1) (ready_set last cs back numbers refl ready) in
      let own : is_some c1.monitor ≡ false = ap (λ (x : Core). is_some x.monitor) core1 ∙ unwatched_at cs last unwatched in
      record {
        count = ap (λ (l : List Context). length l) contexts2 ∙ length-set cs1 k gone ∙ ap (λ (l : List Context). length l) contexts1 ∙ length-set cs last back;
        ready = subst (λ (l : List Context). AreReady l numbers) (sym contexts2) (ready_set k cs1 gone numbers refl ready1);
        unwatched = ap (λ (l : List Context). list_any has_monitor l) contexts2
            ∙ unwatched_set k cs1 gone (ap (λ (l : List Context). list_any has_monitor l) contexts1 ∙ unwatched_set last cs back unwatched none) own;
        world = λ m.
            brought (record m { core = c; vectors = v }) last k cs within (record m { core = c1; vectors = v1 }) (record m { core = c2; vectors = v2 }) cs1 cs2
            (ap (λ (x : Core). record m { core = x; vectors = v1 }) core1 ∙ ap (λ (x : Vectors). record m { core = (get_or cs last no_context).core; vectors = x }) vectors1)
            contexts1
            (ap (λ (x : Core). record m { core = x; vectors = v2 }) core2 ∙ ap (λ (x : Vectors). record m { core = (get_or cs1 k no_context).core; vectors = x }) vectors2)
            contexts2;
      }
