-- A world that hasn't ended has a context that isn't gone. Each step leaves it so; where none is ready, one waits.
use Rattle.std.specs.Prelude.{◌≡◌, ◌<◌, ℕ, suc, ◌-◌, ◌%◌, Bool, true, false, ◌||◌, ◌&&◌, List, [], ◌∷◌, length, set, map, Some, None, is_none, is_some, nat_eq, nat_lt, if◌then◌else◌}
use Rattle.std.specs.List.{list_any, list_all}
use Rattle.std.proofs.Common.{refl, ap, sym, subst, ◌∙◌}
use Rattle.std.proofs.lemmas.List.{get_or-set_same, length-map, length-set}
use Rattle.std.proofs.lemmas.List.Folds.{list_all-append, list_all_at}
use Rattle.emu_model.specs.declared.access.Access.{Access}
use Rattle.emu_model.specs.declared.access.Kind.TheVariants.{Write as ToWrite}
use Rattle.emu_model.specs.declared.trap.Ended.TheVariants.{Exit as Exited}
use Rattle.emu_model.specs.Access.{refused, stored}
use Rattle.emu_model.specs.State.{Parts}
use Rattle.emu_run.specs.Step.{accesses, step_from}
use Rattle.emu_system.specs.SystemCall.{call_argument, error_answer, returned}
use Rattle.emu_run.specs.declared.thread.Standing.{Standing}
use Rattle.emu_run.specs.declared.thread.Standing.TheVariants.{Ready, Waiting, Gone}
use Rattle.emu_run.specs.ThreadCall.{ThreadAction, fails, answers, starts, waits, wakes, clears, leaves, alone, action, all_gone, answered, cleared, leave_made, error_number, parent_told, started, thread_id, with_gone}
use Rattle.emu_run.specs.Threads.{thread_call_done, makes_call, one, stepped_alone, with_world}
use Rattle.emu_run.specs.Worlds.{World, Context, context, no_context, apart, behind_accesses, is_gone, is_ready, is_standing_at, is_standing_gone, is_standing_ready, parts_with, others_behind, some_ready, taken_by_context, wake_count, waits_at, with_context, with_monitor, with_woken, without_monitors, woken, woken_context}

abbrev pub is_standing_waiting : Standing → Bool
is_standing_waiting Ready = false
is_standing_waiting (Waiting a) = true
is_standing_waiting Gone = false

abbrev pub is_waiting : Context → Bool
is_waiting c = is_standing_waiting c.standing

abbrev pub some_waiting : World → Bool
some_waiting w = list_any is_waiting w.contexts

abbrev pub IsLiving : World → Type 0
IsLiving w = is_none w.ended ≡ true → all_gone w ≡ false

-- ---- lists of contexts

pub stays_living : (w : World) (k : ℕ) → k < length w.contexts → is_gone (context w k) ≡ false → all_gone w ≡ false
stays_living w k within stays = list_all_at is_gone w.contexts k no_context within stays

-- one that isn't gone is put into the list
here : (cs : List Context) (k : ℕ) (c : Context) → k < length cs → is_gone c ≡ false → list_all is_gone (set cs k c) ≡ false
here cs k c within stays =
    list_all_at is_gone (set cs k c) k no_context (subst (λ (n : ℕ). k < n) (sym (length-set cs k c)) within)
    (ap is_gone (get_or-set_same cs k c no_context within) ∙ stays)

gone_mapped : (f : Context → Context) → ((c : Context) → is_gone (f c) ≡ is_gone c) → (cs : List Context) → list_all is_gone (map f cs) ≡ list_all is_gone cs
gone_mapped f same [] = refl
gone_mapped f same (c ∷ cs) =
    ap (λ (b : Bool). b && list_all is_gone (map f cs)) (same c) ∙ ap (λ (b : Bool). is_gone c && b) (gone_mapped f same cs)

pub woken_length : (a n : ℕ) (cs : List Context) → length (woken a n cs) ≡ length cs
woken_length a n [] = refl
woken_length a n (c ∷ cs) =
    elim (waits_at a c && nat_lt 0 n) as (λ b. length (if b then woken_context c ∷ woken a (n - 1) cs else c ∷ woken a n cs) ≡ suc (length cs)) [
      | true ↦ ap (λ (k : ℕ). suc k) (woken_length a (n - 1) cs)
      | false ↦ ap (λ (k : ℕ). suc k) (woken_length a n cs)
    ]

and_first : (a b : Bool) → (a && b) ≡ true → a ≡ true
and_first true b h = refl
and_first false b h = cc

waits_stays : (a : ℕ) (s : Standing) → is_standing_at a s ≡ true → is_standing_gone s ≡ false
waits_stays a Ready h = cc
waits_stays a (Waiting at) h = refl
waits_stays a Gone h = cc

woken_gone : (a n : ℕ) (cs : List Context) → list_all is_gone (woken a n cs) ≡ list_all is_gone cs
woken_gone a n [] = refl
woken_gone a n (c ∷ cs) =
    elim (waits_at a c && nat_lt 0 n) as (λ b. (waits_at a c && nat_lt 0 n) ≡ b → list_all is_gone (if b then woken_context c ∷ woken a (n - 1) cs else c ∷ woken a n cs) ≡ (is_gone c && list_all is_gone cs)) [
      | true ↦ λ h. sym (ap (λ (b : Bool). b && list_all is_gone cs) (waits_stays a c.standing (and_first (waits_at a c) (nat_lt 0 n) h)))
      | false ↦ λ h. ap (λ (b : Bool). is_gone c && b) (woken_gone a n cs)
    ] refl

-- ---- one step

cleared_gone : (w : World) (a : ℕ) → all_gone (cleared w a) ≡ all_gone w
cleared_gone w a =
    elim (nat_eq a 0 || is_some (refused w.memory a 4 ToWrite)) as (λ b. all_gone (if b then w else with_woken (record w { memory = stored w.memory a 4 0 }) a 1) ≡ all_gone w) [
      | true ↦ refl
      | false ↦ woken_gone a 1 w.contexts
    ]

left_living : (w : World) (k : ℕ) → IsLiving (leave_made w k)
left_living w k =
    let g : World = with_gone w k in
    elim (all_gone g) as (λ b. all_gone g ≡ b → is_none (if b then Some (Exited (call_argument (context w k).core 0 % 256)) else g.ended) ≡ true → all_gone (cleared g (context w k).clear) ≡ false) [
      | true ↦ λ all h. cc
      | false ↦ λ some h. cleared_gone g (context w k).clear ∙ some
    ] refl

module _ (w : World) (k : ℕ) (within : k < length w.contexts) where
  apart_living : (s : Standing) (m : Parts) → is_standing_gone s ≡ false → all_gone (apart w k s m) ≡ false
  apart_living s m stays = here w.contexts k (record (context w k) { core = m.core; vectors = m.vectors; standing = s }) within stays

  -- the machine's step of a context that goes on, with the monitors of the others
  pub noted_living : (made : List Access) → is_gone (context w k) ≡ false → all_gone (others_behind made k w) ≡ false
  noted_living made stays =
      here (map (behind_accesses made) w.contexts) k (context w k) (subst (λ (n : ℕ). k < n) (sym (length-map w.contexts (behind_accesses made))) within) stays

pub emptied_gone : (w : World) → all_gone (without_monitors w) ≡ all_gone w
emptied_gone w = gone_mapped (with_monitor None) (λ c. refl) w.contexts

emptied_living : (w : World) → IsLiving w → IsLiving (without_monitors w)
emptied_living w living = λ going. emptied_gone w ∙ living going

-- a call of context k, whatever it comes to
module _ (w : World) (k : ℕ) (input : List ℕ) (within : k < length w.contexts) where
  answered_living : (v : World) (s : Standing) (m : Parts) → length v.contexts ≡ length w.contexts → is_standing_gone s ≡ false → all_gone (apart v k s m) ≡ false
  answered_living v s m long stays = apart_living v k (subst (λ (n : ℕ). k < n) (sym long) within) s m stays

  done_living : (a : ThreadAction) → IsLiving (thread_call_done a w k input).world
  done_living (fails e) = λ _. answered_living w Ready (returned (parts_with w (context w k)) (error_answer (error_number e))) refl refl
  done_living (answers v) = λ _. answered_living w Ready (returned (parts_with w (context w k)) v) refl refl
  done_living starts = λ _.
      let told : World = parent_told w (context w k).core in
      let id : ℕ = thread_id (length w.contexts) in
      list_all-append is_gone (answered told k id).contexts (started w (context w k) (context w k).core ∷ [])
      ∙ ap (λ (b : Bool). b && list_all is_gone (started w (context w k) (context w k).core ∷ [])) (answered_living told Ready (returned (parts_with told (context told k)) id) refl refl)
  done_living (waits a) = λ _. answered_living w (Waiting a) (returned (parts_with w (context w k)) 0) refl refl
  done_living (wakes a n) = λ _.
      let woke : World = with_woken w a n in
      answered_living woke Ready (returned (parts_with woke (context woke k)) (wake_count a n w.contexts)) (woken_length a n w.contexts) refl
  done_living (clears a) = λ _.
      let changed : Context = record (context w k) { clear = a } in
      let cleared_so : World = with_context w k changed in
      answered_living cleared_so Ready (returned (parts_with cleared_so (context cleared_so k)) (thread_id k)) (length-set w.contexts k changed) refl
  done_living leaves = left_living w k
  done_living alone = λ _. answered_living w Ready (step_from (parts_with w (context w k)) input).parts refl refl

  -- the step of a context, whatever it is
  pub one_living : IsLiving (one w k input).world
  one_living =
      let m : Parts = (step_from (parts_with w (context w k)) input).parts in
      let v : World = apart w k Ready m in
      let own : Context = record (context w k) { core = m.core; vectors = m.vectors; standing = Ready } in
      let long : length v.contexts ≡ length w.contexts = length-set w.contexts k own in
      elim (makes_call (parts_with w (context w k))) as (λ b. IsLiving (if b then with_world (λ u. taken_by_context k (without_monitors u)) (thread_call_done (action w k) w k input) else with_world (λ u. taken_by_context k (others_behind (accesses (parts_with w (context w k))) k u)) (stepped_alone w k input)).world) [
        | true ↦ emptied_living (thread_call_done (action w k) w k input).world (done_living (action w k))
        | false ↦ λ _. noted_living v k (subst (λ (n : ℕ). k < n) (sym long) within) (accesses (parts_with w (context w k))) (ap is_gone (get_or-set_same w.contexts k own no_context within))
      ]

-- ---- where no context is ready, and not all are gone, one waits

waits_by : (s : Standing) (any all some : Bool) → (any ≡ false → all ≡ false → some ≡ true)
    → (is_standing_ready s || any) ≡ false → (is_standing_gone s && all) ≡ false → (is_standing_waiting s || some) ≡ true
waits_by Ready any all some rest unready stays = cc
waits_by (Waiting a) any all some rest unready stays = refl
waits_by Gone any all some rest unready stays = rest unready stays

waits_among : (cs : List Context) → list_any is_ready cs ≡ false → list_all is_gone cs ≡ false → list_any is_waiting cs ≡ true
waits_among [] unready stays = cc
waits_among (c ∷ cs) unready stays =
    waits_by c.standing (list_any is_ready cs) (list_all is_gone cs) (list_any is_waiting cs) (waits_among cs) unready stays

pub some_waits : (w : World) → IsLiving w → is_none w.ended ≡ true → some_ready w ≡ false → some_waiting w ≡ true
some_waits w living going unready = waits_among w.contexts unready (living going)
