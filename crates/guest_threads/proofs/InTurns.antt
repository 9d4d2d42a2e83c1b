-- The steps of a machine under a schedule, turn after turn, as steps of the schedule in the world.
use Rattle.std.proofs.Common.{◌≡◌, ◌<◌, ◌≤◌, ℕ, zero, suc, ◌+◌, ◌-◌, ◌%◌, Bool, List, length, get_or, nat_eq, if◌then◌else◌, is_none, true, false, refl, sym, ap, subst, ◌∙◌, arith}
use Rattle.std.specs.List.{list_any}
use Rattle.std.proofs.lemmas.Bool.{eqb-false, eqb-true}
use Rattle.emu_model.specs.State.{Parts}
use Rattle.emu_machine.specs.Advances.{AreAlone, AsksCall, IsLastStep, IsSpent}
use Rattle.emu_machine.specs.declared.ends.Progress.{Progress}
use Rattle.emu_machine.specs.declared.ends.Progress.TheVariants.{AtCall, GoesOn, Trapped}
use Rattle.emu_machine.specs.InTurns.{AdvancesInTurns, AreUsedUp, InTurn, IsUsedUp}
use Rattle.emu_machine.specs.Machines.{MachineState}
use Rattle.guest_contexts.specs.declared.begin.Turn.{Turn}
use Rattle.guest_contexts.specs.Begins.{IsTurn}
use Rattle.guest_contexts.specs.Laid.{laid, world_of}
use Rattle.guest_contexts.specs.Standings.{AreReady, has_monitor}
use Rattle.guest_schedule.specs.Turns.{IsSchedule}
use Rattle.guest_contexts.proofs.Begins.{has_one, turn_is}
use Rattle.guest_contexts.proofs.Laid.{laid_length, standing_is}
use Rattle.emu_run.specs.declared.thread.SchedulePlace.{SchedulePlace}
use Rattle.emu_run.specs.declared.thread.Standing.TheVariants.{Ready}
use Rattle.emu_run.specs.Threads.{next_turn, turn_at}
use Rattle.emu_run.specs.Worlds.{World, Context, context, no_context, taken_by_context}
use Rattle.guest_threads.specs.Ends.{IsPicked, WorldHeld, has_ended}
use Rattle.guest_threads.specs.Quiet.{AdvancesToEnd, AreFollowed, AreQuiet, FollowsOn, FollowsToEnd, StopsWithin}
use Rattle.guest_threads.proofs.Followed.{followed_then}
use Rattle.guest_threads.proofs.Picked.{picked_at, place_at}
use Rattle.guest_threads.proofs.Runs.{unended}
use Rattle.guest_threads.proofs.Views.{held as held_of, last_is, world_is}
use Rattle.guest_threads.proofs.Quiet.{alone_quiet, none_taken, one_quiet, quiet_steps}
use Rattle.guest_threads.proofs.WholeTurns.{begins_at, turn_ends, turn_stays, turn_whole, turn_within}

module _ (schedule : List (ℕ × ℕ)) (numbers : List ℕ) (budget : ℕ) (p : SchedulePlace) (w : World) where
  -- a turn begins, with what the steps of the schedule before it made of the world
  pub record Begun (a : InTurn) : Type 0 where
    pub before : World
    pub follows : (n : ℕ) × AreFollowed n schedule p w (place_at a.turn.place 0 0) before
    pub goes : is_none before.ended ≡ true
    pub picked : IsPicked before schedule (place_at a.turn.place 0 0) a.turn.context
    pub world : world_of a.machine.parts a.turn.context a.contexts ≡ taken_by_context a.turn.context before
    pub last : before.last ≡ a.turn.before
    pub inside : before.last < length before.contexts
    pub turn : IsTurn schedule numbers a.contexts a.turn
    pub until : a.turn.until ≡ before.steps + (turn_at schedule a.turn.place).1
    pub within : a.turn.budget ≡ budget

  module _ (a : InTurn) (b : Begun a) where
    own : (get_or a.contexts a.turn.context no_context).standing ≡ Ready
    own =
        sym (standing_is a.machine.parts a.turn.context a.contexts b.turn.context)
        ∙ ap (λ (x : World). (context x a.turn.context).standing) b.world ∙ b.picked.at.ready

    quiet_by : (n : ℕ) (q : Parts) → AreAlone n a.machine.parts q → AreQuiet n a.turn.context (taken_by_context a.turn.context b.before) (world_of q a.turn.context a.contexts)
    quiet_by n q alone =
        subst (λ (x : World). AreQuiet n a.turn.context x (world_of q a.turn.context a.contexts)) b.world
        (alone_quiet a.turn.context a.contexts b.turn.context own b.turn.unwatched n a.machine.parts q alone)

    pub begun_most : a.turn.until ≤ budget
    begun_most = let m = b.turn.most in let is = b.within in omega (arith, m, is)

    -- its steps are all taken
    whole : (e : MachineState) → IsSpent a.turn.until a.machine e → FollowsOn schedule budget (place_at a.turn.place 0 0) b.before (place_at (next_turn schedule a.turn.place) 0 0) (world_of e.parts a.turn.context a.contexts)
    whole e s =
        let one = has_one schedule a.turn.place b.turn.turns.steps b.turn.place in
        let is = b.until in
        let spent = s.spent in
        turn_whole schedule a.turn.place b.before budget a.turn.until a.turn.context b.picked b.goes b.turn.turns.steps b.turn.place is begun_most
        s.ahead.alone.0 (world_of e.parts a.turn.context a.contexts) (quiet_by s.ahead.alone.0 e.parts s.ahead.alone.1) s.spent
        (λ same. omega (arith, same, spent, is, one))

    -- steps behind those before it
    on_from : (q : SchedulePlace) (v : World) → FollowsOn schedule budget (place_at a.turn.place 0 0) b.before q v → FollowsOn schedule budget p w q v
    on_from q v d =
        let r = followed_then schedule d.count b.follows.0 p (place_at a.turn.place 0 0) q w b.before v b.follows.1 d.followed in
        record { count = r.0; followed = r.1; goes = d.goes; most = d.most; placed = d.placed }

    pub begun_whole : (e : MachineState) → IsSpent a.turn.until a.machine e → FollowsOn schedule budget p w (place_at (next_turn schedule a.turn.place) 0 0) (world_of e.parts a.turn.context a.contexts)
    begun_whole e s = on_from (place_at (next_turn schedule a.turn.place) 0 0) (world_of e.parts a.turn.context a.contexts) (whole e s)

    -- one ended the world
    pub begun_ends : (e : MachineState) → IsLastStep a.turn.until a.machine e → FollowsToEnd schedule budget p w (world_of e.parts a.turn.context a.contexts)
    begun_ends e s =
        let v : World = world_of e.parts a.turn.context a.contexts in
        let ends : AdvancesToEnd a.turn.until (taken_by_context a.turn.context b.before) v = record {
          count = s.ahead.alone.0;
          at = world_of s.at a.turn.context a.contexts;
          quiet = quiet_by s.ahead.alone.0 s.at s.ahead.alone.1;
          below = s.below;
          is = one_quiet a.turn.context a.contexts b.turn.context own b.turn.unwatched s.at e.parts s.alone s.turns;
          ended = s.ended;
        } in
        let d = turn_ends schedule a.turn.place b.before budget a.turn.until a.turn.context b.picked b.goes b.turn.turns.steps b.turn.place b.until begun_most v ends in
        let r = followed_then schedule d.count b.follows.0 p (place_at a.turn.place 0 0) d.place w b.before d.at b.follows.1 d.followed in
        record { count = r.0; place = d.place; at = d.at; followed = r.1; context = d.context; picked = d.picked; ready = d.ready; goes = d.goes; below = d.below; is = d.is; ended = d.ended }

    -- the next one makes a call
    pub begun_within : (e : MachineState) (used : ℕ) → AsksCall a.turn.until a.machine e → (e.parts.steps ≡ b.before.steps → ⊥) → used ≡ e.parts.steps - b.before.steps
        → FollowsOn schedule budget p w (place_at a.turn.place used a.turn.context) (world_of e.parts a.turn.context a.contexts)
    begun_within e used s apart_so is =
        on_from (place_at a.turn.place used a.turn.context) (world_of e.parts a.turn.context a.contexts)
        (turn_within schedule a.turn.place b.before budget a.turn.until a.turn.context b.picked b.goes b.turn.turns.steps b.turn.place b.until begun_most
        s.ahead.alone.0 (world_of e.parts a.turn.context a.contexts) used (quiet_by s.ahead.alone.0 e.parts s.ahead.alone.1) s.below apart_so is)

    -- and is the first one of the turn
    pub begun_still : (e : MachineState) → AsksCall a.turn.until a.machine e → e.parts.steps ≡ b.before.steps → world_of e.parts a.turn.context a.contexts ≡ taken_by_context a.turn.context b.before
    begun_still e s same = none_taken a.turn.context b.before s.ahead.alone.0 (world_of e.parts a.turn.context a.contexts) (quiet_by s.ahead.alone.0 e.parts s.ahead.alone.1) same

    pub begun_from : b.before.steps ≤ budget → FollowsOn schedule budget p w (place_at a.turn.place 0 0) b.before
    begun_from within = on_from (place_at a.turn.place 0 0) b.before (turn_stays schedule a.turn.place b.before budget b.goes b.turn.turns.steps b.turn.place within)

    pub begun_after : (e : MachineState) → AsksCall a.turn.until a.machine e → b.before.steps ≤ e.parts.steps
    begun_after e s =
        let steps = quiet_steps s.ahead.alone.0 a.turn.context (taken_by_context a.turn.context b.before) (world_of e.parts a.turn.context a.contexts) (quiet_by s.ahead.alone.0 e.parts s.ahead.alone.1) in
        omega (arith, steps)

  -- the next turn begins
  begun_next : (a c : InTurn) → Begun a → IsUsedUp schedule numbers a c → Begun c
  begun_next a c b u =
      let e : MachineState = u.left in
      let v : World = world_of e.parts a.turn.context a.contexts in
      let d = begun_whole a b e u.spent in
      let place : c.turn.place ≡ next_turn schedule a.turn.place = u.begins.place in
      let is : c.turn.until ≡ a.turn.until + (turn_at schedule c.turn.place).1 = u.begins.until in
      let spent : e.parts.steps ≡ a.turn.until = u.spent.spent in
      let turn : get_or schedule c.turn.place (0, 0) ≡ turn_at schedule c.turn.place = turn_is schedule c.turn.place u.begins.turn.place in
      record {
        before = v;
        follows = (d.count, subst (λ (t : ℕ). AreFollowed d.count schedule p w (place_at t 0 0) v) (sym place) d.followed);
        goes = d.goes;
        picked = picked_at e.parts a.turn.context a.contexts schedule (place_at c.turn.place 0 0) numbers u.begins.among c.turn.context b.turn.ready.ready b.turn.ready.each refl u.begins.turn.place
            (u.begins.is_among ∙ ap (λ (t : ℕ × ℕ). t.0 % length numbers) (sym turn)) u.begins.below u.begins.context;
        world = ap (λ (m : MachineState). world_of m.parts c.turn.context c.contexts) u.machine ∙ u.begins.world e.parts;
        last = sym u.begins.before;
        inside = subst (λ (n : ℕ). a.turn.context < n) (sym (laid_length e.parts a.turn.context a.contexts)) b.turn.context;
        turn = u.begins.turn;
        until = omega (arith, is, spent);
        within = u.begins.budget ∙ b.within;
      }

  pub begun_all : (n : ℕ) (a c : InTurn) → Begun a → AreUsedUp n schedule numbers a c → Begun c
  begun_all zero a c b same = subst (λ (x : InTurn). Begun x) (sym same) b
  begun_all (suc n) a c b (d, (so_far, u)) = begun_next d c (begun_all n a d b so_far) u

  -- ---- the whole of them, from a turn that begins

  pub begun_first : (a : InTurn) → place_at a.turn.place 0 0 ≡ p → is_none w.ended ≡ true → IsPicked w schedule (place_at a.turn.place 0 0) a.turn.context
      → world_of a.machine.parts a.turn.context a.contexts ≡ taken_by_context a.turn.context w → w.last ≡ a.turn.before → w.last < length w.contexts → IsTurn schedule numbers a.contexts a.turn
      → a.turn.until ≡ w.steps + (turn_at schedule a.turn.place).1 → a.turn.budget ≡ budget → Begun a
  begun_first a from goes picked world last inside turn until within =
      record { before = w; follows = (0, (from, refl)); goes = goes; picked = picked; world = world; last = last; inside = inside; turn = turn; until = until; within = within }

  -- the machine has the registers of the context that is picked
  pub begun_here : (h b : WorldHeld) (m : MachineState) (n : ℕ) (items cs : List Context) (found : List ℕ) (k last until : ℕ) → h.world ≡ w → b ≡ record h { world = taken_by_context k h.world } → held_of m n items ≡ b
      → cs ≡ items → numbers ≡ found → AreReady items found → list_any has_monitor items ≡ false → n < length items → has_ended h ≡ false → p.used ≡ 0 → p.held ≡ 0 → p.turn < length schedule → IsSchedule schedule → IsPicked w schedule p k
      → last ≡ w.last → w.last < length w.contexts → until ≡ w.steps + (turn_at schedule p.turn).1 → until ≤ budget
      → Begun (record { machine = m; turn = record { place = p.turn; context = k; before = last; until = until; budget = budget }; contexts = cs })
  begun_here h b m n items cs found k last until same brought view list ready_list ready free within going used none placed turns picked is_last inside is_until most =
      let from : place_at p.turn 0 0 ≡ p = begins_at p used none in
      let own : n ≡ k = last_is m n items b view ∙ ap (λ (x : WorldHeld). x.world.last) brought in
      let there : world_of m.parts n items ≡ taken_by_context k w = world_is m n items b view ∙ ap (λ (x : WorldHeld). x.world) brought ∙ ap (λ (x : World). taken_by_context k x) same in
      let laid_here : world_of m.parts k cs ≡ taken_by_context k w =
      ap (λ (l : List Context). world_of m.parts k l) list ∙ ap (λ (i : ℕ). world_of m.parts i items) (sym own) ∙ there in
      begun_first (record { machine = m; turn = record { place = p.turn; context = k; before = last; until = until; budget = budget }; contexts = cs }) from
      (subst (λ (x : World). is_none x.ended ≡ true) same (unended h.world.ended h.failed going)) (subst (λ (x : SchedulePlace). IsPicked w schedule x k) (sym from) picked) laid_here (sym is_last) inside
      (record {
        turns = turns;
        place = placed;
        context = subst (λ (l : List Context). k < length l) (sym list) (subst (λ (i : ℕ). i < length items) own within);
        most = most;
        ready = subst (λ (l : List Context). AreReady l numbers) (sym list) (subst (λ (l : List ℕ). AreReady items l) (sym ready_list) ready);
        unwatched = ap (λ (l : List Context). list_any has_monitor l) list ∙ free;
      }) is_until refl

  abbrev left_by : InTurn → World
  left_by x = world_of x.machine.parts x.turn.context x.contexts

  -- the next step makes a call, in a turn that began behind the world `before`
  pub record IsStopped (x : InTurn) : Type 0 where
    pub before : World
    pub until : x.turn.until ≡ before.steps + (turn_at schedule x.turn.place).1
    pub last : before.last ≡ x.turn.before
    pub inside : x.turn.before < length (left_by x).contexts
    pub after : before.steps ≤ x.machine.parts.steps
    pub below : x.machine.parts.steps < x.turn.until
    pub still : x.machine.parts.steps ≡ before.steps → left_by x ≡ taken_by_context x.turn.context before
    pub from : FollowsOn schedule budget p w (place_at x.turn.place 0 0) before
    pub on : (used : ℕ) → (x.machine.parts.steps ≡ before.steps → ⊥) → used ≡ x.machine.parts.steps - before.steps → FollowsOn schedule budget p w (place_at x.turn.place used x.turn.context) (left_by x)

  stopped : (a : InTurn) (e : MachineState) → Begun a → AsksCall a.turn.until a.machine e → IsStopped (record { machine = e; turn = a.turn; contexts = a.contexts })
  stopped a e b s =
      let after = begun_after a b e s in
      let below = s.below in
      let most = begun_most a b in
      let long : length b.before.contexts ≡ length (laid e.parts a.turn.context a.contexts) =
      sym (ap (λ (x : World). length x.contexts) b.world) ∙ laid_length a.machine.parts a.turn.context a.contexts ∙ sym (laid_length e.parts a.turn.context a.contexts) in
      record {
        before = b.before;
        until = b.until;
        last = b.last;
        inside = subst (λ (n : ℕ). n < length (laid e.parts a.turn.context a.contexts)) b.last (subst (λ (n : ℕ). b.before.last < n) long b.inside);
        after = after;
        below = below;
        still = begun_still a b e s;
        from = begun_from a b (omega (arith, after, below, most));
        on = λ used apart_so is. begun_within a b e used s apart_so is;
      }

  module _ (a new : InTurn) (b : Begun a) where
    same : (progress : Progress) (d : AdvancesInTurns schedule numbers a new progress) → record { machine = new.machine; turn = d.at.turn; contexts = d.at.contexts } ≡ new
    same progress d =
        ap (λ (t : Turn). record { machine = new.machine; turn = t; contexts = d.at.contexts }) (sym d.turn)
        ∙ ap (λ (cs : List Context). record { machine = new.machine; turn = new.turn; contexts = cs }) (sym d.contexts)

    pub turns_end : AdvancesInTurns schedule numbers a new Trapped → FollowsToEnd schedule budget p w (left_by new)
    turns_end d = subst (λ (x : InTurn). FollowsToEnd schedule budget p w (left_by x)) (same Trapped d) (begun_ends d.at (begun_all d.count a d.at b d.used) new.machine d.advances)

    pub turns_over : AdvancesInTurns schedule numbers a new GoesOn → FollowsOn schedule budget p w (place_at (next_turn schedule new.turn.place) 0 0) (left_by new)
    turns_over d =
        subst (λ (x : InTurn). FollowsOn schedule budget p w (place_at (next_turn schedule x.turn.place) 0 0) (left_by x)) (same GoesOn d)
        (begun_whole d.at (begun_all d.count a d.at b d.used) new.machine d.advances)

    pub turns_stop : AdvancesInTurns schedule numbers a new AtCall → IsStopped new
    turns_stop d = subst (λ (x : InTurn). IsStopped x) (same AtCall d) (stopped d.at new.machine (begun_all d.count a d.at b d.used) d.advances)

  -- where a run that stops goes on
  module _ (x : InTurn) (s : IsStopped x) where
    pub stops_within : x.turn.place < length schedule → StopsWithin schedule x.turn (left_by x)
    stops_within placed = record { place = placed; before = s.inside; begun = let is = s.until in omega (arith, is); on = let is = s.until in let after = s.after in omega (arith, is, after) }

    -- the place that is answered, and the world that is left
    pub stops_at : (q : SchedulePlace) (h new : WorldHeld) → h.world ≡ left_by x → q.turn ≡ x.turn.place → q.used ≡ x.machine.parts.steps - (x.turn.until - (turn_at schedule x.turn.place).1)
        → q.held ≡ (if nat_eq q.used 0 then 0 else x.turn.context) → new ≡ (if nat_eq q.used 0 then record h { world = taken_by_context x.turn.before h.world } else h)
        → FollowsOn schedule budget p w q new.world
    stops_at q h new here turn used held left =
        let is = s.until in
        let after = s.after in
        let begun : q.used ≡ x.machine.parts.steps - s.before.steps = omega (arith, used, is) in
        elim (nat_eq q.used 0) as (λ (b : Bool). nat_eq q.used 0 ≡ b → FollowsOn schedule budget p w q new.world) [
          | true ↦ λ e.
              let none : q.used ≡ 0 = eqb-true q.used 0 e in
              let context : q.held ≡ 0 = held ∙ ap (λ (b : Bool). if b then 0 else x.turn.context) e in
              let there : place_at x.turn.place 0 0 ≡ q =
              ap (λ (n : ℕ). place_at n 0 0) (sym turn) ∙ ap (λ (n : ℕ). place_at q.turn n 0) (sym none) ∙ ap (λ (n : ℕ). place_at q.turn q.used n) (sym context) in
              let back : new.world ≡ s.before =
              ap (λ (y : WorldHeld). y.world) left ∙ ap (λ (b : Bool). (if b then record h { world = taken_by_context x.turn.before h.world } else h).world) e
              ∙ ap (λ (y : World). taken_by_context x.turn.before y) (here ∙ s.still (omega (arith, begun, none, after))) ∙ ap (λ (n : ℕ). taken_by_context n s.before) (sym s.last) in
              subst (λ (y : World). FollowsOn schedule budget p w q y) (sym back) (subst (λ (o : SchedulePlace). FollowsOn schedule budget p w o s.before) there s.from)
          | false ↦ λ e.
              let some = eqb-false q.used 0 e in
              let context : q.held ≡ x.turn.context = held ∙ ap (λ (b : Bool). if b then 0 else x.turn.context) e in
              let there : place_at x.turn.place q.used x.turn.context ≡ q = ap (λ (n : ℕ). place_at n q.used x.turn.context) (sym turn) ∙ ap (λ (n : ℕ). place_at q.turn q.used n) (sym context) in
              let same : new.world ≡ left_by x =
              ap (λ (y : WorldHeld). y.world) left ∙ ap (λ (b : Bool). (if b then record h { world = taken_by_context x.turn.before h.world } else h).world) e ∙ here in
              subst (λ (y : World). FollowsOn schedule budget p w q y) (sym same)
              (subst (λ (o : SchedulePlace). FollowsOn schedule budget p w o (left_by x)) there (s.on q.used (λ none. omega (arith, begun, none, some)) begun))
        ] refl
