-- Steps of the context whose registers a machine has, by those of the machine that make no call.
use Rattle.std.proofs.Common.{◌≡◌, ◌<◌, ◌≤◌, ℕ, zero, suc, ◌+◌, ◌%◌, Bool, true, false, ◌||◌, ◌&&◌, List, [], length, get_or, Option, Some, None, is_none, is_some, nat_eq, refl, sym, ap, subst, ◌∙◌, arith}
use Rattle.std.specs.List.{list_any}
use Rattle.std.specs.Prelude.{MatchBool, if◌then◌else◌}
use Rattle.a64_insn.specs.declared.form.A64Form.TheVariants.{Except}
use Rattle.a64_insn.specs.declared.ops.ExceptOp.TheVariants.{Svc}
use Rattle.emu_model.specs.declared.access.Access.{Access}
use Rattle.emu_model.specs.declared.access.Kind.TheVariants.{Fetch}
use Rattle.emu_model.specs.declared.trap.Ended.{Ended}
use Rattle.emu_model.specs.Access.{refused, value}
use Rattle.emu_model.specs.State.{Parts}
use Rattle.emu_run.specs.declared.insn.Insn.{Insn}
use Rattle.emu_run.specs.declared.insn.Insn.TheVariants.{A64}
use Rattle.emu_run.specs.Step.{accesses, decode, step_from}
use Rattle.emu_system.specs.SystemCall.{Stepped, quiet}
use Rattle.emu_machine.specs.Advances.{Advances, AreAlone, AsksCall, IsAlone, IsLastStep, IsSpent}
use Rattle.emu_machine.specs.declared.ends.Progress.{Progress}
use Rattle.emu_machine.specs.declared.ends.Progress.TheVariants.{GoesOn, AtCall, Trapped as HasTrapped}
use Rattle.emu_machine.specs.declared.ends.StepEnd.{StepEnd}
use Rattle.emu_machine.specs.declared.ends.StepEnd.TheVariants.{Going}
use Rattle.emu_machine.specs.Ends.{is_undone, step_end}
use Rattle.emu_machine.specs.Machines as machine
use Rattle.emu_machine.specs.Machines.{MachineState}
use Rattle.emu_machine.proofs.Advanced.{not_both}
use Rattle.guest_contexts.specs.Laid.{world_of}
use Rattle.guest_contexts.specs.Standings.{has_monitor}
use Rattle.guest_contexts.proofs.Laid.{joined_is, laid_length, noted_is, standing_is, stepped_is, unwatched}
use Rattle.emu_run.specs.declared.thread.Standing.TheVariants.{Ready}
use Rattle.emu_run.specs.Living.{IsLiving, stays_living}
use Rattle.emu_run.specs.ThreadCall.{action}
use Rattle.emu_run.specs.Threads.{WorldStepped, thread_call_done, is_svc, makes_call, one, quietly, stepped, stepped_alone, taken_apart, taken_by, with_world, with_input}
use Rattle.emu_run.specs.Worlds.{World, Context, context, is_standing_gone, parts_with, no_context, others_behind, taken_by_context, without_monitors}
use Rattle.guest_threads.specs.Ends.{WorldHeld, has_ended, Becomes, IsKept, PutsAlways, TakesWithin}
use Rattle.guest_threads.specs.Quiet.{AdvancesOn, AdvancesToEnd, AreQuiet, IsQuiet, TakesSteps, has_trapped}
use Rattle.guest_threads.specs.Steps.{noted}
use Rattle.guest_threads.proofs.Made.{unfailed_of}
use Rattle.guest_threads.proofs.Steps.{becomes_as, end_is_done, errors_as, one_alone, one_last, output_as, quiet_becomes, quiet_counted, quiet_errors, quiet_output, quiet_takes, takes_as}
use Rattle.guest_threads.proofs.Views.{held, laid_ready}

-- ---- whether a step makes a call

svc_same : (i : Option Insn) → is_svc i ≡ machine.is_svc i
svc_same (Some (A64 (Except Svc imm16))) = refl
svc_same i = refl

makes_same : (m : Parts) → makes_call m ≡ machine.makes_call m
makes_same m = ap (λ (b : Bool). nat_eq (m.core.pc % 4) 0 && is_none (refused m.memory m.core.pc 4 Fetch) && b) (svc_same (decode (value m.memory m.core.pc 4)))

-- ---- steps of a machine, as those of the context whose registers it has

module _ (last : ℕ) (cs : List Context) (within : last < length cs) (ready : (get_or cs last no_context).standing ≡ Ready) (free : list_any has_monitor cs ≡ false) where
  pub one_quiet : (p q : Parts) → machine.makes_call p ≡ false → ((input : List ℕ) → step_from p input ≡ quiet q input) → (input : List ℕ) → one (world_of p last cs) last input ≡ quietly (world_of q last cs) input
  one_quiet p q none turns input =
      let w : World = world_of p last cs in
      let same : parts_with w (context w last) ≡ p = joined_is p last cs within in
      let calls : false ≡ makes_call (parts_with w (context w last)) = sym (ap (λ (m : Parts). makes_call m) same ∙ makes_same p ∙ none) in
      let turned : step_from (parts_with w (context w last)) input ≡ quiet q input = ap (λ (m : Parts). step_from m input) same ∙ turns input in
      let made : List Access = accesses (parts_with w (context w last)) in
      let left : others_behind made last (world_of q last cs) ≡ world_of q last cs =
      sym (noted_is q last cs within made) ∙ ap (λ (l : List Context). world_of q last l) (unwatched made cs free) in
      one_alone w last false calls (λ (h : false ≡ true). cc) input
      ∙ ap (λ (t : Stepped). with_world (noted false w last) (taken_apart w last t)) turned
      ∙ ap (λ (v : World). quietly (noted false w last v) input) (sym (stepped_is p last cs within q (standing_is p last cs within ∙ ready)))
      ∙ ap (λ (v : World). quietly (taken_by_context last v) input) left

  quiet_step : (p q : Parts) → IsAlone p q → IsQuiet last (world_of p last cs) (world_of q last cs)
  quiet_step p q a = record {
    is = one_quiet p q a.calls a.turns;
    goes = a.goes;
    counted = a.counted;
    at = record { within = subst (λ (n : ℕ). last < n) (sym (laid_length q last cs)) within; ready = standing_is q last cs within ∙ ready };
  }

  pub alone_quiet : (n : ℕ) (p q : Parts) → AreAlone n p q → AreQuiet n last (world_of p last cs) (world_of q last cs)
  alone_quiet zero p q same = ap (λ (m : Parts). world_of m last cs) same
  alone_quiet (suc n) p q (r, (so_far, a)) = (world_of r last cs, (alone_quiet n p r so_far, quiet_step r q a))

module _ (until : ℕ) (s n : MachineState) (last : ℕ) (cs : List Context) (h : WorldHeld) (is : held s last cs ≡ h) (within : last < length cs) (ready : (context h.world h.world.last).standing ≡ Ready) (free : list_any has_monitor cs ≡ false) where
  own : (get_or cs last no_context).standing ≡ Ready
  own = sym (standing_is s.parts last cs within) ∙ laid_ready s last cs h is ready

  pub spent_on : IsSpent until s n → AdvancesOn until h.world (world_of n.parts last cs)
  spent_on d = subst (λ (x : WorldHeld). AdvancesOn until x.world (world_of n.parts last cs)) is (record {
    count = d.ahead.alone.0;
    quiet = alone_quiet last cs within own free d.ahead.alone.0 s.parts n.parts d.ahead.alone.1;
    most = let spent = d.spent in omega (arith, spent);
  })

  pub asks_on : AsksCall until s n → AdvancesOn until h.world (world_of n.parts last cs)
  asks_on d = subst (λ (x : WorldHeld). AdvancesOn until x.world (world_of n.parts last cs)) is (record {
    count = d.ahead.alone.0;
    quiet = alone_quiet last cs within own free d.ahead.alone.0 s.parts n.parts d.ahead.alone.1;
    most = let below = d.below in omega (arith, below);
  })

  pub last_ends : IsLastStep until s n → AdvancesToEnd until h.world (world_of n.parts last cs)
  last_ends d = subst (λ (x : WorldHeld). AdvancesToEnd until x.world (world_of n.parts last cs)) is (record {
    count = d.ahead.alone.0;
    at = world_of d.at last cs;
    quiet = alone_quiet last cs within own free d.ahead.alone.0 s.parts d.at d.ahead.alone.1;
    below = d.below;
    is = one_quiet last cs within own free d.at n.parts d.alone d.turns;
    ended = d.ended;
  })

  advances_by : (r : Progress) → Advances until s n r → MatchBool (has_trapped r) (AdvancesToEnd until h.world (world_of n.parts last cs)) (AdvancesOn until h.world (world_of n.parts last cs))
  advances_by GoesOn d = spent_on d
  advances_by HasTrapped d = last_ends d
  advances_by AtCall d = asks_on d

  pub advances : (r : Progress) (b : Bool) → b ≡ has_trapped r → Advances until s n r → MatchBool b (AdvancesToEnd until h.world (world_of n.parts last cs)) (AdvancesOn until h.world (world_of n.parts last cs))
  advances r b e d = subst (λ (x : Bool). MatchBool x (AdvancesToEnd until h.world (world_of n.parts last cs)) (AdvancesOn until h.world (world_of n.parts last cs))) (sym e) (advances_by r d)

pub none_on : (until : ℕ) (h : WorldHeld) → h.world.steps < until → AdvancesOn until h.world h.world
none_on until h below = record { count = 0; quiet = refl; most = omega (arith, below) }

-- ---- steps behind those that brought the context's registers into the machine

pub quiet_steps : (n k : ℕ) (w v : World) → AreQuiet n k w v → v.steps ≡ w.steps + n
quiet_steps zero k w v same = let e = ap (λ (x : World). x.steps) same in omega (arith, e)
quiet_steps (suc n) k w v (u, (so_far, s)) = let e = quiet_steps n k w u so_far in let c = s.counted in omega (arith, e, c)

-- a world behind them has a context that isn't gone
pub quiet_lives : (n k : ℕ) (w v : World) → AreQuiet n k w v → IsLiving w → IsLiving v
quiet_lives zero k w v same living = subst (λ (x : World). IsLiving x) (sym same) living
quiet_lives (suc n) k w v (u, (so_far, s)) living = λ _. stays_living v k s.at.within (ap is_standing_gone s.at.ready)

module _ (k : ℕ) (w : World) where
  pub from_brought : (n : ℕ) (v : World) → AreQuiet (suc n) k (taken_by_context k w) v → AreQuiet (suc n) k w v
  from_brought zero v (u, (same, s)) =
      let first : IsQuiet k (taken_by_context k w) v = subst (λ (x : World). IsQuiet k x v) same s in
      (w, (refl, record { is = λ input. sym (one_last w k input) ∙ first.is input; goes = first.goes; counted = first.counted; at = first.at }))
  from_brought (suc n) v (u, (so_far, s)) = (u, (from_brought n u so_far, s))

  -- the world before the last step
  pub before_last : (n : ℕ) (at v : World) → AreQuiet n k (taken_by_context k w) at → ((input : List ℕ) → one at k input ≡ quietly v input)
      → (x : World) × (AreQuiet n k w x × (((input : List ℕ) → one x k input ≡ quietly v input) × (x.steps ≡ at.steps)))
  before_last zero at v same is =
      (w, (refl, (λ input. sym (one_last w k input) ∙ subst (λ (x : World). one x k input ≡ quietly v input) same (is input), sym (ap (λ (x : World). x.steps) same))))
  before_last (suc n) at v quiet is = (at, (from_brought n at quiet, (is, refl)))

  going_end : (e : Option Ended) → is_none e ≡ true → Going ≡ step_end e
  going_end None goes = refl
  going_end (Some x) goes = cc

  module _ (until : ℕ) (v : World) (told ho eo : Option (List ℕ)) where
    -- the last one goes on
    pub takes_quiet : (n : ℕ) → AreQuiet n k (taken_by_context k w) v → v.steps ≤ until → (v.steps ≡ w.steps → ⊥) → TakesSteps k until w v Going told told ho ho eo eo
    takes_quiet zero same most apart_so = absurd (apart_so (ap (λ (x : World). x.steps) same))
    takes_quiet (suc n) quiet most apart_so =
        let r = from_brought n v quiet in
        let u : World = r.0 in
        let s : IsQuiet k u v = r.1.1 in
        let counted = s.counted in
        record {
          count = n;
          at = u;
          quiet = r.1.0;
          below = omega (arith, counted, most);
          state = quiet_becomes u v k s.is told false;
          input = quiet_takes u v k s.is told false refl;
          output = quiet_output u v k s.is ho false;
          errors = quiet_errors u v k s.is eo false;
          ends = λ _. going_end v.ended s.goes;
          counted = λ _. counted;
          kept = λ (h : false ≡ true). cc;
        }

    -- it ends the world
    pub takes_last : (end : StepEnd) → AdvancesToEnd until (taken_by_context k w) v → end ≡ step_end v.ended → TakesSteps k until w v end told told ho ho eo eo
    takes_last end d ends =
        let r = before_last d.count d.at v d.quiet d.is in
        let x : World = r.0 in
        let is : (input : List ℕ) → one x k input ≡ quietly v input = r.1.1.0 in
        let same : x.steps ≡ d.at.steps = r.1.1.1 in
        let below = d.below in
        let fine : is_undone end ≡ false = end_is_done end v.ended ends in
        record {
          count = d.count;
          at = x;
          quiet = r.1.0;
          below = omega (arith, below, same);
          state = quiet_becomes x v k is told (is_undone end);
          input = quiet_takes x v k is told (is_undone end) fine;
          output = quiet_output x v k is ho (is_undone end);
          errors = quiet_errors x v k is eo (is_undone end);
          ends = λ _. ends;
          counted = λ going. quiet_counted x v k is (sym going ∙ ends);
          kept = λ broken. not_both _ _ fine broken;
        }

  -- none was taken yet
  pub none_taken : (n : ℕ) (v : World) → AreQuiet n k (taken_by_context k w) v → v.steps ≡ w.steps → v ≡ taken_by_context k w
  none_taken zero v same steps = same
  none_taken (suc n) v quiet steps = let e = quiet_steps (suc n) k (taken_by_context k w) v quiet in absurd (omega (arith, e, steps))

  -- and so the first one is any step
  module _ (until : ℕ) (v q : World) (brought : v ≡ taken_by_context k w) (below : w.steps < until) (end : StepEnd) (told left ho hn eo en : Option (List ℕ)) where
    same_step : (bytes : List ℕ) → stepped (with_input v bytes) k ≡ stepped (with_input w bytes) k
    same_step bytes = ap (λ (x : World). stepped (with_input x bytes) k) brought ∙ ap (λ (t : WorldStepped). taken_by (with_input w bytes) t) (one_last w k bytes)

    pub takes_one : Becomes (λ st. stepped st k) v q told left (is_undone end) → TakesWithin (λ st. stepped st k) v told left (is_undone end)
        → PutsAlways (λ st. (stepped st k).output) v ho hn (is_undone end) → PutsAlways (λ st. (stepped st k).errors) v eo en (is_undone end)
        → (is_undone end ≡ false → end ≡ step_end q.ended) → (end ≡ Going → q.steps ≡ v.steps + 1) → (is_undone end ≡ true → IsKept v q k told left)
        → TakesSteps k until w q end told left ho hn eo en
    takes_one state input output errors ends counted kept = record {
      count = 0;
      at = w;
      quiet = refl;
      below = below;
      state = becomes_as (λ st. stepped st k) (λ st. stepped st k) v w q same_step told left (is_undone end) state;
      input = takes_as (λ st. stepped st k) (λ st. stepped st k) v w q same_step told left (is_undone end) input;
      output = output_as (λ st. stepped st k) (λ st. stepped st k) v w q same_step ho hn (is_undone end) output;
      errors = errors_as (λ st. stepped st k) (λ st. stepped st k) v w q same_step eo en (is_undone end) errors;
      ends = ends;
      counted = λ going. counted going ∙ ap (λ (x : World). x.steps + 1) brought;
      kept = λ broken.
          let so : IsKept (taken_by_context k w) q k told left = subst (λ (x : World). IsKept x q k told left) brought (kept broken) in
          record { is = so.is; stored = so.stored };
    }

pub goes_again : (h x : WorldHeld) (k : ℕ) → has_ended h ≡ false → x.world ≡ taken_by_context k h.world → x.failed ≡ false → has_ended x ≡ false
goes_again h x k going same fine =
    ap (λ (w : World). is_some w.ended || x.failed) same ∙ ap (λ (b : Bool). is_some h.world.ended || b) (fine ∙ sym (unfailed_of h going)) ∙ going

-- ---- what the two answers of the machine's steps say, from the world into whose machine the context was brought

module _ (h : WorldHeld) (k until : ℕ) (b x : WorldHeld) (r : Bool) (is : b ≡ record h { world = taken_by_context k h.world }) (came : MatchBool r (AdvancesToEnd until b.world x.world) (AdvancesOn until b.world x.world)) where
  pub ends_here : r ≡ true → AdvancesToEnd until (taken_by_context k h.world) x.world
  ends_here so =
      subst (λ (y : WorldHeld). AdvancesToEnd until y.world x.world) is
      (subst (λ (c : Bool). MatchBool c (AdvancesToEnd until b.world x.world) (AdvancesOn until b.world x.world)) so came)

  pub on_here : r ≡ false → AdvancesOn until (taken_by_context k h.world) x.world
  on_here no_end =
      subst (λ (y : WorldHeld). AdvancesOn until y.world x.world) is
      (subst (λ (c : Bool). MatchBool c (AdvancesToEnd until b.world x.world) (AdvancesOn until b.world x.world)) no_end came)

  module _ (before after : ℕ) (first : before ≡ b.world.steps) (second : after ≡ x.world.steps) where
    begun : b.world.steps ≡ h.world.steps
    begun = ap (λ (y : WorldHeld). y.world.steps) is

    pub apart_here : (after ≡ before → ⊥) → x.world.steps ≡ h.world.steps → ⊥
    apart_here other same = other (second ∙ same ∙ sym begun ∙ sym first)

    pub still_here : r ≡ false → after ≡ before → x.world ≡ taken_by_context k h.world
    still_here no_end same =
        let d = on_here no_end in
        none_taken k h.world d.count x.world d.quiet (sym second ∙ same ∙ first ∙ begun)

-- the context of the last step
one_is_last : (w : World) (k : ℕ) (input : List ℕ) → (one w k input).world.last ≡ k
one_is_last w k input =
    elim (makes_call (parts_with w (context w k))) as (λ b. (if b then with_world (λ v. taken_by_context k (without_monitors v)) (thread_call_done (action w k) w k input) else with_world (λ v. taken_by_context k (others_behind (accesses (parts_with w (context w k))) k v)) (stepped_alone w k input)).world.last ≡ k) [
      | true ↦ refl
      | false ↦ refl
    ]

quietly_last : (w v : World) (k : ℕ) → ((input : List ℕ) → one w k input ≡ quietly v input) → v.last ≡ k
quietly_last w v k is = sym (ap (λ (t : WorldStepped). t.world.last) (is [])) ∙ one_is_last w k []

pub quiet_last : (n k : ℕ) (w v : World) → AreQuiet n k w v → w.last ≡ k → v.last ≡ k
quiet_last zero k w v same last = ap (λ (x : World). x.last) same ∙ last
quiet_last (suc n) k w v (u, (so_far, s)) last = quietly_last u v k s.is

pub ends_last : (until : ℕ) (w v : World) → AdvancesToEnd until w v → v.last ≡ w.last
ends_last until w v d = quietly_last d.at v w.last d.is

pub ends_lives : (v : World) → is_none v.ended ≡ false → IsLiving v
ends_lives v ended = λ goes. not_both _ _ ended goes

pub some_lives : (n k : ℕ) (w v : World) → AreQuiet n k (taken_by_context k w) v → (v.steps ≡ w.steps → ⊥) → IsLiving v
some_lives zero k w v same apart_so = absurd (apart_so (ap (λ (x : World). x.steps) same))
some_lives (suc n) k w v (u, (so_far, s)) apart_so = λ _. stays_living v k s.at.within (ap is_standing_gone s.at.ready)
