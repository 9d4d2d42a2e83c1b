-- A machine whose last step is taken again stands where it stood.
use Rattle.std.proofs.Common.{◌≡◌, ◌<◌, ◌^◌, ℕ, ◌-◌, Bool, true, false, List, is_none, nat_le, if◌then◌else◌, sym, ap, subst, ◌∙◌, arith}
use Rattle.std.proofs.lemmas.Bool.Decides.{nat_tests}
use Rattle.emu_model.specs.State.{Parts, State}
use Rattle.emu_run.specs.Run.{goes_on, until_end}
use Rattle.emu_machine.specs.Machines.{MachineState, has_ended}
use Rattle.dbg_core.proofs.Obeying.{going_by}
use Rattle.dbg_model.specs.Session.{Course, walked}
use Rattle.dbg_back.specs.declared.trail.Trail.{Trail}
use Rattle.dbg_back.specs.Walks.{IsWalk}
use Rattle.dbg_back.proofs.Marking.{on_counted}
use Rattle.debug_walk.specs.Walks.{at_step, back_at}
use Rattle.debug_walk.proofs.Backing.{at_back, placed, placed_back, placed_on}
use Rattle.debug_walk.proofs.Counting.{IsEarlier, walk_earlier}

module _ (start : State) (input : List ℕ) (c : Course) (m : MachineState) (t : Trail) (w : IsWalk start input c m t) (here : ℕ) (is : here ≡ m.parts.steps) (some : 0 < here) (fits : here < 2 ^ 64) (running : has_ended m ≡ false) where
  counted : c.state.parts.steps ≡ here
  counted = ap (λ (p : Parts). p.steps) (sym w.here.parts) ∙ sym is

  goes : goes_on c.state ≡ true
  goes = ap (λ (p : Parts). is_none p.ended) (sym w.here.parts) ∙ going_by m running

  earlier : IsEarlier start (here - 1)
  earlier = let same = counted in walk_earlier start input c m t w (here - 1) (omega (arith, same, some, fits))

  here_parts : (until_end start here).parts ≡ c.state.parts
  here_parts = ap (λ (k : ℕ). (until_end start k).parts) (sym counted) ∙ sym (on_counted start c.state w.on goes w.none).0

  module _ (n : MachineState) (v : Trail) where
    -- one step back
    pub is_before : IsWalk start input (at_step start (here - 1) c) n v → IsWalk start input (placed start (here - 1) c) n v
    is_before there = let same = counted in subst (λ (d : Course). IsWalk start input d n v) (at_back start c (here - 1) (omega (arith, same))) there

    -- and on again
    pub is_here : IsWalk start input (at_step start here (placed start (here - 1) c)) n v → IsWalk start input (placed start here c) n v
    is_here there =
        let d : Course = placed start (here - 1) c in
        let one = earlier.counted in
        let same = counted in
        let above : nat_le here d.state.parts.steps ≡ false = grind (arith, nat_tests, one, some) in
        subst (λ (e : Course). IsWalk start input e n v)
        (ap (λ (b : Bool). if b then back_at start here d else walked d (here - d.state.parts.steps)) above ∙ placed_on start c (here - 1) here one (omega arith) (omega (arith, same)) w.below) there

    -- and back again
    pub is_before_again : IsWalk start input (at_step start (here - 1) (placed start here c)) n v → IsWalk start input (placed start (here - 1) c) n v
    is_before_again there =
        let same = counted in
        let steps = ap (λ (p : Parts). p.steps) here_parts in
        subst (λ (d : Course). IsWalk start input d n v) (placed_back start c here (here - 1) (omega (arith, same, steps))) there

    pub stands_there : IsWalk start input (placed start here c) n v → n.parts ≡ m.parts
    stands_there there = there.here.parts ∙ here_parts ∙ sym w.here.parts
