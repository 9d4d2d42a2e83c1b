use Rattle.std.proofs.Common.{◌≡◌, ◌<◌, ◌%◌, ℕ, List, length, get_or, ap, sym, subst, ◌∙◌}
use Rattle.emu_run.specs.Worlds.{World, some_ready}
use Rattle.guest_threads.specs.Ends.{IsPicked}
use Rattle.guest_threads.proofs.Picked.{picked_none, picked_at}
use Rattle.guest_threads.proofs.Views.{world_is}
use Rattle.guest_threads.proofs.held.Held.pick.Goals as goal

pub returns-in_default : goal.returns-in_default
returns-in_default c =
    ap (λ (w : World). some_ready w) (sym (world_is c.self.inside.machine c.self.inside.last c.self.inside.contexts.items c.args.self.now c.self.view_is))
    ∙ picked_none c.self.inside.machine.parts c.self.inside.last c.self.inside.contexts.items c.self.inside.numbers.items c.self.invariant.ready.some.0
    (sym c.len-count.ensures.value ∙ c.in_default.ensures)

pub returns : goal.returns
returns c =
    let numbers : List ℕ = c.self.inside.numbers.items in
    let long : c.len-count.result ≡ length numbers = c.len-count.ensures.value in
    let first : ℕ = (get_or c.args.turns.now c.args.place.now.turn (0, 0)).0 in
    let at : ℕ = c.in-Some.at in
    let is : at ≡ first % c.len-count.result = c.in-Some.ensures.1 in
    let below : at < length numbers = subst (λ (n : ℕ). at < n) long c.in-Some.ensures.0 in
    let picked : IsPicked _ c.args.turns.now c.args.place.now (get_or c.deref.result.now at 0) =
    picked_at c.self.inside.machine.parts c.self.inside.last c.self.inside.contexts.items c.args.turns.now c.args.place.now numbers at (get_or c.deref.result.now at 0)
    c.self.invariant.ready.ready c.self.invariant.ready.each c.if-place-ne0.false c.requires.turn (is ∙ ap (λ (n : ℕ). first % n) long) below
    (ap (λ (l : List ℕ). get_or l at 0) c.deref.ensures.0) in
    subst (λ (w : World). IsPicked w c.args.turns.now c.args.place.now (get_or c.deref.result.now at 0)) (world_is c.self.inside.machine c.self.inside.last c.self.inside.contexts.items c.args.self.now c.self.view_is) picked
