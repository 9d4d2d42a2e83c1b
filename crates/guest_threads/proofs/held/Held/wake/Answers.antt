use Rattle.std.proofs.Common.{◌≡◌, List, length, ap, refl, sym, ◌∙◌}
use Rattle.std.specs.Vec.{with_items}
use Rattle.std.proofs.lemmas.List.{with_items_is}
use Rattle.emu_run.specs.Worlds.{World, Context, with_woken, woken, wake_count}
use Rattle.guest_contexts.specs.Laid.{world_of}
use Rattle.guest_contexts.proofs.Laid.{woken_is, wake_count_same}
use Rattle.emu_run.specs.Living.{woken_length}
use Rattle.guest_threads.proofs.Views.{held_as, world_is}
use Rattle.guest_threads.proofs.held.Held.wake.Goals as goal

pub returns-clause-world : goal.returns-clause-world
returns-clause-world c =
    let new : c.wake-count.new.contexts ≡ woken c.args.address c.args.most c.self.inside.contexts.items =
    c.wake-count.ensures.contexts ∙ ap (λ (x : List Context). woken c.args.address c.args.most x) c.deref_mut.ensures.value in
    let long : length c.wake-count.new.contexts ≡ c.self.inside.contexts.len = ap (λ (x : List Context). length x) new ∙ woken_length c.args.address c.args.most c.self.inside.contexts.items ∙ sym c.self.inside.contexts.ok.0 in
    held_as c.self.inside.machine c.self.inside.last c.self.inside.contexts.items c.args.self.now c.self.view_is c.self.inside.machine c.self.inside.last (with_items c.self.inside.contexts c.wake-count.new.contexts).items (λ (w : World). with_woken w c.args.address c.args.most)
    refl
    (ap (λ (x : List Context). world_of c.self.inside.machine.parts c.self.inside.last x) (with_items_is c.self.inside.contexts c.wake-count.new.contexts long ∙ new)
    ∙ woken_is c.args.address c.self.inside.machine.parts c.args.most c.self.inside.last c.self.inside.contexts.items)

pub returns-clause-count : goal.returns-clause-count
returns-clause-count c =
    c.wake-count.ensures.count ∙ ap (λ (x : List Context). wake_count c.args.address c.args.most x) c.deref_mut.ensures.value
    ∙ sym (wake_count_same c.args.address c.args.most c.self.inside.machine.parts c.self.inside.last c.self.inside.contexts.items)
    ∙ ap (λ (w : World). wake_count c.args.address c.args.most w.contexts) (world_is c.self.inside.machine c.self.inside.last c.self.inside.contexts.items c.args.self.now c.self.view_is)
