use Rattle.std.proofs.Common.{◌≡◌, List, get_or, set, length, ap, refl, sym, ◌∙◌}
use Rattle.std.specs.Vec.{with_items}
use Rattle.std.proofs.lemmas.List.{length-set, with_items_is}
use Rattle.emu_run.specs.Worlds.{World, Context, context, no_context, with_context}
use Rattle.guest_contexts.specs.Laid.{world_of}
use Rattle.guest_contexts.proofs.Laid.{clears_is}
use Rattle.guest_threads.proofs.Views.{held_as}
use Rattle.guest_threads.proofs.held.Held.set_clear.Goals as goal

pub returns : goal.returns
returns c =
    let changed : Context = record (get_or c.self.inside.contexts.items c.self.inside.last no_context) { clear = c.args.address } in
    let new : c.set_clear.new.contexts ≡ set c.self.inside.contexts.items c.self.inside.last changed =
    c.set_clear.ensures ∙ ap (λ (x : List Context). set x c.self.inside.last (record (get_or x c.self.inside.last no_context) { clear = c.args.address })) c.deref_mut.ensures.value in
    let long : length c.set_clear.new.contexts ≡ c.self.inside.contexts.len = ap (λ (x : List Context). length x) new ∙ length-set c.self.inside.contexts.items c.self.inside.last changed ∙ sym c.self.inside.contexts.ok.0 in
    held_as c.self.inside.machine c.self.inside.last c.self.inside.contexts.items c.args.self.now c.self.view_is c.self.inside.machine c.self.inside.last (with_items c.self.inside.contexts c.set_clear.new.contexts).items (λ (w : World). with_context w w.last (record (context w w.last) { clear = c.args.address }))
    refl
    (ap (λ (x : List Context). world_of c.self.inside.machine.parts c.self.inside.last x) (with_items_is c.self.inside.contexts c.set_clear.new.contexts long ∙ new)
    ∙ clears_is c.self.inside.machine.parts c.self.inside.last c.self.inside.contexts.items c.self.invariant.last c.args.address)
