use Rattle.std.proofs.Common.{◌≡◌, List, None, map, length, ap, refl, subst, false, sym, ◌∙◌}
use Rattle.std.specs.Vec.{with_items}
use Rattle.std.proofs.lemmas.List.{length-map, with_items_is}
use Rattle.emu_machine.specs.Machines.{MachineState}
use Rattle.emu_run.specs.Worlds.{World, Context, with_monitor, without_monitors}
use Rattle.guest_contexts.specs.Laid.{world_of}
use Rattle.guest_contexts.proofs.Laid.{emptied_is}
use Rattle.guest_threads.specs.Ends.{IsInside}
use Rattle.guest_threads.proofs.Inside.{inside_mapped}
use Rattle.guest_threads.proofs.Views.{held_as}
use Rattle.guest_threads.proofs.held.Held.empty_monitors.Goals as goal

pub returns : goal.returns
returns c =
    let new : c.empty_monitors.new.contexts ≡ map (with_monitor None) c.self.inside.contexts.items =
    c.empty_monitors.ensures ∙ ap (λ (x : List Context). map (with_monitor None) x) c.deref_mut.ensures.value in
    let long : length c.empty_monitors.new.contexts ≡ c.self.inside.contexts.len = ap (λ (x : List Context). length x) new ∙ length-map c.self.inside.contexts.items (with_monitor None) ∙ sym c.self.inside.contexts.ok.0 in
    let items : List Context = (with_items c.self.inside.contexts c.empty_monitors.new.contexts).items in
    held_as c.self.inside.machine c.self.inside.last c.self.inside.contexts.items c.args.self.now c.self.view_is c.clear_monitor.new.self c.self.inside.last items (λ (w : World). without_monitors w)
    (ap (λ (x : MachineState). x.failed) c.clear_monitor.ensures)
    (ap (λ (x : MachineState). world_of x.parts c.self.inside.last items) c.clear_monitor.ensures
    ∙ ap (λ (x : List Context). world_of (record c.self.inside.machine.parts { core = record c.self.inside.machine.parts.core { monitor = None } }) c.self.inside.last x) (with_items_is c.self.inside.contexts c.empty_monitors.new.contexts long ∙ new)
    ∙ emptied_is c.self.inside.machine.parts c.self.inside.last c.self.inside.contexts.items c.self.invariant.last)

pub invariant_of-self : goal.invariant_of-self
invariant_of-self c =
    let i = c.self.inside in
    let new : c.empty_monitors.new.contexts ≡ map (with_monitor None) i.contexts.items = c.empty_monitors.ensures ∙ ap (λ (x : List Context). map (with_monitor None) x) c.deref_mut.ensures.value in
    let long : length c.empty_monitors.new.contexts ≡ i.contexts.len = ap (λ (x : List Context). length x) new ∙ length-map i.contexts.items (with_monitor None) ∙ sym i.contexts.ok.0 in
    subst (λ (x : List Context). IsInside i.last x i.contexts.cap (length i.spares.items) i.numbers.items false) (sym (with_items_is i.contexts c.empty_monitors.new.contexts long ∙ new))
    (inside_mapped i.contexts.cap (length i.spares.items) i.numbers.items (with_monitor None) (λ (x : Context). refl) i.last i.contexts.items i.unwatched c.self.invariant)
