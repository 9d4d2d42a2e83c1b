use Rattle.std.proofs.Common.{◌≡◌, ◌<◌, ℕ, Bool, List, get_or, is_some, length, sym, ap, subst, ◌∙◌}
use Rattle.std.proofs.lemmas.List.{with_items_is}
use Rattle.emu_model.specs.State.{Core, Parts}
use Rattle.emu_machine.specs.Machines.{MachineState}
use Rattle.emu_run.specs.Worlds.{World, Context, no_context, taken_by_context}
use Rattle.guest_contexts.specs.Laid.{laid, world_of}
use Rattle.guest_contexts.proofs.Laid.{brought, laid_length, loaded, within_list}
use Rattle.guest_threads.specs.Ends.{IsInside, WorldHeld}
use Rattle.guest_threads.proofs.Inside.{inside_brought}
use Rattle.guest_threads.proofs.held.Held.bring.Goals as goal

module _ (m m1 : Parts) (last k : ℕ) (cs cs1 cs2 seen : List Context) where
  -- registers that went back to the context of the last step, and came from that of context k, leave as many contexts
  long : cs1 ≡ laid m last seen → seen ≡ cs → cs2 ≡ laid m1 k cs1 → length cs2 ≡ length cs
  long back is come =
      ap (λ (l : List Context). length l) come ∙ laid_length m1 k cs1 ∙ ap (λ (l : List Context). length l) back ∙ laid_length m last seen ∙ ap (λ (l : List Context). length l) is

within : (m : Parts) (last k : ℕ) (cs : List Context) (failed : Bool) (h : WorldHeld) → record { world = world_of m last cs; failed = failed } ≡ h → k < length h.world.contexts → k < length cs
within m last k cs failed h is below = within_list m last k cs (subst (λ (x : WorldHeld). k < length x.world.contexts) (sym is) below)

pub returns-then-k-last : goal.returns-then-k-last
returns-then-k-last c =
    let i = c.self.inside in
    let m = i.machine in
    let e = c.exchange.ensures in
    let f = c.exchange-then-k-last.ensures in
    let seen = c.deref_mut.ensures.value in
    let after = c.exchange-then-k-last.new in
    let old : World = world_of m.parts i.last i.contexts.items in
    let same = brought m.parts i.last c.args.k i.contexts.items (within m.parts i.last c.args.k i.contexts.items m.failed c.args.self.now c.self.view_is c.requires)
    c.exchange.new.self.parts after.self.parts c.exchange.new.contexts after.contexts
    (ap (λ (s : MachineState). s.parts) e.machine ∙ ap (λ (l : List Context). loaded m.parts (get_or l i.last no_context)) seen)
    (e.contexts ∙ ap (λ (l : List Context). laid m.parts i.last l) seen) (ap (λ (s : MachineState). s.parts) f.machine) f.contexts in
    ap (λ (l : List Context). record { world = world_of after.self.parts c.args.k l; failed = after.self.failed })
    (with_items_is i.contexts after.contexts (long m.parts c.exchange.new.self.parts i.last c.args.k i.contexts.items c.exchange.new.contexts after.contexts c.deref_mut.result.now e.contexts seen f.contexts ∙ sym i.contexts.ok.0))
    ∙ ap (λ (x : World). record { world = x; failed = after.self.failed }) same
    ∙ ap (λ (b : Bool). record { world = taken_by_context c.args.k old; failed = b }) (ap (λ (s : MachineState). s.failed) f.machine ∙ ap (λ (s : MachineState). s.failed) e.machine)
    ∙ ap (λ (h : WorldHeld). record { world = taken_by_context c.args.k h.world; failed = h.failed }) c.self.view_is

pub invariant_of-self : goal.invariant_of-self
invariant_of-self c =
    let i = c.self.inside in
    let m = i.machine in
    let e = c.exchange.ensures in
    let f = c.exchange-then-k-last.ensures in
    let seen = c.deref_mut.ensures.value in
    let after = c.exchange-then-k-last.new in
    subst (λ (l : List Context). IsInside c.args.k l i.contexts.cap (length i.spares.items) i.numbers.items c.stays_unwatched-unwatched.result)
    (sym (with_items_is i.contexts after.contexts (long m.parts c.exchange.new.self.parts i.last c.args.k i.contexts.items c.exchange.new.contexts after.contexts c.deref_mut.result.now e.contexts seen f.contexts ∙ sym i.contexts.ok.0)))
    (inside_brought i.contexts.cap (length i.spares.items) i.numbers.items m.parts c.exchange.new.self.parts i.last c.args.k i.contexts.items c.exchange.new.contexts after.contexts
    i.unwatched c.stays_unwatched-unwatched.result c.self.invariant (within m.parts i.last c.args.k i.contexts.items m.failed c.args.self.now c.self.view_is c.requires)
    (λ h. let known = c.stays_unwatched-unwatched.ensures h in (known.0, ap (λ (x : Core). is_some x.monitor) (sym c.core.ensures) ∙ known.1))
    (ap (λ (s : MachineState). s.parts) e.machine ∙ ap (λ (l : List Context). loaded m.parts (get_or l i.last no_context)) seen)
    (e.contexts ∙ ap (λ (l : List Context). laid m.parts i.last l) seen) f.contexts)
