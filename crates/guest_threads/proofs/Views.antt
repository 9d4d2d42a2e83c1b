-- A world that is held, as it is seen: changes of its machine and of its contexts.
use Rattle.std.proofs.Common.{◌≡◌, ◌<◌, ℕ, Bool, List, length, get_or, sym, ap, subst, ◌∙◌}
use Rattle.emu_machine.specs.Machines.{MachineState}
use Rattle.emu_run.specs.declared.thread.Standing.TheVariants.{Ready}
use Rattle.emu_run.specs.Worlds.{World, Context, context, no_context}
use Rattle.guest_contexts.specs.Laid.{with_machine, world_of}
use Rattle.guest_contexts.proofs.Laid.{joined_is, own_is, laid_length}
use Rattle.guest_threads.specs.Ends.{WorldHeld, last_machine}

abbrev pub held : MachineState → ℕ → List Context → WorldHeld
held s last cs = record { world = world_of s.parts last cs; failed = s.failed }

module _ (s : MachineState) (last : ℕ) (cs : List Context) (h : WorldHeld) (is : held s last cs ≡ h) where
  -- what is made of the world that is laid is made of the one that is seen
  pub held_as : (n : MachineState) (l : ℕ) (ds : List Context) (made : World → World) → n.failed ≡ s.failed → world_of n.parts l ds ≡ made (world_of s.parts last cs)
      → held n l ds ≡ record h { world = made h.world }
  held_as n l ds made f e =
      ap (λ (w : World). record { world = w; failed = n.failed }) e
      ∙ ap (λ (b : Bool). record { world = made (world_of s.parts last cs); failed = b }) f
      ∙ ap (λ (x : WorldHeld). record x { world = made x.world }) is

  pub world_is : world_of s.parts last cs ≡ h.world
  world_is = ap (λ (x : WorldHeld). x.world) is

  pub last_is : last ≡ h.world.last
  last_is = ap (λ (x : WorldHeld). x.world.last) is

  -- a fact of the context that the machine has
  pub laid_ready : (context h.world h.world.last).standing ≡ Ready → (context (world_of s.parts last cs) last).standing ≡ Ready
  laid_ready r = ap (λ (x : WorldHeld). (context x.world x.world.last).standing) is ∙ r

module _ (s : MachineState) (last : ℕ) (cs : List Context) (h : WorldHeld) (is : held s last cs ≡ h) (within : last < length cs) where
  -- the context whose registers the machine has
  pub own_seen : context h.world h.world.last ≡ with_machine (get_or cs last no_context) s.parts
  own_seen = ap (λ (x : WorldHeld). context x.world x.world.last) (sym is) ∙ own_is s.parts last cs within

  pub machine_seen : s.parts ≡ last_machine h.world
  machine_seen = sym (joined_is s.parts last cs within) ∙ ap (λ (x : WorldHeld). last_machine x.world) is

  pub core_seen : (context h.world h.world.last).core ≡ s.parts.core
  core_seen = ap (λ (c : Context). c.core) own_seen

  pub clear_seen : (context h.world h.world.last).clear ≡ (get_or cs last no_context).clear
  clear_seen = ap (λ (c : Context). c.clear) own_seen

  pub length_seen : length h.world.contexts ≡ length cs
  length_seen = ap (λ (x : WorldHeld). length x.world.contexts) (sym is) ∙ laid_length s.parts last cs

  pub within_seen : h.world.last < length h.world.contexts
  within_seen = subst (λ (x : WorldHeld). x.world.last < length x.world.contexts) is (subst (λ (n : ℕ). last < n) (sym (laid_length s.parts last cs)) within)
