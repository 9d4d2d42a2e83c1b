-- Loads and stores as one step keep the registers and the memory sound.
use Rattle.std.specs.Prelude.{ℕ, Option, Some, None, IfSome}
use Rattle.emu_model.specs.declared.access.Kind.TheVariants.{Read as ReadKind, Write as WriteKind}
use Rattle.emu_model.specs.declared.trap.TrapKind.TheVariants.{Read, Write}
use Rattle.emu_model.specs.Access.{Memory, refused, value}
use Rattle.emu_model.specs.Done.{Done}
use Rattle.emu_model.specs.Sound.{stored_sound, refused_is_word}
use Rattle.emu_model.specs.SoundDone.{IsSoundDone, traps_sound}
use Rattle.emu_model.specs.State.{Core, Vectors}
use Rattle.emu_model.specs.SoundState.{IsWord, IsSoundCore, IsSoundVectors, IsSoundMemory}
use Rattle.a64_effects.specs.Atomic.{exchanged, unless_refused, one_step}

module _ (c : Core) (v : Vectors) (m : Memory) (s : IsSoundCore c) (y : IsSoundVectors v) (t : IsSoundMemory m) where
  exchanged_sound : (a n : ℕ) (new : Option ℕ) (d : Core) → IsSoundCore d → IsSoundDone (exchanged a n new d v m)
  exchanged_sound a n None d u = record { core = u; vectors = y; memory = t; effect = tt }
  exchanged_sound a n (Some x) d u = record { core = u; vectors = y; memory = stored_sound m a n x t; effect = tt }

  unless_sound : (read written : Option ℕ) (d : Done) → IfSome read IsWord → IfSome written IsWord → IsSoundDone d → IsSoundDone (unless_refused read written c v m d)
  unless_sound (Some a) written d r w h = traps_sound c v m Read a s y t r
  unless_sound None (Some a) d r w h = traps_sound c v m Write a s y t w
  unless_sound None None d r w h = h

  pub one_step_sound : (a n : ℕ) (new : ℕ → Option ℕ) (after : ℕ → Core) → ((o : ℕ) → IsSoundCore (after o)) → IsSoundDone (one_step a n new after c v m)
  one_step_sound a n new after keeps =
      let o : ℕ = value m a n in
      unless_sound (refused m a n ReadKind) (refused m a n WriteKind) (exchanged a n (new o) (after o) v m) (refused_is_word m a n ReadKind) (refused_is_word m a n WriteKind)
      (exchanged_sound a n (new o) (after o) (keeps o))
