-- Loads and stores that were done at once, by the addresses that their operations say.
use Rattle.std.proofs.Common.{◌≡◌, ℕ, ◌+◌, ◌*◌, ◌^◌, ℤ, List, Some, sym, ap, ◌∙◌, w32, FitsSigned, to_z, of_z}
use Rattle.std.proofs.lemmas.Int.{to_z-of_z}
use Rattle.emu_model.specs.declared.access.Access.{Access}
use Rattle.emu_model.specs.declared.trap.Effect.TheVariants.{Next}
use Rattle.emu_model.specs.Access.{Memory, address}
use Rattle.emu_model.specs.State.{Core, Vectors, read_x_sp, with_x_sp}
use Rattle.a64_effects.specs.Flow.{moved_address}
use Rattle.a64_effects.specs.LoadStore.{transferred_by, unchanged, written_back}
use Rattle.a64_effects.specs.declared.transfer.Transfer.{Transfer}
use Rattle.a64_flow.specs.AtOnce.{IsDone, general, general_index, general_offset, general_post, general_pre}
use Rattle.a64_flow.specs.Ends.{done_with}

-- so many bytes from a base, that were passed on
pub by_as : (a base : ℕ) (by : ℤ) → FitsSigned w32 by → a ≡ moved_address base (to_z w32 (of_z w32 by)) → a ≡ moved_address base by
by_as a base by fits is = is ∙ ap (λ z. moved_address base z) (to_z-of_z w32 by fits)

module _ (t : Transfer) (rs : List ℕ) (base n : ℕ) (c d : Core) (m left : Memory) (l : List Access) where
  -- registers were loaded or stored at an address, whatever comes after it
  abbrev HasMoved : ℕ → Type 0
  HasMoved a = (w : Vectors) (after : Core → Core) → transferred_by (general t rs base a n after) c w m ≡ done_with after d w left l

  pub offset_done : (by : ℤ) (a : ℕ) → a ≡ moved_address (read_x_sp c base) by → HasMoved a → IsDone (general_offset t rs base by n) (Some Next) c d m left l
  offset_done by a is h = λ w. ap (λ x. transferred_by (general t rs base x n unchanged) c w m) (sym is) ∙ h w unchanged

  pub index_done : (index k a : ℕ) → a ≡ address (read_x_sp c base + index * 2 ^ k) → HasMoved a → IsDone (general_index t rs base index k n) (Some Next) c d m left l
  index_done index k a is h = λ w. ap (λ x. transferred_by (general t rs base x n unchanged) c w m) (sym is) ∙ h w unchanged

  -- the base is another address after it
  module _ (by : ℤ) (there : ℕ) (is : there ≡ moved_address (read_x_sp c base) by) (e : Core) (back : e ≡ with_x_sp d base 64 there) where
    abbrev after : Core → Core
    after = written_back base (moved_address (read_x_sp c base) by)

    with_base : (w : Vectors) → done_with after d w left l ≡ record { core = e; vectors = w; memory = left; accesses = l; effect = Next }
    with_base w =
        ap (λ (x : Core). record { core = x; vectors = w; memory = left; accesses = l; effect = Next }) (ap (λ a. with_x_sp d base 64 a) (sym is) ∙ sym back)

    pub post_done : (a : ℕ) → a ≡ read_x_sp c base → HasMoved a → IsDone (general_post t rs base by n) (Some Next) c e m left l
    post_done a here h = λ w. ap (λ x. transferred_by (general t rs base x n after) c w m) (sym here) ∙ h w after ∙ with_base w

    pub pre_done : HasMoved there → IsDone (general_pre t rs base by n) (Some Next) c e m left l
    pre_done h = λ w. ap (λ x. transferred_by (general t rs base x n after) c w m) (sym is) ∙ h w after ∙ with_base w
