-- A node is taken apart into the room of its frame. Assumes `Logic`.
use Rattle.std.proofs.Common.{[], ◌∷◌}
use seplogic.Ra.Ura.{Ura}
use base.Logic.{ent, apply∗}
use base.Fml.{froom}
use types.Logic.{Logic, sem}
use types.Kit.{‵, ◌$◌, ◌∵◌, !, qed, by, use1, fsplit}
use denote.RawPtr.{Ptr, block_ptr}
use Rattle.linked_list_allocator.specs.Ownership.{hole_type, hole_val, bytes_at, units_of}
use Rattle.frame_arena.specs.Size.{frame_size}
use Rattle.frame_arena.specs.Links.{Place, node}

pub dissolves : {M : Type 1} {𝓤 : Ura M} (𝓛 : Logic 𝓤) (f : Place) (next : Ptr) → ent 𝓤 (sem 𝓛 (node f next)) (sem 𝓛 (bytes_at (block_ptr f.0 f.1) frame_size))
dissolves {𝓤 = 𝓤} 𝓛 f next =
    qed 𝓛 (‵ (node f next) ∷ []) ∵ fsplit ! $
    use1 𝓛 (‵ (froom hole_type f.0 f.1)) (𝓛.laws.at_room hole_type f.0 f.1 (hole_val f.2 next)) $ by ! (apply∗ 𝓤 (𝓛.H.room hole_type f.0 f.1) (sem 𝓛 (froom (units_of frame_size) f.0 f.1)))
