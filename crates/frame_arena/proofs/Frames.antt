-- The laws of the bytes of a frame as a type. Assumes `Logic`.
use Rattle.std.proofs.Common.{[]}
use seplogic.Ra.Ura.{Ura}
use types.Logic.{Logic}
use denote.RattleType.{RowLaws}
use denote.Laws.{Lawful}
use denote.Array.{Array-Lawful}
use denote.Builtin.{u8}
use denote.Plain.{uint_Lawful}
use denote.Shares.{Shares}
use denote.Param.Shared.{copy_shared}
use denote.Struct.Field.{Field, array_field, u8-field}
use denote.Struct.Laws.{Copyable, array_copy, u8-copy}
use mir.Syntax.{w8}
use Rattle.frame_arena.specs.Size.{frame_size}
use Rattle.frame_arena.specs.Links.{Frame}

abbrev frame_field : Field
frame_field = array_field u8-field frame_size

frame_copy : Copyable frame_field
frame_copy = array_copy u8-field u8-copy frame_size

pub frame_laws : RowLaws Frame
frame_laws = frame_copy.shr_laws

pub frame_shares : {M : Type 1} {𝓤 : Ura M} (𝓛 : Logic 𝓤) → Shares 𝓛 Frame []
frame_shares {M} {𝓤} 𝓛 = (copy_shared frame_field frame_copy).shares M 𝓤 𝓛

pub frame_Lawful : {M : Type 1} {𝓤 : Ura M} (𝓛 : Logic 𝓤) → Lawful 𝓛 Frame
frame_Lawful 𝓛 = Array-Lawful 𝓛 u8 (uint_Lawful 𝓛 w8) frame_size
