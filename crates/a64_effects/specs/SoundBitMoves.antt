-- Bit moves leave sound registers.
use Rattle.std.specs.Prelude.{ℕ, Bool, if◌then◌else◌}
use Rattle.std.proofs.Common.{arith}
use Rattle.a64_insn.specs.declared.ops.FMoveOp.{FMoveOp}
use Rattle.a64_insn.specs.declared.ops.FMoveOp.TheVariants.{WdSn, SdWn, XdDn, DdXn}
use Rattle.emu_bits.specs.Bitmask.{repeated}
use Rattle.emu_model.specs.Done.{leaves}
use Rattle.emu_model.specs.Sound.{with_x_sound}
use Rattle.emu_model.specs.SoundDone.{IsSoundRegisters}
use Rattle.emu_model.specs.State.{Core, Vectors, read_x}
use Rattle.emu_model.specs.SoundState.{IsSoundCore, IsSoundVectors}
use Rattle.emu_model.specs.Lanes.{lane, read_z}
use Rattle.emu_model.specs.SoundLanes.{sound_low}
use Rattle.a64_effects.specs.BitMoves.{after_fmov, with_immediate}

module _ (c : Core) (v : Vectors) (s : IsSoundCore c) (u : IsSoundVectors v) where
  pub copied_sound : (op : FMoveOp) (rn rd : ℕ) → IsSoundRegisters (after_fmov op rn rd c v)
  copied_sound WdSn rn rd = record { core = with_x_sound c rd 32 (lane 32 (read_z v rn) 0) (omega arith) s; vectors = u }
  copied_sound SdWn rn rd = record { core = s; vectors = sound_low 32 (read_x c rn) rd v u }
  copied_sound XdDn rn rd = record { core = with_x_sound c rd 64 (lane 64 (read_z v rn) 0) (omega arith) s; vectors = u }
  copied_sound DdXn rn rd = record { core = s; vectors = sound_low 64 (read_x c rn) rd v u }

  pub immediate_sound : (q : Bool) (x rd : ℕ) → IsSoundRegisters (leaves c (with_immediate q x rd v))
  immediate_sound q x rd = record { core = s; vectors = sound_low (if q then 128 else 64) (repeated 64 x 2) rd v u }
