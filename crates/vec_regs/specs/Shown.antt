-- What the words of the vector registers show.
use Rattle.std.specs.Prelude.{◌≡◌, ◌≤◌, ◌/◌, map, length as len}
use Rattle.std.specs.List.{All}
use Rattle.emu_model.specs.SoundState.{IsVectorLength}
use Rattle.emu_model.specs.State.{Vectors}
use Rattle.vec_regs.specs.Words.{bytes_of, bits_of, AreZeroFrom, AreClearFrom}
use Rattle.vec_regs.specs.declared.VecRegs.TheInside.{Inside}

abbrev pub shown : Inside → Vectors
shown a = record { most = a.most; bits = a.length; z = map (bytes_of (a.length / 8)) a.z; p = map (bits_of (a.length / 8)) a.p; ffr = bits_of (a.length / 8) a.ffr }

-- the present length is at most the starting one, and every bit at or above it is 0
pub record IsInside (a : Inside) : Type 0 where
  pub most : IsVectorLength a.most
  pub length : IsVectorLength a.length
  pub within : a.length ≤ a.most
  pub z_count : len a.z ≡ 32
  pub z_width : All (λ words. len words ≡ 32) a.z
  pub z : All (AreZeroFrom (a.length / 64)) a.z
  pub p_count : len a.p ≡ 16
  pub p_width : All (λ words. len words ≡ 4) a.p
  pub p : All (AreClearFrom (a.length / 8)) a.p
  pub ffr : AreClearFrom (a.length / 8) a.ffr
