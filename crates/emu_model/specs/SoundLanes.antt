-- Vectors with lanes, fields or low bits written, and those that a call leaves, are sound.
use Rattle.std.specs.Prelude.{◌≡◌, ℕ, ◌+◌, ◌-◌, ◌*◌, ◌/◌, ◌%◌, ◌^◌, ◌≤◌, min, Bool, false, List, [], ◌∷◌, length, map, take, replicate}
use Rattle.std.specs.List.{AllByRecursion, range_with_len}
use Rattle.std.proofs.Common.{◌∙◌, arith, length-append}
use Rattle.std.proofs.Math.ListN.{length-replicate}
use Rattle.std.proofs.lemmas.List.{length-set, length-take, length-map}
use Rattle.emu_model.specs.SoundState.{IsVectorLength, IsSoundVectors, IsRegister, IsByte, HasLength}
use Rattle.emu_model.specs.Lists.{each}
use Rattle.emu_model.specs.ListLaws.{length-each}
use Rattle.emu_model.specs.SoundLists.{all_append, all_map, all_replicate, all_set, all_take}
use Rattle.emu_model.specs.State.{Vectors}
use Rattle.emu_model.specs.AfterCall.{low_bytes, cleared}
use Rattle.emu_model.specs.Writes.{after_call, with_ffr_fields}
use Rattle.emu_model.specs.Lanes.{byte_in, field_bit, with_z, with_p, with_ffr, with_lanes, with_low, with_fields}

all_given : {X Y : Type 0} (P : Y → Type 0) (f : X → Y) → ((x : X) → P (f x)) → (xs : List X) → AllByRecursion P (map f xs)
all_given P f h [] = tt
all_given P f h (x ∷ xs) = (h x, all_given P f h xs)

sound_z : (f : ℕ → ℕ) (zd : ℕ) (v : Vectors) → ((j : ℕ) → IsByte (f j)) → IsSoundVectors v → IsSoundVectors (with_z v zd (each (v.bits / 8) f))
sound_z f zd v small h = record {
  most = h.most;
  vector_length = h.vector_length;
  within = h.within;
  z_count = length-set v.z zd (each (v.bits / 8) f) ∙ h.z_count;
  z = all_set (IsRegister (v.bits / 8)) v.z zd (each (v.bits / 8) f) (record { count = length-each (v.bits / 8) f; bytes = all_given IsByte f small (range_with_len 0 (v.bits / 8)) }) h.z;
  p_count = h.p_count;
  p = h.p;
  ffr = h.ffr;
}

is_byte : (x : ℕ) → IsByte (x % 256)
is_byte x = omega arith

pub sound_lanes : (e : ℕ) (f : ℕ → ℕ) (zd : ℕ) (v : Vectors) → IsSoundVectors v → IsSoundVectors (with_lanes e f zd v)
sound_lanes e f zd v h = sound_z (byte_in (e / 8) f) zd v (λ j. is_byte (f (j / (e / 8)) / 2 ^ (8 * (j % (e / 8))))) h

pub sound_low : (bits x zd : ℕ) (v : Vectors) → IsSoundVectors v → IsSoundVectors (with_low bits x zd v)
sound_low bits x zd v h = sound_z (λ j. x % 2 ^ bits / 2 ^ (8 * j) % 256) zd v (λ j. is_byte (x % 2 ^ bits / 2 ^ (8 * j))) h

pub sound_p : (bits : List Bool) (pd : ℕ) (v : Vectors) → HasLength (v.bits / 8) bits → IsSoundVectors v → IsSoundVectors (with_p v pd bits)
sound_p bits pd v count h = record {
  most = h.most;
  vector_length = h.vector_length;
  within = h.within;
  z_count = h.z_count;
  z = h.z;
  p_count = length-set v.p pd bits ∙ h.p_count;
  p = all_set (HasLength (v.bits / 8)) v.p pd bits count h.p;
  ffr = h.ffr;
}

pub sound_fields : (e : ℕ) (f : ℕ → Bool) (pd : ℕ) (v : Vectors) → IsSoundVectors v → IsSoundVectors (with_fields e f pd v)
sound_fields e f pd v h = sound_p (each (v.bits / 8) (field_bit (e / 8) f)) pd v (length-each (v.bits / 8) (field_bit (e / 8) f)) h

pub sound_ffr_bits : (bits : List Bool) (v : Vectors) → HasLength (v.bits / 8) bits → IsSoundVectors v → IsSoundVectors (with_ffr v bits)
sound_ffr_bits bits v count h = record { most = h.most; vector_length = h.vector_length; within = h.within; z_count = h.z_count; z = h.z; p_count = h.p_count; p = h.p; ffr = count }

pub sound_ffr : (e : ℕ) (f : ℕ → Bool) (v : Vectors) → IsSoundVectors v → IsSoundVectors (with_ffr_fields e f v)
sound_ffr e f v h = sound_ffr_bits (each (v.bits / 8) (field_bit (e / 8) f)) v (length-each (v.bits / 8) (field_bit (e / 8) f)) h

-- ---- a call that returns

low_bytes_sound : (n bits : ℕ) (bytes : List ℕ) → 16 ≤ n → 16 ≤ bits / 8 → IsRegister n bytes → IsRegister (bits / 8) (low_bytes bits bytes)
low_bytes_sound n bits bytes some more s = record {
  count = let e : length (low_bytes bits bytes) ≡ min 16 (length bytes) + (bits / 8 - 16) = simp (length-append, length-take, length-replicate) in let f : length bytes ≡ n = s.count in omega arith;
  bytes = all_append IsByte (take 16 bytes) (replicate (bits / 8 - 16) 0) (all_take IsByte 16 bytes s.bytes) (all_replicate IsByte (bits / 8 - 16) 0 (omega arith));
}

no_bits : (bits : ℕ) → HasLength (bits / 8) (replicate (bits / 8) false)
no_bits bits = length-replicate (bits / 8) false

-- registers that are cleared in a vector length that is at most the starting one
pub cleared_sound : (bits : ℕ) (v : Vectors) → IsVectorLength bits → bits ≤ v.most → IsSoundVectors v → IsSoundVectors (cleared bits v)
cleared_sound bits v lawful within s =
    let some : 16 ≤ v.bits / 8 = omega (arith, s.vector_length.least) in
    let more : 16 ≤ bits / 8 = omega (arith, lawful.least) in
    record {
      most = s.most;
      vector_length = lawful;
      within = within;
      z_count = length-map v.z (low_bytes bits) ∙ s.z_count;
      z = all_map (IsRegister (v.bits / 8)) (IsRegister (bits / 8)) (low_bytes bits) (λ bytes r. low_bytes_sound (v.bits / 8) bits bytes some more r) v.z s.z;
      p_count = length-replicate {A = List Bool} 16 (replicate (bits / 8) false);
      p = all_replicate (HasLength (bits / 8)) 16 (replicate (bits / 8) false) (no_bits bits);
      ffr = no_bits bits;
    }

pub after_call_sound : (v : Vectors) → IsSoundVectors v → IsSoundVectors (after_call v)
after_call_sound v s = cleared_sound v.bits v s.vector_length s.within s
