-- Lanes and fields read as what was written.
use Rattle.std.proofs.Common.{◌≡◌, ◌≢◌, ◌<◌, ◌≤◌, ◌+◌, ◌*◌, ◌/◌, ◌%◌, ◌^◌, ℕ, Bool, false, List, [], length, get_or, ap, sym, ◌∙◌, arith}
use Rattle.std.proofs.Math.Nat.{zero-mod, mod-eq_of_lt}
use Rattle.std.proofs.Math.Pow.{pow_mono}
use Rattle.std.proofs.lemmas.Nat.{pow_pos}
use Rattle.std.proofs.lemmas.List.{get_or-set_same, get_or-set_other, take_all}
use Rattle.emu_model.specs.Lists.{each}
use Rattle.emu_model.specs.ListLaws.{length-each, get_or-each, each_same}
use Rattle.emu_model.specs.State.{Vectors}
use Rattle.emu_model.specs.SoundState.{IsSoundVectors}
use Rattle.emu_model.specs.Active.{active}
use Rattle.emu_model.specs.Lanes.{lane, number, read_z, read_p, byte_in, field_bit, with_z, with_p, with_lanes, with_low, with_fields}
use Rattle.emu_model.specs.LaneSizes.{IsLaneSize}
use Rattle.emu_model.specs.Writes.{with_ffr_fields}
use Rattle.emu_model.proofs.FieldBits.{at_start, between}
use Rattle.emu_model.proofs.LaneBytes.{field_is, lane_of_lanes, some_bytes, within_bytes}

pub lanes_read : (e : ℕ) (f : ℕ → ℕ) (zd k : ℕ) (v : Vectors) → IsSoundVectors v → IsLaneSize e → zd < 32 → k < v.bits / e → lane e (read_z (with_lanes e f zd v) zd) k ≡ f k % 2 ^ e
lanes_read e f zd k v h size r within =
    let there : zd < length v.z = omega (arith, h.z_count) in
    ap (λ (bs : List ℕ). lane e bs k) (get_or-set_same v.z zd (each (v.bits / 8) (byte_in (e / 8) f)) [] there)
    ∙ lane_of_lanes f (v.bits / 8) e k size (within_bytes e k v.bits size within)

-- ---- low bits

-- a number of n bytes by its bytes
number_of_bytes : (y n : ℕ) → y < 2 ^ (8 * n) → number (each n (λ j. y / 2 ^ (8 * j) % 256)) ≡ y
number_of_bytes y n small =
    let alone : (j : ℕ) → j < n → y / 2 ^ (8 * j) % 256 ≡ byte_in n (λ _. y) j = λ j b. low_byte j b in
    let long : length (each n (byte_in n (λ _. y))) ≤ n = omega (arith, length-each n (byte_in n (λ _. y))) in
    let none : 0 % n ≡ 0 = zero-mod n in
    let fits : 0 % n + n ≤ n = omega arith in
    ap number (each_same n (λ j. y / 2 ^ (8 * j) % 256) (byte_in n (λ _. y)) 0 alone)
    ∙ ap number (sym (take_all n (each n (byte_in n (λ _. y))) long))
    ∙ field_is (λ _. y) n n n 0 fits (omega arith)
    ∙ ap (λ i. y / 2 ^ (8 * i) % 2 ^ (8 * n)) none
    ∙ ap (λ z. z % 2 ^ (8 * n)) (unshifted y)
    ∙ mod-eq_of_lt small where
      unshifted : (x : ℕ) → x / 2 ^ (8 * 0) ≡ x
      unshifted x = omega arith

      low_byte : (j : ℕ) → j < n → y / 2 ^ (8 * j) % 256 ≡ byte_in n (λ _. y) j
      low_byte j b = ap (λ i. y / 2 ^ (8 * i) % 256) (sym (mod-eq_of_lt b))

low_fits : (bits x : ℕ) (v : Vectors) → IsSoundVectors v → bits ≤ v.bits → x % 2 ^ bits < 2 ^ (8 * (v.bits / 8))
low_fits bits x v h within =
    let whole : v.bits ≡ 8 * (v.bits / 8) = omega (arith, h.vector_length.multiple) in
    let most : 2 ^ bits ≤ 2 ^ (8 * (v.bits / 8)) = pow_mono (omega arith) in
    let some : 0 < 2 ^ bits = pow_pos bits in
    let below : x % 2 ^ bits < 2 ^ bits = omega arith in
    omega arith

pub low_read : (bits x zd : ℕ) (v : Vectors) → IsSoundVectors v → zd < 32 → bits ≤ v.bits → number (read_z (with_low bits x zd v) zd) ≡ x % 2 ^ bits
low_read bits x zd v h r within =
    let there : zd < length v.z = omega (arith, h.z_count) in
    ap number (get_or-set_same v.z zd (each (v.bits / 8) (λ j. x % 2 ^ bits / 2 ^ (8 * j) % 256)) [] there)
    ∙ number_of_bytes (x % 2 ^ bits) (v.bits / 8) (low_fits bits x v h within)

pub other_z : (bytes : List ℕ) (zd r : ℕ) (v : Vectors) → r ≢ zd → read_z (with_z v zd bytes) r ≡ read_z v r
other_z bytes zd r v apart = get_or-set_other v.z zd r bytes [] apart

pub other_p : (bits : List Bool) (pd r : ℕ) (v : Vectors) → r ≢ pd → read_p (with_p v pd bits) r ≡ read_p v r
other_p bits pd r v apart = get_or-set_other v.p pd r bits [] apart

-- ---- fields

field_read : (e n : ℕ) (f : ℕ → Bool) (k : ℕ) → 0 < e / 8 → k * (e / 8) + e / 8 ≤ n → active e (each n (field_bit (e / 8) f)) k ≡ f k
field_read e n f k some le =
    let h : k * (e / 8) < n = omega arith in
    get_or-each n (field_bit (e / 8) f) (k * (e / 8)) false h ∙ at_start k (e / 8) f some

bit_between : (e n : ℕ) (f : ℕ → Bool) (j : ℕ) → j < n → j % (e / 8) ≢ 0 → get_or (each n (field_bit (e / 8) f)) j false ≡ false
bit_between e n f j h other =
    let some : 0 < j % (e / 8) = omega arith in
    get_or-each n (field_bit (e / 8) f) j false h ∙ between (e / 8) j f some

written_p : (pd : ℕ) (v : Vectors) (bits : List Bool) → IsSoundVectors v → pd < 16 → read_p (with_p v pd bits) pd ≡ bits
written_p pd v bits h r =
    let there : pd < length v.p = omega (arith, h.p_count) in
    get_or-set_same v.p pd bits [] there

pub fields_read : (e : ℕ) (f : ℕ → Bool) (pd k : ℕ) (v : Vectors) → IsSoundVectors v → IsLaneSize e → pd < 16 → k < v.bits / e → active e (read_p (with_fields e f pd v) pd) k ≡ f k
fields_read e f pd k v h size r within =
    ap (λ (bs : List Bool). active e bs k) (written_p pd v (each (v.bits / 8) (field_bit (e / 8) f)) h r)
    ∙ field_read e (v.bits / 8) f k (some_bytes e size) (within_bytes e k v.bits size within)

pub fields_between : (e : ℕ) (f : ℕ → Bool) (pd j : ℕ) (v : Vectors) → IsSoundVectors v → pd < 16 → j < v.bits / 8 → j % (e / 8) ≢ 0 → get_or (read_p (with_fields e f pd v) pd) j false ≡ false
fields_between e f pd j v h r within other =
    ap (λ (bs : List Bool). get_or bs j false) (written_p pd v (each (v.bits / 8) (field_bit (e / 8) f)) h r)
    ∙ bit_between e (v.bits / 8) f j within other

pub ffr_read : (e : ℕ) (f : ℕ → Bool) (k : ℕ) (v : Vectors) → IsLaneSize e → k < v.bits / e → active e (with_ffr_fields e f v).ffr k ≡ f k
ffr_read e f k v size within = field_read e (v.bits / 8) f k (some_bytes e size) (within_bytes e k v.bits size within)

pub ffr_between : (e : ℕ) (f : ℕ → Bool) (j : ℕ) (v : Vectors) → j < v.bits / 8 → j % (e / 8) ≢ 0 → get_or (with_ffr_fields e f v).ffr j false ≡ false
ffr_between e f j v within other = bit_between e (v.bits / 8) f j within other
