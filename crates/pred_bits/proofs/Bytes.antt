-- Lanes of bytes: each bit is a lane.
use Rattle.std.proofs.Common.{◌≡◌, ◌<◌, ◌/◌, ◌%◌, ◌*◌, ℕ, Bool, false, ◌&&◌, nat_eq, if◌then◌else◌, Option, List, length, get_or, replicate, refl, sym, ap, ◌∙◌, arith}
use Rattle.std.proofs.lemmas.List.{length-replicate, get_or-replicate}
use Rattle.std.proofs.lemmas.List.FromFn.{fill_by_all}
use Rattle.lane_model.specs.Bits.{field_bit, is_set, active, lanes_of}
use Rattle.lane_model.specs.Lists.{each}
use Rattle.lane_model.proofs.Bits.{each_bit_same}
use Rattle.lane_model.proofs.Found.{first_same, last_same, answer_same, last_within}
use Rattle.lane_model.specs.FirstLast.{first_where, last_where}
use Rattle.lane_model.specs.FirstLastLaws.{answer_at}
use Rattle.lane_model.specs.Predicate.{first_set, last_is_set}

pub byte_lanes : (m : ℕ) → lanes_of 8 m ≡ m
byte_lanes m = omega arith

pub byte_set : (p : List Bool) (k : ℕ) → active 8 p k ≡ is_set p k
byte_set p k = let e : k * 1 ≡ k = omega arith in ap (λ i. get_or p i false) e

pub byte_fields : (m : ℕ) (f : ℕ → Bool) → each m (field_bit 1 f) ≡ each m f
byte_fields m f = each_bit_same m (field_bit 1 f) f (λ j h.
    let r : j % 1 ≡ 0 = omega arith in
    let q : j / 1 ≡ j = omega arith in
    ap (λ x. if nat_eq x 0 then f (j / 1) else false) r ∙ ap f q)

pub first_byte : (m : ℕ) (g : List Bool) → first_where (lanes_of 8 m) (active 8 g) ≡ first_where m (is_set g)
first_byte m g = ap (λ n. first_where n (active 8 g)) (byte_lanes m) ∙ first_same m (active 8 g) (is_set g) (λ k h. byte_set g k)

pub last_byte : (m : ℕ) (g : List Bool) → last_where (lanes_of 8 m) (active 8 g) ≡ last_where m (is_set g)
last_byte m g = ap (λ n. last_where n (active 8 g)) (byte_lanes m) ∙ last_same m (active 8 g) (is_set g) (λ k h. byte_set g k)

pub first_set_byte : (m : ℕ) (g a : List Bool) → first_set (lanes_of 8 m) (active 8 g) (active 8 a) ≡ first_set m (is_set g) (is_set a)
first_set_byte m g a =
    ap (λ n. first_where n (λ k. active 8 g k && active 8 a k)) (byte_lanes m)
    ∙ first_same m (λ k. active 8 g k && active 8 a k) (λ k. is_set g k && is_set a k) (λ k h. ap (λ b. b && active 8 a k) (byte_set g k) ∙ ap (λ b. is_set g k && b) (byte_set a k))

pub last_set_byte : (m : ℕ) (g a : List Bool) → last_is_set (lanes_of 8 m) (active 8 g) (active 8 a) ≡ last_is_set m (is_set g) (is_set a)
last_set_byte m g a =
    ap (λ (o : Option ℕ). answer_at o (active 8 a)) (last_byte m g)
    ∙ answer_same m (last_where m (is_set g)) (active 8 a) (is_set a) (last_within m (is_set g)) (λ k h. byte_set a k)

-- ---- whole lists

-- a list given by its own bits
pub each_again : (m : ℕ) (p : List Bool) → length p ≡ m → p ≡ each m (is_set p)
each_again m p e = fill_by_all (is_set p) p m false e (λ k h. refl)

pub all_clear : (m : ℕ) (f : ℕ → Bool) → ((k : ℕ) → k < m → f k ≡ false) → replicate m false ≡ each m f
all_clear m f h = fill_by_all f (replicate m false) m false (length-replicate m false) (λ k q. get_or-replicate m k false false q ∙ sym (h k q))
