-- How many bits a predicate has.
use Rattle.std.proofs.Common.{◌≡◌, ◌<◌, ◌≤◌, ◌*◌, ◌/◌, ◌%◌, ◌^◌, ℕ, Bool, List, length, ap, ◌∙◌, arith}
use Rattle.std.proofs.Math.Pow.{pow_mono}
use Rattle.std.proofs.lemmas.Nat.{pow_pos}
use Rattle.emu_bits.specs.Flags.{size_of}
use Rattle.emu_bits.specs.declared.flags.Esize.{Esize}
use Rattle.emu_bits.specs.declared.flags.Esize.TheVariants.{B, H, S, D}
use Rattle.emu_model.specs.SoundState.{IsVectorLength}
use Rattle.emu_model.specs.Lists.{each}
use Rattle.emu_model.specs.ListLaws.{length-each}
use Rattle.sve_effects.specs.LaneLoop.{lane_bits}
use Rattle.sve_effects.specs.Bits.{lanes_of}

pub length_given : (p : List Bool) (m n : ℕ) (f : ℕ → Bool) → p ≡ each m f → m ≡ n → length p ≡ n
length_given p m n f e s = ap length e ∙ length-each m f ∙ s

-- what is made of two predicates, as they are read
pub of_two : (made : ℕ → List Bool → List Bool → List Bool) (p g a : List Bool) (n : ℕ) (g' a' : List Bool) → p ≡ made (length g) g a → length g ≡ n → g ≡ g' → a ≡ a' → p ≡ made n g' a'
of_two made p g a n g' a' is count r s =
    is ∙ ap (λ (k : ℕ). made k g a) count ∙ ap (λ (x : List Bool). made n x a) r ∙ ap (λ (x : List Bool). made n g' x) s

-- what is made of three predicates, as they are read
pub of_three : (made : ℕ → List Bool → List Bool → List Bool → List Bool) (p g a b : List Bool) (n : ℕ) (g' a' b' : List Bool) → p ≡ made (length g) g a b → length g ≡ n → g ≡ g' → a ≡ a' → b ≡ b' → p ≡ made n g' a' b'
of_three made p g a b n g' a' b' is count r s t =
    is ∙ ap (λ (k : ℕ). made k g a b) count ∙ ap (λ (x : List Bool). made n x a b) r ∙ ap (λ (x : List Bool). made n g' x b) s ∙ ap (λ (x : List Bool). made n g' a' x) t

-- the bits of a predicate are whole fields
pub whole_fields : (e : Esize) (bits m : ℕ) → IsVectorLength bits → m ≡ bits / 8 → m % (size_of e / 8) ≡ 0
whole_fields B bits m h is = omega arith
whole_fields H bits m h is = let w : bits % 128 ≡ 0 = h.multiple in omega arith
whole_fields S bits m h is = let w : bits % 128 ≡ 0 = h.multiple in omega arith
whole_fields D bits m h is = let w : bits % 128 ≡ 0 = h.multiple in omega arith

-- and have a field for each lane
pub lanes_fit : (e : Esize) (bits m : ℕ) → IsVectorLength bits → m ≡ bits / 8 → bits / size_of e ≤ lanes_of (size_of e) m
lanes_fit B bits m h is = omega arith
lanes_fit H bits m h is = omega arith
lanes_fit S bits m h is = omega arith
lanes_fit D bits m h is = omega arith

pub lanes_are : (e : Esize) (bits m : ℕ) → m ≡ bits / 8 → lanes_of (size_of e) m ≡ bits / size_of e
lanes_are B bits m is = omega arith
lanes_are H bits m is = omega arith
lanes_are S bits m is = omega arith
lanes_are D bits m is = omega arith

-- eight bits are a lane of each size
pub some_lane : (e : Esize) (m : ℕ) → 8 ≤ m → 0 < lanes_of (size_of e) m
some_lane B m h = omega arith
some_lane H m h = omega arith
some_lane S m h = omega arith
some_lane D m h = omega arith

-- a number of seven bits has the bits of a lane
pub number_fits : (n size : ℕ) → n < 2 ^ 7 → n < 2 ^ lane_bits size
number_fits n size h =
    let some : 0 < 2 ^ size = pow_pos size in
    let more : 2 ^ 7 ≤ 2 ^ (8 * 2 ^ size) = pow_mono {i = 7} {j = 8 * 2 ^ size} (omega arith) in
    omega arith

pub ruleset lengths = (length_given, whole_fields)
