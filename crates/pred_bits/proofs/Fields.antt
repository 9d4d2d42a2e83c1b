-- Fields of lanes: e / 8 bits each.
use Rattle.std.proofs.Common.{◌≡◌, ◌<◌, ◌≤◌, ◌/◌, ◌%◌, ◌*◌, ℕ, Bool, true, false, nat_eq, nat_lt, ◌&&◌, if◌then◌else◌, min, List, inl, inr, refl, sym, ap, ◌∙◌, arith}
use Rattle.std.proofs.lemmas.Bool.{cases_lt, lt-ltb, le-ltb, and_right, eqb-true}
use Rattle.emu_bits.specs.Flags.{size_of}
use Rattle.emu_bits.specs.declared.flags.Esize.{Esize}
use Rattle.emu_bits.specs.declared.flags.Esize.TheVariants.{B, H, S, D}
use Rattle.lane_model.specs.Bits.{field_bit, lanes_of}
use Rattle.lane_model.specs.Lists.{each}
use Rattle.lane_model.specs.WordBits.{AreClearFrom, bit_of, bits_of}
use Rattle.lane_model.proofs.Bits.{each_bit_same}
use Rattle.lane_model.specs.Predicate.{lanes_below}
use Rattle.pred_bits.proofs.Made.{clear_from, bits_are}

-- ---- lanes within the bits

pub lane_within : (e : Esize) (k m : ℕ) → k < lanes_of (size_of e) m → k * (size_of e / 8) < m
lane_within B k m h = omega arith
lane_within H k m h = omega arith
lane_within S k m h = omega arith
lane_within D k m h = omega arith

-- and all their fields within 256 bits
pub lanes_room : (e : Esize) (m : ℕ) → m ≤ 256 → lanes_of (size_of e) m * (size_of e / 8) ≤ 256
lanes_room B m h = omega arith
lanes_room H m h = omega arith
lanes_room S m h = omega arith
lanes_room D m h = omega arith

pub some_bits : (e : Esize) → 0 < size_of e / 8
some_bits B = omega arith
some_bits H = omega arith
some_bits S = omega arith
some_bits D = omega arith

-- where the bits are whole fields, each bit is in a lane
pub bit_within : (e : Esize) (i m : ℕ) → m % (size_of e / 8) ≡ 0 → i < m → i / (size_of e / 8) < lanes_of (size_of e) m
bit_within B i m whole h = omega arith
bit_within H i m whole h = omega arith
bit_within S i m whole h = omega arith
bit_within D i m whole h = omega arith

-- ---- fields by their lanes

field_same : (w : ℕ) (f g : ℕ → Bool) (i : ℕ) → f (i / w) ≡ g (i / w) → field_bit w f i ≡ field_bit w g i
field_same w f g i e = ap (λ b. if nat_eq (i % w) 0 then b else false) e

pub fields_same : (e : Esize) (m : ℕ) (f g : ℕ → Bool) → m % (size_of e / 8) ≡ 0 → ((k : ℕ) → k < lanes_of (size_of e) m → f k ≡ g k) → each m (field_bit (size_of e / 8) f) ≡ each m (field_bit (size_of e / 8) g)
fields_same e m f g whole h = each_bit_same m (field_bit (size_of e / 8) f) (field_bit (size_of e / 8) g) (λ i q. field_same (size_of e / 8) f g i (h (i / (size_of e / 8)) (bit_within e i m whole q)))

-- ---- the lanes below a number

guarded : (t x y : Bool) → (t ≡ true → x ≡ y) → (t && x) ≡ (if t then y else false)
guarded true x y h = h refl
guarded false x y h = refl

-- a field that begins below the end is of a lane below the number
start_below : (e : Esize) (m count b : ℕ) → m ≤ 256 → b < m → b % (size_of e / 8) ≡ 0 → nat_lt b (min (min count 256 * (size_of e / 8)) m) ≡ nat_lt (b / (size_of e / 8)) count
start_below e m count b few h start = elim (cases_lt (b / (size_of e / 8)) count) [
  | inl less ↦ lt-ltb b (min (min count 256 * (size_of e / 8)) m) (within e less start) ∙ sym (lt-ltb (b / (size_of e / 8)) count less)
  | inr most ↦ le-ltb b (min (min count 256 * (size_of e / 8)) m) (past e most start) ∙ sym (le-ltb (b / (size_of e / 8)) count most)
] where
  within : (e : Esize) → b / (size_of e / 8) < count → b % (size_of e / 8) ≡ 0 → b < min (min count 256 * (size_of e / 8)) m
  within B less start = omega arith
  within H less start = omega arith
  within S less start = omega arith
  within D less start = omega arith

  past : (e : Esize) → count ≤ b / (size_of e / 8) → b % (size_of e / 8) ≡ 0 → min (min count 256 * (size_of e / 8)) m ≤ b
  past B most start = omega arith
  past H most start = omega arith
  past S most start = omega arith
  past D most start = omega arith

pub below_clear : (e : Esize) (m end : ℕ) (words : List ℕ) → end ≤ m → ((b : ℕ) → bit_of words b ≡ (nat_eq (b % (size_of e / 8)) 0 && nat_lt b end)) → AreClearFrom m words
below_clear e m end words le is = clear_from words m (λ b. nat_eq (b % (size_of e / 8)) 0 && nat_lt b end) is (λ b past. and_right (nat_eq (b % (size_of e / 8)) 0) (nat_lt b end) (le-ltb b end (omega arith)))

pub below_fields : (e : Esize) (m count end : ℕ) (words : List ℕ) → m ≤ 256 → end ≡ min (min count 256 * (size_of e / 8)) m → ((b : ℕ) → bit_of words b ≡ (nat_eq (b % (size_of e / 8)) 0 && nat_lt b end))
    → bits_of m words ≡ lanes_below (size_of e) m count
below_fields e m count end words few at is = bits_are words m (λ b. nat_eq (b % (size_of e / 8)) 0 && nat_lt b end) (field_bit (size_of e / 8) (λ k. nat_lt k count)) is
    (λ b h. guarded (nat_eq (b % (size_of e / 8)) 0) (nat_lt b end) (nat_lt (b / (size_of e / 8)) count)
    (λ start. ap (nat_lt b) at ∙ start_below e m count b few h (eqb-true (b % (size_of e / 8)) 0 start)))

-- ---- so many of all lanes

pub lanes_end : (e : Esize) (m count : ℕ) → count ≤ lanes_of (size_of e) m → count * (size_of e / 8) ≤ m
lanes_end B m count h = omega arith
lanes_end H m count h = omega arith
lanes_end S m count h = omega arith
lanes_end D m count h = omega arith

pub whole_end : (e : Esize) (m count : ℕ) → m ≤ 256 → count ≤ lanes_of (size_of e) m → count * (size_of e / 8) ≡ min (min count 256 * (size_of e / 8)) m
whole_end B m count few h = omega arith
whole_end H m count few h = omega arith
whole_end S m count few h = omega arith
whole_end D m count few h = omega arith

-- all lanes end where the bits do
pub all_end : (e : Esize) (m : ℕ) → m ≤ 256 → m % (size_of e / 8) ≡ 0 → m ≡ min (min (lanes_of (size_of e) m) 256 * (size_of e / 8)) m
all_end B m few whole = omega arith
all_end H m few whole = omega arith
all_end S m few whole = omega arith
all_end D m few whole = omega arith

pub cut_count : (n count k : ℕ) → k < n → nat_lt k (min count n) ≡ nat_lt k count
cut_count n count k h = elim (cases_lt k count) [
  | inl less ↦ let within : k < min count n = omega arith in lt-ltb k (min count n) within ∙ sym (lt-ltb k count less)
  | inr most ↦ let past : min count n ≤ k = omega arith in le-ltb k (min count n) past ∙ sym (le-ltb k count most)
]
