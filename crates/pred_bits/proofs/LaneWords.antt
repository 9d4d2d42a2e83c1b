-- Lanes by the lowest bits of their fields.
use Rattle.std.proofs.Common.{◌≡◌, ◌<◌, ◌≤◌, ◌+◌, ◌-◌, ◌*◌, ◌/◌, ◌%◌, ℕ, suc, Bool, true, false, not, ◌&&◌, nat_eq, nat_lt, if◌then◌else◌, Option, Some, None, IfSome, List, get_or, is_none, inl, inr, refl, sym, ap, ap₂, ◌∙◌, arith}
use Rattle.std.proofs.Math.Nat.{mul-le-mul_right, mul-mod_left, mod-lt}
use Rattle.std.proofs.lemmas.Bool.{cases_lt, cases_eq, lt-ltb, le-ltb, and_parts, both_ways}
use Rattle.std.proofs.lemmas.Bool.Decides.{nat_tests}
use Rattle.std.proofs.lemmas.Nat.{div-add-mod', div-mul-add}
use Rattle.emu_bits.specs.declared.flags.Flags.{Flags}
use Rattle.lane_model.specs.Bits.{field_bit}
use Rattle.lane_model.specs.WordBits.{AreClearFrom, bit_of}
use Rattle.lane_model.proofs.Bits.{at_start, between}
use Rattle.lane_model.proofs.Found.{first_found, first_is, first_same, last_found, last_is, last_same}
use Rattle.lane_model.specs.FirstLast.{first_where, last_where}
use Rattle.lane_model.specs.FirstLastLaws.{IsFirstWhere, IsLastWhere, answer_at}
use Rattle.lane_model.specs.Predicate.{test_flags}
use Rattle.pred_bits.specs.LaneBits.{among, lane_at, places_tested}

-- ---- truth values

pub and_true : (x : Bool) → (x && true) ≡ x
and_true true = refl
and_true false = refl

pub and_false : (x : Bool) → (x && false) ≡ false
and_false true = refl
and_false false = refl

pub twice : (x : Bool) → (x && x) ≡ x
twice true = refl
twice false = refl

-- ---- words whose bits are the lowest of lanes' fields

-- a place with no lane's field beginning has no bit
pub not_start : (r : ℕ) → 0 < r → nat_eq r 0 ≡ false
not_start r h = grind (arith, nat_tests)

one_less : (k n w : ℕ) → k < n → 0 < w → k * w < n * w
one_less k n w h some =
    let next : suc k ≤ n = omega arith in
    let all : suc k * w ≤ n * w = mul-le-mul_right w next in
    let is : suc k * w ≡ k * w + w = omega arith in
    omega arith

not_less : (n k w : ℕ) → n ≤ k → n * w ≤ k * w
not_less n k w h = mul-le-mul_right w h

at_lane : (k w : ℕ) → 0 < w → k * w / w ≡ k
at_lane k w some =
    let z : k * w + 0 ≡ k * w = omega arith in
    ap (λ x. x / w) (sym z) ∙ div-mul-add k w 0 some

pub lanes_shown : (w n : ℕ) (test bits : ℕ → Bool) → ((b : ℕ) → 0 < b % w → bits b ≡ false) → ((k : ℕ) → k < n → bits (k * w) ≡ test k) → ((k : ℕ) → n ≤ k → bits (k * w) ≡ false)
    → (b : ℕ) → bits b ≡ field_bit w (among n test) b
lanes_shown w n test bits off on past b = elim (cases_eq (b % w) 0) [
  | inl start ↦
      let whole : b / w * w ≡ b = omega (arith, div-add-mod' b w) in
      ap bits (sym whole)
      ∙ elim (cases_lt (b / w) n) [
        | inl h ↦ on (b / w) h ∙ sym (ap (λ t. t && test (b / w)) (lt-ltb (b / w) n h))
        | inr h ↦ past (b / w) h ∙ sym (ap (λ t. t && test (b / w)) (le-ltb (b / w) n h))
      ]
      ∙ sym (ap (λ x. if nat_eq x 0 then among n test (b / w) else false) start)
  | inr other ↦ let some : 0 < b % w = omega arith in off b some ∙ sym (between w b (among n test) some)
]

-- ---- the first lane, the last lane and the number of lanes

module _ (w n : ℕ) (test bits : ℕ → Bool) (some : 0 < w) (room : n * w ≤ 256) (shows : (b : ℕ) → bits b ≡ field_bit w (among n test) b) where
  lane_bit : (k : ℕ) → k < n → bits (k * w) ≡ test k
  lane_bit k h = shows (k * w) ∙ at_start k w (among n test) some ∙ ap (λ t. t && test k) (lt-ltb k n h)

  in_room : (k : ℕ) → k < n → k * w < 256
  in_room k h = omega (arith, one_less k n w h some)

  start_of : (b : ℕ) → bits b ≡ true → among n test (b / w) ≡ true
  start_of b on = elim (cases_eq (b % w) 0) [
    | inl start ↦ sym (shows b ∙ ap (λ x. if nat_eq x 0 then among n test (b / w) else false) start) ∙ on
    | inr other ↦ let off : 0 < b % w = omega arith in absurd (both_ways (bits b) (shows b ∙ between w b (among n test) off) on)
  ]

  pub starts_lane : (b : ℕ) → bits b ≡ true → b % w ≡ 0
  starts_lane b on = elim (cases_eq (b % w) 0) [
    | inl start ↦ start
    | inr other ↦ let off : 0 < b % w = omega arith in absurd (both_ways (bits b) (shows b ∙ between w b (among n test) off) on)
  ]

  pub is_lane : (b : ℕ) → bits b ≡ true → (b / w < n) × (test (b / w) ≡ true)
  is_lane b on =
      let both : (nat_lt (b / w) n ≡ true) × (test (b / w) ≡ true) = and_parts (nat_lt (b / w) n) (test (b / w)) (start_of b on) in
      elim (cases_lt (b / w) n) [
        | inl h ↦ (h, both.1)
        | inr h ↦ absurd (both_ways (nat_lt (b / w) n) (le-ltb (b / w) n h) both.0)
      ]

  before_lane : (j b : ℕ) → j < b / w → j * w < b
  before_lane j b h =
      let p : j * w < b / w * w = one_less j (b / w) w h some in
      omega (arith, div-add-mod' b w)

  behind_lane : (j b : ℕ) → b / w < j → b < j * w
  behind_lane j b h =
      let next : suc (b / w) ≤ j = omega arith in
      let p : suc (b / w) * w ≤ j * w = mul-le-mul_right w next in
      let q : suc (b / w) * w ≡ b / w * w + w = omega arith in
      omega (arith, div-add-mod' b w, mod-lt b some)

  pub first_of_words : (place : Option ℕ) → IsFirstWhere 256 bits place → IsFirstWhere n test (lane_at w place)
  first_of_words None h = λ k q. sym (lane_bit k q) ∙ h (k * w) (in_room k q)
  first_of_words (Some p) h =
      let is : (p / w < n) × (test (p / w) ≡ true) = is_lane p h.meets in
      record {
        within = is.0;
        meets = is.1;
        before = λ j q. let l : j < n = omega arith in sym (lane_bit j l) ∙ h.before (j * w) (before_lane j p q);
      }

  pub last_of_words : (place : Option ℕ) → IsLastWhere 256 bits place → IsLastWhere n test (lane_at w place)
  last_of_words None h = λ k q. sym (lane_bit k q) ∙ h (k * w) (in_room k q)
  last_of_words (Some p) h =
      let is : (p / w < n) × (test (p / w) ≡ true) = is_lane p h.meets in
      record {
        within = is.0;
        meets = is.1;
        behind = λ j q l. sym (lane_bit j l) ∙ h.behind (j * w) (behind_lane j p q) (in_room j l);
      }

pub first_within : (n : ℕ) (test : ℕ → Bool) (lane : Option ℕ) → IsFirstWhere n test lane → IfSome lane (λ k. k < n)
first_within n test None h = tt
first_within n test (Some k) h = h.within

pub last_within : (n : ℕ) (test : ℕ → Bool) (lane : Option ℕ) → IsLastWhere n test lane → IfSome lane (λ k. k < n)
last_within n test None h = tt
last_within n test (Some k) h = h.within

-- ---- the predicate test

none_at : (w : ℕ) (place : Option ℕ) → is_none (lane_at w place) ≡ is_none place
none_at w None = refl
none_at w (Some p) = refl

-- the words of the active lanes
module _ (w n : ℕ) (g on : ℕ → Bool) (some : 0 < w) (room : n * w ≤ 256) (on_shows : (b : ℕ) → on b ≡ field_bit w (among n (λ k. g k && g k)) b) where
  first_lane_is : lane_at w (first_where 256 on) ≡ first_where n g
  first_lane_is =
      sym (first_is n (λ k. g k && g k) (lane_at w (first_where 256 on)) (first_of_words w n (λ k. g k && g k) on some room on_shows (first_where 256 on) (first_found 256 on)))
      ∙ first_same n (λ k. g k && g k) g (λ k q. twice (g k))

  pub last_lane_is : lane_at w (last_where 256 on) ≡ last_where n g
  last_lane_is =
      sym (last_is n (λ k. g k && g k) (lane_at w (last_where 256 on)) (last_of_words w n (λ k. g k && g k) on some room on_shows (last_where 256 on) (last_found 256 on)))
      ∙ last_same n (λ k. g k && g k) g (λ k q. twice (g k))

-- the words of those that are set too, made of the words of the active ones
pub set_among : (w n : ℕ) (g a on at set : ℕ → Bool) → 0 < w → ((b : ℕ) → on b ≡ field_bit w (among n (λ k. g k && g k)) b) → ((k : ℕ) → k < n → at (k * w) ≡ a k) → ((b : ℕ) → set b ≡ (on b && at b))
    → (b : ℕ) → set b ≡ field_bit w (among n (λ k. g k && a k)) b
set_among w n g a on at set some shows reads made = lanes_shown w n (λ k. g k && a k) set off here past where
  off : (b : ℕ) → 0 < b % w → set b ≡ false
  off b h = made b ∙ ap (λ t. t && at b) (shows b ∙ between w b (among n (λ k. g k && g k)) h)

  is_on : (k : ℕ) → on (k * w) ≡ (nat_lt k n && (g k && g k))
  is_on k = shows (k * w) ∙ at_start k w (among n (λ k. g k && g k)) some

  here : (k : ℕ) → k < n → set (k * w) ≡ (g k && a k)
  here k h = made (k * w) ∙ ap₂ (λ x y. x && y) (is_on k ∙ ap (λ t. t && (g k && g k)) (lt-ltb k n h) ∙ twice (g k)) (reads k h)

  past : (k : ℕ) → n ≤ k → set (k * w) ≡ false
  past k h = made (k * w) ∙ ap (λ t. t && at (k * w)) (is_on k ∙ ap (λ t. t && (g k && g k)) (le-ltb k n h))

-- the words of the active lanes, and of those that are set too
module _ (w n : ℕ) (g a on set : ℕ → Bool) (some : 0 < w) (room : n * w ≤ 256)
    (on_shows : (b : ℕ) → on b ≡ field_bit w (among n (λ k. g k && g k)) b) (set_shows : (b : ℕ) → set b ≡ field_bit w (among n (λ k. g k && a k)) b) where
  set_at : (p : ℕ) → on p ≡ true → set p ≡ a (p / w)
  set_at p h =
      let is : (p / w < n) × ((g (p / w) && g (p / w)) ≡ true) = is_lane w n (λ k. g k && g k) on some room on_shows p h in
      let active : (g (p / w) ≡ true) × (g (p / w) ≡ true) = and_parts (g (p / w)) (g (p / w)) is.1 in
      set_shows p ∙ ap (λ x. if nat_eq x 0 then among n (λ k. g k && a k) (p / w) else false) (starts_lane w n (λ k. g k && g k) on some room on_shows p h)
      ∙ ap (λ t. t && (g (p / w) && a (p / w))) (lt-ltb (p / w) n is.0) ∙ ap (λ t. t && a (p / w)) active.0

  at_first : (place : Option ℕ) → IsFirstWhere 256 on place → answer_at place set ≡ answer_at (lane_at w place) a
  at_first None h = refl
  at_first (Some p) h = set_at p h.meets

  at_last : (place : Option ℕ) → IsLastWhere 256 on place → answer_at place set ≡ answer_at (lane_at w place) a
  at_last None h = refl
  at_last (Some p) h = set_at p h.meets

  first_answer : answer_at (first_where 256 on) set ≡ answer_at (first_where n g) a
  first_answer = at_first (first_where 256 on) (first_found 256 on) ∙ ap (λ (o : Option ℕ). answer_at o a) (first_lane_is w n g on some room on_shows)

  pub last_answer : answer_at (last_where 256 on) set ≡ answer_at (last_where n g) a
  last_answer = at_last (last_where 256 on) (last_found 256 on) ∙ ap (λ (o : Option ℕ). answer_at o a) (last_lane_is w n g on some room on_shows)

  none_set : is_none (first_where 256 set) ≡ is_none (first_where n (λ k. g k && a k))
  none_set =
      sym (none_at w (first_where 256 set))
      ∙ ap (λ (o : Option ℕ). is_none o)
      (sym (first_is n (λ k. g k && a k) (lane_at w (first_where 256 set)) (first_of_words w n (λ k. g k && a k) set some room set_shows (first_where 256 set) (first_found 256 set))))

  pub tested : places_tested on set ≡ test_flags n g a
  tested =
      let flags : Bool → Bool → Bool → Flags = λ x y z. record { n = x; z = y; c = not z; v = false } in
      ap (λ x. flags x (is_none (first_where 256 set)) (answer_at (last_where 256 on) set)) first_answer ∙ ap (λ y. flags (answer_at (first_where n g) a) y (answer_at (last_where 256 on) set)) none_set
      ∙ ap (λ z. flags (answer_at (first_where n g) a) (is_none (first_where n (λ k. g k && a k))) z) last_answer

-- ---- words of both

module _ (w m : ℕ) (gs ks set : List ℕ) (g a : List Bool) (some : 0 < w)
    (reads_g : (b : ℕ) → b < m → get_or g b false ≡ bit_of gs b) (reads_a : (b : ℕ) → b < m → get_or a b false ≡ bit_of ks b)
    (above : AreClearFrom m gs) (made : (b : ℕ) → bit_of set b ≡ (nat_eq (b % w) 0 && (bit_of gs b && bit_of ks b))) where
  off_start : (b : ℕ) → 0 < b % w → bit_of set b ≡ false
  off_start b h = made b ∙ ap (λ t. t && (bit_of gs b && bit_of ks b)) (not_start (b % w) h)

  at_start_both : (k : ℕ) → bit_of set (k * w) ≡ (bit_of gs (k * w) && bit_of ks (k * w))
  at_start_both k = made (k * w) ∙ ap (λ r. nat_eq r 0 && (bit_of gs (k * w) && bit_of ks (k * w))) (mul-mod_left k w)

  in_both : (k : ℕ) → k * w < m → bit_of set (k * w) ≡ (get_or g (k * w) false && get_or a (k * w) false)
  in_both k h = at_start_both k ∙ ap₂ (λ x y. x && y) (sym (reads_g (k * w) h)) (sym (reads_a (k * w) h))

  in_none : (k : ℕ) → m ≤ k * w → bit_of set (k * w) ≡ false
  in_none k h = at_start_both k ∙ ap (λ t. t && bit_of ks (k * w)) (above (k * w) h)

  lane_starts : (k : ℕ) → k < m / w → k * w < m
  lane_starts k h = omega (arith, one_less k (m / w) w h some, div-add-mod' m w)

  -- whole fields
  pub whole_lanes : m % w ≡ 0 → (b : ℕ) → bit_of set b ≡ field_bit w (among (m / w) (λ k. get_or g (k * w) false && get_or a (k * w) false)) b
  whole_lanes whole = lanes_shown w (m / w) (λ k. get_or g (k * w) false && get_or a (k * w) false) (bit_of set) off_start (λ k h. in_both k (lane_starts k h))
      (λ k h. let past : m ≤ k * w = omega (arith, not_less (m / w) k w h, div-add-mod' m w) in in_none k past)

  -- a part of a field at the end
  pub cut_lanes : (low cut : List ℕ) (end : ℕ) → end ≡ m - m % w → ((b : ℕ) → bit_of low b ≡ (nat_eq (b % w) 0 && nat_lt b end)) → ((b : ℕ) → bit_of cut b ≡ (nat_eq (b % w) 0 && (bit_of set b && bit_of low b)))
      → (b : ℕ) → bit_of cut b ≡ field_bit w (among (m / w) (λ k. get_or g (k * w) false && get_or a (k * w) false)) b
  cut_lanes low cut end is below both = lanes_shown w (m / w) (λ k. get_or g (k * w) false && get_or a (k * w) false) (bit_of cut) off on past where
    off : (b : ℕ) → 0 < b % w → bit_of cut b ≡ false
    off b h = both b ∙ ap (λ t. t && (bit_of set b && bit_of low b)) (not_start (b % w) h)

    at : (k : ℕ) → bit_of cut (k * w) ≡ (bit_of set (k * w) && nat_lt (k * w) end)
    at k =
        both (k * w) ∙ ap (λ r. nat_eq r 0 && (bit_of set (k * w) && bit_of low (k * w))) (mul-mod_left k w)
        ∙ ap (λ t. bit_of set (k * w) && t) (below (k * w) ∙ ap (λ r. nat_eq r 0 && nat_lt (k * w) end) (mul-mod_left k w))

    on : (k : ℕ) → k < m / w → bit_of cut (k * w) ≡ (get_or g (k * w) false && get_or a (k * w) false)
    on k h =
        let less : k * w < end = omega (arith, one_less k (m / w) w h some, div-add-mod' m w) in
        at k ∙ ap (λ t. bit_of set (k * w) && t) (lt-ltb (k * w) end less) ∙ and_true (bit_of set (k * w)) ∙ in_both k (lane_starts k h)

    past : (k : ℕ) → m / w ≤ k → bit_of cut (k * w) ≡ false
    past k h =
        let most : end ≤ k * w = omega (arith, not_less (m / w) k w h, div-add-mod' m w) in
        at k ∙ ap (λ t. bit_of set (k * w) && t) (le-ltb (k * w) end most) ∙ and_false (bit_of set (k * w))
