-- The first bit that is 1 alone, and the next lane.
use Rattle.std.proofs.Common.{◌≡◌, ◌≢◌, ◌<◌, ◌≤◌, ◌+◌, ◌*◌, ◌/◌, ◌%◌, ℕ, Bool, true, false, ◌&&◌, if◌then◌else◌, nat_eq, nat_lt, Option, Some, None, List, length, get_or, set, replicate, inl, inr, refl, sym, ap, ap₂, subst, ◌∙◌, arith}
use Rattle.std.specs.Int.{bit_at}
use Rattle.std.proofs.Math.Nat.{mul-le-mul_right}
use Rattle.std.proofs.lemmas.Bool.{cases_lt, cases_eq, lt-ltb, le-ltb, and_parts}
use Rattle.std.proofs.lemmas.List.{get_or-replicate}
use Rattle.std.proofs.lemmas.Nat.{div-add-mod'}
use Rattle.lane_model.specs.Bits.{field_bit}
use Rattle.lane_model.specs.WordBits.{bit_of}
use Rattle.lane_model.proofs.Bits.{at_start, between, zero_bit}
use Rattle.lane_model.proofs.Found.{first_found, first_is, first_same, last_found}
use Rattle.lane_model.specs.FirstLast.{first_where, last_where}
use Rattle.lane_model.specs.FirstLastLaws.{IsFirstWhere, IsLastWhere}
use Rattle.lane_model.specs.Predicate.{is_at, is_behind}
use Rattle.pred_bits.specs.LaneBits.{among, lane_at}
use Rattle.pred_bits.proofs.LaneWords.{not_start, twice, and_false, lanes_shown, first_of_words, starts_lane, is_lane, last_lane_is}
use Rattle.pred_bits.proofs.Views.{bit_written, bit_kept}
use Rattle.pred_bits.proofs.WordMasks.{is_equal, is_other}

-- ---- one bit

abbrev zeros : List ℕ
zeros = replicate 4 0

one_bit_at : (q x b : ℕ) → q < 256 → nat_eq (bit_at x (q % 64)) 1 ≡ true → ((j : ℕ) → j < 64 → j ≢ q % 64 → bit_at x j ≡ bit_at 0 j) → bit_of (set zeros (q / 64) x) b ≡ nat_eq b q
one_bit_at q x b within here others = elim (cases_eq b q) [
  | inl same ↦ ap (bit_of (set zeros (q / 64) x)) same ∙ bit_written zeros q x true place here keeps ∙ sym (is_equal b q same)
  | inr other ↦ bit_kept zeros q x true place here keeps b other ∙ zero_bit 4 b ∙ sym (is_other b q other)
] where
  place : q / 64 < length zeros
  place = let long : length zeros ≡ 4 = refl in omega arith

  keeps : (j : ℕ) → j < 64 → j ≢ q % 64 → bit_at x j ≡ bit_at (get_or zeros (q / 64) 0) j
  keeps j h o = let inside : q / 64 < 4 = omega arith in others j h o ∙ ap (λ y. bit_at y j) (sym (get_or-replicate 4 (q / 64) 0 0 inside))

pub one_bit : (i s x b : ℕ) → i < 4 → s < 64 → nat_eq (bit_at x s) 1 ≡ true → ((j : ℕ) → j < 64 → j ≢ s → bit_at x j ≡ bit_at 0 j) → bit_of (set (replicate 4 0) i x) b ≡ nat_eq b (64 * i + s)
one_bit i s x b in_words within here others =
    let d : (64 * i + s) / 64 ≡ i = omega arith in
    let r : (64 * i + s) % 64 ≡ s = omega arith in
    subst (λ k. bit_of (set zeros k x) b ≡ nat_eq b (64 * i + s)) d
    (one_bit_at (64 * i + s) x b (omega arith) (subst (λ t. nat_eq (bit_at x t) 1 ≡ true) (sym r) here) (λ j h o. others j h (λ e. o (e ∙ sym r))))

-- ---- the next lane

nowhere : (t : Bool) → false ≡ (if t then false else false)
nowhere true = refl
nowhere false = refl

-- the words of the active lanes, of those that are set before, of the active lanes behind these, and of the first of them
module _ (w n : ℕ) (g before on was kept made : ℕ → Bool) (some : 0 < w) (room : n * w ≤ 256)
    (on_shows : (b : ℕ) → on b ≡ field_bit w (among n (λ k. g k && g k)) b) (was_shows : (b : ℕ) → was b ≡ field_bit w (among n (λ k. before k && before k)) b)
    (is_kept : (b : ℕ) → kept b ≡ (on b && is_behind (last_where 256 was) b)) (is_made : (b : ℕ) → made b ≡ is_at (first_where 256 kept) b) where
  order : (q k : ℕ) → q % w ≡ 0 → nat_lt q (k * w) ≡ nat_lt (q / w) k
  order q k start = elim (cases_lt (q / w) k) [
    | inl less ↦ lt-ltb q (k * w) (upto (q / w) less (whole (q / w) refl)) ∙ sym (lt-ltb (q / w) k less)
    | inr most ↦ le-ltb q (k * w) (past (q / w) most (whole (q / w) refl)) ∙ sym (le-ltb (q / w) k most)
  ] where
    whole : (d : ℕ) → q / w ≡ d → q ≡ d * w
    whole d e = let p : q / w * w + q % w ≡ q = div-add-mod' q w in let r : q / w * w ≡ d * w = ap (λ x. x * w) e in omega arith

    upto : (d : ℕ) → d < k → q ≡ d * w → q < k * w
    upto d h e = let next : d + 1 ≤ k = omega arith in let all : (d + 1) * w ≤ k * w = mul-le-mul_right w next in omega arith

    past : (d : ℕ) → k ≤ d → q ≡ d * w → k * w ≤ q
    past d h e = let all : k * w ≤ d * w = mul-le-mul_right w h in omega arith

  behind_lane : (k : ℕ) (place : Option ℕ) → IsLastWhere 256 was place → is_behind place (k * w) ≡ is_behind (lane_at w place) k
  behind_lane k None h = refl
  behind_lane k (Some q) h = order q k (starts_lane w n (λ k. before k && before k) was some room was_shows q h.meets)

  off : (b : ℕ) → 0 < b % w → kept b ≡ false
  off b h = is_kept b ∙ ap (λ t. t && is_behind (last_where 256 was) b) (on_shows b ∙ between w b (among n (λ k. g k && g k)) h)

  at_lane : (k : ℕ) → kept (k * w) ≡ ((nat_lt k n && (g k && g k)) && is_behind (lane_at w (last_where 256 was)) k)
  at_lane k =
      is_kept (k * w)
      ∙ ap₂ (λ x y. x && y) (on_shows (k * w) ∙ at_start k w (among n (λ k. g k && g k)) some) (behind_lane k (last_where 256 was) (last_found 256 was))

  within : (k : ℕ) → k < n → kept (k * w) ≡ ((g k && g k) && is_behind (lane_at w (last_where 256 was)) k)
  within k h = at_lane k ∙ ap (λ t. (t && (g k && g k)) && is_behind (lane_at w (last_where 256 was)) k) (lt-ltb k n h)

  past_all : (k : ℕ) → n ≤ k → kept (k * w) ≡ false
  past_all k h = at_lane k ∙ ap (λ t. (t && (g k && g k)) && is_behind (lane_at w (last_where 256 was)) k) (le-ltb k n h)

  kept_shows : (b : ℕ) → kept b ≡ field_bit w (among n (λ k. (g k && g k) && is_behind (lane_at w (last_where 256 was)) k)) b
  kept_shows = lanes_shown w n (λ k. (g k && g k) && is_behind (lane_at w (last_where 256 was)) k) kept off within past_all

  next_is : lane_at w (first_where 256 kept) ≡ first_where n (λ k. g k && is_behind (last_where n before) k)
  next_is =
      sym (first_is n (λ k. (g k && g k) && is_behind (lane_at w (last_where 256 was)) k) (lane_at w (first_where 256 kept)) (first_of_words w n (λ k. (g k && g k) && is_behind (lane_at w (last_where 256 was)) k) kept some room kept_shows (first_where 256 kept) (first_found 256 kept)))
      ∙ first_same n (λ k. (g k && g k) && is_behind (lane_at w (last_where 256 was)) k) (λ k. g k && is_behind (lane_at w (last_where 256 was)) k) (λ k h. ap (λ t. t && is_behind (lane_at w (last_where 256 was)) k) (twice (g k)))
      ∙ ap (λ (o : Option ℕ). first_where n (λ k. g k && is_behind o k)) (last_lane_is w n before was some room was_shows)

  place_field : (b : ℕ) (place : Option ℕ) → IsFirstWhere 256 kept place → is_at place b ≡ field_bit w (is_at (lane_at w place)) b
  place_field b None h = nowhere (nat_eq (b % w) 0)
  place_field b (Some p) h =
      let start : p % w ≡ 0 = starts_lane w n (λ k. (g k && g k) && is_behind (lane_at w (last_where 256 was)) k) kept some room kept_shows p h.meets in
      elim (cases_eq (b % w) 0) [
        | inl lowest ↦ same_place lowest start ∙ sym (ap (λ r. if nat_eq r 0 then nat_eq (b / w) (p / w) else false) lowest)
        | inr other ↦
            let apart : b ≢ p = λ e. other (ap (λ x. x % w) e ∙ start) in
            is_other b p apart ∙ sym (ap (λ t. if t then nat_eq (b / w) (p / w) else false) (not_start (b % w) (omega arith)))
      ] where
        same_place : b % w ≡ 0 → p % w ≡ 0 → nat_eq b p ≡ nat_eq (b / w) (p / w)
        same_place lowest start = elim (cases_eq (b / w) (p / w)) [
          | inl same ↦
              let at_b : b / w * w + b % w ≡ b = div-add-mod' b w in
              let at_p : p / w * w + p % w ≡ p = div-add-mod' p w in
              let whole : b / w * w ≡ p / w * w = ap (λ x. x * w) same in
              let equal : b ≡ p = omega arith in
              is_equal b p equal ∙ sym (is_equal (b / w) (p / w) same)
          | inr other ↦
              let apart : b ≢ p = λ e. other (ap (λ x. x / w) e) in
              is_other b p apart ∙ sym (is_other (b / w) (p / w) other)
        ]

  pub next_field : (b : ℕ) → made b ≡ field_bit w (is_at (first_where n (λ k. g k && is_behind (last_where n before) k))) b
  next_field b = is_made b ∙ place_field b (first_where 256 kept) (first_found 256 kept) ∙ ap (λ (o : Option ℕ). field_bit w (is_at o) b) next_is

  above : (m : ℕ) → n * w ≤ m → (b : ℕ) → m ≤ b → (place : Option ℕ) → IsFirstWhere 256 kept place → is_at place b ≡ false
  above m fits b le None h = refl
  above m fits b le (Some p) h =
      let is : (p / w < n) × (((g (p / w) && g (p / w)) && is_behind (lane_at w (last_where 256 was)) (p / w)) ≡ true) = is_lane w n (λ k. (g k && g k) && is_behind (lane_at w (last_where 256 was)) k) kept some room kept_shows p h.meets in
      let start : p % w ≡ 0 = starts_lane w n (λ k. (g k && g k) && is_behind (lane_at w (last_where 256 was)) k) kept some room kept_shows p h.meets in
      let at_p : p / w * w + p % w ≡ p = div-add-mod' p w in
      let next : p / w + 1 ≤ n = let less : p / w < n = is.0 in omega arith in
      let all : (p / w + 1) * w ≤ n * w = mul-le-mul_right w next in
      let more : (p / w + 1) * w ≡ p / w * w + w = omega arith in
      let apart : b ≢ p = λ e. absurd (omega arith) in
      is_other b p apart

  pub next_clear : (m : ℕ) → n * w ≤ m → (b : ℕ) → m ≤ b → made b ≡ false
  next_clear m fits b le = is_made b ∙ above m fits b le (first_where 256 kept) (first_found 256 kept)

-- ---- the next lane among the active ones

place_active : (n k : ℕ) (g t : ℕ → Bool) (place : Option ℕ) → IsFirstWhere n (λ k. g k && t k) place → is_at place k ≡ (g k && is_at place k)
place_active n k g t None h = sym (and_false (g k))
place_active n k g t (Some p) h = elim (cases_eq k p) [
  | inl same ↦
      let both : (g p ≡ true) × (t p ≡ true) = and_parts (g p) (t p) h.meets in
      sym (ap (λ x. x && nat_eq k p) (ap g same ∙ both.0))
  | inr other ↦ is_other k p other ∙ sym (ap (λ x. g k && x) (is_other k p other) ∙ and_false (g k))
]

place_past : (n k : ℕ) (test : ℕ → Bool) (place : Option ℕ) → IsFirstWhere n test place → n ≤ k → is_at place k ≡ false
place_past n k test None h le = refl
place_past n k test (Some p) h le =
    let within : p < n = h.within in
    let apart : k ≢ p = λ e. absurd (omega arith) in
    is_other k p apart

-- the word that has it alone has the active lanes that are set in it
pub next_among : (w n : ℕ) (g t a made : ℕ → Bool) → 0 < w → ((b : ℕ) → made b ≡ field_bit w (is_at (first_where n (λ k. g k && t k))) b) → ((k : ℕ) → k < n → a k ≡ is_at (first_where n (λ k. g k && t k)) k)
    → (b : ℕ) → made b ≡ field_bit w (among n (λ k. g k && a k)) b
next_among w n g t a made some is reads = lanes_shown w n (λ k. g k && a k) made off on past where
  at : (k : ℕ) → made (k * w) ≡ is_at (first_where n (λ k. g k && t k)) k
  at k = is (k * w) ∙ at_start k w (is_at (first_where n (λ k. g k && t k))) some

  off : (b : ℕ) → 0 < b % w → made b ≡ false
  off b h = is b ∙ between w b (is_at (first_where n (λ k. g k && t k))) h

  on : (k : ℕ) → k < n → made (k * w) ≡ (g k && a k)
  on k h = at k ∙ place_active n k g t (first_where n (λ k. g k && t k)) (first_found n (λ k. g k && t k)) ∙ ap (λ x. g k && x) (sym (reads k h))

  past : (k : ℕ) → n ≤ k → made (k * w) ≡ false
  past k h = at k ∙ place_past n k (λ k. g k && t k) (first_where n (λ k. g k && t k)) (first_found n (λ k. g k && t k)) h
