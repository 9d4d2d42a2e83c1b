-- The predicate test where all lanes are active.
use Rattle.std.proofs.Common.{◌≡◌, ◌≢◌, ◌<◌, ◌≤◌, ◌-◌, ◌*◌, ◌/◌, ℕ, Bool, true, false, not, ◌&&◌, nat_eq, nat_lt, Option, Some, None, List, is_none, is_some, inl, inr, refl, sym, ap, ap₂, ◌∙◌, arith}
use Rattle.std.proofs.lemmas.Bool.{true≢false, false≢true, cases_lt, cases_eq, lt-ltb, le-ltb}
use Rattle.std.proofs.lemmas.Bool.Decides.{nat_tests}
use Rattle.emu_bits.specs.Flags.{size_of}
use Rattle.emu_bits.specs.declared.flags.Esize.{Esize}
use Rattle.emu_bits.specs.declared.flags.Flags.{Flags}
use Rattle.lane_model.specs.Bits.{field_bit, active, lanes_of}
use Rattle.lane_model.specs.Lists.{each}
use Rattle.lane_model.proofs.Bits.{at_start, get_or-each_bit}
use Rattle.lane_model.proofs.Found.{first_found, first_is, last_is, first_same, last_same, answer_same, last_within}
use Rattle.lane_model.specs.FirstLast.{first_where, last_where}
use Rattle.lane_model.specs.FirstLastLaws.{answer_at}
use Rattle.lane_model.specs.Predicate.{first_set, test_flags, pred_test}
use Rattle.pred_bits.proofs.Fields.{lane_within, some_bits}
use Rattle.pred_bits.proofs.LaneWords.{first_within}

module _ (e : Esize) (m : ℕ) (a : List Bool) (some : 0 < lanes_of (size_of e) m) where
  all_on : (k : ℕ) → k < lanes_of (size_of e) m → active (size_of e) (each m (λ k. true)) k ≡ true
  all_on k h = get_or-each_bit m (λ k. true) (k * (size_of e / 8)) false (lane_within e k m h)

  first_of_all : first_where (lanes_of (size_of e) m) (active (size_of e) (each m (λ k. true))) ≡ Some 0
  first_of_all = first_is (lanes_of (size_of e) m) (active (size_of e) (each m (λ k. true))) (Some 0) (record { within = some; meets = all_on 0 some; before = λ j h. absurd (omega arith) })

  last_of_all : last_where (lanes_of (size_of e) m) (active (size_of e) (each m (λ k. true))) ≡ Some (lanes_of (size_of e) m - 1)
  last_of_all =
      let within : lanes_of (size_of e) m - 1 < lanes_of (size_of e) m = omega arith in
      last_is (lanes_of (size_of e) m) (active (size_of e) (each m (λ k. true))) (Some (lanes_of (size_of e) m - 1))
      (record { within = within; meets = all_on (lanes_of (size_of e) m - 1) within; behind = λ j p q. absurd (omega arith) })

  doubled : (x : Bool) → (x && x) ≡ x
  doubled true = refl
  doubled false = refl

  set_of_all : first_set (lanes_of (size_of e) m) (active (size_of e) a) (active (size_of e) a) ≡ first_set (lanes_of (size_of e) m) (active (size_of e) (each m (λ k. true))) (active (size_of e) a)
  set_of_all = first_same (lanes_of (size_of e) m) _ _ (λ k h. doubled (active (size_of e) a k) ∙ sym (ap (λ t. t && active (size_of e) a k) (all_on k h)))

  pub all_tested : (n z c : Bool) → n ≡ active (size_of e) a 0 → z ≡ is_none (first_set (lanes_of (size_of e) m) (active (size_of e) a) (active (size_of e) a)) → c ≡ not (active (size_of e) a (lanes_of (size_of e) m - 1))
      → (let f : Flags = record { n = n; z = z; c = c; v = false } in f) ≡ pred_test (size_of e) m (each m (λ k. true)) a
  all_tested n z c is_n is_z is_c =
      let flags : Bool → Bool → Bool → Flags = λ n z c. record { n = n; z = z; c = c; v = false } in
      ap (λ n. flags n z c) (is_n ∙ sym (ap (λ (o : Option ℕ). answer_at o (active (size_of e) a)) first_of_all))
      ∙ ap (λ z. flags (answer_at (first_where (lanes_of (size_of e) m) (active (size_of e) (each m (λ k. true)))) (active (size_of e) a)) z c) (is_z ∙ ap (λ (o : Option ℕ). is_none o) set_of_all)
      ∙ ap (λ c. flags (answer_at (first_where (lanes_of (size_of e) m) (active (size_of e) (each m (λ k. true)))) (active (size_of e) a)) (is_none (first_set (lanes_of (size_of e) m) (active (size_of e) (each m (λ k. true))) (active (size_of e) a))) c)
      (is_c ∙ sym (ap (λ (o : Option ℕ). not (answer_at o (active (size_of e) a))) last_of_all))

pub none_is : (o : Option ℕ) (b : Bool) → is_some o ≡ not b → b ≡ is_none o
none_is None true e = refl
none_is None false e = absurd (false≢true e)
none_is (Some k) true e = absurd (true≢false e)
none_is (Some k) false e = refl

-- ---- lanes below a number

module _ (n count : ℕ) (some : 0 < n) where
  first_of_n : first_where n (λ k. true) ≡ Some 0
  first_of_n = first_is n (λ k. true) (Some 0) (record { within = some; meets = refl; before = λ j h. absurd (omega arith) })

  last_of_n : last_where n (λ k. true) ≡ Some (n - 1)
  last_of_n = let within : n - 1 < n = omega arith in last_is n (λ k. true) (Some (n - 1)) (record { within = within; meets = refl; behind = λ j p q. absurd (omega arith) })

  is_zero : count ≡ 0 → true ≡ nat_eq count 0
  is_zero e = grind (arith, nat_tests)

  not_zero : count ≢ 0 → false ≡ nat_eq count 0
  not_zero e = grind (arith, nat_tests)

  none_below : is_none (first_where n (λ k. nat_lt k count)) ≡ nat_eq count 0
  none_below = elim (cases_eq count 0) [
    | inl none ↦ ap (λ (o : Option ℕ). is_none o) (first_is n (λ k. nat_lt k count) None (λ j h. le-ltb j count (omega arith))) ∙ is_zero none
    | inr other ↦
        let least : 0 < count = omega arith in
        ap (λ (o : Option ℕ). is_none o) (first_is n (λ k. nat_lt k count) (Some 0) (record { within = some; meets = lt-ltb 0 count least; before = λ j h. absurd (omega arith) })) ∙ not_zero other
  ]

  last_below : not (nat_lt (n - 1) count) ≡ nat_lt count n
  last_below = elim (cases_lt count n) [
    | inl less ↦ let past : count ≤ n - 1 = omega arith in ap not (le-ltb (n - 1) count past) ∙ sym (lt-ltb count n less)
    | inr most ↦ let within : n - 1 < count = omega arith in ap not (lt-ltb (n - 1) count within) ∙ sym (le-ltb count n most)
  ]

  pub below_tested : (x y z : Bool) → x ≡ nat_lt 0 count → y ≡ nat_eq count 0 → z ≡ nat_lt count n
      → (let f : Flags = record { n = x; z = y; c = z; v = false } in f) ≡ test_flags n (λ k. true) (λ k. nat_lt k count)
  below_tested x y z is_x is_y is_z =
      let flags : Bool → Bool → Bool → Flags = λ x y z. record { n = x; z = y; c = z; v = false } in
      let below : ℕ → Bool = λ k. nat_lt k count in
      ap (λ x. flags x y z) (is_x ∙ sym (ap (λ (o : Option ℕ). answer_at o (λ k. nat_lt k count)) first_of_n))
      ∙ ap (λ y. flags (answer_at (first_where n (λ k. true)) below) y z) (is_y ∙ sym none_below)
      ∙ ap (λ z. flags (answer_at (first_where n (λ k. true)) below) (is_none (first_where n below)) z)
      (is_z ∙ sym (ap (λ (o : Option ℕ). not (answer_at o (λ k. nat_lt k count))) last_of_n ∙ last_below))

-- the same flags
pub flags_same : (n : ℕ) (g a h b : ℕ → Bool) → ((k : ℕ) → k < n → g k ≡ h k) → ((k : ℕ) → k < n → a k ≡ b k) → test_flags n g a ≡ test_flags n h b
flags_same n g a h b same_g same_a =
    let flags : Bool → Bool → Bool → Flags = λ x y z. record { n = x; z = y; c = z; v = false } in
    let first : answer_at (first_where n g) a ≡ answer_at (first_where n h) b
    = ap (λ (o : Option ℕ). answer_at o a) (first_same n g h same_g) ∙ answer_same n (first_where n h) a b (first_within n h (first_where n h) (first_found n h)) same_a in
    let last : answer_at (last_where n g) a ≡ answer_at (last_where n h) b
    = ap (λ (o : Option ℕ). answer_at o a) (last_same n g h same_g) ∙ answer_same n (last_where n h) a b (last_within n h) same_a in
    let none : first_where n (λ k. g k && a k) ≡ first_where n (λ k. h k && b k) = first_same n (λ k. g k && a k) (λ k. h k && b k) (λ k q. ap₂ (λ x y. x && y) (same_g k q) (same_a k q)) in
    ap (λ x. flags x (is_none (first_where n (λ k. g k && a k))) (not (answer_at (last_where n g) a))) first
    ∙ ap (λ (o : Option ℕ). flags (answer_at (first_where n h) b) (is_none o) (not (answer_at (last_where n g) a))) none
    ∙ ap (λ z. flags (answer_at (first_where n h) b) (is_none (first_where n (λ k. h k && b k))) (not z)) last

-- lanes of fields, and of all ones
pub field_active : (e : Esize) (m k : ℕ) (f : ℕ → Bool) → k < lanes_of (size_of e) m → active (size_of e) (each m (field_bit (size_of e / 8) f)) k ≡ f k
field_active e m k f h = get_or-each_bit m (field_bit (size_of e / 8) f) (k * (size_of e / 8)) false (lane_within e k m h) ∙ at_start k (size_of e / 8) f (some_bits e)

pub one_active : (e : Esize) (m k : ℕ) → k < lanes_of (size_of e) m → active (size_of e) (each m (λ k. true)) k ≡ true
one_active e m k h = get_or-each_bit m (λ k. true) (k * (size_of e / 8)) false (lane_within e k m h)
