-- No other fields than those that are found give a value: tried for all fields.
use Rattle.std.proofs.Common.{◌≡◌, ℕ, zero, suc, ◌/◌, ◌%◌, ◌^◌, ◌<◌, ◌≤◌, ◌==◌, ◌&&◌, Bool, true, cond, Option, Some, None, refl, nat_le, ap, sym, subst, inl, inr, ◌⊎◌, arith}
use Rattle.std.proofs.lemmas.Bool.{eqb-true, eq-eqb, ne_eqb, leb-true}
use Rattle.emu_bits.proofs.Encoding.{both}
use Rattle.std.specs.Int.Count.{count_trailing_zeros}
use Rattle.emu_bits.specs.Bitmask.{bitmask_of}
use Rattle.emu_bits.specs.LeastFields.{GivesBitmask}
use Rattle.emu_bits.proofs.AllBelow.{all_below, each_below, gives, given}
use Rattle.emu_bits.specs.Search.{Part, shrunk, first_log, guess_n, guess_immr, guess_imms}

abbrev pub good : ℕ → ℕ → ℕ → ℕ → Part → ℕ → Bool
good w n immr imms m v = guess_n m == n && (guess_imms m == imms && (nat_le (guess_immr m) immr && gives (bitmask_of w n (guess_immr m) imms) v))

abbrev pub test_value : ℕ → ℕ → ℕ → ℕ → Option ℕ → Bool
test_value w n immr imms None = true
test_value w n immr imms (Some v) = good w n immr imms (shrunk (first_log w) v) v

test_32_0 : all_below 64 (λ immr. all_below 64 (λ imms. test_value 32 0 immr imms (bitmask_of 32 0 immr imms))) ≡ true
unfolding bitmask_of count_trailing_zeros
test_32_0 = refl

test_32_1 : all_below 64 (λ immr. all_below 64 (λ imms. test_value 32 1 immr imms (bitmask_of 32 1 immr imms))) ≡ true
unfolding bitmask_of count_trailing_zeros
test_32_1 = refl

test_64_0 : all_below 64 (λ immr. all_below 64 (λ imms. test_value 64 0 immr imms (bitmask_of 64 0 immr imms))) ≡ true
unfolding bitmask_of count_trailing_zeros
test_64_0 = refl

test_64_1 : all_below 64 (λ immr. all_below 64 (λ imms. test_value 64 1 immr imms (bitmask_of 64 1 immr imms))) ≡ true
unfolding bitmask_of count_trailing_zeros
test_64_1 = refl

tests : (w n immr imms : ℕ) → (w ≡ 32) ⊎ (w ≡ 64) → n < 2 → immr < 64 → imms < 64 → test_value w n immr imms (bitmask_of w n immr imms) ≡ true
tests w zero immr imms (inl e) f g h =
    subst (λ (x : ℕ). test_value x 0 immr imms (bitmask_of x 0 immr imms) ≡ true) (sym e)
    (each_below 64 (λ y. test_value 32 0 immr y (bitmask_of 32 0 immr y)) imms
    (each_below 64 (λ x. all_below 64 (λ y. test_value 32 0 x y (bitmask_of 32 0 x y))) immr test_32_0 g) h)
tests w (suc zero) immr imms (inl e) f g h =
    subst (λ (x : ℕ). test_value x 1 immr imms (bitmask_of x 1 immr imms) ≡ true) (sym e)
    (each_below 64 (λ y. test_value 32 1 immr y (bitmask_of 32 1 immr y)) imms
    (each_below 64 (λ x. all_below 64 (λ y. test_value 32 1 x y (bitmask_of 32 1 x y))) immr test_32_1 g) h)
tests w zero immr imms (inr e) f g h =
    subst (λ (x : ℕ). test_value x 0 immr imms (bitmask_of x 0 immr imms) ≡ true) (sym e)
    (each_below 64 (λ y. test_value 64 0 immr y (bitmask_of 64 0 immr y)) imms
    (each_below 64 (λ x. all_below 64 (λ y. test_value 64 0 x y (bitmask_of 64 0 x y))) immr test_64_0 g) h)
tests w (suc zero) immr imms (inr e) f g h =
    subst (λ (x : ℕ). test_value x 1 immr imms (bitmask_of x 1 immr imms) ≡ true) (sym e)
    (each_below 64 (λ y. test_value 64 1 immr y (bitmask_of 64 1 immr y)) imms
    (each_below 64 (λ x. all_below 64 (λ y. test_value 64 1 x y (bitmask_of 64 1 x y))) immr test_64_1 g) h)
tests w (suc (suc n)) immr imms o f g h = absurd (omega arith)

-- what the test says of fields that give a value
pub record Known (w v n immr imms : ℕ) (m : Part) : Type 0 where
  pub n_is : guess_n m ≡ n
  pub imms_is : guess_imms m ≡ imms
  pub least : guess_immr m ≤ immr
  pub gives : bitmask_of w n (guess_immr m) imms ≡ Some v

pub known : (w v n immr imms : ℕ) → (w ≡ 32) ⊎ (w ≡ 64) → GivesBitmask w v n immr imms → Known w v n immr imms (shrunk (first_log w) v)
known w v n immr imms o g =
    let m : Part = shrunk (first_log w) v in
    let t : good w n immr imms m v ≡ true =
    subst (λ (x : Option ℕ). test_value w n immr imms x ≡ true) g.gives (tests w n immr imms o g.flag g.rotation g.size) in
    let t1 = both (guess_n m == n) _ t in
    let t2 = both (guess_imms m == imms) _ t1.1 in
    let t3 = both (nat_le (guess_immr m) immr) _ t2.1 in
    record {
      n_is = eqb-true _ _ t1.0;
      imms_is = eqb-true _ _ t2.0;
      least = leb-true _ _ t3.0;
      gives = given _ _ t3.1;
    }

-- ---- the search for the part

pub shrink_step : (h m x : ℕ) → suc m ≡ h → 0 < m → x / 2 ^ 2 ^ m ≡ x % 2 ^ 2 ^ m → shrunk m (x % 2 ^ 2 ^ m) ≡ shrunk h x
shrink_step h zero x e f q = absurd (omega arith)
shrink_step h (suc k) x e f q =
    subst (λ (i : ℕ). shrunk (suc k) (x % 2 ^ 2 ^ suc k) ≡ shrunk i x) e
    (sym (ap (λ (t : Bool). cond t (shrunk (suc k) (x % 2 ^ 2 ^ suc k)) (record { log = suc (suc k); bits = x })) (eq-eqb _ _ q)))

pub shrink_stop : (h m x : ℕ) → suc m ≡ h → 0 < m → (x / 2 ^ 2 ^ m ≡ x % 2 ^ 2 ^ m → ⊥) → shrunk h x ≡ record { log = h; bits = x }
shrink_stop h zero x e f q = absurd (omega arith)
shrink_stop h (suc k) x e f q =
    subst (λ (i : ℕ). shrunk i x ≡ record { log = i; bits = x }) e
    (ap (λ (t : Bool). cond t (shrunk (suc k) (x % 2 ^ 2 ^ suc k)) (record { log = suc (suc k); bits = x })) (ne_eqb _ _ q))

pub shrink_end : (h x : ℕ) → h ≤ 1 → shrunk h x ≡ record { log = h; bits = x }
shrink_end zero x f = refl
shrink_end (suc zero) x f = refl
shrink_end (suc (suc k)) x f = absurd (omega arith)
