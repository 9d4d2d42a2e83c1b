-- The equations of what an access reads, writes and is refused, for proofs.
use Rattle.std.specs.Prelude.{◌≡◌, ◌<◌, if◌then◌else◌, ℕ, suc, ◌+◌, ◌*◌, ◌/◌, ◌%◌, Some, None}
use Rattle.std.proofs.Common.{refl, ◌-◌, ◌≤◌, add-zero, arith}
use Rattle.emu_model.specs.declared.access.Kind.{Kind}
use Rattle.emu_model.specs.Access.{Memory, address, allowed, byte_at, refused, value, with_byte, stored}

pub refused-zero : (m : Memory) (a : ℕ) (kind : Kind) → refused m a 0 kind ≡ None
unfolding refused
refused-zero m a kind = refl

pub refused-suc : (m : Memory) (a n : ℕ) (kind : Kind) → refused m a (suc n) kind ≡ (if allowed m kind (address a) then refused m (a + 1) n kind else Some (address a))
unfolding refused
refused-suc m a n kind = refl

pub value-zero : (m : Memory) (a : ℕ) → value m a 0 ≡ 0
unfolding value
value-zero m a = refl

pub value-suc : (m : Memory) (a n : ℕ) → value m a (suc n) ≡ byte_at m (address a) + 256 * value m (a + 1) n
unfolding value
value-suc m a n = refl

pub stored-zero : (m : Memory) (a v : ℕ) → stored m a 0 v ≡ m
unfolding stored
stored-zero m a v = refl

pub stored-suc : (m : Memory) (a n v : ℕ) → stored m a (suc n) v ≡ stored (with_byte m (address a) (v % 256)) (a + 1) n (v / 256)
unfolding stored
stored-suc m a n v = refl

-- the same at byte j of n, as a loop over the bytes goes
step : (n j : ℕ) → j < n → n - j ≡ suc (n - (j + 1))
step n j h = omega arith

next : (a j : ℕ) → (a + j) + 1 ≡ a + (j + 1)
next a j = omega arith

pub refused-at : (m : Memory) (a n j : ℕ) (kind : Kind) → j < n → refused m (a + j) (n - j) kind ≡ (if allowed m kind (address (a + j)) then refused m (a + (j + 1)) (n - (j + 1)) kind else Some (address (a + j)))
refused-at m a n j kind h = rw (step n j h, refused-suc, next a j)

pub refused-from : (m : Memory) (a n : ℕ) (kind : Kind) → refused m (a + 0) (n - 0) kind ≡ refused m a n kind
refused-from m a n kind = let e : n - 0 ≡ n = omega arith in rw (add-zero a, e)

pub refused-to : (m : Memory) (a n j : ℕ) (kind : Kind) → n ≤ j → refused m (a + j) (n - j) kind ≡ None
refused-to m a n j kind h = let e : n - j ≡ 0 = omega arith in rw (e, refused-zero m (a + j) kind)

pub value-at : (m : Memory) (a n j : ℕ) → j < n → value m (a + j) (n - j) ≡ byte_at m (address (a + j)) + 256 * value m (a + (j + 1)) (n - (j + 1))
value-at m a n j h = rw (step n j h, value-suc, next a j)

pub value-from : (m : Memory) (a n : ℕ) → value m (a + 0) (n - 0) ≡ value m a n
value-from m a n = let e : n - 0 ≡ n = omega arith in rw (add-zero a, e)

pub value-to : (m : Memory) (a n j : ℕ) → n ≤ j → value m (a + j) (n - j) ≡ 0
value-to m a n j h = let e : n - j ≡ 0 = omega arith in rw (e, value-zero m (a + j))

-- the same from the last byte back
pub value-back : (m : Memory) (a n j : ℕ) → 0 < j → j ≤ n → value m (a + (j - 1)) (n - (j - 1)) ≡ byte_at m (address (a + (j - 1))) + 256 * value m (a + j) (n - j)
value-back m a n j h k = let e : n - (j - 1) ≡ suc (n - j) = omega arith in let f : (a + (j - 1)) + 1 ≡ a + j = omega arith in rw (e, value-suc, f)

pub stored-at : (m : Memory) (a n j v : ℕ) → j < n → stored m (a + j) (n - j) v ≡ stored (with_byte m (address (a + j)) (v % 256)) (a + (j + 1)) (n - (j + 1)) (v / 256)
stored-at m a n j v h = rw (step n j h, stored-suc, next a j)

pub stored-from : (m : Memory) (a n v : ℕ) → stored m (a + 0) (n - 0) v ≡ stored m a n v
stored-from m a n v = let e : n - 0 ≡ n = omega arith in rw (add-zero a, e)

pub stored-to : (m : Memory) (a n j v : ℕ) → n ≤ j → stored m (a + j) (n - j) v ≡ m
stored-to m a n j v h = let e : n - j ≡ 0 = omega arith in rw (e, stored-zero m (a + j) v)

-- a loop over the bytes of an access
pub ruleset accesses = (refused-at, refused-from, refused-to, value-at, value-back, value-from, value-to, stored-at, stored-from, stored-to)
