use Rattle.std.proofs.Common.{◌≡◌, ◌<◌, ◌≤◌, ℕ, zero, suc, ◌+◌, ◌-◌, ◌*◌, ◌^◌, refl, sym, ap, subst, ◌∙◌, arith}
use Rattle.std.proofs.Math.Nat.{pow-suc, pow-le-pow_right}
use Rattle.std.proofs.lemmas.Nat.{pow-add}
use Rattle.emu_model.specs.Access.{Memory, address, byte_at, value}
use Rattle.emu_model.specs.AccessEquations.{value-back, value-from, value-to}
use Rattle.debug_shows.proofs.values.value_at.Goals as goal

-- eight bits a byte
byte_place : (m : ℕ) → 2 ^ (8 * m) ≡ 256 ^ m
byte_place zero = refl
byte_place (suc m) =
    let more : 8 * suc m ≡ 8 * m + 8 = omega arith in
    ap (λ x. 2 ^ x) more ∙ pow-add 2 (8 * m) 8 ∙ ap (λ x. x * 256) (byte_place m) ∙ sym (pow-suc 256 m)

-- one byte more
fits_more : (number byte k : ℕ) → number < 256 ^ k → byte < 256 → 256 * number + byte < 256 ^ (k + 1)
fits_more number byte k small b =
    let e : k + 1 ≡ suc k = omega arith in
    subst (λ (p : ℕ). 256 * number + byte < p) (sym (ap (λ (i : ℕ). 256 ^ i) e ∙ pow-suc 256 k)) (let p : ℕ = 256 ^ k in omega (arith, small, b))

few_bytes : (number k : ℕ) → k ≤ 7 → number < 256 ^ k → number < 72057594037927936
few_bytes number k few small = let most : 256 ^ k ≤ 256 ^ 7 = pow-le-pow_right {n = 256} (omega arith) few in omega (arith, small, most)

pub bytes-init : goal.bytes-init
bytes-init c = record {
  value = sym (value-to c.args.mem.now.memory c.args.address c.args.count c.args.count (omega arith));
  fits = let none : c.args.count - c.args.count ≡ 0 = omega arith in subst (λ (k : ℕ). 0 < 256 ^ k) (sym none) (omega arith);
  within = omega arith;
}

pub overflow_mul-number : goal.overflow_mul-number
overflow_mul-number c =
    let some = c.bytes-test.true in
    let top = few_bytes c.bytes.number (c.args.count - c.bytes.left) (omega arith) c.bytes.invariant.fits in
    omega (arith, top)

pub overflow_add-number : goal.overflow_add-number
overflow_add-number c =
    let some = c.bytes-test.true in
    let top = few_bytes c.bytes.number (c.args.count - c.bytes.left) (omega arith) c.bytes.invariant.fits in
    omega (arith, top)

pub bytes-preserved : goal.bytes-preserved
bytes-preserved c =
    let m : Memory = c.args.mem.now.memory in
    let a : ℕ = c.args.address in
    let some = c.bytes-test.true in
    let within = c.bytes.invariant.within in
    let left : ℕ = c.bytes.left in
    let byte : c.from-in-bytes.result ≡ byte_at m (address (a + (left - 1))) = c.from-in-bytes.ensures ∙ c.byte_at-byte.ensures ∙ ap (λ (i : ℕ). byte_at m (address (a + i))) c.from.ensures in
    let back = value-back m a c.args.count left (omega arith) within in
    let value = c.bytes.invariant.value in
    let one : c.args.count - (left - 1) ≡ c.args.count - left + 1 = omega arith in
    record {
      value = omega (arith, back, byte, value);
      fits = subst (λ (k : ℕ). 256 * c.bytes.number + c.from-in-bytes.result < 256 ^ k) (sym one) (fits_more c.bytes.number c.from-in-bytes.result (c.args.count - left) c.bytes.invariant.fits (omega arith));
      within = omega arith;
    }

pub returns : goal.returns
returns c =
    let none : c.bytes.left ≡ 0 = omega arith in
    let m : Memory = c.args.mem.now.memory in
    let all : c.args.count - c.bytes.left ≡ c.args.count - 0 = omega arith in
    let most : c.args.count - c.bytes.left ≡ c.args.count = omega arith in
    record {
      value = c.bytes.invariant.value ∙ ap (λ (k : ℕ). value m (c.args.address + k) (c.args.count - k)) none ∙ value-from m c.args.address c.args.count;
      fits = subst (λ (p : ℕ). c.bytes.number < p) (ap (λ (k : ℕ). 256 ^ k) most ∙ sym (byte_place c.args.count)) c.bytes.invariant.fits;
    }
