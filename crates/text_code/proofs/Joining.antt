-- Numbers joined from the parts of a word are small.
use Rattle.std.proofs.Common.{◌≡◌, ℕ, ◌+◌, ◌*◌, ◌%◌, ◌^◌, ◌<◌, ◌≤◌, sym, ap, subst, arith}
use Rattle.std.proofs.lemmas.Nat.{pow-add, mul-add-lt}
use Rattle.std.proofs.Math.Pow.{pow_mono}
use Rattle.emu_bits.specs.Rows.{width}
use Rattle.text_model.specs.declared.slots.Bits.{Bits}
use Rattle.text_model.specs.declared.slots.Parts.{Parts}
use Rattle.text_model.specs.declared.slots.Parts.TheVariants.{Two, Three}
use Rattle.text_model.specs.Slots.{place_of, places, bits_in}

join : (x y m n : ℕ) → x < 2 ^ m → y < 2 ^ n → n ≤ 32 → x * (1 * 2 ^ n % 2 ^ 64) + y < 2 ^ (m + n)
join x y m n h k s =
    let p : 2 ^ n ≤ 2 ^ 32 = pow_mono s in
    let e : 2 ^ n ≡ 1 * 2 ^ n % 2 ^ 64 = omega (arith, p) in
    let q : x * 2 ^ n + y < 2 ^ n * 2 ^ m = mul-add-lt x (2 ^ n) y (2 ^ m) h k in
    let c : 2 ^ n * 2 ^ m ≡ 2 ^ (m + n) = let a = pow-add 2 m n in let b : 2 ^ n * 2 ^ m ≡ 2 ^ m * 2 ^ n = grind arith in omega (arith, a, b) in
    subst (λ (z : ℕ). x * z + y < 2 ^ (m + n)) e (subst (λ (z : ℕ). x * 2 ^ n + y < z) c q)

pub two_small : (ps : Parts) (a b : Bits) (x y n : ℕ) → ps ≡ Two a b → x < 2 ^ width (place_of a) → y < 2 ^ width (place_of b) → n ≡ width (place_of b) → bits_in (places ps) ≤ 32
    → x * (1 * 2 ^ n % 2 ^ 64) + y < 2 ^ bits_in (places ps)
two_small ps a b x y n e h k w s =
    let t : bits_in (places ps) ≡ width (place_of a) + (width (place_of b) + 0) = ap (λ (p : Parts). bits_in (places p)) e in
    let z : width (place_of a) + n ≡ bits_in (places ps) = omega (arith, t, w) in
    subst (λ (q : ℕ). x * (1 * 2 ^ n % 2 ^ 64) + y < 2 ^ q) z (join x y (width (place_of a)) n h (subst (λ (q : ℕ). y < 2 ^ q) (sym w) k) (omega (arith, t, w, s)))

pub three_small : (ps : Parts) (a b c : Bits) (x y z m n k : ℕ) → ps ≡ Three a b c → x < 2 ^ width (place_of a) → y < 2 ^ width (place_of b) → z < 2 ^ width (place_of c)
    → m ≡ width (place_of b) → n ≡ width (place_of c) → k ≡ width (place_of c) → bits_in (places ps) ≤ 32
    → x * (1 * 2 ^ (m + n) % 2 ^ 64) + (y * (1 * 2 ^ k % 2 ^ 64) + z) < 2 ^ bits_in (places ps)
three_small ps a b c x y z m n k e h i j u v w s =
    let t : bits_in (places ps) ≡ width (place_of a) + (width (place_of b) + (width (place_of c) + 0)) = ap (λ (p : Parts). bits_in (places p)) e in
    let f : width (place_of a) + (m + n) ≡ bits_in (places ps) = omega (arith, t, u, v) in
    let g : y * (1 * 2 ^ k % 2 ^ 64) + z < 2 ^ (m + k) = join y z m k (subst (λ (q : ℕ). y < 2 ^ q) (sym u) i) (subst (λ (q : ℕ). z < 2 ^ q) (sym w) j) (omega (arith, t, w, s)) in
    let g2 : y * (1 * 2 ^ k % 2 ^ 64) + z < 2 ^ (m + n) = let q : k ≡ n = omega (arith, v, w) in subst (λ (r : ℕ). y * (1 * 2 ^ k % 2 ^ 64) + z < 2 ^ (m + r)) q g in
    subst (λ (q : ℕ). x * (1 * 2 ^ (m + n) % 2 ^ 64) + (y * (1 * 2 ^ k % 2 ^ 64) + z) < 2 ^ q) f (join x (y * (1 * 2 ^ k % 2 ^ 64) + z) (width (place_of a)) (m + n) h g2 (omega (arith, t, u, v, s)))
