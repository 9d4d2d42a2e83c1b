-- The bits of fields.
use Rattle.std.proofs.Common.{◌≡◌, ◌<◌, ◌+◌, ◌-◌, ◌*◌, ◌/◌, ◌%◌, ℕ, Bool, false, nat_eq, if◌then◌else◌, ap, sym, ◌∙◌, arith}
use Rattle.std.proofs.lemmas.Bool.Decides.{nat_tests}
use Rattle.std.proofs.lemmas.Nat.{div-mul-add, mod-mul-add}
use Rattle.emu_model.specs.Lanes.{field_bit}

pub at_start : (k w : ℕ) (f : ℕ → Bool) → 0 < w → field_bit w f (k * w) ≡ f k
at_start k w f some =
    let z : k * w + 0 ≡ k * w = omega arith in
    let q : k * w / w ≡ k = ap (λ x. x / w) (sym z) ∙ div-mul-add k w 0 some in
    let r : k * w % w ≡ 0 = ap (λ x. x % w) (sym z) ∙ mod-mul-add k w 0 some in
    ap (λ x. if nat_eq x 0 then f (k * w / w) else false) r ∙ ap f q

positive : (r : ℕ) → 0 < r → nat_eq r 0 ≡ false
positive r h = grind (arith, nat_tests)

pub between : (w j : ℕ) (f : ℕ → Bool) → 0 < j % w → field_bit w f j ≡ false
between w j f h = ap (λ t. if t then f (j / w) else false) (positive (j % w) h)

pub inside : (k w i : ℕ) (f : ℕ → Bool) → k * w < i → i < k * w + w → field_bit w f i ≡ false
inside k w i f p q =
    let d : k * w + (i - k * w) ≡ i = omega arith in
    let b : i - k * w < w = omega arith in
    let r : i % w ≡ i - k * w = ap (λ x. x % w) (sym d) ∙ mod-mul-add k w (i - k * w) b in
    let some : 0 < i % w = omega arith in
    between w i f some
