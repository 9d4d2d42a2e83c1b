-- The sum, term by term.
use Rattle.std.proofs.Common.{◌≡◌, ◌<◌, ◌^◌, ap, ap₂, ◌∙◌, ℤ, ◌+ℤ◌, of_z, to_z}
use Rattle.std.specs.Int.{w128}
use Rattle.std.specs.Int.Signed.{mag}
use Rattle.std.proofs.lemmas.Int.{to_z-of_z}
use Rattle.emu_bits.specs.Numbers.{unsigned_int}
use Rattle.sve_elements.proofs.products.dot_product.Goals as goal

-- a number that fits is read as it was written
whole : (z t : ℤ) → mag z < 2 ^ 127 → z ≡ t → to_z w128 (of_z w128 z) ≡ t
whole z t h e = to_z-of_z w128 z (record { sfits = h }) ∙ e

plus : (x y s t : ℤ) → x ≡ s → y ≡ t → x +ℤ y ≡ s +ℤ t
plus x y s t h k = ap₂ (λ (a b : ℤ). a +ℤ b) h k

pub returns-clause-value : goal.returns-clause-value
returns-clause-value c =
    let one = whole _ _ c.quarter_product-one.type_inv c.quarter_product-one.ensures.value in
    let second = whole _ _ c.quarter_product.type_inv c.quarter_product.ensures.value in
    let two = whole _ _ c.exact_sum-two.type_inv (c.exact_sum-two.ensures.value ∙ plus _ _ _ _ one second) in
    let third = whole _ _ c.quarter_product-2.type_inv c.quarter_product-2.ensures.value in
    let three = whole _ _ c.exact_sum-three.type_inv (c.exact_sum-three.ensures.value ∙ plus _ _ _ _ two third) in
    let fourth = whole _ _ c.quarter_product-3.type_inv c.quarter_product-3.ensures.value in
    let four = whole _ _ c.exact_sum-four.type_inv (c.exact_sum-four.ensures.value ∙ plus _ _ _ _ three fourth) in
    let start = whole _ _ c.unsigned.type_inv c.unsigned.ensures.value in
    let all = whole _ _ c.exact_sum.type_inv (c.exact_sum.ensures.value ∙ plus _ _ _ _ start four) in
    c.wrapped.ensures.value ∙ ap (λ (z : ℤ). unsigned_int z c.args.e) all
