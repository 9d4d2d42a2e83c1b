use Rattle.std.proofs.Common.{ap, ℕ, ℤ, ◌∙◌, w64}
use Rattle.std.specs.Int.{int_shr}
use Rattle.std.proofs.lemmas.Int.{to_z-of_z}
use Rattle.sve_elements.proofs.FarShifts.{far}
use Rattle.sve_elements.proofs.shifts.shifted_signed.Goals as goal

pub returns : goal.returns
returns c =
    to_z-of_z w64 c.shifted_near.result (record { sfits = c.shifted_near.type_inv })
    ∙ c.shifted_near.ensures
    ∙ ap (λ (z : ℤ). int_shr z c.min.result) (to_z-of_z w64 c.args.x c.ranges.x)
    ∙ ap (λ (k : ℕ). int_shr c.args.x k) c.min.ensures
    ∙ far c.args.x c.args.b c.ranges.x
