use Rattle.std.proofs.Common.{◌≡◌, ◌==◌, ℕ, Some, sym, ap, ap₂, ◌∙◌}
use Rattle.text_model.specs.Masks.{bitmask_at, bitmask_fields}
use Rattle.text_code.proofs.Bitmasks.{is_least_test}
use Rattle.text_code.proofs.kinds.is_least.Goals as goal

pub returns-in-Some : goal.returns-in-Some
returns-in-Some c =
    let e : bitmask_at c.args.width c.args.v ≡ Some c.in-Some.mask = sym c.bitmask_at.ensures ∙ c.in-Some.is in
    ap₂ (λ (x y : ℕ). x == y) (c.fields_at.ensures ∙ ap (bitmask_fields c.args.width) c.from.ensures) c.from-in-Some.ensures
    ∙ is_least_test c.args.width c.args.v c.in-Some.mask c.requires.width c.requires.small e
