use Rattle.std.proofs.Common.{◌≡◌, ◌+◌, ◌*◌, ◌^◌, ℕ, Bool, true, false, inl, inr, refl, sym, ◌∙◌, subst, arith}
use Rattle.std.proofs.lemmas.Bool.{cases_lt}
use mir.Val.{bool_byte}
use Rattle.emu_bits.specs.Fields.{bit}
use Rattle.emu_bits.specs.LeastFields.{IsLeastFields, GivesBitmask}
use Rattle.text_model.specs.Masks.{bitmask_fields}
use Rattle.text_code.proofs.Bitmasks.{least_fields, no_fields, too_large}
use Rattle.text_code.proofs.kinds.fields_at.Goals as goal

pub returns-in_default : goal.returns-in_default
returns-in_default c = elim (cases_lt c.args.m (2 ^ 64)) [
  | inl l ↦ absurd (c.in_default.ensures l)
  | inr l ↦ too_large c.args.width c.args.m c.requires l
]

bit_byte : (b : Bool) → bool_byte b ≡ bit b
bit_byte true = refl
bit_byte false = refl

pub returns-in-Some : goal.returns-in-Some
returns-in-Some c =
    let m : c.in-Ok.value ≡ c.args.m = c.in-Ok.ensures.1 in
    let b : ℕ = bit c.in-Some.n in
    let n : c.from-in-Some.result ≡ b = c.from-in-Some.ensures ∙ bit_byte c.in-Some.n in
    let r : ℕ = c.in-Some.immr in
    let s : ℕ = c.in-Some.imms in
    let f : IsLeastFields c.args.width c.args.m b r s =
    subst (λ (w : ℕ). IsLeastFields w c.args.m b r s) c.from.ensures (subst (λ (x : ℕ). IsLeastFields c.from.result x b r s) m c.in-Some.ensures.fields) in
    let e : b * 4096 + r * 64 + s ≡ bitmask_fields c.args.width c.args.m = least_fields c.args.width c.args.m b r s c.requires f in
    omega (arith, n, e, c.from-in-Some-2.ensures, c.from-in-Some-3.ensures)

pub returns-in-None : goal.returns-in-None
returns-in-None c =
    let m : c.in-Ok.value ≡ c.args.m = c.in-Ok.ensures.1 in
    no_fields c.args.width c.args.m (λ (n r s : ℕ) (g : GivesBitmask c.args.width c.args.m n r s).
    c.in-None.ensures.none n r s (subst (λ (w : ℕ). GivesBitmask w c.in-Ok.value n r s) (sym c.from.ensures) (subst (λ (x : ℕ). GivesBitmask c.args.width x n r s) (sym m) g)))
