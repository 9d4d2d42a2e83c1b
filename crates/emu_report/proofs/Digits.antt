-- Hexadecimal digits of a number, one by one.
use Rattle.std.proofs.Common.{◌≡◌, ℕ, zero, suc, ◌+◌, ◌-◌, ◌*◌, ◌/◌, ◌%◌, ◌^◌, List, [], ◌∷◌, ◌++◌, refl, sym, ap, ◌∙◌, arith, append_assoc}
use Rattle.std.proofs.Math.Nat.{pow-suc}
use Rattle.std.proofs.lemmas.Nat.{pow-add}
use Rattle.emu_model.specs.Lists.{each}
use Rattle.emu_model.specs.ListLaws.{each-more}
use Rattle.emu_run.specs.Text.{hex_digit}

-- four bits a digit
nibble_place : (m : ℕ) → 2 ^ (4 * m) ≡ 16 ^ m
nibble_place zero = refl
nibble_place (suc m) =
    let more : 4 * suc m ≡ 4 * m + 4 = omega arith in
    ap (λ x. 2 ^ x) more ∙ pow-add 2 (4 * m) 4 ∙ ap (λ x. x * 16) (nibble_place m) ∙ sym (pow-suc 16 m)

-- digit k of n digits of v
abbrev pub digit_at : ℕ → ℕ → ℕ → ℕ
digit_at n v k = hex_digit (v / 16 ^ (n - 1 - k) % 16)

-- one more of characters that are given one by one
pub character_more : (text before : List ℕ) (f : ℕ → ℕ) (k character : ℕ) → text ≡ before ++ each k f → character ≡ f k → text ++ (character ∷ []) ≡ before ++ each (k + 1) f
character_more text before f k character e d =
    ap (λ (xs : List ℕ). xs ++ (character ∷ [])) e
    ∙ append_assoc before (each k f) (character ∷ [])
    ∙ ap (λ (x : ℕ). before ++ (each k f ++ (x ∷ []))) d
    ∙ ap (λ (xs : List ℕ). before ++ xs) (sym (each-more k f))

pub digits_more : (text before : List ℕ) (n v k character : ℕ) → text ≡ before ++ each k (digit_at n v) → character ≡ hex_digit (v / 2 ^ (4 * (n - 1 - k)) % 16) → text ++ (character ∷ []) ≡ before ++ each (k + 1) (digit_at n v)
digits_more text before n v k character e d =
    character_more text before (digit_at n v) k character e (d ∙ ap (λ (p : ℕ). hex_digit (v / p % 16)) (nibble_place (n - 1 - k)))
