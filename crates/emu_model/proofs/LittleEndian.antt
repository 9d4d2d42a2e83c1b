-- Numbers among bytes, the lowest byte first.
use Rattle.std.proofs.Common.{◌≡◌, ◌≤◌, ◌+◌, ◌*◌, ℕ, zero, suc, List, take, drop, get_or, refl, ap, ◌∙◌, arith}
use Rattle.std.proofs.lemmas.List.{get_or-drop}
use Rattle.byteorder.specs.Endian.{little_from, little_number}
use Rattle.byteorder.specs.Numbers.{little_from-take}
use Rattle.emu_model.specs.WithinPage.{number_in}

little_later : (bytes : List ℕ) (at n i : ℕ) → little_from i n (drop at bytes) ≡ number_in bytes (at + i) n
little_later bytes at zero i = refl
little_later bytes at (suc n) i =
    let next : at + suc i ≡ at + i + 1 = omega arith in
    ap (λ b. b + 256 * little_from (suc i) n (drop at bytes)) (get_or-drop at bytes i 0)
    ∙ ap (λ v. get_or bytes (at + i) 0 + 256 * v) (little_later bytes at n (suc i))
    ∙ ap (λ k. get_or bytes (at + i) 0 + 256 * number_in bytes k n) next

-- the number of the first n bytes of a part is that of n bytes from its start on
pub number_of_part : (bytes : List ℕ) (at n m : ℕ) → n ≤ m → little_number n (take m (drop at bytes)) ≡ number_in bytes at n
number_of_part bytes at n m h =
    let start : at + 0 ≡ at = omega arith in
    little_from-take 0 n m (drop at bytes) (omega arith) ∙ little_later bytes at n 0 ∙ ap (λ k. number_in bytes k n) start
