-- The first bytes of a register, as they are put into places.
use Rattle.std.proofs.Common.{◌≡◌, ◌<◌, ◌≤◌, ◌+◌, ℕ, List, [], ◌∷◌, length, take, drop, get_or, refl, sym, ap, ◌∙◌, arith}
use Rattle.emu_model.specs.ListLaws.{each_same, get_or-each, length-each}
use Rattle.vec_regs.specs.Words.{byte_of, bytes_of}
use Rattle.element_loops.proofs.RunStores.{slice_each}
use Rattle.element_loops.proofs.Turns.{given_by_itself}

nothing_dropped : (xs : List ℕ) → drop 0 xs ≡ xs
nothing_dropped [] = refl
nothing_dropped (x ∷ xs) = refl

pub first_bytes : (placed z : List ℕ) (n : ℕ) → length placed ≡ n → n ≤ length z → ((j : ℕ) → j < n → get_or placed j 0 ≡ get_or z j 0) → placed ≡ take n z
first_bytes placed z n long room same =
    let within : 0 + n ≤ length z = omega (arith, room) in
    given_by_itself placed n long
    ∙ each_same n (λ j. get_or placed j 0) (λ j. get_or z (0 + j) 0) 0 (λ j b. let e : j ≡ 0 + j = omega arith in same j b ∙ ap (λ k. get_or z k 0) e)
    ∙ sym (slice_each n 0 z within)
    ∙ ap (take n) (nothing_dropped z)

-- byte j of a register that has words
pub byte_of_register : (z words : List ℕ) (n j : ℕ) → z ≡ bytes_of n words → j < n → byte_of 8 words j ≡ get_or z j 0
byte_of_register z words n j is b = sym (get_or-each n (byte_of 8 words) j 0 b) ∙ ap (λ (bs : List ℕ). get_or bs j 0) (sym is)

pub register_length : (z words : List ℕ) (n : ℕ) → z ≡ bytes_of n words → length z ≡ n
register_length z words n is = ap length is ∙ length-each n (byte_of 8 words)
