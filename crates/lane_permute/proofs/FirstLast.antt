-- The first and the last active lane that were found.
use Rattle.std.proofs.Common.{◌≡◌, ℕ, Bool, Option, sym, subst}
use Rattle.lane_model.specs.FirstLast.{first_where, last_where}
use Rattle.lane_model.specs.FirstLastLaws.{IsFirstWhere, IsLastWhere}
use Rattle.lane_model.proofs.Found.{first_found, last_found}

pub found_first : (n k : ℕ) (active : ℕ → Bool) (o : Option ℕ) → o ≡ first_where k active → k ≡ n → IsFirstWhere n active o
found_first n k active o e d =
    let P : Option ℕ → Type 0 = IsFirstWhere n active in
    let Q : ℕ → Type 0 = λ m. IsFirstWhere m active (first_where k active) in
    subst P (sym e) (subst Q d (first_found k active))

pub found_last : (n k : ℕ) (active : ℕ → Bool) (o : Option ℕ) → o ≡ last_where k active → k ≡ n → IsLastWhere n active o
found_last n k active o e d =
    let P : Option ℕ → Type 0 = IsLastWhere n active in
    let Q : ℕ → Type 0 = λ m. IsLastWhere m active (last_where k active) in
    subst P (sym e) (subst Q d (last_found k active))
