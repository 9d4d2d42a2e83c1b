-- Where two outputs part, by their bytes, as docs/MANUAL.md has it under `svemu sweep`.
use Rattle.std.specs.Prelude.{◌≡◌, ◌≢◌, ◌≤◌, ◌⊎◌, ℕ, List, length, take, get_or}

-- the two are the same before the place, and differ at it, or one of them has ended
pub record IsParting (first output : List ℕ) (place : ℕ) : Type 0 where
  pub in_first : place ≤ length first
  pub in_output : place ≤ length output
  pub same : take place first ≡ take place output
  pub apart : (place ≡ length first) ⊎ ((place ≡ length output) ⊎ (get_or first place 0 ≢ get_or output place 0))
