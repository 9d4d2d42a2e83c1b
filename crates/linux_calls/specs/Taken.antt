-- Bytes of the input that were taken and stored, as far as the input had them and didn't fail.
use Rattle.std.specs.Prelude.{◌≡◌, ◌≤◌, ℕ, List, length, take, drop, Option, Some, IfSome, Result, IfOk}
use Rattle.emu_model.specs.Access.{Memory}

-- so many bytes were taken and stored; where the input tells its bytes, they were its first
pub record Takes (count : ℕ) (stored : List ℕ → Memory) (now : Memory) (told left : Option (List ℕ)) : Type 0 where
  pub taken : List ℕ
  pub long : length taken ≡ count
  pub memory : now ≡ stored taken
  pub first : IfSome told (λ bytes. (taken ≡ take count bytes) × (left ≡ Some (drop count bytes)))

-- at most so many, and their number is answered
pub record Took {E : Type 0} (most : ℕ) (stored : List ℕ → Memory) (now : Memory) (told left : Option (List ℕ)) (result : Result ℕ E) : Type 0 where
  pub count : ℕ
  pub few : count ≤ most
  pub takes : Takes count stored now told left
  pub answer : IfOk result (λ n. n ≡ count)
