-- A place as a line shows it.
use Rattle.std.specs.Prelude.{ℕ, List}

-- an address, the name of the symbol that reaches it, which is empty where there is none, and the distance from that symbol
pub record SeenPlace : Type 0 where
  pub address : ℕ
  pub name : List ℕ
  pub offset : ℕ
