-- How statements of instructions are read. Instructions are of the type I. This is this project's own, by which
-- listings are defined over any table of instructions.
use Rattle.std.specs.Prelude.{ℕ, List, Option, Result}
use Rattle.asm_tokens.specs.declared.target.Target.{Target}
use Rattle.listing_model.specs.declared.fault.ListingWhy.{ListingWhy}

pub record Statements (I : Type 0) : Type 0 where
  -- The instruction of a name and of the tokens behind it, with its target where its text has one; or UnknownName,
  -- BadOperands or OutOfRange. The name has any case.
  pub reads : List ℕ → List (List ℕ) → Result (I × Option Target) ListingWhy
  -- the instruction at an address, aimed at another; none where it doesn't reach that far
  pub aimed : I → ℕ → ℕ → Option I
  -- its word
  pub word : I → ℕ
