-- A page that is mapped with a right.
use Rattle.std.specs.Prelude.{◌≡◌, ℕ, List, Option, Some, true}
use Rattle.emu_model.specs.declared.access.Kind.{Kind}
use Rattle.emu_model.specs.declared.access.Rights.{Rights}
use Rattle.emu_model.specs.Access.{Page, gives}

pub record IsOpen (page : Option Page) (kind : Kind) (bytes : List ℕ) : Type 0 where
  pub rights : Rights
  pub is : page ≡ Some (record { rights = rights; bytes = bytes })
  pub allowed : gives rights kind ≡ true
