-- Elements in one page.
use Rattle.std.specs.Prelude.{◌≡◌, ℕ, ◌*◌, List, true}
use Rattle.emu_model.specs.declared.access.Kind.TheVariants.{Read}
use Rattle.emu_model.specs.Access.{Memory, allowed, page_size}
use Rattle.emu_model.specs.Pages.{bytes_at}

-- These are the bytes of a page that may be read.
pub record IsPage (m : Memory) (page : ℕ) (bytes : List ℕ) : Type 0 where
  pub allowed : allowed m Read (page * page_size) ≡ true
  pub bytes_are : bytes ≡ bytes_at m (page * page_size) page_size
