-- What becomes of a page that lends its bytes.
use Rattle.std.specs.Prelude.{ℕ, List, ◌-◌, ◌++◌, take, drop, length}
use Rattle.std.specs.Borrow.{Lends, MutBor, Fml, Array, u8}
use Rattle.frame_arena.specs.Size.{frame_size}
use Rattle.frame_arena.specs.Links.{Frame}
use Rattle.frame_arena.specs.declared.page.Page.{Page}
use Rattle.frame_arena.specs.contracts.page.Page.{the_row}

abbrev pub with_bytes : Page → List ℕ → Page
with_bytes p w = record p { bytes = w }

abbrev pub LendsBytes : MutBor Page → MutBor (List ℕ) → Fml
LendsBytes s r = Lends the_row Frame s r (with_bytes s.now)

-- the bytes with those from place `at` on replaced by w, as far as the page goes
abbrev pub with_part : List ℕ → ℕ → List ℕ → List ℕ
with_part xs at w = let piece = take (frame_size - at) w in take at xs ++ (piece ++ drop (length piece) (drop at xs))

abbrev pub LendsPart : MutBor Page → ℕ → MutBor (List ℕ) → Fml
LendsPart s at r = Lends the_row (Array u8 0) s r (λ w. with_bytes s.now (with_part s.now.bytes at w))
