-- What an access finds in the page of its address, for the laws and contracts that have the page.
use Rattle.std.specs.Prelude.{ℕ, Bool, false, get_or, Option, option_map}
use Rattle.std.specs.Option.{option_map_or}
use Rattle.emu_model.specs.declared.access.Kind.{Kind}
use Rattle.emu_model.specs.Access.{Page, gives}

-- whether the page is mapped with the right
abbrev pub page_gives : Option Page → Kind → Bool
page_gives page kind = option_map_or (λ p. gives p.rights kind) page false

-- byte k of the page, and 0 where none is mapped
abbrev pub page_byte : Option Page → ℕ → ℕ
page_byte page k = option_map_or (λ p. get_or p.bytes k 0) page 0

-- byte k of the page, and none where none is mapped
abbrev pub page_peek : Option Page → ℕ → Option ℕ
page_peek page k = option_map (λ p. get_or p.bytes k 0) page
