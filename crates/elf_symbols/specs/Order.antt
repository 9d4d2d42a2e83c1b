-- The order of symbols.
use Rattle.std.specs.Prelude.{◌≡◌, ℕ, ◌+◌, ◌<◌, ◌≤◌, Bool, ◌&&◌, List, filter, length, map, slice_index_or, nat_eq}
use Rattle.std.specs.List.Sorted.{IsNonDecreasingBy, IsPermutation}
use Rattle.elf_symbols.specs.declared.Symbol.{Symbol}
use Rattle.elf_symbols.specs.Symbols.{seen, symbols as symbols_of, Symbol as SeenSymbol}

abbrev pub address_key : Symbol → ℕ
address_key s = s.address

abbrev pub size_key : Symbol → ℕ
size_key s = s.size

-- the addresses don't fall, and among symbols of one address the sizes don't
pub record AreInOrder (symbols : List Symbol) : Type 0 where
  pub by_address : IsNonDecreasingBy address_key symbols
  pub by_size : (k : ℕ) (d : Symbol) → k + 1 < length symbols → address_key (slice_index_or symbols k d) ≡ address_key (slice_index_or symbols (k + 1) d)
      → size_key (slice_index_or symbols k d) ≤ size_key (slice_index_or symbols (k + 1) d)

-- both stand at one address and have one size
abbrev pub is_beside : Symbol → Symbol → Bool
is_beside x y = nat_eq x.address y.address && nat_eq x.size y.size

-- the same of a symbol of a file
abbrev pub stands_with : Symbol → SeenSymbol → Bool
stands_with x y = nat_eq x.address y.address && nat_eq x.size y.size

-- these are the symbols of a file, in order; where two stand at one address and have one size, as the file has them
pub record AreSymbolsOf (file : List ℕ) (found : List Symbol) : Type 0 where
  pub same : IsPermutation (symbols_of file) (map seen found)
  pub sorted : AreInOrder found
  pub stable : (x : Symbol) → filter (stands_with x) (map seen found) ≡ filter (stands_with x) (symbols_of file)
