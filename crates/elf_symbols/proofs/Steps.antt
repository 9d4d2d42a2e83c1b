-- The recursions of the definitions, as loops go: one more section, and one more entry.
use Rattle.std.proofs.Common.{◌≡◌, ℕ, ◌+◌, ◌*◌, List, [], ◌++◌, map, Option, Some, None, refl, ap, subst, add-one}
use Rattle.std.specs.Option.{option_to_list}
use Rattle.std.specs.List.Sorted.{IsPermutation}
use Rattle.std.proofs.lemmas.List.{map-append}
use Rattle.std.proofs.lemmas.List.Sorted.{IsPermutation-map}
use Rattle.elf_symbols.specs.declared.Symbol.{Symbol as ReadSymbol}
use Rattle.elf_symbols.specs.Read.{seen_symbol}
use Rattle.elf_symbols.specs.Symbols.{Section, Symbol, Entry, seen, first_symbol_table, first_symbols, or_if, is_symbol_table, section, symbol_of, names, entry_at}

pub first_symbol_table-none : (file : List ℕ) → first_symbol_table file 0 ≡ None
unfolding first_symbol_table
first_symbol_table-none file = refl

pub first_symbol_table-more : (file : List ℕ) (n : ℕ) → first_symbol_table file (n + 1) ≡ or_if (first_symbol_table file n) (is_symbol_table (section file n)) (section file n)
unfolding first_symbol_table
first_symbol_table-more file n = rw add-one refl

pub first_symbols-none : (file : List ℕ) (table : Section) → first_symbols file table 0 ≡ []
unfolding first_symbols
first_symbols-none file table = refl

pub first_symbols-more : (file : List ℕ) (table : Section) (n : ℕ) → first_symbols file table (n + 1)
    ≡ first_symbols file table n ++ option_to_list (symbol_of (names file table) (entry_at file (table.offset + 24 * n)))
unfolding first_symbols
first_symbols-more file table n = rw add-one refl

map-option_to_list : (symbol : Option ReadSymbol) → map seen (option_to_list symbol) ≡ option_to_list (seen_symbol symbol)
map-option_to_list None = refl
map-option_to_list (Some s) = refl

-- one more entry of a table
pub first_symbols-push : (file : List ℕ) (table : Section) (n : ℕ) (found grown : List ReadSymbol) (symbol : Option ReadSymbol) (strings : List ℕ) (e : Entry)
    → map seen found ≡ first_symbols file table n → strings ≡ names file table → e ≡ entry_at file (table.offset + 24 * n)
    → seen_symbol symbol ≡ symbol_of strings e → grown ≡ found ++ option_to_list symbol → map seen grown ≡ first_symbols file table (n + 1)
first_symbols-push file table n found grown symbol strings e before is_names is_entry is_symbol is_grown =
    let a : map seen grown ≡ map seen (found ++ option_to_list symbol) = ap (map seen) is_grown in
    let b : map seen (found ++ option_to_list symbol) ≡ map seen found ++ map seen (option_to_list symbol) = map-append seen found (option_to_list symbol) in
    let c : map seen (option_to_list symbol) ≡ option_to_list (seen_symbol symbol) = map-option_to_list symbol in
    let f : first_symbols file table (n + 1) ≡ first_symbols file table n ++ option_to_list (symbol_of (names file table) (entry_at file (table.offset + 24 * n))) = first_symbols-more file table n in
    cc

-- symbols that were moved
pub permuted : (xs ys : List ReadSymbol) (all : List Symbol) → map seen xs ≡ all → IsPermutation xs ys → IsPermutation all (map seen ys)
permuted xs ys all e p = subst (λ (zs : List Symbol). IsPermutation zs (map seen ys)) e (IsPermutation-map seen xs ys p)

pub ruleset table_steps = (first_symbol_table-none, first_symbol_table-more)

pub ruleset symbol_steps = (first_symbols-none, first_symbols-more)
