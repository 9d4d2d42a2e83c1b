-- What is read of a file, as the definitions see it.
use Rattle.std.specs.Prelude.{ℕ, List, Option, Some, None}
use denote.Ref.{Bor}
use Rattle.elf_symbols.specs.declared.Symbol.{Symbol as ReadSymbol}
use Rattle.elf_symbols.specs.declared.entries.Entry.{Entry as ReadEntry}
use Rattle.elf_symbols.specs.declared.sections.Section.{Section as ReadSection}
use Rattle.elf_symbols.specs.Symbols.{Section, Entry, Symbol, seen}

-- a section header
abbrev pub seen_section : ReadSection → Section
seen_section s = record { kind = s.kind; offset = s.offset; size = s.size; link = s.link; entry_size = s.entry_size }

-- a section header, if there is one
abbrev pub seen_table : Option ReadSection → Option Section
seen_table None = None
seen_table (Some s) = Some (seen_section s)

-- an entry of a symbol table
abbrev pub seen_entry : ReadEntry → Entry
seen_entry e = record { name = e.name; info = e.info; section = e.section; value = e.value; size = e.size }

-- a name, if there is one
abbrev pub seen_name : Option (Bor (List ℕ)) → Option (List ℕ)
seen_name None = None
seen_name (Some name) = Some name.now

-- a symbol, if there is one
abbrev pub seen_symbol : Option ReadSymbol → Option Symbol
seen_symbol None = None
seen_symbol (Some s) = Some (seen s)
