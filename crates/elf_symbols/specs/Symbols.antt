-- The symbols of an ELF64 little-endian file, in the words of the System V gABI, chapter 4.
use Rattle.std.specs.Prelude.{ℕ, zero, suc, ◌+◌, ◌-◌, ◌*◌, ◌/◌, ◌%◌, Bool, not, ◌&&◌, ◌||◌, List, [], ◌++◌, length, take, drop, slice_index, Option, Some, None, nat_eq, nat_lt, nat_le, min, if◌then◌else◌}
use Rattle.std.specs.List.{position}
use Rattle.std.specs.Option.{option_map, option_to_list}
use Rattle.byteorder.specs.Endian.{little_number}
use Rattle.elf_symbols.specs.declared.Symbol.{Symbol as ReadSymbol}
use Rattle.elf_symbols.specs.declared.SymbolKind.{SymbolKind}
use Rattle.elf_symbols.specs.declared.SymbolKind.TheVariants.{Function, Object, Label}

-- a symbol: st_value, st_size, by st_info what it is of, and its name
pub record Symbol : Type 0 where
  pub address : ℕ
  pub size : ℕ
  pub kind : SymbolKind
  pub name : List ℕ

-- a symbol with its name's bytes
abbrev pub seen : ReadSymbol → Symbol
seen s = record { address = s.address; size = s.size; kind = s.kind; name = s.name.now }

-- the little-endian number of n bytes at an offset
abbrev pub field_at : List ℕ → ℕ → ℕ → ℕ
field_at file offset n = little_number n (drop offset file)

-- how many entries of n bytes lie in the file, of some that begin at an offset
unfoldable pub entries_within : List ℕ → ℕ → ℕ → ℕ → ℕ
entries_within file offset n count = min count ((length file - offset) / n)

-- ---- the ELF header

-- the first bytes are 7F 45 4C 46, ELFCLASS64 and ELFDATA2LSB
unfoldable pub is_elf64_little : List ℕ → Bool
is_elf64_little file = nat_le 64 (length file) && nat_eq (field_at file 0 4) 0x464C457F && nat_eq (field_at file 4 1) 2 && nat_eq (field_at file 5 1) 1

abbrev pub e_shoff : List ℕ → ℕ
e_shoff file = field_at file 40 8

abbrev pub e_shentsize : List ℕ → ℕ
e_shentsize file = field_at file 58 2

abbrev pub e_shnum : List ℕ → ℕ
e_shnum file = field_at file 60 2

-- ---- the section headers

-- sh_type, sh_offset, sh_size, sh_link, sh_entsize
pub record Section : Type 0 where
  pub kind : ℕ
  pub offset : ℕ
  pub size : ℕ
  pub link : ℕ
  pub entry_size : ℕ

abbrev pub section_at : List ℕ → ℕ → Section
section_at file at = record {
  kind = field_at file (at + 4) 4;
  offset = field_at file (at + 24) 8;
  size = field_at file (at + 32) 8;
  link = field_at file (at + 40) 4;
  entry_size = field_at file (at + 56) 8;
}

-- section header i
unfoldable pub section : List ℕ → ℕ → Section
section file i = section_at file (e_shoff file + 64 * i)

-- how many section headers lie in the file
unfoldable pub section_count : List ℕ → ℕ
section_count file = if is_elf64_little file && nat_eq (e_shentsize file) 64 then entries_within file (e_shoff file) 64 (e_shnum file) else 0

-- SHT_SYMTAB
abbrev pub is_symbol_table : Section → Bool
is_symbol_table s = nat_eq s.kind 2

-- SHT_STRTAB
abbrev pub is_string_table : Section → Bool
is_string_table s = nat_eq s.kind 3

-- the one that is there, or else another
abbrev pub or_if : Option Section → Bool → Section → Option Section
or_if (Some s) t other = Some s
or_if None t other = if t then Some other else None

-- the first symbol table of the first n sections
unfoldable pub first_symbol_table : List ℕ → ℕ → Option Section
first_symbol_table file zero = None
first_symbol_table file (suc n) = or_if (first_symbol_table file n) (is_symbol_table (section file n)) (section file n)

-- ---- the names

-- the bytes of a section that lie in the file
unfoldable pub contents : List ℕ → Section → List ℕ
contents file s = take s.size (drop s.offset file)

-- the string table that a symbol table's sh_link tells; no bytes where there is none
unfoldable pub names : List ℕ → Section → List ℕ
names file table = if nat_lt table.link (section_count file) && is_string_table (section file table.link) then contents file (section file table.link) else []

abbrev pub is_zero : ℕ → Bool
is_zero b = nat_eq b 0

-- the bytes up to a zero byte; none where no byte is zero
unfoldable pub up_to_zero : List ℕ → Option (List ℕ)
up_to_zero bytes = option_map (λ n. take n bytes) (position is_zero bytes)

-- ---- the symbols

-- st_name, st_info, st_shndx, st_value, st_size
pub record Entry : Type 0 where
  pub name : ℕ
  pub info : ℕ
  pub section : ℕ
  pub value : ℕ
  pub size : ℕ

abbrev pub entry_at : List ℕ → ℕ → Entry
entry_at file at = record {
  name = field_at file at 4;
  info = field_at file (at + 4) 1;
  section = field_at file (at + 6) 2;
  value = field_at file (at + 8) 8;
  size = field_at file (at + 16) 8;
}

-- how many whole entries of a symbol table lie in the file
unfoldable pub entry_count : List ℕ → Section → ℕ
entry_count file table = if nat_eq table.entry_size 24 then entries_within file table.offset 24 (table.size / 24) else 0

-- ELF64_ST_TYPE: STT_NOTYPE, STT_OBJECT or STT_FUNC; none where it is another
unfoldable pub kind_of : ℕ → Option SymbolKind
kind_of info = if nat_eq (info % 16) 0 then Some Label else if nat_eq (info % 16) 1 then Some Object else if nat_eq (info % 16) 2 then Some Function else None

-- defined in a section: not SHN_UNDEF, and none of the reserved indices from SHN_LORESERVE on but SHN_XINDEX
unfoldable pub is_defined : ℕ → Bool
is_defined index = not (nat_eq index 0) && (nat_lt index 0xFF00 || nat_eq index 0xFFFF)

-- a mapping symbol of the ABI of AArch64: $x or $d, and after that nothing or a dot
unfoldable pub is_mapping : List ℕ → Bool
is_mapping name = nat_eq (slice_index name 0) 36 && (nat_eq (slice_index name 1) 120 || nat_eq (slice_index name 1) 100) && (nat_eq (length name) 2 || nat_eq (slice_index name 2) 46)

-- a name tells its symbol: it isn't empty, and a label isn't a mapping symbol
unfoldable pub is_telling : SymbolKind → List ℕ → Bool
is_telling Function name = not (nat_eq (length name) 0)
is_telling Object name = not (nat_eq (length name) 0)
is_telling Label name = not (nat_eq (length name) 0) && not (is_mapping name)

-- the symbol of an entry with this kind and this name
abbrev pub named : Entry → Option SymbolKind → Option (List ℕ) → Option Symbol
named e None name = None
named e (Some kind) None = None
named e (Some kind) (Some name) = if is_telling kind name then Some (record { address = e.value; size = e.size; kind = kind; name = name }) else None

-- the symbol of an entry, by the bytes of the string table; none where it is of no function, object or label, is
-- defined in no section, or has no name that can be read
unfoldable pub symbol_of : List ℕ → Entry → Option Symbol
symbol_of strings e = if is_defined e.section then named e (kind_of e.info) (up_to_zero (drop e.name strings)) else None

-- the symbols of the first n entries of a table, in their order
unfoldable pub first_symbols : List ℕ → Section → ℕ → List Symbol
first_symbols file table zero = []
first_symbols file table (suc n) = first_symbols file table n ++ option_to_list (symbol_of (names file table) (entry_at file (table.offset + 24 * n)))

abbrev pub table_symbols : List ℕ → Option Section → List Symbol
table_symbols file None = []
table_symbols file (Some table) = first_symbols file table (entry_count file table)

-- the symbols of a file: those of its first symbol table, in the order of the table
abbrev pub symbols : List ℕ → List Symbol
symbols file = table_symbols file (first_symbol_table file (section_count file))
