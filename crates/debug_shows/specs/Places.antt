-- Where a machine stands: the step, the place by the symbols of the program, and the instruction.
use Rattle.std.specs.Prelude.{ℕ, ◌+◌, ◌-◌, List, [], ◌∷◌, ◌++◌, codes, flat_map, Bool, ◌||◌, Option, Some, None, nat_eq}
use Rattle.std.specs.Prelude.{nat_lt, if◌then◌else◌}
use Rattle.std.specs.Fmt.{decimal}
use Rattle.asm_text.specs.Disassembly.{word_text}
use Rattle.elf_symbols.specs.Lookup.{last_reaching}
use Rattle.elf_symbols.specs.declared.Symbol.{Symbol}
use Rattle.emu_model.specs.Access.{Memory, value}
use Rattle.emu_model.specs.State.{Parts}
use Rattle.emu_run.specs.Step.{decode}
use Rattle.emu_run.specs.Text.{newline}
use Rattle.debug_texts.specs.Numbers.{character, hex_text}

abbrev pub offset_text : ℕ → List ℕ
offset_text n = if nat_eq n 0 then [] else codes "+" ++ decimal n

-- each byte by its character, a dot where that can't be shown
abbrev pub symbol_name : List ℕ → List ℕ
symbol_name name = flat_map (λ b. character b ∷ []) name

-- ` <main+8>`
abbrev pub reached_name : ℕ → Symbol → List ℕ
reached_name a s = codes " <" ++ symbol_name s.name.now ++ offset_text (a - s.address) ++ codes ">"

-- a symbol whose size isn't known is told up to 64 KiB behind it
abbrev pub is_told : ℕ → Symbol → Bool
is_told a s = nat_lt 0 s.size || nat_lt (a - s.address) 65536

-- nothing where no symbol reaches the address
abbrev pub symbol_text : ℕ → Option Symbol → List ℕ
symbol_text a None = []
symbol_text a (Some s) = if is_told a s then reached_name a s else []

-- `0x400108 <main+8>`
abbrev pub place_text : List Symbol → ℕ → List ℕ
place_text symbols a = hex_text a ++ symbol_text a (last_reaching a symbols)

-- the instruction at an address
abbrev pub instruction_text : Memory → ℕ → List ℕ
instruction_text m a = word_text (value m a 4) a (decode (value m a 4))

-- `step 7  0x400108 <main+8>  add x0, x0, #1`
abbrev pub where_text : List Symbol → Parts → List ℕ
where_text symbols m =
    codes "step " ++ decimal m.steps ++ codes "  " ++ place_text symbols m.core.pc ++ codes "  "
    ++ instruction_text m.memory m.core.pc ++ newline
