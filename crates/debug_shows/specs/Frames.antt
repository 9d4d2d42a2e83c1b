-- The calls that led to where a machine stands, by the frame records of the Arm procedure call standard: X29 is the
-- address of a record, which has the address of the one before it, and behind that the address to return to.
use Rattle.std.specs.Prelude.{ℕ, zero, suc, ◌+◌, ◌%◌, Bool, not, ◌&&◌, ◌||◌, is_some, List, [], ◌++◌, codes, nat_eq}
use Rattle.std.specs.Prelude.{nat_lt, if◌then◌else◌}
use Rattle.std.specs.Fmt.{decimal}
use Rattle.elf_symbols.specs.declared.Symbol.{Symbol}
use Rattle.emu_model.specs.Access.{Memory, address, value}
use Rattle.emu_model.specs.Pages.{peeked}
use Rattle.emu_model.specs.State.{Parts, read_x}
use Rattle.emu_run.specs.Text.{newline}
use Rattle.debug_texts.specs.Numbers.{hex_text}
use Rattle.debug_shows.specs.Places.{place_text}

abbrev pub return_address : Memory → ℕ → ℕ
return_address m frame = value m (address (frame + 8)) 8

abbrev pub frame_text : List Symbol → ℕ → ℕ → List ℕ
frame_text symbols number a = codes "#" ++ decimal number ++ codes "  " ++ place_text symbols a ++ newline

-- X30, where the first record has another address
abbrev pub link_text : List Symbol → Memory → ℕ → ℕ → List ℕ
link_text symbols m link frame =
    if nat_eq link 0 || nat_eq link (return_address m frame) then []
    else codes "x30 " ++ place_text symbols link ++ newline

abbrev pub is_mapped : Memory → ℕ → Bool
is_mapped m frame = is_some (peeked m frame) && is_some (peeked m (address (frame + 15)))

-- records stand at multiples of 8 in mapped memory, each above the one that leads to it
abbrev pub is_followed : Memory → ℕ → ℕ → Bool
is_followed m before frame =
    not (nat_eq frame 0) && nat_eq (frame % 8) 0 && is_mapped m frame && nat_lt before frame

-- why the chain ends at a record
abbrev pub why_text : Memory → ℕ → ℕ → List ℕ
why_text m before frame =
    if not (nat_eq (frame % 8) 0) then codes "the chain breaks: no frame record stands at "
    else (if not (is_mapped m frame) then codes "the chain breaks: nothing is mapped at "
    else (if nat_lt before frame then codes "and more calls by the record at "
    else codes "the chain breaks: it goes down to "))

-- nothing where it ends as it should, by 0
abbrev pub end_text : Memory → ℕ → ℕ → List ℕ
end_text m before frame = if nat_eq frame 0 then [] else why_text m before frame ++ hex_text frame ++ newline

-- so many records at most
unfoldable pub frames : List Symbol → Memory → ℕ → ℕ → ℕ → ℕ → List ℕ
frames symbols m number before frame zero = end_text m before frame
frames symbols m number before frame (suc n) =
    if is_followed m before frame
    then frame_text symbols number (return_address m frame)
    ++ frames symbols m (number + 1) frame (value m frame 8) n
    else end_text m before frame

abbrev pub most_frames : ℕ
most_frames = 63

abbrev pub backtrace_text : List Symbol → Parts → List ℕ
backtrace_text symbols m =
    frame_text symbols 0 m.core.pc ++ link_text symbols m.memory (read_x m.core 30) (read_x m.core 29)
    ++ frames symbols m.memory 1 0 (read_x m.core 29) most_frames
