-- The words of a program as text: for each executable segment, in the order of the program headers, a line for each
-- whole word of its file bytes at an address that is a multiple of 4. The form of the lines is this project's own
-- choice, as docs/MANUAL.md has it under "Reading code"; `.word` is that of GNU as's manual for AArch64.
use Rattle.std.specs.Prelude.{ℕ, ◌+◌, ◌-◌, ◌*◌, ◌/◌, ◌%◌, List, ◌++◌, codes, drop, filter, flat_map, Option, Some, None}
use Rattle.byteorder.specs.Endian.{little_number}
use Rattle.emu_run.specs.declared.insn.Insn.{Insn}
use Rattle.emu_run.specs.Registers.{lines_of}
use Rattle.emu_run.specs.Step.{decode}
use Rattle.emu_run.specs.Text.{hex, space, newline}
use Rattle.emu_system.specs.declared.image.Segment.{Segment}
use Rattle.emu_system.specs.Image.{Image}
use Rattle.asm_text.specs.Texts.{text}

-- the text of a word at pc: its instruction's, or that of a directive where it is in no row
abbrev pub word_text : ℕ → ℕ → Option Insn → List ℕ
word_text w pc (Some i) = text i pc
word_text w pc None = codes ".word 0x" ++ hex 8 w

-- the address, the word and its text
abbrev pub word_line : ℕ → ℕ → List ℕ
word_line pc w = hex 16 pc ++ space ++ hex 8 w ++ space ++ word_text w pc (decode w) ++ newline

-- how many bytes stand in front of the first multiple of 4
abbrev pub skipped : ℕ → ℕ
skipped address = (4 - address % 4) % 4

-- how many whole words stand among so many bytes from an address on, at multiples of 4
abbrev pub word_count : ℕ → ℕ → ℕ
word_count address size = (size - skipped address) / 4

-- the line of the word at a place among the file bytes of a segment
abbrev pub line_at : List ℕ → Segment → ℕ → List ℕ
line_at file s place = word_line (s.address + place) (little_number 4 (drop (s.offset + place) file))

abbrev pub segment_lines : List ℕ → Segment → List ℕ
segment_lines file s = lines_of (word_count s.address s.file_size) (λ k. line_at file s (skipped s.address + 4 * k))

-- the lines of an image that was read from a file
abbrev pub dis_of : List ℕ → Image → List ℕ
dis_of file image = flat_map (segment_lines file) (filter (λ s. s.rights.x) image.segments)
