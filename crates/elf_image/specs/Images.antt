-- What is read of a file, as the definitions see it.
use Rattle.std.specs.Prelude.{◌≡◌, ◌≤◌, ℕ, ◌+◌, ◌*◌, List, length, Result, Ok, Err, None}
use Rattle.arrayvec.specs.ArrayVec.{ArrayVec}
use Rattle.emu_system.specs.declared.image.Segment.{Segment}
use Rattle.emu_system.specs.declared.image.ElfFault.{ElfFault}
use Rattle.emu_system.specs.Image.{Image, ProgramHeader, header_fault, e_entry, e_phoff, e_phnum}
use Rattle.elf_image.specs.declared.Image.{Image as ReadImage}
use Rattle.elf_image.specs.declared.header.Header.{Header as ReadHeader}
use Rattle.elf_image.specs.declared.segments.ProgramHeader.{ProgramHeader as ReadProgramHeader}

-- an image
abbrev pub seen_image : ReadImage → Image
seen_image i = record { entry = i.entry; phdr = i.phdr; phnum = i.phnum; segments = i.segments.items }

-- an image, or a fault
abbrev pub seen : Result ReadImage ElfFault → Result Image ElfFault
seen (Ok i) = Ok (seen_image i)
seen (Err fault) = Err fault

-- segments, or a fault
abbrev pub seen_segments : Result (ArrayVec Segment) ElfFault → Result (List Segment) ElfFault
seen_segments (Ok segments) = Ok segments.items
seen_segments (Err fault) = Err fault

-- a program header
abbrev pub seen_header : ReadProgramHeader → ProgramHeader
seen_header h = record { kind = h.kind; flags = h.flags; offset = h.offset; address = h.address; file_size = h.file_size; memory_size = h.memory_size }

-- the header of a file that has no fault in it
pub record IsHeader (file : List ℕ) (h : ReadHeader) : Type 0 where
  pub faultless : header_fault file ≡ None
  pub entry : h.entry ≡ e_entry file
  pub phoff : h.phoff ≡ e_phoff file
  pub phnum : h.phnum ≡ e_phnum file

-- the program headers, at most 64, lie in the file
pub record HasHeaders (file : List ℕ) (phoff phnum : ℕ) : Type 0 where
  pub whole : 64 ≤ length file
  pub few : phnum ≤ 64
  pub within : phoff + 56 * phnum ≤ length file
