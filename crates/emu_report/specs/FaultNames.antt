-- The name of why an image is refused, and the index of its program header, for the functions that put each of them.
use Rattle.std.specs.Prelude.{◌≡◌, ℕ, List, [], ◌++◌, codes, Option, Some, None}
use Rattle.std.proofs.Common.{refl, sym, append-nil}
use Rattle.emu_system.specs.declared.image.ElfFault.{ElfFault}
use Rattle.emu_system.specs.declared.image.ElfFault.TheVariants.{TooShort, BadMagic, BadClass, BadData, BadVersion, BadType, BadMachine, BadHeaderSize, TooManySegments, HeadersOutside, Interpreter, SegmentOutside, FileOverMemory, AddressOutside, NotCongruent, Overlap, NoSegments, TooManyPages}
use Rattle.command_model.specs.Refusals.{at_place, fault_text}

abbrev pub fault_name : ElfFault → List ℕ
fault_name TooShort = codes "TooShort"
fault_name BadMagic = codes "BadMagic"
fault_name BadClass = codes "BadClass"
fault_name BadData = codes "BadData"
fault_name BadVersion = codes "BadVersion"
fault_name BadType = codes "BadType"
fault_name BadMachine = codes "BadMachine"
fault_name BadHeaderSize = codes "BadHeaderSize"
fault_name TooManySegments = codes "TooManySegments"
fault_name HeadersOutside = codes "HeadersOutside"
fault_name (Interpreter i) = codes "Interpreter"
fault_name (SegmentOutside i) = codes "SegmentOutside"
fault_name (FileOverMemory i) = codes "FileOverMemory"
fault_name (AddressOutside i) = codes "AddressOutside"
fault_name (NotCongruent i) = codes "NotCongruent"
fault_name (Overlap i) = codes "Overlap"
fault_name NoSegments = codes "NoSegments"
fault_name TooManyPages = codes "TooManyPages"

abbrev pub fault_index : ElfFault → Option ℕ
fault_index TooShort = None
fault_index BadMagic = None
fault_index BadClass = None
fault_index BadData = None
fault_index BadVersion = None
fault_index BadType = None
fault_index BadMachine = None
fault_index BadHeaderSize = None
fault_index TooManySegments = None
fault_index HeadersOutside = None
fault_index (Interpreter i) = Some i
fault_index (SegmentOutside i) = Some i
fault_index (FileOverMemory i) = Some i
fault_index (AddressOutside i) = Some i
fault_index (NotCongruent i) = Some i
fault_index (Overlap i) = Some i
fault_index NoSegments = None
fault_index TooManyPages = None

abbrev pub at_index : Option ℕ → List ℕ
at_index None = []
at_index (Some i) = at_place i

pub text_in_parts : (f : ElfFault) → fault_name f ++ at_index (fault_index f) ≡ fault_text f
text_in_parts TooShort = append-nil (codes "TooShort")
text_in_parts BadMagic = append-nil (codes "BadMagic")
text_in_parts BadClass = append-nil (codes "BadClass")
text_in_parts BadData = append-nil (codes "BadData")
text_in_parts BadVersion = append-nil (codes "BadVersion")
text_in_parts BadType = append-nil (codes "BadType")
text_in_parts BadMachine = append-nil (codes "BadMachine")
text_in_parts BadHeaderSize = append-nil (codes "BadHeaderSize")
text_in_parts TooManySegments = append-nil (codes "TooManySegments")
text_in_parts HeadersOutside = append-nil (codes "HeadersOutside")
text_in_parts (Interpreter i) = refl
text_in_parts (SegmentOutside i) = refl
text_in_parts (FileOverMemory i) = refl
text_in_parts (AddressOutside i) = refl
text_in_parts (NotCongruent i) = refl
text_in_parts (Overlap i) = refl
text_in_parts NoSegments = append-nil (codes "NoSegments")
text_in_parts TooManyPages = append-nil (codes "TooManyPages")
