-- The line of a refusal: what is refused, the name of the cause, and the place. From docs/MANUAL.md, "What you see";
-- the names and the form of the lines are this project's own choice.
use Rattle.std.specs.Prelude.{ℕ, List, ◌++◌, codes}
use Rattle.std.specs.Fmt.{decimal}
use Rattle.dbg_model.specs.declared.script.ScriptFault.{ScriptFault}
use Rattle.dbg_model.specs.declared.script.ScriptWhy.{ScriptWhy}
use Rattle.dbg_model.specs.declared.script.ScriptWhy.TheVariants as script
use Rattle.emu_run.specs.Text.{newline}
use Rattle.guest_schedule.specs.declared.schedule.ScheduleFault.{ScheduleFault}
use Rattle.guest_schedule.specs.declared.schedule.ScheduleWhy.{ScheduleWhy}
use Rattle.guest_schedule.specs.declared.schedule.ScheduleWhy.TheVariants as schedule
use Rattle.emu_system.specs.declared.image.ElfFault.{ElfFault}
use Rattle.emu_system.specs.declared.image.ElfFault.TheVariants.{TooShort, BadMagic, BadClass, BadData, BadVersion, BadType, BadMachine, BadHeaderSize, TooManySegments, HeadersOutside, Interpreter, SegmentOutside, FileOverMemory, AddressOutside, NotCongruent, Overlap, NoSegments, TooManyPages}
use Rattle.listing_model.specs.declared.fault.ListingFault.{ListingFault}
use Rattle.listing_model.specs.declared.fault.ListingWhy.{ListingWhy}
use Rattle.listing_model.specs.declared.fault.ListingWhy.TheVariants as listing
use Rattle.command_model.specs.declared.command_line.WordsFault.{WordsFault}
use Rattle.command_model.specs.declared.command_line.WordsWhy.{WordsWhy}
use Rattle.command_model.specs.declared.command_line.WordsWhy.TheVariants as words

-- ---- command lines
abbrev pub words_name : WordsWhy → List ℕ
words_name words.TooManyWords = codes "TooManyWords"
words_name words.WordsTooLong = codes "WordsTooLong"
words_name words.ZeroByte = codes "ZeroByte"
words_name words.NoCommand = codes "NoCommand"
words_name words.UnknownCommand = codes "UnknownCommand"
words_name words.UnknownOption = codes "UnknownOption"
words_name words.Repeated = codes "Repeated"
words_name words.MissingValue = codes "MissingValue"
words_name words.BadNumber = codes "BadNumber"
words_name words.BadLength = codes "BadLength"
words_name words.OutOfRange = codes "OutOfRange"
words_name words.ExtraWord = codes "ExtraWord"
words_name words.MissingWord = codes "MissingWord"
words_name words.MissingLength = codes "MissingLength"
words_name words.MissingBudget = codes "MissingBudget"

-- ---- images: the name of a fault, and the index of its program header

abbrev pub at_place : ℕ → List ℕ
at_place place = codes " at " ++ decimal place

abbrev pub fault_text : ElfFault → List ℕ
fault_text TooShort = codes "TooShort"
fault_text BadMagic = codes "BadMagic"
fault_text BadClass = codes "BadClass"
fault_text BadData = codes "BadData"
fault_text BadVersion = codes "BadVersion"
fault_text BadType = codes "BadType"
fault_text BadMachine = codes "BadMachine"
fault_text BadHeaderSize = codes "BadHeaderSize"
fault_text TooManySegments = codes "TooManySegments"
fault_text HeadersOutside = codes "HeadersOutside"
fault_text (Interpreter i) = codes "Interpreter" ++ at_place i
fault_text (SegmentOutside i) = codes "SegmentOutside" ++ at_place i
fault_text (FileOverMemory i) = codes "FileOverMemory" ++ at_place i
fault_text (AddressOutside i) = codes "AddressOutside" ++ at_place i
fault_text (NotCongruent i) = codes "NotCongruent" ++ at_place i
fault_text (Overlap i) = codes "Overlap" ++ at_place i
fault_text NoSegments = codes "NoSegments"
fault_text TooManyPages = codes "TooManyPages"

-- ---- listings, scripts and schedules

abbrev pub listing_name : ListingWhy → List ℕ
listing_name listing.NotUtf8 = codes "NotUtf8"
listing_name listing.TooManyLines = codes "TooManyLines"
listing_name listing.LongLine = codes "LongLine"
listing_name listing.BadLabel = codes "BadLabel"
listing_name listing.UnknownName = codes "UnknownName"
listing_name listing.BadOperands = codes "BadOperands"
listing_name listing.OutOfRange = codes "OutOfRange"
listing_name listing.SecondEntry = codes "SecondEntry"
listing_name listing.LabelTwice = codes "LabelTwice"
listing_name listing.InstructionInData = codes "InstructionInData"
listing_name listing.Misaligned = codes "Misaligned"
listing_name listing.TooLarge = codes "TooLarge"
listing_name listing.UnknownLabel = codes "UnknownLabel"
listing_name listing.TooFar = codes "TooFar"
listing_name listing.NoCode = codes "NoCode"

abbrev pub script_name : ScriptWhy → List ℕ
script_name script.NotUtf8 = codes "NotUtf8"
script_name script.TooManyLines = codes "TooManyLines"
script_name script.UnknownCommand = codes "UnknownCommand"
script_name script.MissingWord = codes "MissingWord"
script_name script.BadNumber = codes "BadNumber"
script_name script.OutOfRange = codes "OutOfRange"
script_name script.ExtraWord = codes "ExtraWord"
script_name script.TooMany = codes "TooMany"

abbrev pub schedule_name : ScheduleWhy → List ℕ
schedule_name schedule.NotUtf8 = codes "NotUtf8"
schedule_name schedule.TooManyLines = codes "TooManyLines"
schedule_name schedule.MissingWord = codes "MissingWord"
schedule_name schedule.BadNumber = codes "BadNumber"
schedule_name schedule.OutOfRange = codes "OutOfRange"
schedule_name schedule.ExtraWord = codes "ExtraWord"
schedule_name schedule.NoTurn = codes "NoTurn"

-- ---- the lines

abbrev pub words_line : WordsFault → List ℕ
words_line f = codes "refused words " ++ words_name f.why ++ at_place f.place ++ newline

abbrev pub image_line : ElfFault → List ℕ
image_line f = codes "refused image " ++ fault_text f ++ newline

-- the place of a line, counted from 1; of a listing without code, and of a schedule without a turn, it is 0
abbrev pub at_line : ℕ → List ℕ
at_line number = codes " at line " ++ decimal number

abbrev pub listing_line : ListingFault → List ℕ
listing_line f = codes "refused listing " ++ listing_name f.why ++ at_line f.line ++ newline

abbrev pub script_line : ScriptFault → List ℕ
script_line f = codes "refused script " ++ script_name f.why ++ at_line f.line ++ newline

abbrev pub schedule_line : ScheduleFault → List ℕ
schedule_line f = codes "refused schedule " ++ schedule_name f.why ++ at_line f.line ++ newline

-- a file that is longer than so many bytes
abbrev pub too_long_line : ℕ → List ℕ
too_long_line limit = codes "too long " ++ decimal limit ++ newline
