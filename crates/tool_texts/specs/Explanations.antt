-- The lines that `svemu-tool` writes behind a program's errors. Each definition says what a text is with one thing more.
use Rattle.std.specs.Prelude.{ℕ, List, [], ◌∷◌, ◌++◌, length, codes, false, nat_eq, nat_lt, if◌then◌else◌}
use Rattle.std.specs.Fmt.{decimal, digits}
use Rattle.tool_texts.specs.declared.accesses.Beside.{Beside}
use Rattle.tool_texts.specs.declared.accesses.Beside.TheVariants.{Null, Unallowed, Unaligned, BehindBuffer, BelowBuffer, BehindSymbol, BelowStack, BehindStack, BelowSegment, BehindSegment, BehindBreak, BelowMapping, BehindMapping, Nowhere}
use Rattle.tool_texts.specs.Places.{SeenPlace}
use Rattle.tool_texts.specs.declared.stops.Stop.{Stop}

-- ---- numbers

-- `0x4001c8`
abbrev pub then_hex : List ℕ → ℕ → List ℕ
then_hex text n = (text ++ codes "0x") ++ digits 16 false n

-- the zeros before the digits of a word, which has eight
abbrev pub word_zeros : ℕ → List ℕ
word_zeros word =
    if nat_lt word 0x10 then codes "0000000"
    else (if nat_lt word 0x100 then codes "000000"
    else (if nat_lt word 0x1000 then codes "00000"
    else (if nat_lt word 0x10000 then codes "0000"
    else (if nat_lt word 0x100000 then codes "000"
    else (if nat_lt word 0x1000000 then codes "00"
    else (if nat_lt word 0x10000000 then codes "0" else []))))))

-- `0x04e06421`
abbrev pub then_word : List ℕ → ℕ → List ℕ
then_word text word = ((text ++ codes "0x") ++ word_zeros word) ++ digits 16 false word

-- `96 bytes`, and of one `1 byte`
abbrev pub then_count : List ℕ → ℕ → List ℕ → List ℕ
then_count text count one =
    if nat_eq count 1 then ((text ++ decimal count) ++ codes " ") ++ one
    else (((text ++ decimal count) ++ codes " ") ++ one) ++ codes "s"

-- `, after 21 steps`
abbrev pub then_steps : List ℕ → ℕ → List ℕ
then_steps text steps = then_count (text ++ codes ", after ") steps (codes "step") ++ 10 ∷ []

-- ---- places

-- `+0x14`
abbrev pub then_offset : List ℕ → ℕ → List ℕ
then_offset text offset = if nat_eq offset 0 then text else then_hex (text ++ codes "+") offset

-- `dot_product+0x14`
abbrev pub then_symbol : List ℕ → SeenPlace → List ℕ
then_symbol text place = then_offset (text ++ place.name) place.offset

-- `0x400184, dot_product+0x14`; without a symbol the address
abbrev pub then_place : List ℕ → SeenPlace → List ℕ
then_place text place =
    if nat_eq (length (place.name)) 0 then then_hex text place.address
    else then_symbol (then_hex text place.address ++ codes ", ") place

-- `dot_product+0x14`; without a symbol the address
abbrev pub then_short : List ℕ → SeenPlace → List ℕ
then_short text place =
    if nat_eq (length (place.name)) 0 then then_hex text place.address else then_symbol text place

-- ` (called from main+0x30)`, where X30 isn't 0
abbrev pub then_caller : List ℕ → SeenPlace → List ℕ
then_caller text caller =
    if nat_eq caller.address 0 then text else then_short (text ++ codes " (called from ") caller ++ codes ")"

-- from where the place of a stop was called, and after how many steps it came
abbrev pub then_end : List ℕ → Stop → List ℕ
then_end text stop = then_steps (then_caller text stop.caller) stop.steps

-- where a run stopped, from where that was called, and after how many steps
abbrev pub then_where : List ℕ → Stop → List ℕ
then_where text stop = then_end (then_place (text ++ codes " at ") stop.place) stop

-- ---- what is next to an address

-- `96 bytes below the stack`
abbrev pub then_bytes : List ℕ → ℕ → List ℕ → List ℕ
then_bytes text count from = (then_count text count (codes "byte") ++ codes " ") ++ from

-- `3 bytes behind the end of a guarded buffer of 100 bytes`
abbrev pub then_buffer : List ℕ → ℕ → List ℕ → ℕ → List ℕ
then_buffer text count from size = then_count (then_bytes text count from ++ codes " a guarded buffer of ") size (codes "byte")

-- `100 bytes behind the end of table`
abbrev pub then_behind : List ℕ → ℕ → SeenPlace → List ℕ
then_behind text count near = then_short (then_bytes text count (codes "behind the end of ")) near

-- the symbol that is nearest below is that of `near`
abbrev pub then_beside : List ℕ → SeenPlace → Beside → List ℕ
then_beside text near Null = text ++ codes "in page 0 (a null pointer)"
then_beside text near Unallowed = text ++ codes "in memory without that right"
then_beside text near Unaligned = text ++ codes "which is no multiple of the size of the access"
then_beside text near (BehindBuffer count size) = then_buffer text count (codes "behind the end of") size
then_beside text near (BelowBuffer count size) = then_buffer text count (codes "below") size
then_beside text near (BehindSymbol count) = then_behind text count near
then_beside text near (BelowStack count) = then_bytes text count (codes "below the stack")
then_beside text near (BehindStack count) = then_bytes text count (codes "behind the stack")
then_beside text near (BelowSegment count) = then_bytes text count (codes "below a segment")
then_beside text near (BehindSegment count) = then_bytes text count (codes "behind a segment")
then_beside text near (BehindBreak count) = then_bytes text count (codes "behind the break")
then_beside text near (BelowMapping count) = then_bytes text count (codes "below a mapping")
then_beside text near (BehindMapping count) = then_bytes text count (codes "behind a mapping")
then_beside text near Nowhere = text ++ codes "far from all that is mapped"

-- ---- the lines

-- a word that is no instruction: the name of its family, and what to do
abbrev pub undefined_line : List ℕ → Stop → ℕ → List ℕ → List ℕ → List ℕ
undefined_line text stop word family advice =
    then_where (((((then_word (text ++ codes "svemu: undefined word ") word ++ codes " (") ++ family) ++ codes ": ") ++ advice) ++ codes ")") stop

-- an instruction that can't go on, for a reason
abbrev pub at_stop_line : List ℕ → Stop → List ℕ → List ℕ
at_stop_line text stop reason = then_where ((text ++ codes "svemu: ") ++ reason) stop

-- a program counter that is no multiple of 4
abbrev pub then_jump : List ℕ → SeenPlace → List ℕ
then_jump text place = then_place (text ++ codes "svemu: a jump to ") place ++ codes ", which is no multiple of 4"

abbrev pub jump_line : List ℕ → Stop → List ℕ
jump_line text stop = then_end (then_jump text stop.place) stop

-- `21 steps are`, and of one `1 step is`
abbrev pub then_spent : List ℕ → ℕ → List ℕ
then_spent text steps =
    if nat_eq steps 1 then then_count text steps (codes "step") ++ codes " is" else then_count text steps (codes "step") ++ codes " are"

-- the steps are spent
abbrev pub spent_line : List ℕ → Stop → List ℕ
spent_line text stop =
    then_short (then_spent (text ++ codes "svemu: ") stop.steps ++ codes " spent in ") stop.place
    ++ (codes " (SVEMU_BUDGET gives more)" ++ 10 ∷ [])

-- behind the line of a stop: a call that only programs with threads make, by its name
abbrev pub call_hint : List ℕ → List ℕ → List ℕ
call_hint text call =
    ((text ++ codes "svemu: x8 names the call ") ++ call)
    ++ (codes ", which is refused here: --threads SCHEDULE runs a program with threads" ++ 10 ∷ [])

-- no thread is ready
abbrev pub stuck_line : List ℕ → ℕ → List ℕ
stuck_line text steps = then_steps (text ++ codes "svemu: no thread is ready, since each waits for another") steps

-- an access that was refused
abbrev pub access_line : List ℕ → Stop → List ℕ → SeenPlace → Beside → SeenPlace → List ℕ
access_line text stop access address beside near =
    then_where (then_beside (then_place (((text ++ codes "svemu: ") ++ access) ++ codes " ") address ++ codes ", ") near beside ++ codes ",") stop

-- an instruction that can't be fetched: where it would be, what is next to that, and that it was called
abbrev pub then_target : List ℕ → Stop → List ℕ
then_target text stop = then_place (text ++ codes "svemu: fetch from ") stop.place ++ codes ", "

abbrev pub then_called : List ℕ → Stop → Beside → SeenPlace → List ℕ
then_called text stop beside near = then_beside (then_target text stop) near beside ++ codes ": a call or a jump"

-- and in page 0
abbrev pub then_null : List ℕ → ℕ → List ℕ
then_null text address = then_hex (text ++ codes "svemu: fetch from ") address ++ codes ": a call of a null pointer"

abbrev pub then_fetch : List ℕ → Stop → Beside → SeenPlace → List ℕ
then_fetch text stop Null near = then_null text stop.place.address
then_fetch text stop beside near = then_called text stop beside near

-- from where it was called, by X30
abbrev pub then_from : List ℕ → Stop → List ℕ
then_from text stop = then_steps (then_short (text ++ codes " from ") stop.caller ++ codes " (x30)") stop.steps

abbrev pub call_line : List ℕ → Stop → Beside → SeenPlace → List ℕ
call_line text stop beside near = then_from (then_fetch text stop beside near) stop

-- a file, and what is said of it
abbrev pub file_line : List ℕ → List ℕ → List ℕ → List ℕ
file_line text name said = ((((text ++ codes "svemu: ") ++ name) ++ codes " ") ++ said) ++ 10 ∷ []

-- a value that is refused, by the option or the variable that has it
abbrev pub value_line : List ℕ → List ℕ → List ℕ → List ℕ → List ℕ
value_line text name value may_be =
    ((((((text ++ codes "svemu: ") ++ name) ++ codes " is '") ++ value) ++ codes "': it may be ") ++ may_be) ++ 10 ∷ []

-- `0x1e222820 floating point`
abbrev pub family_line : List ℕ → ℕ → List ℕ → List ℕ
family_line text word family = ((then_word text word ++ codes " ") ++ family) ++ 10 ∷ []
