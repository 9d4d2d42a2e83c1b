-- Registers and lanes by their names. A `$` before a name is left out.
use Rattle.std.specs.Prelude.{ℕ, ◌==◌, List, length, drop, codes, Option, Some, None, nat_eq, nat_le, nat_lt}
use Rattle.std.specs.Prelude.{if◌then◌else◌}
use Rattle.std.specs.List.{after_first, before_first, position_or_len, starts_with}
use Rattle.std.specs.Option.{option_map}
use Rattle.std.specs.Str.{bytes_eq}
use denote.Ref.{Bor}
use Rattle.emu_bits.specs.declared.flags.Esize.{Esize}
use Rattle.emu_bits.specs.declared.flags.Esize.TheVariants.{B, H, S, D}
use Rattle.line_words.specs.Lines.{number_of_word}
use Rattle.debug_names.specs.declared.registers.Register.{Register}
use Rattle.debug_names.specs.declared.registers.Register.TheVariants.{X, W, Sp, Pc, Nzcv, Tpidr, Vl}
use Rattle.debug_names.specs.declared.registers.Lane.{Lane}
use Rattle.debug_names.specs.declared.registers.Thing.{Thing}
use Rattle.debug_names.specs.declared.registers.Thing.TheVariants as things

-- ---- words in parts

-- what stands before and behind the first byte `mark` of a word, where it has one
abbrev pub cut : ℕ → List ℕ → Option (List ℕ × List ℕ)
cut mark word =
    if nat_lt (position_or_len (λ b. b == mark) word) (length word)
    then Some (before_first (λ b. b == mark) word, after_first (λ b. b == mark) word) else None

-- the name of a register may stand behind `$`
abbrev pub plain_name : List ℕ → List ℕ
plain_name word = if starts_with nat_eq word (codes "$") then drop 1 word else word

-- ---- numbers of registers

abbrev pub up_to : ℕ → ℕ → Option ℕ
up_to most k = if nat_le k most then Some k else None

abbrev pub number_up_to : ℕ → Option ℕ → Option ℕ
number_up_to most None = None
number_up_to most (Some k) = up_to most k

abbrev pub register_number : ℕ → List ℕ → Option ℕ
register_number most digits = number_up_to most (number_of_word digits)

-- ---- scalar registers

abbrev pub register_bits : Register → ℕ
register_bits (X r) = 64
register_bits (W r) = 32
register_bits Sp = 64
register_bits Pc = 64
register_bits Nzcv = 4
register_bits Tpidr = 64
register_bits Vl = 64

abbrev pub numbered_register : List ℕ → Option Register
numbered_register name =
    if starts_with nat_eq name (codes "x") then option_map X (register_number 30 (drop 1 name))
    else (if starts_with nat_eq name (codes "w") then option_map W (register_number 30 (drop 1 name)) else None)

abbrev pub register_named : List ℕ → Option Register
register_named name =
    if bytes_eq name (codes "sp") then Some Sp
    else (if bytes_eq name (codes "pc") then Some Pc
    else (if bytes_eq name (codes "fp") then Some (X 29)
    else (if bytes_eq name (codes "lr") then Some (X 30)
    else (if bytes_eq name (codes "xzr") then Some (X 31)
    else (if bytes_eq name (codes "wzr") then Some (W 31)
    else (if bytes_eq name (codes "nzcv") then Some Nzcv
    else (if bytes_eq name (codes "tpidr") then Some Tpidr
    else (if bytes_eq name (codes "vl") then Some Vl else numbered_register name))))))))

abbrev pub register_of : List ℕ → Option Register
register_of word = register_named (plain_name word)

-- ---- lanes

-- the letter of a lane's size
abbrev pub size_of_letter : List ℕ → Option Esize
size_of_letter letter =
    if bytes_eq letter (codes "b") then Some B
    else (if bytes_eq letter (codes "h") then Some H
    else (if bytes_eq letter (codes "s") then Some S
    else (if bytes_eq letter (codes "d") then Some D else None)))

-- `z3` and such
abbrev pub z_number : List ℕ → Option ℕ
z_number name = if starts_with nat_eq name (codes "z") then register_number 31 (drop 1 name) else None

abbrev pub p_number : List ℕ → Option ℕ
p_number name = if starts_with nat_eq name (codes "p") then register_number 15 (drop 1 name) else None

-- a vector register or a predicate, with the size of its lanes where one is told
abbrev pub p_named : Option Esize → List ℕ → Option Thing
p_named size name = option_map (λ k. things.P k size) (p_number name)

abbrev pub z_or : Option ℕ → Option Esize → List ℕ → Option Thing
z_or (Some k) size name = Some (things.Z k size)
z_or None size name = p_named size name

abbrev pub vector_named : Option Esize → List ℕ → Option Thing
vector_named size name =
    if bytes_eq name (codes "ffr") then Some (things.Ffr size) else z_or (z_number name) size name

abbrev pub sized : List ℕ → Option Esize → Option Thing
sized name None = None
sized name (Some size) = vector_named (Some size) name

abbrev pub vector_by : List ℕ → Option (List ℕ × List ℕ) → Option Thing
vector_by name None = vector_named None name
vector_by name (Some parts) = sized parts.0 (size_of_letter parts.1)

-- `z3`, `z3.s`, `p1.h`, `ffr`
abbrev pub vector_of : List ℕ → Option Thing
vector_of name = vector_by name (cut 46 name)

-- the lane of a number
abbrev pub lane_numbered : ℕ → Esize → Option ℕ → Option Lane
lane_numbered k size None = None
lane_numbered k size (Some index) = Some (record { register = k; size = size; index = index })

abbrev pub lane_sized : ℕ → Option Esize → Option ℕ → Option Lane
lane_sized k None index = None
lane_sized k (Some size) index = lane_numbered k size index

-- of a Z register whose lanes have a size
abbrev pub lane_in : Thing → Option ℕ → Option Lane
lane_in (things.Z k size) index = lane_sized k size index
lane_in (things.P k size) index = None
lane_in (things.Ffr size) index = None
lane_in (things.Scalar register) index = None
lane_in (things.OneLane lane) index = None

abbrev pub lane_among : Option Thing → Option ℕ → Option Lane
lane_among None index = None
lane_among (Some thing) index = lane_in thing index

-- the number before `]`, behind which nothing stands
abbrev pub index_by : Option (List ℕ × List ℕ) → Option ℕ
index_by None = None
index_by (Some parts) = if nat_eq (length parts.1) 0 then number_of_word parts.0 else None

abbrev pub lane_by : Option (List ℕ × List ℕ) → Option Lane
lane_by None = None
lane_by (Some parts) = lane_among (vector_of parts.0) (index_by (cut 93 parts.1))

-- `z3.s[2]`
abbrev pub lane_of : List ℕ → Option Lane
lane_of word = lane_by (cut 91 (plain_name word))

-- ---- any of them

abbrev pub scalar_or : Option Register → List ℕ → Option Thing
scalar_or (Some register) word = Some (things.Scalar register)
scalar_or None word = vector_of (plain_name word)

abbrev pub lane_or : Option Lane → List ℕ → Option Thing
lane_or (Some lane) word = Some (things.OneLane lane)
lane_or None word = scalar_or (register_of word) word

abbrev pub thing_of : List ℕ → Option Thing
thing_of word = lane_or (lane_of word) word

-- ---- as code has them

abbrev pub seen_parts : Option (Bor (List ℕ) × Bor (List ℕ)) → Option (List ℕ × List ℕ)
seen_parts None = None
seen_parts (Some parts) = Some (parts.0.now, parts.1.now)
