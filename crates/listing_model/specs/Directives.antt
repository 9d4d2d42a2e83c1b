-- Directives and their arguments. `.data`, `.byte`, `.word`, `.quad`, `.ascii` and `.zero` are those of GNU as's
-- manual, 'Assembler Directives', `.half` is its `.hword`, and the four escapes are of its strings. `.code`, `.bss`,
-- `.entry` and `.align`, which counts bytes, and all limits are this project's own choice, as docs/MANUAL.md has them
-- under "Directives".
use Rattle.std.specs.Prelude.{ℕ, ◌-◌, ◌*◌, ◌%◌, ◌^◌, ◌==◌, ◌&&◌, ◌||◌, Bool, true, false, if◌then◌else◌, List, [], ◌∷◌, Option, Some, None, Result, Ok, Err, ℤ, pos, negsuc, codes, length, map, nat_lt, ok_or, option_map, option_and_then}
use Rattle.std.specs.Char.{is_ascii_alphabetic, is_ascii_alphanumeric}
use Rattle.std.specs.List.{list_all, slice_split}
use Rattle.std.specs.Option.{option_or}
use Rattle.std.specs.Str.{str_eq_ignore_ascii_case}
use Rattle.asm_tokens.specs.declared.target.Target.{Target}
use Rattle.line_words.specs.Refusals.{and_then}
use Rattle.asm_tokens.specs.declared.target.Target.TheVariants.{Label, Address}
use Rattle.listing_model.specs.declared.directive.Directive.{Directive}
use Rattle.listing_model.specs.declared.directive.Directive.TheVariants as directive
use Rattle.listing_model.specs.declared.directive.DirectiveName.{DirectiveName}
use Rattle.listing_model.specs.declared.directive.DirectiveName.TheVariants.{Code, Data, Byte, Half, Word, Quad, Ascii, Zero, Align, Bss, Entry}
use Rattle.listing_model.specs.declared.fault.ListingWhy.{ListingWhy}
use Rattle.listing_model.specs.declared.fault.ListingWhy.TheVariants.{BadOperands, OutOfRange}
use Rattle.asm_tokens.specs.Layout.{is_sign, comma}
use Rattle.asm_tokens.specs.Numbers.{Number, number_of, value}
use Rattle.asm_tokens.specs.Tokens.{quote, backslash, underscore}

-- ---- names

abbrev pub first_named : List ℕ → List (List ℕ × DirectiveName) → Option DirectiveName
first_named name [] = None
first_named name (d ∷ ds) = if str_eq_ignore_ascii_case name d.0 then Some d.1 else first_named name ds

-- the directive of a name, which has any case
abbrev pub directive_named : List ℕ → Option DirectiveName
directive_named name = first_named name (
    (codes ".code", Code) ∷ (codes ".data", Data)
    ∷ (codes ".byte", Byte) ∷ (codes ".half", Half) ∷ (codes ".word", Word) ∷ (codes ".quad", Quad)
    ∷ (codes ".ascii", Ascii) ∷ (codes ".zero", Zero) ∷ (codes ".align", Align)
    ∷ (codes ".bss", Bss) ∷ (codes ".entry", Entry) ∷ [])

abbrev pub begins_label : ℕ → Bool
begins_label c = is_ascii_alphabetic c || c == underscore

abbrev pub is_label_byte : ℕ → Bool
is_label_byte c = is_ascii_alphanumeric c || c == underscore

-- a letter or `_`, then letters, digits and `_`
abbrev pub is_label : List ℕ → Bool
is_label [] = false
is_label (c ∷ cs) = begins_label c && list_all is_label_byte cs

-- ---- numbers

-- the number that n tokens write, all of them
abbrev pub whole : ℕ → Option Number → Option ℤ
whole n x = option_and_then (λ x. if x.count == n then Some (value x) else None) x

abbrev pub whole_number : List (List ℕ) → Option ℤ
whole_number ts = whole (length ts) (number_of ts)

-- from -2^(b-1) to 2^b - 1
abbrev pub fits : ℕ → ℤ → Bool
fits b (pos n) = nat_lt n (2 ^ b)
fits b (negsuc n) = nat_lt n (2 ^ (b - 1))

-- a number modulo 2^b
abbrev pub modulo : ℕ → ℤ → ℕ
modulo b (pos n) = n % 2 ^ b
modulo b (negsuc n) = 2 ^ b - 1 - n % 2 ^ b

-- the number itself where it is no less than 0 and below a limit
abbrev pub natural_below : ℕ → ℤ → Option ℕ
natural_below limit (pos n) = if nat_lt n limit then Some n else None
natural_below limit (negsuc n) = None

-- ---- arguments one by one

abbrev pub no_argument : Directive → List (List ℕ) → Result Directive ListingWhy
no_argument d [] = Ok d
no_argument d (t ∷ ts) = Err BadOperands

-- one number, no less than 0 and below a limit
abbrev pub one_natural : ℕ → Option ℤ → Result ℕ ListingWhy
one_natural limit x = and_then (ok_or x BadOperands) (λ x. ok_or (natural_below limit x) OutOfRange)

-- a power of two up to 4,096, which are the divisors of 4,096
abbrev pub is_alignment : ℕ → Bool
is_alignment n = nat_lt 0 n && 4096 % n == 0

abbrev pub alignment : Result ℕ ListingWhy → Result ℕ ListingWhy
alignment n = and_then n (λ n. if is_alignment n then Ok n else Err OutOfRange)

-- one label
abbrev pub one_label : List (List ℕ) → Result (List ℕ) ListingWhy
one_label [] = Err BadOperands
one_label (t ∷ []) = if is_label t then Ok t else Err BadOperands
one_label (t ∷ u ∷ us) = Err BadOperands

-- ---- lists of numbers and labels

pub data Argument : Type 0 where
  number : ℤ → Argument
  label : List ℕ → Argument

abbrev pub label_argument : List (List ℕ) → Option Argument
label_argument [] = None
label_argument (t ∷ []) = if is_label t then Some (label t) else None
label_argument (t ∷ u ∷ us) = None

-- a number, or a label where labels are taken
abbrev pub argument : Bool → List (List ℕ) → Option Argument
argument labels ts = option_or (option_map number (whole_number ts)) (if labels then label_argument ts else None)

abbrev pub with_first : {A : Type 0} → Option A → Option (List A) → Option (List A)
with_first x rest = option_and_then (λ x. option_map (λ xs. x ∷ xs) rest) x

abbrev pub all_some : {A : Type 0} → List (Option A) → Option (List A)
all_some [] = Some []
all_some (o ∷ os) = with_first o (all_some os)

-- what stands between commas, each of it an argument
abbrev pub arguments : Bool → List (List ℕ) → Option (List Argument)
arguments labels ts = all_some (map (argument labels) (slice_split (is_sign comma) ts))

-- a number as it is stored in b bits, where it fits
abbrev pub stored_number : ℕ → ℤ → Option ℕ
stored_number b x = if fits b x then Some (modulo b x) else None

abbrev pub target_in : ℕ → Argument → Option Target
target_in b (number x) = option_map Address (stored_number b x)
target_in b (label n) = Some (Label n)

-- numbers of so many bytes each
abbrev pub numbers : ℕ → Option (List Argument) → Result (List Target) ListingWhy
numbers size xs =
    and_then (ok_or xs BadOperands) (λ xs. ok_or (all_some (map (target_in (8 * size)) xs)) OutOfRange)

-- ---- strings

-- the character that stands for one behind a backslash
abbrev pub escape : ℕ → Option ℕ
escape c =
    if c == 110 then Some 10
    else (if c == 48 then Some 0
    else (if c == backslash then Some backslash
    else (if c == quote then Some quote else None)))

-- the text of a string behind its opening quote; none where it isn't closed, or has another escape
abbrev pub contents : Bool → List ℕ → Option (List ℕ)
contents escaped [] = None
contents true (c ∷ cs) = with_first (escape c) (contents false cs)
contents false (c ∷ cs) =
    if c == quote then Some []
    else (if c == backslash then contents true cs else with_first (Some c) (contents false cs))

abbrev pub string_text : List ℕ → Option (List ℕ)
string_text [] = None
string_text (c ∷ cs) = if c == quote then contents false cs else None

-- the text of one string
abbrev pub one_string : List (List ℕ) → Result (List ℕ) ListingWhy
one_string [] = Err BadOperands
one_string (t ∷ []) = ok_or (string_text t) BadOperands
one_string (t ∷ u ∷ us) = Err BadOperands

-- ---- a directive

abbrev pub with_argument : {A : Type 0} → (A → Directive) → Result A ListingWhy → Result Directive ListingWhy
with_argument d x = and_then x (λ x. Ok (d x))

-- the directive of a name and of the tokens behind it
abbrev pub directive_of : DirectiveName → List (List ℕ) → Result Directive ListingWhy
directive_of Code ts = no_argument directive.Code ts
directive_of Data ts = no_argument directive.Data ts
directive_of Byte ts = with_argument (directive.Numbers 1) (numbers 1 (arguments false ts))
directive_of Half ts = with_argument (directive.Numbers 2) (numbers 2 (arguments false ts))
directive_of Word ts = with_argument (directive.Numbers 4) (numbers 4 (arguments false ts))
directive_of Quad ts = with_argument (directive.Numbers 8) (numbers 8 (arguments true ts))
directive_of Ascii ts = with_argument directive.Ascii (one_string ts)
directive_of Zero ts = with_argument directive.Zero (one_natural (2 ^ 64) (whole_number ts))
directive_of Align ts = with_argument directive.Align (alignment (one_natural (2 ^ 32) (whole_number ts)))
directive_of Bss ts = with_argument directive.Bss (one_natural (2 ^ 64) (whole_number ts))
directive_of Entry ts = with_argument directive.Entry (one_label ts)
