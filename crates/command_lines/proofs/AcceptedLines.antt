-- An accepted line: the places that it names are those of its words, and the arguments are such as a program may be given.
use Rattle.std.proofs.Common.{◌≡◌, ◌<◌, ◌≤◌, ℕ, zero, suc, ◌+◌, ◌-◌, Bool, true, false, ◌&&◌, cond, List, [], ◌∷◌, ◌++◌, codes, length, get_or, take, drop, Option, Some, None, is_some, unwrap_or, Result, Ok, Err, IfOk, IfSome, refl, ap, subst, arith, nat_le, nat_lt}
use Rattle.std.specs.List.{All, slice_get}
use Rattle.std.specs.Option.{option_map_or}
use Rattle.std.specs.Str.{bytes_eq}
use Rattle.std.proofs.lemmas.Bool.Decides.{nat_tests}
use Rattle.std.proofs.lemmas.Option.{get_or_from_slice_get, slice_get_within}
use Rattle.std.proofs.lemmas.List.{get_or-take, length-drop, length-take}
use Rattle.std.proofs.lemmas.List.Elements.{All-append, All-cons, All-drop}
use Rattle.std.proofs.lemmas.List.Sums.{AllPass-from_list_all, list_all-from_AllPass, sum_by-cons, sum_by_more_le, sum_by-take-drop}
use Rattle.emu_model.specs.Access.{most_mapped_pages}
use Rattle.emu_model.specs.Lengths.{is_vector_length}
use Rattle.emu_system.specs.Arguments.{is_free_of_zeros}
use Rattle.emu_system.specs.ArgumentLimits.{AreArguments}
use Rattle.command_model.specs.declared.command_line.Command.{Command}
use Rattle.command_model.specs.declared.command_line.Command.TheVariants.{Run, Asm, Dis, Dbg, Load, Sweep, Threads}
use Rattle.command_model.specs.declared.command_line.Line.{Line}
use Rattle.command_model.specs.declared.command_line.Line.TheVariants.{Run as RunLine, Asm as AsmLine, Dis as DisLine, Dbg as DbgLine, Load as LoadLine, Sweep as SweepLine, Threads as ThreadsLine}
use Rattle.command_model.specs.declared.command_line.OptionName.{OptionName}
use Rattle.command_model.specs.declared.command_line.OptionName.TheVariants.{Vl, Budget, Pages}
use Rattle.command_model.specs.declared.command_line.WordsFault.{WordsFault}
use Rattle.command_model.specs.declared.command_line.WordsWhy.{WordsWhy}
use Rattle.command_model.specs.declared.command_line.WordsWhy.TheVariants.{Repeated, MissingValue, BadNumber, BadLength, OutOfRange, ExtraWord, MissingWord}
use Rattle.line_words.specs.Refusals.{and_then}
use Rattle.command_model.specs.CommandLine.{decimal_of_word, named_command, option_of, usage_of}
use Rattle.command_lines.specs.Scan.{Seen, args_said, checked_value, checked_word, end_of, given, is_option, line_said, nothing_seen, pages_said, read_further, read_item, read_number, read_option, read_plain, read_value, read_word, read_words, refusal_at, scanned_command, scanned_line, with_budget, with_machine, with_plain, with_value, with_word}
use Rattle.command_lines.specs.Outcome.{program_arguments}
use Rattle.command_lines.specs.LineLimits.{HasArguments, HasLimit, HasPlaces}

-- ---- answers

if_either : {T E : Type 0} (P : T → Type 0) (b : Bool) (x y : Result T E) → (b ≡ true → IfOk x P) → (b ≡ false → IfOk y P) → IfOk (cond b x y) P
if_either P true x y p q = p refl
if_either P false x y p q = q refl

then_so : {T U : Type 0} (P : T → Type 0) (Q : U → Type 0) (r : Result T WordsFault) (next : T → Result U WordsFault) → IfOk r P → ((t : T) → P t → IfOk (next t) Q) → IfOk (and_then r next) Q
then_so P Q (Ok t) next p step = step t p
then_so P Q (Err fault) next p step = tt

-- ---- the places of what was seen

abbrev AllBelow : ℕ → List ℕ → Type 0
AllBelow n places = All (λ p. p < n) places

below_more : (n m : ℕ) (places : List ℕ) → n ≤ m → AllBelow n places → AllBelow m places
below_more n m places le all = λ k d h. let below = all k d h in omega arith

below_one : (n place : ℕ) → place < n → AllBelow n (place ∷ [])
below_one n place lt = λ k d h. elim k as (λ j. j < 1 → get_or (place ∷ []) j d < n) [ zero ↦ λ _. lt | suc j ↦ λ past. absurd (omega arith) ] h

-- where the arguments begin, if `--` was read: behind the plain words, and not behind the words so far
abbrev AreBehind : Option ℕ → List ℕ → ℕ → Type 0
AreBehind None places place = AllBelow place places
AreBehind (Some args) places place = AllBelow args places × (args ≤ place)

abbrev IsWithin : ℕ → Seen → Type 0
IsWithin place seen = AreBehind seen.args seen.plain_places place

later : (args : Option ℕ) (places : List ℕ) (place : ℕ) → AreBehind args places place → AreBehind args places (place + 1)
later None places place all = below_more place (place + 1) places (omega arith) all
later (Some args) places place (all, le) = (all, omega arith)

value_kept : (option : OptionName) (value place : ℕ) (seen : Seen) → IsWithin place seen → IsWithin (place + 1) (with_value option value seen)
value_kept Vl value place seen within = later seen.args seen.plain_places place within
value_kept Budget value place seen within = later seen.args seen.plain_places place within
value_kept Pages value place seen within = later seen.args seen.plain_places place within

within_value : (seen : Seen) (place : ℕ) (option : OptionName) (value : Result ℕ WordsWhy) → IsWithin place seen → IfOk (read_value seen place option value) (IsWithin (place + 1))
within_value seen place option (Ok value) within = value_kept option value place seen within
within_value seen place option (Err why) within = tt

within_option : (seen : Seen) (place : ℕ) (option : Option OptionName) → IsWithin place seen → IfOk (read_option seen place option) (IsWithin (place + 1))
within_option seen place None within = tt
within_option seen place (Some option) within =
    if_either (IsWithin (place + 1)) (is_some (given option seen)) (refusal_at Repeated place) (Ok (record seen { awaited = Some option })) (λ _. tt) (λ _. later seen.args seen.plain_places place within)

plain_more : (args : Option ℕ) (places : List ℕ) (place : ℕ) → None ≡ args → AreBehind args places place → AreBehind args (places ++ place ∷ []) (place + 1)
plain_more None places place none all = All-append (λ p. p < place + 1) places (place ∷ []) (below_more place (place + 1) places (omega arith) all) (below_one (place + 1) place (omega arith))
plain_more (Some args) places place none all = absurd (cc)

arguments_begin : (args : Option ℕ) (places : List ℕ) (place : ℕ) → None ≡ args → AreBehind args places place → AreBehind (Some (place + 1)) places (place + 1)
arguments_begin None places place none all = (below_more place (place + 1) places (omega arith) all, omega arith)
arguments_begin (Some args) places place none all = absurd (cc)

within_number : (seen : Seen) (place : ℕ) (number : Option ℕ) → None ≡ seen.args → IsWithin place seen → IfOk (read_number seen place number) (IsWithin (place + 1))
within_number seen place None none within = tt
within_number seen place (Some number) none within = plain_more seen.args seen.plain_places place none within

within_further : (command : Command) (seen : Seen) (place : ℕ) (word : List ℕ) → None ≡ seen.args → IsWithin place seen → IfOk (read_further command seen place word) (IsWithin (place + 1))
within_further command seen place word none within =
    if_either (IsWithin (place + 1)) ((usage_of command).number) (read_number seen place (decimal_of_word word)) (Ok (with_word seen place))
    (λ _. within_number seen place (decimal_of_word word) none within) (λ _. plain_more seen.args seen.plain_places place none within)

within_plain : (command : Command) (seen : Seen) (place : ℕ) (word : List ℕ) → None ≡ seen.args → IsWithin place seen → IfOk (read_plain command seen place word) (IsWithin (place + 1))
within_plain command seen place word none within =
    if_either (IsWithin (place + 1)) (nat_lt (length seen.plain_places) (usage_of command).words) (read_further command seen place word) (refusal_at ExtraWord place)
    (λ _. within_further command seen place word none within) (λ _. tt)

within_item : (command : Command) (seen : Seen) (place : ℕ) (word : List ℕ) → None ≡ seen.args → IsWithin place seen → IfOk (read_item command seen place word) (IsWithin (place + 1))
within_item command seen place word none within =
    let option : Result Seen WordsFault = read_option seen place (option_of command word) in
    let plain : Result Seen WordsFault = read_plain command seen place word in
    if_either (IsWithin (place + 1)) ((usage_of command).arguments && bytes_eq word (codes "--")) (Ok (record seen { args = Some (place + 1) })) (cond (is_option word) option plain)
    (λ _. arguments_begin seen.args seen.plain_places place none within)
    (λ _. if_either (IsWithin (place + 1)) (is_option word) option plain
    (λ _. within_option seen place (option_of command word) within)
    (λ _. within_plain command seen place word none within))

within_any : (command : Command) (seen : Seen) (place : ℕ) (word : List ℕ) (awaited : Option OptionName) → None ≡ seen.args → IsWithin place seen
    → IfOk (option_map_or (λ option. read_value seen place option (checked_word option word)) awaited (read_item command seen place word)) (IsWithin (place + 1))
within_any command seen place word None none within = within_item command seen place word none within
within_any command seen place word (Some option) none within = within_value seen place option (checked_word option word) within

none_of : (args : Option ℕ) → is_some args ≡ false → None ≡ args
none_of None e = refl
none_of (Some args) e = absurd (cc)

within_word : (command : Command) (seen : Seen) (place : ℕ) (word : List ℕ) → IsWithin place seen → IfOk (read_word command seen place word) (IsWithin (place + 1))
within_word command seen place word within =
    if_either (IsWithin (place + 1)) (is_some seen.args) (Ok seen)
    (option_map_or (λ option. read_value seen place option (checked_word option word)) seen.awaited (read_item command seen place word))
    (λ _. later seen.args seen.plain_places place within) (λ e. within_any command seen place word seen.awaited (none_of seen.args e) within)

within_words : (command : Command) (seen : Seen) (place count : ℕ) (words : List (List ℕ)) → place + length words ≡ count → IsWithin place seen → IfOk (read_words command seen place words) (IsWithin count)
within_words command seen place count [] e within = subst (λ (n : ℕ). IsWithin n seen) (omega arith) within
within_words command seen place count (word ∷ words) e within =
    then_so (IsWithin (place + 1)) (IsWithin count) (read_word command seen place word) (λ more. read_words command more (place + 1) words)
    (within_word command seen place word within) (λ more here. within_words command more (place + 1) count words (omega arith) here)

-- ---- the places of a line

-- the arguments begin not behind the words, and the plain words stand in front of them
args_within : (args : Option ℕ) (places : List ℕ) (count : ℕ) → AreBehind args places count → unwrap_or args count ≤ count
args_within None places count all = omega arith
args_within (Some args) places count (all, le) = le

all_in_front : (args : Option ℕ) (places : List ℕ) (count : ℕ) → AreBehind args places count → AllBelow (unwrap_or args count) places
all_in_front None places count all = all
all_in_front (Some args) places count (all, le) = all

got_below : (n : ℕ) (places : List ℕ) (k place : ℕ) → AllBelow n places → slice_get places k ≡ Some place → place < n
got_below n places k place all got =
    let below = all k 0 (slice_get_within places k place got) in
    omega (arith, get_or_from_slice_get places k place 0 got)

-- a line that needs a plain word
with_place : (P : Line → Type 0) (count : ℕ) (o : Option ℕ) (next : ℕ → Result Line WordsFault) → ((place : ℕ) → o ≡ Some place → IfOk (next place) P) → IfOk (option_map_or next o (refusal_at MissingWord count)) P
with_place P count None next step = tt
with_place P count (Some place) next step = step place refl

-- a line that needs a number
with_number : (P : Line → Type 0) (count : ℕ) (number : Option ℕ) (said : ℕ → Line) → ((n : ℕ) → P (said n)) → IfOk (option_map_or (λ n. Ok (said n)) number (refusal_at MissingWord count)) P
with_number P count None said holds = tt
with_number P count (Some number) said holds = holds number

-- a line that needs a vector length and a budget
with_both : (P : Line → Type 0) (count : ℕ) (vl budget : Option ℕ) (said : ℕ → ℕ → Line) → ((bits steps : ℕ) → P (said bits steps)) → IfOk (with_machine count vl budget said) P
with_both P count None budget said holds = tt
with_both P count (Some bits) None said holds = tt
with_both P count (Some bits) (Some steps) said holds = holds bits steps

-- a line that needs a budget alone
with_steps : (P : Line → Type 0) (count : ℕ) (budget : Option ℕ) (said : ℕ → Line) → ((steps : ℕ) → P (said steps)) → IfOk (with_budget count budget said) P
with_steps P count None said holds = tt
with_steps P count (Some steps) said holds = holds steps

-- a line of two files
two_files : (P : Line → Type 0) (count : ℕ) (seen : Seen) (said : ℕ → ℕ → ℕ → ℕ → Line) → ((file other bits budget : ℕ) → slice_get seen.plain_places 0 ≡ Some file → slice_get seen.plain_places 1 ≡ Some other → P (said file other bits budget))
    → IfOk (with_plain count seen 0 (λ file. with_plain count seen 1 (λ other. with_machine count seen.vl seen.budget (said file other)))) P
two_files P count seen said holds =
    with_place P count (slice_get seen.plain_places 0) (λ file. with_plain count seen 1 (λ other. with_machine count seen.vl seen.budget (said file other))) (λ file got.
    with_place P count (slice_get seen.plain_places 1) (λ other. with_machine count seen.vl seen.budget (said file other)) (λ other also.
    with_both P count seen.vl seen.budget (said file other) (λ bits budget. holds file other bits budget got also)))

module _ (count : ℕ) (seen : Seen) (within : IsWithin count seen) where
  front : (k place : ℕ) → slice_get seen.plain_places k ≡ Some place → place < args_said count seen
  front k place got = got_below (args_said count seen) seen.plain_places k place (all_in_front seen.args seen.plain_places count within) got

  behind : args_said count seen ≤ count
  behind = args_within seen.args seen.plain_places count within

  two_places : (said : ℕ → ℕ → ℕ → ℕ → Line) → ((file other bits budget : ℕ) → file < args_said count seen → other < args_said count seen → HasPlaces (said file other bits budget) count)
      → IfOk (with_plain count seen 0 (λ file. with_plain count seen 1 (λ other. with_machine count seen.vl seen.budget (said file other)))) (λ l. HasPlaces l count)
  two_places said holds = two_files (λ l. HasPlaces l count) count seen said (λ file other bits budget got also. holds file other bits budget (front 0 file got) (front 1 other also))

  line_places : (command : Command) → IfOk (line_said command count seen) (λ l. HasPlaces l count)
  line_places Run =
      with_place (λ l. HasPlaces l count) count (slice_get seen.plain_places 0) (λ file. with_machine count seen.vl seen.budget (λ bits budget. RunLine file (args_said count seen) bits budget (pages_said seen))) (λ file got.
      with_both (λ l. HasPlaces l count) count seen.vl seen.budget (λ bits budget. RunLine file (args_said count seen) bits budget (pages_said seen)) (λ bits budget. (front 0 file got, behind)))
  line_places Asm = with_place (λ l. HasPlaces l count) count (slice_get seen.plain_places 0) (λ listing. Ok (AsmLine listing)) (λ listing got. let lt = front 0 listing got in let le = behind in omega arith)
  line_places Dis = with_place (λ l. HasPlaces l count) count (slice_get seen.plain_places 0) (λ file. Ok (DisLine file)) (λ file got. let lt = front 0 file got in let le = behind in omega arith)
  line_places Dbg = two_places (λ file script bits budget. DbgLine file script (args_said count seen) bits budget (pages_said seen)) (λ file script bits budget lt also. (lt, also, behind))
  line_places Load = with_number (λ l. HasPlaces l count) count seen.number (λ number. LoadLine number) (λ number. tt)
  line_places Sweep =
      with_place (λ l. HasPlaces l count) count (slice_get seen.plain_places 0) (λ file. with_budget count seen.budget (λ budget. SweepLine file (args_said count seen) budget (pages_said seen))) (λ file got.
      with_steps (λ l. HasPlaces l count) count seen.budget (λ budget. SweepLine file (args_said count seen) budget (pages_said seen)) (λ budget. (front 0 file got, behind)))
  line_places Threads = two_places (λ file schedule bits budget. ThreadsLine file schedule (args_said count seen) bits budget (pages_said seen)) (λ file schedule bits budget lt also. (lt, also, behind))

places_of : (command : Command) (count : ℕ) (seen : Seen) → IsWithin count seen → IfOk (end_of command count seen) (λ l. HasPlaces l count)
places_of command count seen within =
    if_either (λ l. HasPlaces l count) (is_some seen.awaited) (refusal_at MissingValue (count - 1)) (line_said command count seen) (λ _. tt) (λ _. line_places count seen within command)

command_places : (words : List (List ℕ)) (command : Option Command) → 0 < length words → IfOk (scanned_command words command) (λ l. HasPlaces l (length words))
command_places words None some = tt
command_places words (Some command) some =
    then_so (IsWithin (length words)) (λ l. HasPlaces l (length words)) (read_words command nothing_seen 1 (drop 1 words)) (end_of command (length words))
    (within_words command nothing_seen 1 (length words) (drop 1 words) (let e = length-drop 1 words in omega arith) (λ k d h. absurd (omega arith)))
    (λ seen within. places_of command (length words) seen within)

pub words_places : (words : List (List ℕ)) → IfOk (scanned_line words) (λ l. HasPlaces l (length words))
words_places [] = tt
words_places (name ∷ words) = command_places (name ∷ words) (named_command name) (omega arith)

-- ---- the pages of a line

-- a value of this option
abbrev IsValue : OptionName → ℕ → Type 0
IsValue Vl value = Unit {0}
IsValue Budget value = Unit {0}
IsValue Pages value = value ≤ most_mapped_pages

few_pages : (n : ℕ) → (nat_le 1 n && nat_le n most_mapped_pages) ≡ true → n ≤ most_mapped_pages
few_pages n h = grind (arith, nat_tests)

value_fits : (option : OptionName) (n : ℕ) → IfOk (checked_value option n) (IsValue option)
value_fits Vl n = if_either (IsValue Vl) (is_vector_length n) (Ok n) (Err BadLength) (λ _. tt) (λ _. tt)
value_fits Budget n = tt
value_fits Pages n = if_either (IsValue Pages) (nat_le 1 n && nat_le n most_mapped_pages) (Ok n) (Err OutOfRange) (few_pages n) (λ _. tt)

number_fits : (option : OptionName) (number : Option ℕ) → IfOk (option_map_or (checked_value option) number (Err BadNumber)) (IsValue option)
number_fits option None = tt
number_fits option (Some n) = value_fits option n

abbrev Fits : Seen → Type 0
Fits seen = IfSome seen.pages (λ pages. pages ≤ most_mapped_pages)

kept_fits : (option : OptionName) (value : ℕ) (seen : Seen) → IsValue option value → Fits seen → Fits (with_value option value seen)
kept_fits Vl value seen is fits = fits
kept_fits Budget value seen is fits = fits
kept_fits Pages value seen is fits = is

value_read_fits : (seen : Seen) (place : ℕ) (option : OptionName) (value : Result ℕ WordsWhy) → IfOk value (IsValue option) → Fits seen → IfOk (read_value seen place option value) Fits
value_read_fits seen place option (Ok value) is fits = kept_fits option value seen is fits
value_read_fits seen place option (Err why) is fits = tt

option_fits : (seen : Seen) (place : ℕ) (option : Option OptionName) → Fits seen → IfOk (read_option seen place option) Fits
option_fits seen place None fits = tt
option_fits seen place (Some option) fits = if_either Fits (is_some (given option seen)) (refusal_at Repeated place) (Ok (record seen { awaited = Some option })) (λ _. tt) (λ _. fits)

number_read_fits : (seen : Seen) (place : ℕ) (number : Option ℕ) → Fits seen → IfOk (read_number seen place number) Fits
number_read_fits seen place None fits = tt
number_read_fits seen place (Some number) fits = fits

plain_fits : (command : Command) (seen : Seen) (place : ℕ) (word : List ℕ) → Fits seen → IfOk (read_plain command seen place word) Fits
plain_fits command seen place word fits =
    if_either Fits (nat_lt (length seen.plain_places) (usage_of command).words) (read_further command seen place word) (refusal_at ExtraWord place)
    (λ _. if_either Fits ((usage_of command).number) (read_number seen place (decimal_of_word word)) (Ok (with_word seen place)) (λ _. number_read_fits seen place (decimal_of_word word) fits) (λ _. fits))
    (λ _. tt)

item_fits : (command : Command) (seen : Seen) (place : ℕ) (word : List ℕ) → Fits seen → IfOk (read_item command seen place word) Fits
item_fits command seen place word fits =
    let option : Result Seen WordsFault = read_option seen place (option_of command word) in
    let plain : Result Seen WordsFault = read_plain command seen place word in
    if_either Fits ((usage_of command).arguments && bytes_eq word (codes "--")) (Ok (record seen { args = Some (place + 1) })) (cond (is_option word) option plain) (λ _. fits)
    (λ _. if_either Fits (is_option word) option plain (λ _. option_fits seen place (option_of command word) fits) (λ _. plain_fits command seen place word fits))

any_fits : (command : Command) (seen : Seen) (place : ℕ) (word : List ℕ) (awaited : Option OptionName) → Fits seen
    → IfOk (option_map_or (λ option. read_value seen place option (checked_word option word)) awaited (read_item command seen place word)) Fits
any_fits command seen place word None fits = item_fits command seen place word fits
any_fits command seen place word (Some option) fits = value_read_fits seen place option (checked_word option word) (number_fits option (decimal_of_word word)) fits

word_fits : (command : Command) (seen : Seen) (place : ℕ) (word : List ℕ) → Fits seen → IfOk (read_word command seen place word) Fits
word_fits command seen place word fits =
    if_either Fits (is_some seen.args) (Ok seen) (option_map_or (λ option. read_value seen place option (checked_word option word)) seen.awaited (read_item command seen place word))
    (λ _. fits) (λ _. any_fits command seen place word seen.awaited fits)

words_fit : (command : Command) (seen : Seen) (place : ℕ) (words : List (List ℕ)) → Fits seen → IfOk (read_words command seen place words) Fits
words_fit command seen place [] fits = fits
words_fit command seen place (word ∷ words) fits =
    then_so Fits Fits (read_word command seen place word) (λ more. read_words command more (place + 1) words) (word_fits command seen place word fits) (λ more here. words_fit command more (place + 1) words here)

pages_fit : (pages : Option ℕ) → IfSome pages (λ n. n ≤ most_mapped_pages) → unwrap_or pages 16384 ≤ most_mapped_pages
pages_fit None fits = omega arith
pages_fit (Some pages) fits = fits

module _ (count : ℕ) (seen : Seen) (fits : Fits seen) where
  few : pages_said seen ≤ most_mapped_pages
  few = pages_fit seen.pages fits

  line_limit : (command : Command) → IfOk (line_said command count seen) HasLimit
  line_limit Run =
      with_place HasLimit count (slice_get seen.plain_places 0) (λ file. with_machine count seen.vl seen.budget (λ bits budget. RunLine file (args_said count seen) bits budget (pages_said seen))) (λ file _.
      with_both HasLimit count seen.vl seen.budget (λ bits budget. RunLine file (args_said count seen) bits budget (pages_said seen)) (λ bits budget. few))
  line_limit Asm = with_place HasLimit count (slice_get seen.plain_places 0) (λ listing. Ok (AsmLine listing)) (λ listing _. tt)
  line_limit Dis = with_place HasLimit count (slice_get seen.plain_places 0) (λ file. Ok (DisLine file)) (λ file _. tt)
  line_limit Dbg = two_files HasLimit count seen (λ file script bits budget. DbgLine file script (args_said count seen) bits budget (pages_said seen)) (λ file script bits budget _ _. few)
  line_limit Load = with_number HasLimit count seen.number (λ number. LoadLine number) (λ number. tt)
  line_limit Sweep =
      with_place HasLimit count (slice_get seen.plain_places 0) (λ file. with_budget count seen.budget (λ budget. SweepLine file (args_said count seen) budget (pages_said seen))) (λ file _.
      with_steps HasLimit count seen.budget (λ budget. SweepLine file (args_said count seen) budget (pages_said seen)) (λ budget. few))
  line_limit Threads = two_files HasLimit count seen (λ file schedule bits budget. ThreadsLine file schedule (args_said count seen) bits budget (pages_said seen)) (λ file schedule bits budget _ _. few)

limit_of : (command : Command) (count : ℕ) (seen : Seen) → Fits seen → IfOk (end_of command count seen) HasLimit
limit_of command count seen fits = if_either HasLimit (is_some seen.awaited) (refusal_at MissingValue (count - 1)) (line_said command count seen) (λ _. tt) (λ _. line_limit count seen fits command)

command_limit : (words : List (List ℕ)) (command : Option Command) → IfOk (scanned_command words command) HasLimit
command_limit words None = tt
command_limit words (Some command) =
    then_so Fits HasLimit (read_words command nothing_seen 1 (drop 1 words)) (end_of command (length words)) (words_fit command nothing_seen 1 (drop 1 words) tt) (λ seen fits. limit_of command (length words) seen fits)

pub words_limit : (words : List (List ℕ)) → IfOk (scanned_line words) HasLimit
words_limit [] = tt
words_limit (name ∷ words) = command_limit (name ∷ words) (named_command name)

-- ---- the arguments of a line

-- one word, and those from a later place on
one_and_later : (P : List ℕ → Type 0) (words : List (List ℕ)) (file args : ℕ) → file < args → args ≤ length words → All P words → All P (get_or words file [] ∷ drop args words)
one_and_later P words file args lt le all = All-cons P (get_or words file []) (drop args words) (all file [] (omega arith)) (All-drop P args words all)

-- those of the words that a program is given
given_words : (words : List (List ℕ)) → AreArguments words → (file args : ℕ) → file < args → args ≤ length words → AreArguments (program_arguments words file args)
given_words words are file args lt le =
    let few = are.few in
    let short = are.short in
    record {
      few = omega (arith, length-drop args words);
      short = omega (
        arith,
        sum_by-cons length (get_or words file []) (drop args words),
        sum_by-take-drop length words args,
        sum_by_more_le length (take args words) file [] (omega (arith, length-take args words)),
        ap length (get_or-take args words file [] lt),
      );
      plain = list_all-from_AllPass is_free_of_zeros (get_or words file [] ∷ drop args words) (one_and_later (λ w. is_free_of_zeros w ≡ true) words file args lt le (AllPass-from_list_all is_free_of_zeros words are.plain));
    }

pub arguments_fit : (words : List (List ℕ)) → AreArguments words → (r : Result Line WordsFault) → IfOk r (λ l. HasPlaces l (length words)) → IfOk r (HasArguments words)
arguments_fit words are (Err fault) places = tt
arguments_fit words are (Ok (RunLine file args bits budget pages)) (lt, le) = given_words words are file args lt le
arguments_fit words are (Ok (AsmLine listing)) lt = tt
arguments_fit words are (Ok (DisLine file)) lt = tt
arguments_fit words are (Ok (DbgLine file script args bits budget pages)) (lt, also, le) = given_words words are file args lt le
arguments_fit words are (Ok (LoadLine number)) places = tt
arguments_fit words are (Ok (SweepLine file args budget pages)) (lt, le) = given_words words are file args lt le
arguments_fit words are (Ok (ThreadsLine file schedule args bits budget pages)) (lt, also, le) = given_words words are file args lt le
