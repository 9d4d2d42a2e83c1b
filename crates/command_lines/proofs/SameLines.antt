-- What the words say when they are read one after the other is the line of the definitions.
--
-- What was seen so far is told by the words so far, each with what it is (`seen`); a word more does to it what the
-- definitions say of the word (`step`); and behind the last one both say the same (`ended`).
use Rattle.std.proofs.Common.{◌≡◌, ◌≤◌, ℕ, suc, ◌+◌, ◌-◌, Bool, true, false, ◌&&◌, cond, List, [], ◌∷◌, ◌++◌, codes, length, map, Option, Some, None, is_some, unwrap_or, Result, Ok, Err, refl, sym, ap, subst, ◌∙◌, arith, nat_eq, nat_le, nat_lt, append-nil, append_assoc}
use Rattle.std.specs.List.{find, slice_get}
use Rattle.std.specs.Option.{is_none, option_and_then, option_map, option_map_or, option_or}
use Rattle.std.specs.Str.{bytes_eq}
use Rattle.std.proofs.lemmas.Bool.Decides.{nat_tests}
use Rattle.std.proofs.lemmas.List.{length-map, map-append}
use Rattle.std.proofs.lemmas.List.Elements.{filter-append}
use Rattle.std.proofs.lemmas.List.Folds.{find-append}
use Rattle.emu_model.specs.Access.{most_mapped_pages}
use Rattle.emu_model.specs.Lengths.{is_vector_length}
use Rattle.emu_system.specs.Arguments.{first_too_long, first_with_zero, most_arguments}
use Rattle.emu_system.specs.Image.{unless_fault}
use Rattle.command_model.specs.declared.command_line.Command.{Command}
use Rattle.command_model.specs.declared.command_line.Command.TheVariants.{Run, Asm, Dis, Dbg, Load, Sweep, Threads}
use Rattle.command_model.specs.declared.command_line.Line.{Line}
use Rattle.command_model.specs.declared.command_line.Line.TheVariants.{Run as RunLine, Asm as AsmLine, Dis as DisLine, Dbg as DbgLine, Load as LoadLine, Sweep as SweepLine, Threads as ThreadsLine}
use Rattle.command_model.specs.declared.command_line.OptionName.{OptionName}
use Rattle.command_model.specs.declared.command_line.OptionName.TheVariants.{Vl, Budget, Pages}
use Rattle.command_model.specs.declared.command_line.WordsFault.{WordsFault}
use Rattle.command_model.specs.declared.command_line.WordsWhy.{WordsWhy}
use Rattle.command_model.specs.declared.command_line.WordsWhy.TheVariants.{TooManyWords, WordsTooLong, ZeroByte, UnknownCommand, Repeated, MissingValue, BadNumber, BadLength, OutOfRange, ExtraWord, MissingWord, MissingLength, MissingBudget}
use Rattle.line_words.specs.Refusals.{and_then}
use Rattle.command_model.specs.CommandLine.{ArgumentWord, OptionWord, PlainWord, Role, ValueWord, WordAt, named_command, decimal_of_word, fault_at, first_refusal, usage_of, is_argument, is_plain_word, is_value_of, accepted_line, line, line_of_command, line_of_words, first_missing, option_of, plain_words, why_refused, role_behind, option_value, value_refusal, words_from}
use Rattle.command_lines.specs.Scan.{Seen, checked_value, checked_word, end_of, given, is_option, line_said, nothing_seen, read_further, read_item, read_number, read_option, read_plain, read_value, read_word, read_words, refusal_at, scanned_command, scanned_line, with_budget, with_machine, with_value, with_word}

-- ---- what was seen, by the words so far

abbrev value_in : OptionName → List WordAt → Option WordAt
value_in option words = find (λ w. is_value_of option w.role) words

abbrev argument_in : List WordAt → Option WordAt
argument_in words = find (λ w. is_argument w.role) words

abbrev made : List ℕ → Option ℕ → Option ℕ → Option ℕ → Option ℕ → Option OptionName → Option ℕ → Seen
made plain number vl budget pages awaited args = record
    { plain_places = plain; number = number; vl = vl; budget = budget; pages = pages; awaited = awaited; args = args }

abbrev places : List WordAt → List ℕ
places words = map (λ w. w.place) words

abbrev number_said : Bool → List WordAt → Option ℕ
number_said false words = None
number_said true words = option_and_then (λ w. decimal_of_word w.word) (slice_get words 0)

abbrev awaited_by : Role → Option OptionName
awaited_by (OptionWord option) = option
awaited_by (ValueWord option) = None
awaited_by PlainWord = None
awaited_by ArgumentWord = None

abbrev place_behind : Option WordAt → Option ℕ
place_behind argument = option_map (λ w. w.place + 1) argument

-- by whether a plain word is a number, the words so far, and what the last of them is
abbrev seen : Bool → List WordAt → Role → Seen
seen number done role =
    made (places (plain_words done)) (number_said number (plain_words done)) (option_value Vl done)
    (option_value Budget done) (option_value Pages done) (awaited_by role) (place_behind (argument_in done))

same_made : (awaited : Option OptionName) {plain plain' : List ℕ}
    {number number' vl vl' budget budget' pages pages' args args' : Option ℕ}
    → plain ≡ plain' → number ≡ number' → vl ≡ vl' → budget ≡ budget' → pages ≡ pages' → args ≡ args'
    → made plain number vl budget pages awaited args ≡ made plain' number' vl' budget' pages' awaited args'
same_made awaited {plain = plain} {plain' = plain'} {number = number} {number' = number'} {vl = vl} {vl' = vl'}
    {budget = budget} {budget' = budget'} {pages = pages} {pages' = pages'} {args = args} {args' = args'} p n v b g a =
    ap (λ (x : List ℕ). made x number vl budget pages awaited args) p
    ∙ ap (λ (x : Option ℕ). made plain' x vl budget pages awaited args) n
    ∙ ap (λ (x : Option ℕ). made plain' number' x budget pages awaited args) v
    ∙ ap (λ (x : Option ℕ). made plain' number' vl' x pages awaited args) b
    ∙ ap (λ (x : Option ℕ). made plain' number' vl' budget' x awaited args) g
    ∙ ap (λ (x : Option ℕ). made plain' number' vl' budget' pages' awaited x) a

-- ---- a word more

or_none : {T : Type 0} (o : Option T) → option_or o None ≡ o
or_none None = refl
or_none (Some x) = refl

module _ (done : List WordAt) (w : WordAt) where
  plain_kept : is_plain_word w.role ≡ false → plain_words (done ++ w ∷ []) ≡ plain_words done
  plain_kept e =
      filter-append (λ (x : WordAt). is_plain_word x.role) done (w ∷ [])
      ∙ ap (λ (b : Bool). plain_words done ++ cond b (w ∷ []) []) e ∙ append-nil (plain_words done)

  plain_more : is_plain_word w.role ≡ true → plain_words (done ++ w ∷ []) ≡ plain_words done ++ w ∷ []
  plain_more e = filter-append (λ (x : WordAt). is_plain_word x.role) done (w ∷ [])
      ∙ ap (λ (b : Bool). plain_words done ++ cond b (w ∷ []) []) e

  argument_kept : is_argument w.role ≡ false → argument_in (done ++ w ∷ []) ≡ argument_in done
  argument_kept e =
      find-append (λ (x : WordAt). is_argument x.role) done (w ∷ [])
      ∙ ap (λ (b : Bool). option_or (argument_in done) (cond b (Some w) None)) e ∙ or_none (argument_in done)

  argument_more : argument_in done ≡ None → is_argument w.role ≡ true → argument_in (done ++ w ∷ []) ≡ Some w
  argument_more none e =
      find-append (λ (x : WordAt). is_argument x.role) done (w ∷ [])
      ∙ ap (λ (b : Bool). option_or (argument_in done) (cond b (Some w) None)) e
      ∙ ap (λ (o : Option WordAt). option_or o (Some w)) none

  argument_still : (q : WordAt) → argument_in done ≡ Some q → argument_in (done ++ w ∷ []) ≡ Some q
  argument_still q e = find-append (λ (x : WordAt). is_argument x.role) done (w ∷ [])
      ∙ ap (λ (o : Option WordAt). option_or o (argument_in (w ∷ []))) e

  value_kept : (option : OptionName) → is_value_of option w.role ≡ false → value_in option (done ++ w ∷ [])
      ≡ value_in option done
  value_kept option e =
      find-append (λ (x : WordAt). is_value_of option x.role) done (w ∷ [])
      ∙ ap (λ (b : Bool). option_or (value_in option done) (cond b (Some w) None)) e
      ∙ or_none (value_in option done)

  value_more : (option : OptionName) → value_in option done ≡ None → is_value_of option w.role ≡ true
      → value_in option (done ++ w ∷ []) ≡ Some w
  value_more option none e =
      find-append (λ (x : WordAt). is_value_of option x.role) done (w ∷ [])
      ∙ ap (λ (b : Bool). option_or (value_in option done) (cond b (Some w) None)) e
      ∙ ap (λ (o : Option WordAt). option_or o (Some w)) none

number_in : (o p : Option WordAt) → o ≡ p → option_and_then (λ w. decimal_of_word w.word) o
    ≡ option_and_then (λ w. decimal_of_word w.word) p
number_in o p e = ap (λ (x : Option WordAt). option_and_then (λ w. decimal_of_word w.word) x) e

-- ---- what is known between two words

-- the first plain word that is a number writes one
abbrev IsNumber : Bool → List WordAt → Type 0
IsNumber false words = Unit {0}
IsNumber true [] = Unit {0}
IsNumber true (w ∷ words) = is_none (decimal_of_word w.word) ≡ false

-- what is known of the words so far by what the last of them is, before so many others
abbrev Stands : Role → List WordAt → ℕ → Type 0
Stands (OptionWord None) done left = ⊥
Stands (OptionWord (Some option)) done left = (value_in option done ≡ None) × (argument_in done ≡ None)
    × (nat_eq left 0 ≡ false)
Stands (ValueWord option) done left = argument_in done ≡ None
Stands PlainWord done left = argument_in done ≡ None
Stands ArgumentWord done left = (q : WordAt) × (argument_in done ≡ Some q)

-- and what is known of all of them: the values that are given are numbers
record Known (number : Bool) (done : List WordAt) : Type 0 where
  first : IsNumber number (plain_words done)
  values : (option : OptionName) → is_some (option_value option done) ≡ is_some (value_in option done)

known_first : (number : Bool) (done : List WordAt) (w : WordAt) → is_plain_word w.role ≡ false
    → IsNumber number (plain_words done) → IsNumber number (plain_words (done ++ w ∷ []))
known_first number done w e known = subst (λ (ws : List WordAt). IsNumber number ws) (sym (plain_kept done w e)) known

known_value : (done : List WordAt) (w : WordAt) (option : OptionName) → is_value_of option w.role ≡ false
    → is_some (option_value option done) ≡ is_some (value_in option done)
    → is_some (option_value option (done ++ w ∷ [])) ≡ is_some (value_in option (done ++ w ∷ []))
known_value done w option e known =
    subst (λ (o : Option WordAt). is_some (option_and_then (λ (x : WordAt). decimal_of_word x.word) o) ≡ is_some o)
    (sym (value_kept done w option e)) known

-- a word that is no value of an option
known_more : (number : Bool) (done : List WordAt) (w : WordAt)
    → ((option : OptionName) → is_value_of option w.role ≡ false) → IsNumber number (plain_words (done ++ w ∷ []))
    → Known number done → Known number (done ++ w ∷ [])
known_more number done w none first known = record
    { first = first; values = λ option. known_value done w option (none option) (known.values option) }

-- ---- a step

-- what comes of the words from a place on
abbrev after : Command → ℕ → ℕ → List (List ℕ) → Seen → Result Line WordsFault
after command count place words so_far = and_then (read_words command so_far place words) (end_of command count)

-- what comes of a word: its why_refused, or what comes of the words behind it
abbrev Step : Bool → Role → List WordAt → ℕ → ℕ → (Seen → Result Line WordsFault) → Result Line WordsFault
    → Option WordsWhy → Type 0
Step number role done place left next answer (Some why) = answer ≡ refusal_at why place
Step number role done place left next answer None = (answer ≡ next (seen number done role)) × Stands role done left
    × Known number done

seen_kept : (number : Bool) (done : List WordAt) (w : WordAt) (role : Role) (args : Option ℕ) → is_plain_word w.role
    ≡ false → ((option : OptionName) → is_value_of option w.role ≡ false)
    → place_behind (argument_in (done ++ w ∷ [])) ≡ args
    → seen number (done ++ w ∷ []) role ≡ made (places (plain_words done)) (number_said number (plain_words done))
    (option_value Vl done) (option_value Budget done) (option_value Pages done) (awaited_by role) args
seen_kept number done w role args plain value a =
    same_made (awaited_by role) (ap (λ (ws : List WordAt). places ws) (plain_kept done w plain))
    (ap (λ (ws : List WordAt). number_said number ws) (plain_kept done w plain))
    (number_in _ _ (value_kept done w Vl (value Vl))) (number_in _ _ (value_kept done w Budget (value Budget)))
    (number_in _ _ (value_kept done w Pages (value Pages))) a

none_from : {T : Type 0} (o : Option T) → is_some o ≡ false → o ≡ None
none_from None e = refl
none_from (Some x) e = absurd (cc)

some_left : (n : ℕ) → nat_eq (suc n) 0 ≡ false
some_left n = grind (arith, nat_tests)

no_more : (n : ℕ) → nat_lt (suc n) 1 ≡ true → ⊥
no_more n e = grind (arith, nat_tests)

none_before : (ws : List WordAt) → nat_lt (length ws) 1 ≡ true → ws ≡ []
none_before [] e = refl
none_before (w ∷ ws) e = absurd (no_more (length ws) e)

module _ (number : Bool) (command : Command) (done : List WordAt) (place : ℕ) (word : List ℕ)
    (known : Known number done) where
  abbrev at : Role → WordAt
  at role = record { place = place; role = role; word = word }

  abbrev more : Role → List WordAt
  more role = done ++ at role ∷ []

  -- behind an argument
  argument_behind : (count : ℕ) (words : List (List ℕ)) (q : WordAt) → argument_in done ≡ Some q
      → Step number ArgumentWord (more ArgumentWord) place (length words) (after command count (place + 1) words)
      (and_then (read_word command (seen number done ArgumentWord) place word)
      (after command count (place + 1) words)) None
  argument_behind count words q e =
      let same = ap (λ (o : Option WordAt). place_behind o) (argument_still done (at ArgumentWord) q e ∙ sym e) in
      let kept = seen_kept number done (at ArgumentWord) ArgumentWord _ refl (λ option. refl) same in (
        ap (λ (o : Option WordAt). and_then (cond (is_some (place_behind o)) (Ok (seen number done ArgumentWord))
            (option_map_or (λ option. read_value (seen number done ArgumentWord) place option
            (checked_word option word)) None (read_item command (seen number done ArgumentWord) place word)))
            (after command count (place + 1) words)) e
            ∙ ap (λ (s : Seen). after command count (place + 1) words s) (sym kept),
        (q, argument_still done (at ArgumentWord) q e),
        known_more number done (at ArgumentWord) (λ option. refl)
            (known_first number done (at ArgumentWord) refl known.first) known,
      )

  -- the word `--`
  dashes : (next : Seen → Result Line WordsFault) (left : ℕ) → argument_in done ≡ None
      → Step number ArgumentWord (more ArgumentWord) place left next
      (next (record (seen number done PlainWord) { args = Some (place + 1) })) None
  dashes next left none =
      let begun = argument_more done (at ArgumentWord) none refl in (
        ap next (sym (seen_kept number done (at ArgumentWord) ArgumentWord (Some (place + 1)) refl (λ option. refl)
            (ap (λ (o : Option WordAt). place_behind o) begun))),
        (at ArgumentWord, begun),
        known_more number done (at ArgumentWord) (λ option. refl)
            (known_first number done (at ArgumentWord) refl known.first) known,
      )

  -- an option
  option_given : (option : OptionName) → given option (seen number done PlainWord) ≡ option_value option done
  option_given Vl = refl
  option_given Budget = refl
  option_given Pages = refl

  abbrev with_option : OptionName → Seen
  with_option option = record (seen number done PlainWord) { awaited = Some option }

  option_first : (option : OptionName) (count : ℕ) (words : List (List ℕ)) → place + suc (length words) ≡ count
      → argument_in done ≡ None → is_some (option_value option done) ≡ false
      → Step number (OptionWord (Some option)) (more (OptionWord (Some option))) place (length words)
      (after command count (place + 1) words)
      (after command count (place + 1) words (with_option option))
      (cond (nat_eq (length (words_from command (OptionWord (Some option)) (place + 1) words)) 0)
      (Some MissingValue) None)
  option_first option count [] e none new = ap (λ (n : ℕ). refusal_at {T = Line} MissingValue n) (omega arith)
  option_first option count (value ∷ words) e none new =
      let role = OptionWord (Some option) in
      let kept = argument_kept done (at role) refl in
      let answer : Step number role (more role) place (length (value ∷ words))
      (after command count (place + 1) (value ∷ words))
      (after command count (place + 1) (value ∷ words) (with_option option)) None = (
        ap (λ (s : Seen). after command count (place + 1) (value ∷ words) s)
            (sym (seen_kept number done (at role) role _ refl (λ option. refl)
            (ap (λ (o : Option WordAt). place_behind o) kept))),
        (
          value_kept done (at role) option refl
              ∙ none_from (value_in option done) (sym (known.values option) ∙ new),
          kept
              ∙ none,
          some_left (length words),
        ),
        known_more number done (at role) (λ option. refl) (known_first number done (at role) refl known.first) known,
      ) in
      subst (λ (b : Bool). Step number role (more role) place (length (value ∷ words))
      (after command count (place + 1) (value ∷ words))
      (after command count (place + 1) (value ∷ words) (with_option option)) (cond b (Some MissingValue) None))
      (sym (some_left _)) answer

  option_again : (option : OptionName) (count : ℕ) (words : List (List ℕ)) (b : Bool) → place + suc (length words)
      ≡ count → argument_in done ≡ None → is_some (option_value option done) ≡ b
      → Step number (OptionWord (Some option)) (more (OptionWord (Some option))) place (length words)
      (after command count (place + 1) words)
      (and_then (cond b (refusal_at Repeated place) (Ok (with_option option))) (after command count (place + 1) words))
      (cond b (Some Repeated) (cond (nat_eq
      (length (words_from command (OptionWord (Some option)) (place + 1) words)) 0) (Some MissingValue) None))
  option_again option count words true e none given = refl
  option_again option count words false e none given = option_first option count words e none given

  option_word : (option : Option OptionName) (count : ℕ) (words : List (List ℕ)) → place + suc (length words) ≡ count
      → argument_in done ≡ None
      → Step number (OptionWord option) (more (OptionWord option)) place (length words)
      (after command count (place + 1) words)
      (and_then (read_option (seen number done PlainWord) place option) (after command count (place + 1) words))
      (why_refused command done (words_from command (OptionWord option) (place + 1) words) (OptionWord option) word)
  option_word None count words e none = refl
  option_word (Some option) count words e none =
      subst (λ (o : Option ℕ). Step number (OptionWord (Some option)) (more (OptionWord (Some option))) place
      (length words) (after command count (place + 1) words)
      (and_then (cond (is_some o) (refusal_at Repeated place) (Ok (with_option option)))
      (after command count (place + 1) words))
      (why_refused command done (words_from command (OptionWord (Some option)) (place + 1) words)
      (OptionWord (Some option)) word))
      (sym (option_given option)) (option_again option count words (is_some (option_value option done)) e none refl)

  -- a plain word
  abbrev with_place : Seen
  with_place = with_word (seen number done PlainWord) place

  plain_so : (next : Seen → Result Line WordsFault) (left : ℕ) (after_it : Seen) → argument_in done ≡ None → after_it
      ≡ seen number (more PlainWord) PlainWord → IsNumber number (plain_words (more PlainWord))
      → Step number PlainWord (more PlainWord) place left next (next after_it) None
  plain_so next left after_it none same first = (
    ap next same,
    argument_kept done (at PlainWord) refl
        ∙ none,
    known_more number done (at PlainWord) (λ option. refl) first known,
  )

  -- what a plain word is to be told as
  plain_same : (n : Option ℕ) → n ≡ number_said number (plain_words (more PlainWord))
      → record with_place { number = n } ≡ seen number (more PlainWord) PlainWord
  plain_same n e =
      same_made None
      (sym (ap (λ (ws : List WordAt). places ws) (plain_more done (at PlainWord) refl)
      ∙ map-append (λ (w : WordAt). w.place) (plain_words done) (at PlainWord ∷ [])))
      e
      (number_in _ _ (sym (value_kept done (at PlainWord) Vl refl)))
      (number_in _ _ (sym (value_kept done (at PlainWord) Budget refl)))
      (number_in _ _ (sym (value_kept done (at PlainWord) Pages refl)))
      (ap (λ (o : Option WordAt). place_behind o) (sym (argument_kept done (at PlainWord) refl)))

file_word : (command : Command) (done : List WordAt) (place : ℕ) (word : List ℕ) (known : Known false done)
    (next : Seen → Result Line WordsFault) (left : ℕ) → argument_in done ≡ None
    → Step false PlainWord (done ++ (record { place = place; role = PlainWord; word = word }) ∷ []) place left next
    (next (with_word (seen false done PlainWord) place)) None
file_word command done place word known next left none =
    plain_so false command done place word known next left (with_word (seen false done PlainWord) place) none
    (plain_same false command done place word known None refl) tt

number_word : (command : Command) (done : List WordAt) (place : ℕ) (word : List ℕ) (known : Known true done)
    (next : Seen → Result Line WordsFault) (left : ℕ) (n : Option ℕ) → argument_in done ≡ None
    → plain_words done ≡ [] → decimal_of_word word ≡ n
    → Step true PlainWord (done ++ (record { place = place; role = PlainWord; word = word }) ∷ []) place left next
    (and_then (read_number (seen true done PlainWord) place n) next) (cond (is_none n) (Some BadNumber) None)
number_word command done place word known next left None none empty e = refl
number_word command done place word known next left (Some n) none empty e =
    let w : WordAt = record { place = place; role = PlainWord; word = word } in
    let alone : plain_words (done ++ w ∷ []) ≡ w ∷ [] = plain_more done w refl
    ∙ ap (λ (ws : List WordAt). ws ++ w ∷ []) empty in
    plain_so true command done place word known next left
    (record (with_word (seen true done PlainWord) place) { number = Some n }) none
    (plain_same true command done place word known (Some n)
    (sym (ap (λ (ws : List WordAt). number_said true ws) alone ∙ e)))
    (subst (λ (ws : List WordAt). IsNumber true ws) (sym alone) (ap (λ (o : Option ℕ). is_none o) e))

-- of so many plain words, and one where it is a number
plain_word : (number : Bool) (words : ℕ) (command : Command) (done : List WordAt) (place : ℕ) (word : List ℕ)
    (known : Known number done) (next : Seen → Result Line WordsFault) (left : ℕ) (few : Bool)
    → (number ≡ true → words ≡ 1) → argument_in done ≡ None → nat_lt (length (plain_words done)) words ≡ few
    → Step number PlainWord (done ++ (record { place = place; role = PlainWord; word = word }) ∷ []) place left next
    (and_then (cond few (cond number (read_number (seen number done PlainWord) place (decimal_of_word word))
    (Ok (with_word (seen number done PlainWord) place))) (refusal_at ExtraWord place)) next)
    (cond few (cond (number && is_none (decimal_of_word word)) (Some BadNumber) None) (Some ExtraWord))
plain_word number words command done place word known next left false one none e = refl
plain_word false words command done place word known next left true one none e = file_word command done place word
    known next left none
plain_word true words command done place word known next left true one none e =
    number_word command done place word known next left (decimal_of_word word) none
    (none_before (plain_words done) (subst (λ (n : ℕ). nat_lt (length (plain_words done)) n ≡ true) (one refl) e))
    refl

one_number : (command : Command) → (usage_of command).number ≡ true → (usage_of command).words ≡ 1
one_number Run e = refl
one_number Asm e = refl
one_number Dis e = refl
one_number Dbg e = absurd (cc)
one_number Load e = refl
one_number Sweep e = refl
one_number Threads e = absurd (cc)

module _ (command : Command) (done : List WordAt) (place : ℕ) (word : List ℕ)
    (known : Known (usage_of command).number done) (count : ℕ) (words : List (List ℕ))
    (e : place + suc (length words) ≡ count) where
  abbrev then : Seen → Result Line WordsFault
  then = after command count (place + 1) words

  abbrev StepTo : Role → Result Line WordsFault → Type 0
  StepTo role answer =
      Step (usage_of command).number role (done ++ (record { place = place; role = role; word = word }) ∷ []) place
      (length words) then answer (why_refused command done (words_from command role (place + 1) words) role word)

  any_plain : argument_in done ≡ None → StepTo PlainWord
      (and_then (read_plain command (seen (usage_of command).number done PlainWord) place word) then)
  any_plain none =
      subst (λ (n : ℕ). StepTo PlainWord (and_then
      (cond (nat_lt n (usage_of command).words)
      (read_further command (seen (usage_of command).number done PlainWord) place word) (refusal_at ExtraWord place))
      then))
      (sym (length-map (plain_words done) (λ (w : WordAt). w.place)))
      (plain_word (usage_of command).number (usage_of command).words command done place word known then (length words)
      (nat_lt (length (plain_words done)) (usage_of command).words) (one_number command) none refl)

  -- `--`, an option or a plain word
  item : (b form : Bool) → argument_in done ≡ None
      → StepTo (cond b ArgumentWord (cond form (OptionWord (option_of command word)) PlainWord))
      (and_then (cond b (Ok (record (seen (usage_of command).number done PlainWord) { args = Some (place + 1) }))
      (cond form (read_option (seen (usage_of command).number done PlainWord) place (option_of command word))
      (read_plain command (seen (usage_of command).number done PlainWord) place word))) then)
  item true form none = dashes (usage_of command).number command done place word known then (length words) none
  item false true none = option_word (usage_of command).number command done place word known (option_of command word)
      count words e none
  item false false none = any_plain none

  -- behind a word that is neither an option nor an argument
  free : argument_in done ≡ None → StepTo (role_behind PlainWord command word)
      (and_then (read_word command (seen (usage_of command).number done PlainWord) place word) then)
  free none =
      subst (λ (o : Option WordAt). StepTo (role_behind PlainWord command word)
      (and_then (cond (is_some (place_behind o)) (Ok (seen (usage_of command).number done PlainWord))
      (read_item command (seen (usage_of command).number done PlainWord) place word)) then))
      (sym none) (item ((usage_of command).arguments && bytes_eq word (codes "--")) (is_option word) none)

  -- behind an option
  abbrev value_at : OptionName → WordAt
  value_at option = record { place = place; role = ValueWord (Some option); word = word }

  value_told : (option : OptionName) (n : ℕ) → argument_in done ≡ None → value_in option done ≡ None
      → decimal_of_word word ≡ Some n
      → with_value option n (seen (usage_of command).number done (OptionWord (Some option)))
      ≡ seen (usage_of command).number (done ++ value_at option ∷ []) (ValueWord (Some option))
  value_told Vl n none new e =
      let w = value_at Vl in
      same_made None (ap (λ (ws : List WordAt). places ws) (sym (plain_kept done w refl)))
      (ap (λ (ws : List WordAt). number_said (usage_of command).number ws) (sym (plain_kept done w refl)))
      (sym (number_in _ _ (value_more done w Vl new refl) ∙ e)) (number_in _ _ (sym (value_kept done w Budget refl)))
      (number_in _ _ (sym (value_kept done w Pages refl)))
      (ap (λ (o : Option WordAt). place_behind o) (sym (argument_kept done w refl)))
  value_told Budget n none new e =
      let w = value_at Budget in
      same_made None (ap (λ (ws : List WordAt). places ws) (sym (plain_kept done w refl)))
      (ap (λ (ws : List WordAt). number_said (usage_of command).number ws) (sym (plain_kept done w refl)))
      (number_in _ _ (sym (value_kept done w Vl refl))) (sym (number_in _ _ (value_more done w Budget new refl) ∙ e))
      (number_in _ _ (sym (value_kept done w Pages refl)))
      (ap (λ (o : Option WordAt). place_behind o) (sym (argument_kept done w refl)))
  value_told Pages n none new e =
      let w = value_at Pages in
      same_made None (ap (λ (ws : List WordAt). places ws) (sym (plain_kept done w refl)))
      (ap (λ (ws : List WordAt). number_said (usage_of command).number ws) (sym (plain_kept done w refl)))
      (number_in _ _ (sym (value_kept done w Vl refl))) (number_in _ _ (sym (value_kept done w Budget refl)))
      (sym (number_in _ _ (value_more done w Pages new refl) ∙ e))
      (ap (λ (o : Option WordAt). place_behind o) (sym (argument_kept done w refl)))

  -- the option itself now has a number, and the others have what they had
  value_here : (option : OptionName) (n : ℕ) → value_in option done ≡ None
      → is_value_of option (ValueWord (Some option)) ≡ true → decimal_of_word word ≡ Some n
      → is_some (option_value option (done ++ value_at option ∷ []))
      ≡ is_some (value_in option (done ++ value_at option ∷ []))
  value_here option n new own e =
      subst (λ (o : Option WordAt). is_some (option_and_then (λ (x : WordAt). decimal_of_word x.word) o) ≡ is_some o)
      (sym (value_more done (value_at option) option new own)) (ap (λ (o : Option ℕ). is_some o) e)

  values_known : (option other : OptionName) (n : ℕ) → value_in option done ≡ None → decimal_of_word word ≡ Some n
      → is_some (option_value other (done ++ value_at option ∷ []))
      ≡ is_some (value_in other (done ++ value_at option ∷ []))
  values_known Vl Vl n new e = value_here Vl n new refl e
  values_known Vl Budget n new e = known_value done (value_at Vl) Budget refl (known.values Budget)
  values_known Vl Pages n new e = known_value done (value_at Vl) Pages refl (known.values Pages)
  values_known Budget Vl n new e = known_value done (value_at Budget) Vl refl (known.values Vl)
  values_known Budget Budget n new e = value_here Budget n new refl e
  values_known Budget Pages n new e = known_value done (value_at Budget) Pages refl (known.values Pages)
  values_known Pages Vl n new e = known_value done (value_at Pages) Vl refl (known.values Vl)
  values_known Pages Budget n new e = known_value done (value_at Pages) Budget refl (known.values Budget)
  values_known Pages Pages n new e = value_here Pages n new refl e

  -- what comes of a value, by its number
  abbrev ValueStep : OptionName → Result ℕ WordsWhy → Option WordsWhy → Type 0
  ValueStep option value why =
      Step (usage_of command).number (ValueWord (Some option)) (done ++ value_at option ∷ []) place (length words)
      then (and_then (read_value (seen (usage_of command).number done (OptionWord (Some option))) place option
      value) then) why

  value_taken : (option : OptionName) (n : ℕ) → argument_in done ≡ None → value_in option done ≡ None
      → decimal_of_word word ≡ Some n → ValueStep option (Ok n) None
  value_taken option n none new e = (
    ap then (value_told option n none new e),
    argument_kept done (value_at option) refl ∙ none,
    record {
      first = known_first (usage_of command).number done (value_at option) refl known.first;
      values = λ other.
          values_known option other n new e;
    },
  )

  value_tested : (option : OptionName) (n : ℕ) (why : WordsWhy) (b : Bool) → argument_in done ≡ None
      → value_in option done ≡ None → decimal_of_word word ≡ Some n
      → ValueStep option (cond b (Ok n) (Err why)) (cond b None (Some why))
  value_tested option n why true none new e = value_taken option n none new e
  value_tested option n why false none new e = refl

  value_checked : (option : OptionName) (n : ℕ) → argument_in done ≡ None → value_in option done ≡ None
      → decimal_of_word word ≡ Some n → ValueStep option (checked_value option n) (value_refusal option n)
  value_checked Vl n none new e = value_tested Vl n BadLength (is_vector_length n) none new e
  value_checked Budget n none new e = value_taken Budget n none new e
  value_checked Pages n none new e = value_tested Pages n OutOfRange (nat_le 1 n && nat_le n most_mapped_pages) none
      new e

  value_word : (option : OptionName) (number : Option ℕ) → argument_in done ≡ None → value_in option done ≡ None
      → decimal_of_word word ≡ number
      → ValueStep option (option_map_or (checked_value option) number (Err BadNumber))
      (option_map_or (value_refusal option) number (Some BadNumber))
  value_word option None none new e = refl
  value_word option (Some n) none new e = value_checked option n none new e

  awaited_word : (option : OptionName) → argument_in done ≡ None → value_in option done ≡ None
      → StepTo (ValueWord (Some option)) (and_then
      (read_word command (seen (usage_of command).number done (OptionWord (Some option))) place word) then)
  awaited_word option none new =
      subst (λ (o : Option WordAt). StepTo (ValueWord (Some option))
      (and_then (cond (is_some (place_behind o))
      (Ok (seen (usage_of command).number done (OptionWord (Some option))))
      (read_value (seen (usage_of command).number done (OptionWord (Some option))) place option
      (checked_word option word))) then))
      (sym none) (value_word option (decimal_of_word word) none new refl)

  -- any word, by what stands before it
  step : (before : Role) (left : ℕ) → Stands before done left
      → StepTo (role_behind before command word)
      (and_then (read_word command (seen (usage_of command).number done before) place word) then)
  step (OptionWord None) left stands = absurd stands
  step (OptionWord (Some option)) left stands = awaited_word option stands.1 stands.0
  step (ValueWord option) left stands = free stands
  step PlainWord left stands = free stands
  step ArgumentWord left stands = argument_behind (usage_of command).number command done place word known count words
      stands.0 stands.1

-- ---- behind the last word

with_machine_said : (count : ℕ) (vl budget : Option ℕ) (said : ℕ → ℕ → Line)
    → with_machine count vl budget said ≡ unless_fault
    (option_map (fault_at count) (cond (is_none vl) (Some MissingLength)
    (cond (is_none budget) (Some MissingBudget) None))) (Ok (said (unwrap_or vl 0) (unwrap_or budget 0)))
with_machine_said count None budget said = refl
with_machine_said count (Some bits) None said = refl
with_machine_said count (Some bits) (Some steps) said = refl

with_budget_said : (count : ℕ) (budget : Option ℕ) (said : ℕ → Line)
    → with_budget count budget said ≡ unless_fault
    (option_map (fault_at count) (cond (is_none budget) (Some MissingBudget) None)) (Ok (said (unwrap_or budget 0)))
with_budget_said count None said = refl
with_budget_said count (Some steps) said = refl

abbrev place_in : List WordAt → ℕ → ℕ
place_in words k = option_map_or (λ w. w.place) (slice_get words k) 0

none_below_one : (n : ℕ) → nat_lt (suc n) 1 ≡ false
none_below_one n = grind (arith, nat_tests)

none_below_two : (n : ℕ) → nat_lt (suc (suc n)) 2 ≡ false
none_below_two n = grind (arith, nat_tests)

-- what is first_missing but plain words, and the line
abbrev Said : ℕ → Option WordsWhy → Line → Result Line WordsFault
Said count why said = unless_fault (option_map (fault_at count) why) (Ok said)

one_plain : (count : ℕ) (words : List WordAt) (why : Option WordsWhy) (next : ℕ → Result Line WordsFault)
    (said : ℕ → Line) → ((file : ℕ) → next file ≡ Said count why (said file))
    → option_map_or next (slice_get (places words) 0) (refusal_at MissingWord count)
    ≡ Said count (cond (nat_lt (length words) 1) (Some MissingWord) why) (said (place_in words 0))
one_plain count [] why next said same = refl
one_plain count (w ∷ words) why next said same = same w.place
    ∙ ap (λ (b : Bool). Said count (cond b (Some MissingWord) why) (said w.place)) (sym (none_below_one (length words)))

two_plain : (count : ℕ) (words : List WordAt) (why : Option WordsWhy) (next : ℕ → ℕ → Result Line WordsFault)
    (said : ℕ → ℕ → Line) → ((file other : ℕ) → next file other ≡ Said count why (said file other))
    → option_map_or (λ file. option_map_or (next file) (slice_get (places words) 1) (refusal_at MissingWord count))
    (slice_get (places words) 0) (refusal_at MissingWord count)
    ≡ Said count (cond (nat_lt (length words) 2) (Some MissingWord) why) (said (place_in words 0) (place_in words 1))
two_plain count [] why next said same = refl
two_plain count (w ∷ []) why next said same = refl
two_plain count (w ∷ v ∷ words) why next said same =
    same w.place v.place ∙ ap (λ (b : Bool). Said count (cond b (Some MissingWord) why) (said w.place v.place))
    (sym (none_below_two (length words)))

number_there : (count : ℕ) (number : Option ℕ) → is_none number ≡ false
    → option_map_or (λ n. Ok (LoadLine n)) number (refusal_at MissingWord count) ≡ Ok (LoadLine (unwrap_or number 0))
number_there count None known = absurd (cc)
number_there count (Some n) known = refl

number_plain : (count : ℕ) (words : List WordAt) → IsNumber true words
    → option_map_or (λ number. Ok (LoadLine number)) (number_said true words) (refusal_at MissingWord count)
    ≡ Said count (cond (nat_lt (length words) 1) (Some MissingWord) None)
    (LoadLine (unwrap_or (number_said true words) 0))
number_plain count [] known = refl
number_plain count (w ∷ words) known =
    number_there count (decimal_of_word w.word) known
    ∙ ap (λ (b : Bool). Said count (cond b (Some MissingWord) None)
    (LoadLine (unwrap_or (decimal_of_word w.word) 0))) (sym (none_below_one (length words)))

module _ (count : ℕ) (done : List WordAt) (role : Role) where
  abbrev the_end : Command → Type 0
  the_end command = line_said command count (seen (usage_of command).number done role)
      ≡ Said count (first_missing command done) (accepted_line command count done)

  ended : (command : Command) → IsNumber (usage_of command).number (plain_words done) → the_end command
  ended Run known = one_plain count (plain_words done) _ _ (λ file. RunLine file _ _ _ _)
      (λ file. with_machine_said count (option_value Vl done) (option_value Budget done)
      (λ bits budget. RunLine file _ bits budget _))
  ended Asm known = one_plain count (plain_words done) None (λ listing. Ok (AsmLine listing))
      (λ listing. AsmLine listing) (λ listing. refl)
  ended Dis known = one_plain count (plain_words done) None (λ file. Ok (DisLine file)) (λ file. DisLine file)
      (λ file. refl)
  ended Dbg known = two_plain count (plain_words done) _ _ (λ file script. DbgLine file script _ _ _ _)
      (λ file script. with_machine_said count (option_value Vl done) (option_value Budget done)
      (λ bits budget. DbgLine file script _ bits budget _))
  ended Load known = number_plain count (plain_words done) known
  ended Sweep known = one_plain count (plain_words done) _ _ (λ file. SweepLine file _ _ _)
      (λ file. with_budget_said count (option_value Budget done) (λ budget. SweepLine file _ budget _))
  ended Threads known = two_plain count (plain_words done) _ _ (λ file schedule. ThreadsLine file schedule _ _ _ _)
      (λ file schedule. with_machine_said count (option_value Vl done) (option_value Budget done)
      (λ bits budget. ThreadsLine file schedule _ bits budget _))

-- ---- all words

then_then : (r : Result Seen WordsFault) (next : Seen → Result Seen WordsFault) (last : Seen → Result Line WordsFault)
    → and_then (and_then r next) last ≡ and_then r (λ so_far. and_then (next so_far) last)
then_then (Ok so_far) next last = refl
then_then (Err fault) next last = refl

-- what the definitions say of words behind others
abbrev Whole : Command → ℕ → List WordAt → List WordAt → Result Line WordsFault
Whole command count done rest = unless_fault (first_refusal command done rest)
    (Said count (first_missing command (done ++ rest)) (accepted_line command count (done ++ rest)))

nothing_left : (command : Command) (before : Role) (done : List WordAt) (count : ℕ) → Stands before done 0
    → Known (usage_of command).number done
    → end_of command count (seen (usage_of command).number done before)
    ≡ Said count (first_missing command done) (accepted_line command count done)
nothing_left command (OptionWord None) done count stands known = absurd stands
nothing_left command (OptionWord (Some option)) done count stands known = absurd (let impossible = stands.2 in cc)
nothing_left command (ValueWord option) done count stands known = ended count done (ValueWord option) command
    known.first
nothing_left command PlainWord done count stands known = ended count done PlainWord command known.first
nothing_left command ArgumentWord done count stands known = ended count done ArgumentWord command known.first

step_by_step : (command : Command) (done : List WordAt) (w : WordAt) (rest : List WordAt) (count left : ℕ)
    (next : Seen → Result Line WordsFault) (answer : Result Line WordsFault) (why : Option WordsWhy)
    → (Stands w.role (done ++ w ∷ []) left → Known (usage_of command).number (done ++ w ∷ [])
    → next (seen (usage_of command).number (done ++ w ∷ []) w.role) ≡ Whole command count (done ++ w ∷ []) rest)
    → Step (usage_of command).number w.role (done ++ w ∷ []) w.place left next answer why
    → answer ≡ unless_fault (option_or (option_map (fault_at w.place) why)
    (first_refusal command (done ++ w ∷ []) rest))
    (Said count (first_missing command (done ++ w ∷ rest)) (accepted_line command count (done ++ w ∷ rest)))
step_by_step command done w rest count left next answer (Some why) later is = is
step_by_step command done w rest count left next answer None later is =
    is.0 ∙ later is.1 is.2
    ∙ ap (λ (ws : List WordAt). unless_fault (first_refusal command (done ++ w ∷ []) rest)
    (Said count (first_missing command ws) (accepted_line command count ws))) (append_assoc done (w ∷ []) rest)

same_from : (command : Command) (before : Role) (done : List WordAt) (place count : ℕ) (words : List (List ℕ))
    → place + length words ≡ count → Stands before done (length words) → Known (usage_of command).number done
    → after command count place words (seen (usage_of command).number done before)
    ≡ Whole command count done (words_from command before place words)
same_from command before done place count [] e stands known =
    nothing_left command before done count stands known
    ∙ ap (λ (ws : List WordAt). Said count (first_missing command ws) (accepted_line command count ws))
    (sym (append-nil done))
same_from command before done place count (word ∷ words) e stands known =
    let role = role_behind before command word in
    let w : WordAt = record { place = place; role = role; word = word } in
    then_then (read_word command (seen (usage_of command).number done before) place word)
    (λ so_far. read_words command so_far (place + 1) words) (end_of command count)
    ∙ step_by_step command done w (words_from command role (place + 1) words) count (length words)
    (after command count (place + 1) words) _ _
    (λ stood knew. same_from command role (done ++ w ∷ []) (place + 1) count words (omega arith) stood knew)
    (step command done place word known count words e before (length (word ∷ words)) stands)

none_seen : (number : Bool) → nothing_seen ≡ seen number [] PlainWord
none_seen false = refl
none_seen true = refl

none_known : (number : Bool) → Known number []
none_known false = record { first = tt; values = λ option. refl }
none_known true = record { first = tt; values = λ option. refl }

named : (name : List ℕ) (words : List (List ℕ)) (command : Option Command)
    → scanned_command (name ∷ words) command
    ≡ option_map_or (λ (c : Command). line_of_command c (length (name ∷ words)) (words_from c PlainWord 1 words))
    command (Err (fault_at 0 UnknownCommand))
named name words None = refl
named name words (Some command) =
    ap (λ (s : Seen). after command (length (name ∷ words)) 1 words s) (none_seen (usage_of command).number)
    ∙ same_from command PlainWord [] 1 (length (name ∷ words)) words (omega arith) refl
    (none_known (usage_of command).number)

-- for any words
pub same_line : (words : List (List ℕ)) → scanned_line words ≡ line_of_words words
same_line [] = refl
same_line (name ∷ words) = named name words (named_command name)

not_many : (n : ℕ) → n ≤ most_arguments → nat_lt most_arguments n ≡ false
not_many n few = grind (arith, nat_tests)

-- for words of which none is refused by itself: the line is what they say
pub accepted_words : (words : List (List ℕ)) → length words ≤ most_arguments → None ≡ first_too_long words → None
    ≡ first_with_zero words → scanned_line words ≡ line words
accepted_words words few short plain =
    let zeros : Option ℕ → Result Line WordsFault = λ o. unless_fault (option_map (λ place. fault_at place ZeroByte) o)
    (line_of_words words) in
    let long : Option ℕ → Result Line WordsFault = λ o. unless_fault
    (option_map (λ place. fault_at place WordsTooLong) o) (zeros (first_with_zero words)) in
    let many : Bool → Result Line WordsFault = λ b. unless_fault
    (cond b (Some (fault_at most_arguments TooManyWords)) None) (long (first_too_long words)) in
    same_line words ∙ ap zeros plain ∙ ap long short ∙ ap many (sym (not_many (length words) few))
