-- Files as commands read them: with their bytes, without them, and files that aren't there.
use Rattle.std.proofs.Common.{◌≡◌, ◌⊎◌, inl, inr, ℕ, Bool, true, false, cond, List, [], length, get_or, Option, Some, None, Result, Ok, Err, IfSome, nat_le, nat_lt, refl, sym, ap, subst, ◌∙◌, arith}
use Rattle.std.specs.FinMap.{get}
use Rattle.std.specs.Global.{Vec}
use Rattle.std.proofs.lemmas.Option.{IfSome_then}
use Rattle.std.proofs.lemmas.Bool.Decides.{nat_tests}
use Rattle.io_gate.specs.Images.{whole_file, MissesNamed, ReadsNamed}
use Rattle.io_gate.specs.Pieces.{PutsAll}
use Rattle.io_gate.specs.declared.images.ImagesError.{ImagesError}
use Rattle.io_gate.specs.declared.images.ImagesError.TheVariants as images
use Rattle.command_model.specs.Refusals.{too_long_line}
use Rattle.command_lines.specs.Outcome.{Outcome, Files, file_at, file_limit, refusal, with_file}
use Rattle.command_lines.specs.declared.ending.Ending.{Ending}
use Rattle.command_lines.specs.declared.ending.Ending.TheVariants.{TooLong, FileFault, ErrorsFault, OutOfMemory}
use Rattle.commands.specs.Endings.{ended_by}
use Rattle.emu_system.specs.Gained.{Gains}
use Rattle.commands.specs.Promises.{is_failure, output_of, errors_of, taken_of, CountsFor, EndsAs, Loses, NamesNoFile, Settles}
use Rattle.commands.specs.Meets.{Now, now, Meets, MeetsBy}
use Rattle.commands.specs.Reading.{GivesFile, IsTooLong, EndsUnread}
use Rattle.commands.proofs.Meetings.{nothing_meets, line_meets}

-- ---- outcomes over a file

pub found_so : (b : Bool) (bytes found : List ℕ) → cond b (Ok bytes) (Err images.TooLong) ≡ Ok found → (bytes ≡ found) × (b ≡ true)
found_so true bytes found e = (cc, refl)
found_so false bytes found e = cc

too_long_so : (b : Bool) (bytes : List ℕ) → cond b (Ok bytes) (Err images.TooLong) ≡ Err images.TooLong → b ≡ false
too_long_so true bytes e = cc
too_long_so false bytes e = refl

fits : (n limit : ℕ) → nat_le n limit ≡ true → nat_lt limit n ≡ false
fits n limit h = grind (arith, nat_tests)

passes : (n limit : ℕ) → nat_le n limit ≡ false → nat_lt limit n ≡ true
passes n limit h = grind (arith, nat_tests)

abbrev pub too_long : Outcome
too_long = refusal (TooLong file_limit) (too_long_line file_limit)

-- what comes of the bytes of a file that isn't too long
pub with_found : (o : Option (List ℕ)) (bytes : List ℕ) (next : List ℕ → Option Outcome) → whole_file o file_limit ≡ Ok bytes → with_file o next ≡ next bytes
with_found None bytes next e = cc
with_found (Some found) bytes next e =
    let p = found_so (nat_le (length found) file_limit) found bytes e in
    ap (λ b. cond b (Some too_long) (next found)) (fits (length found) file_limit p.1) ∙ ap next p.0

-- a file that is too long
pub with_long : (o : Option (List ℕ)) (next : List ℕ → Option Outcome) → whole_file o file_limit ≡ Err images.TooLong → with_file o next ≡ Some too_long
with_long None next e = cc
with_long (Some found) next e = ap (λ b. cond b (Some too_long) (next found)) (passes (length found) file_limit (too_long_so (nat_le (length found) file_limit) found e))

some_either : (b : Bool) (x y : Outcome) → cond b (Some x) (Some y) ≡ None → ⊥
some_either true x y e = cc
some_either false x y e = cc

-- only a file that isn't there leaves no outcome
none_of : (o : Option (List ℕ)) (next : List ℕ → Outcome) → with_file o (λ bytes. Some (next bytes)) ≡ None → o ≡ None
none_of None next e = refl
none_of (Some found) next e = absurd (some_either (nat_lt file_limit (length found)) too_long (next found) e)

-- outcomes that are equal for each input
pub same_outcome : {settles : Option Outcome → Ending → Type 0} (f g : List ℕ → Option Outcome) (result : Ending) (old new : Now) → ((input : List ℕ) → f input ≡ g input) → MeetsBy settles f result old new → MeetsBy settles g result old new
same_outcome {settles} f g result old new same m = record {
  ends = IfSome_then old.input m.ends (λ bytes h fine. subst (λ (x : Option Outcome). EndsAs x result) (same bytes) (h fine));
  settled = λ fine bytes. subst (λ (x : Option Outcome). settles x result) (same bytes) (m.settled fine bytes);
  output = λ bytes. subst (λ (x : Option Outcome). CountsFor old.input x bytes → IfSome old.output (λ had. Gains (is_failure result) new.output had (output_of x))) (same bytes) (m.output bytes);
  errors = λ bytes. subst (λ (x : Option Outcome). CountsFor old.input x bytes → IfSome old.errors (λ had. Gains (is_failure result) new.errors had (errors_of x))) (same bytes) (m.errors bytes);
  input = IfSome_then old.input m.input (λ bytes h. subst (λ (x : Option Outcome). Loses (is_failure result) new.input bytes (taken_of x)) (same bytes) h);
}

-- ---- what reading a file gives

pub told_so : (told : Option Files) (P : Files → Type 0) → ((files : Files) → P files) → IfSome told P
told_so None P p = tt
told_so (Some files) P p = p files

-- nothing was put
pub gives_nothing : (told : Option Files) (name : List ℕ) (ending : Ending) (errors : Option (List ℕ)) → is_failure ending ≡ true → IfSome told (λ files. GivesFile (get files name) (Err ending) errors errors)
gives_nothing told name ending errors failed =
    told_so told _ (λ files next input output. nothing_meets (λ i. with_file (get files name) (λ bytes. next bytes i)) ending input output errors failed)

-- the line of a file that is too long
pub gives_line : {T E : Type 0} (told : Option Files) (name : List ℕ) (ending : Ending) (old new : Option (List ℕ)) (put : Result T E)
    → IsTooLong told name → ending ≡ ended_by put (TooLong file_limit) → PutsAll old new (too_long_line file_limit) put → IfSome told (λ files. GivesFile (get files name) (Err ending) old new)
gives_line None name ending old new put long by puts = tt
gives_line (Some files) name ending old new put long by puts = λ next input output.
    subst (λ (x : Ending). Meets (λ i. with_file (get files name) (λ bytes. next bytes i)) x (now input output old) (now input output new)) (sym by)
    (same_outcome (λ _. Some too_long) (λ i. with_file (get files name) (λ bytes. next bytes i)) (ended_by put (TooLong file_limit)) (now input output old) (now input output new)
    (λ i. sym (with_long (get files name) (λ bytes. next bytes i) long))
    (line_meets (TooLong file_limit) (too_long_line file_limit) input output old new put refl puts))

pub ends_long : {T E : Type 0} (told : Option Files) (name : List ℕ) (ending : Ending) (put : Result T E) → IsTooLong told name → ending ≡ ended_by put (TooLong file_limit) → EndsUnread told name ending
ends_long told name ending (Ok done) long by = subst (λ (x : Ending). EndsUnread told name x) (sym by) long
ends_long told name ending (Err failed) long by = subst (λ (x : Ending). EndsUnread told name x) (sym by) long

-- what was read of the file of a name
module _ (told : Option Files) (name : List ℕ) where
  pub told_too_long : (result : Result (Vec ℕ) ImagesError) (error : ImagesError) → result ≡ Err error → error ≡ images.TooLong → ReadsNamed told name file_limit result → IsTooLong told name
  told_too_long result error is why reads =
      subst (λ (e : ImagesError). ReadsNamed told name file_limit (Err e)) why (subst (λ (r : Result (Vec ℕ) ImagesError). ReadsNamed told name file_limit r) is reads)

  -- memory is wanting for no file that isn't there
  pub told_wanting : (result : Result (Vec ℕ) ImagesError) (error : ImagesError) → result ≡ Err error → error ≡ images.OutOfMemory → ReadsNamed told name file_limit result
      → IfSome told (λ files. whole_file (get files name) file_limit ≡ Err images.Missing → ⊥)
  told_wanting result error is why reads =
      subst (λ (e : ImagesError). ReadsNamed told name file_limit (Err e)) why (subst (λ (r : Result (Vec ℕ) ImagesError). ReadsNamed told name file_limit r) is reads)

-- a file that isn't missing is there
pub is_there : (told : Option Files) (name : List ℕ) → IfSome told (λ files. whole_file (get files name) file_limit ≡ Err images.Missing → ⊥) → MissesNamed told name → ⊥
is_there None name found missing = missing
is_there (Some files) name found missing = found (ap (λ (o : Option (List ℕ)). whole_file o file_limit) missing)

pub found_is_there : (told : Option Files) (name : List ℕ) (r : Result (List ℕ) ImagesError) → (r ≡ Err images.Missing → ⊥) → IfSome told (λ files. whole_file (get files name) file_limit ≡ r) → MissesNamed told name → ⊥
found_is_there None name r other is missing = missing
found_is_there (Some files) name r other is missing = other (sym is ∙ ap (λ (o : Option (List ℕ)). whole_file o file_limit) missing)

-- ---- a command behind the reading of a file

-- what comes of the bytes of the file that the word at a place names
abbrev pub over : (Files → List ℕ → List ℕ → Option Outcome) → List (List ℕ) → ℕ → Files → List ℕ → Option Outcome
over next words place files i = with_file (file_at words files place) (λ bytes. next files bytes i)

-- the file was read, which put nothing
pub found_file_by : (settles : Files → Option Outcome → Ending → Type 0) (next : Files → List ℕ → List ℕ → Option Outcome) (told : Option Files) (words : List (List ℕ)) (place : ℕ) (name bytes items : List ℕ) (i o e still : Option (List ℕ)) (new : Now) (result : Ending)
    → name ≡ get_or words place [] → bytes ≡ items → still ≡ e → IfSome told (λ files. whole_file (get files name) file_limit ≡ Ok items)
    → IfSome told (λ files. MeetsBy (settles files) (next files bytes) result (now i o still) new) → IfSome told (λ files. MeetsBy (settles files) (over next words place files) result (now i o e) new)
found_file_by settles next None words place name bytes items i o e still new result named are kept found meets = tt
found_file_by settles next (Some files) words place name bytes items i o e still new result named are kept found meets =
    let whole : whole_file (get files (get_or words place [])) file_limit ≡ Ok bytes = ap (λ (n : List ℕ). whole_file (get files n) file_limit) (sym named) ∙ found ∙ ap (λ (xs : List ℕ). Ok xs) (sym are) in
    same_outcome (next files bytes) (over next words place files) result (now i o e) new (λ input. sym (with_found (file_at words files place) bytes (λ b. next files b input) whole))
    (subst (λ (held : Option (List ℕ)). MeetsBy (settles files) (next files bytes) result (now i o held) new) kept meets)

pub found_file : (next : Files → List ℕ → List ℕ → Option Outcome) (told : Option Files) (words : List (List ℕ)) (place : ℕ) (name bytes items : List ℕ) (i o e still : Option (List ℕ)) (new : Now) (result : Ending)
    → name ≡ get_or words place [] → bytes ≡ items → still ≡ e → IfSome told (λ files. whole_file (get files name) file_limit ≡ Ok items)
    → IfSome told (λ files. Meets (next files bytes) result (now i o still) new) → IfSome told (λ files. Meets (over next words place files) result (now i o e) new)
found_file next told words place name bytes items i o e still new result named are kept found meets = found_file_by (λ _. Settles) next told words place name bytes items i o e still new result named are kept found meets

-- it wasn't
pub unread_file : (next : Files → List ℕ → List ℕ → Option Outcome) (told : Option Files) (words : List (List ℕ)) (place : ℕ) (name : List ℕ) (ending : Ending) (input output old new : Option (List ℕ))
    → name ≡ get_or words place [] → IfSome told (λ files. GivesFile (get files name) (Err ending) old new)
    → IfSome told (λ files. Meets (over next words place files) ending (now input output old) (now input output new))
unread_file next None words place name ending input output old new named gives = tt
unread_file next (Some files) words place name ending input output old new named gives =
    subst (λ (n : List ℕ). Meets (λ i. with_file (get files n) (λ bytes. next files bytes i)) ending (now input output old) (now input output new)) named (gives (next files) input output)

-- ---- files that aren't there

-- where it isn't there, there is no outcome
pub names_missing : (next : Files → List ℕ → List ℕ → Option Outcome) (told : Option Files) (words : List (List ℕ)) (place : ℕ) → MissesNamed told (get_or words place []) → NamesNoFile (over next words place) told
names_missing next None words place missing = absurd missing
names_missing next (Some files) words place missing = record { files = files; is = refl; missing = λ i. ap (λ (o : Option (List ℕ)). with_file o (λ bytes. next files bytes i)) missing }

-- and where there is none, it isn't there
pub misses_named : (next : Files → List ℕ → List ℕ → Outcome) (told : Option Files) (words : List (List ℕ)) (place : ℕ) → NamesNoFile (over (λ files bytes i. Some (next files bytes i)) words place) told → MissesNamed told (get_or words place [])
misses_named next None words place n = let e : None ≡ Some n.files = n.is in cc
misses_named next (Some files) words place n =
    let same : files ≡ n.files = (let e : Some files ≡ Some n.files = n.is in cc) in
    ap (λ (x : Files). get x (get_or words place [])) same ∙ none_of (get n.files (get_or words place [])) (λ bytes. next n.files bytes []) (n.missing [])

-- ---- a second file behind the first

told_same : (told : Option Files) (files other : Files) → told ≡ Some files → told ≡ Some other → files ≡ other
told_same told files other a b = cc

-- a file that is too long has an outcome
long_is_named : (next : Files → List ℕ → List ℕ → Option Outcome) (told : Option Files) (words : List (List ℕ)) (place : ℕ) (name : List ℕ) → name ≡ get_or words place []
    → IsTooLong told name → NamesNoFile (over next words place) told → ⊥
long_is_named next None words place name named long n = let e : None ≡ Some n.files = n.is in cc
long_is_named next (Some files) words place name named long n =
    let same : files ≡ n.files = told_same (Some files) files n.files refl n.is in
    let whole : whole_file (file_at words n.files place) file_limit ≡ Err images.TooLong =
    ap (λ (x : Files). whole_file (get x (get_or words place [])) file_limit) (sym same) ∙ ap (λ (x : List ℕ). whole_file (get files x) file_limit) (sym named) ∙ long in
    let e : Some too_long ≡ None = sym (with_long (file_at words n.files place) (λ bytes. next n.files bytes []) whole) ∙ n.missing [] in
    cc

-- a command that didn't get the bytes of the first file, where one isn't there
pub unread_missing : (next : Files → List ℕ → List ℕ → Option Outcome) (told : Option Files) (words : List (List ℕ)) (place : ℕ) (name : List ℕ) (ending : Ending) → name ≡ get_or words place []
    → EndsUnread told name ending → NamesNoFile (over next words place) told → (ending ≡ FileFault) ⊎ (ending ≡ OutOfMemory)
unread_missing next told words place name FileFault named unread n = inl refl
unread_missing next told words place name OutOfMemory named unread n = inr refl
unread_missing next told words place name (TooLong limit) named unread n = absurd (long_is_named next told words place name named unread n)
unread_missing next told words place name ErrorsFault named unread n = absurd (long_is_named next told words place name named unread n)
unread_missing next told words place name ending named unread n = absurd unread

-- the outcome over two files
abbrev pub over_two : (List (List ℕ) → Files → List ℕ → List ℕ → List ℕ → Outcome) → List (List ℕ) → ℕ → Files → List ℕ → List ℕ → Option Outcome
over_two next words second files bytes i = with_file (file_at words files second) (λ text. Some (next words files bytes text i))

module _ (next : List (List ℕ) → Files → List ℕ → List ℕ → List ℕ → Outcome) (words : List (List ℕ)) (first second : ℕ) where
  -- the first is there, and the second isn't
  pub second_missing : (told : Option Files) (name items : List ℕ) → name ≡ get_or words first [] → IfSome told (λ files. whole_file (get files name) file_limit ≡ Ok items)
      → MissesNamed told (get_or words second []) → NamesNoFile (over (over_two next words second) words first) told
  second_missing None name items named found missing = absurd missing
  second_missing (Some files) name items named found missing =
      let whole : whole_file (file_at words files first) file_limit ≡ Ok items = ap (λ (x : List ℕ). whole_file (get files x) file_limit) (sym named) ∙ found in
      record {
        files = files;
        is = refl;
        missing = λ i. with_found (file_at words files first) items (λ bytes. over_two next words second files bytes i) whole ∙ ap (λ (o : Option (List ℕ)). with_file o (λ text. Some (next words files items text i))) missing;
      }

  -- where the first is there, it is the second that isn't
  pub second_misses : (told : Option Files) (name items : List ℕ) → name ≡ get_or words first [] → IfSome told (λ files. whole_file (get files name) file_limit ≡ Ok items)
      → NamesNoFile (over (over_two next words second) words first) told → MissesNamed told (get_or words second [])
  second_misses None name items named found n = let e : None ≡ Some n.files = n.is in cc
  second_misses (Some files) name items named found n =
      let same : files ≡ n.files = told_same (Some files) files n.files refl n.is in
      let whole : whole_file (file_at words n.files first) file_limit ≡ Ok items =
      ap (λ (x : Files). whole_file (get x (get_or words first [])) file_limit) (sym same) ∙ ap (λ (x : List ℕ). whole_file (get files x) file_limit) (sym named) ∙ found in
      ap (λ (x : Files). get x (get_or words second [])) same
      ∙ none_of (file_at words n.files second) (λ text. next words n.files items text []) (sym (with_found (file_at words n.files first) items (λ bytes. over_two next words second n.files bytes []) whole) ∙ n.missing [])
