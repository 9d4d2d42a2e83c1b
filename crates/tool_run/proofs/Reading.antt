-- Files as a run reads them: with their bytes, and without them.
use Rattle.std.proofs.Common.{◌≡◌, ℕ, Bool, true, false, cond, List, [], length, get_or, Option, Some}
use Rattle.std.proofs.Common.{None, Result, Ok, Err, IfSome, nat_le, nat_lt, refl, sym, ap, subst, ◌∙◌, arith}
use Rattle.std.specs.FinMap.{get}
use Rattle.std.specs.Global.{Vec}
use Rattle.std.proofs.lemmas.Option.{IfSome_then}
use Rattle.std.proofs.lemmas.Bool.Decides.{nat_tests}
use Rattle.io_gate.specs.Images.{whole_file, ReadsNamed}
use Rattle.io_gate.specs.declared.images.ImagesError.{ImagesError}
use Rattle.io_gate.specs.declared.images.ImagesError.TheVariants as images
use Rattle.command_lines.specs.Outcome.{Outcome, Files, file_at, file_limit, refusal}
use Rattle.command_lines.specs.declared.ending.Ending.{Ending}
use Rattle.command_lines.specs.declared.ending.Ending.TheVariants.{TooLong, FileFault, OutOfMemory}
use Rattle.commands.specs.Meets.{Now, now, Meets}
use Rattle.commands.proofs.Meetings.{nothing_meets}
use Rattle.commands.proofs.NamedFiles.{found_so, same_outcome, told_so}
use Rattle.tool_run.specs.Still.{EndsUnread}
use Rattle.tool_run.specs.Unreported.{with_read}
use Rattle.tool_run.proofs.Runs.{refused_meets}

-- ---- outcomes over a file

long_so : (b : Bool) (bytes : List ℕ) → cond b (Ok bytes) (Err images.TooLong) ≡ Err images.TooLong → b ≡ false
long_so true bytes e = cc
long_so false bytes e = refl

fits : (n limit : ℕ) → nat_le n limit ≡ true → nat_lt limit n ≡ false
fits n limit h = grind (arith, nat_tests)

passes : (n limit : ℕ) → nat_le n limit ≡ false → nat_lt limit n ≡ true
passes n limit h = grind (arith, nat_tests)

abbrev too_long : Outcome
too_long = refusal (TooLong file_limit) []

pub with_found : (o : Option (List ℕ)) (bytes : List ℕ) (next : List ℕ → Option Outcome) → whole_file o file_limit ≡ Ok
    bytes → with_read o next ≡ next bytes
with_found None bytes next e = cc
with_found (Some found) bytes next e =
    let p = found_so (nat_le (length found) file_limit) found bytes e in
    ap (λ b. cond b (Some too_long) (next found)) (fits (length found) file_limit p.1) ∙ ap next p.0

with_long : (o : Option (List ℕ)) (next : List ℕ → Option Outcome) → whole_file o file_limit ≡ Err images.TooLong →
    with_read o next ≡ Some too_long
with_long None next e = cc
with_long (Some found) next e = ap (λ b. cond b (Some too_long) (next found)) (passes (length found) file_limit
    (long_so (nat_le (length found) file_limit) found e))

-- ---- what reading gives

-- an answer of the files
module _ (told : Option Files) (name : List ℕ) where
  pub reads_nothing : (ending : Ending) → ((file : Option (List ℕ)) → EndsUnread file ending) → IfSome told (λ files.
      EndsUnread (get files name) ending)
  reads_nothing ending unread = told_so told _ (λ files. unread (get files name))

  pub reads_long : (result : Result (Vec ℕ) ImagesError) (error : ImagesError) → result ≡ Err error → error ≡
      images.TooLong → ReadsNamed told name file_limit result
      → IfSome told (λ files. EndsUnread (get files name) (TooLong file_limit))
  reads_long result error is why reads =
      IfSome_then told (subst (λ (e : ImagesError). ReadsNamed told name file_limit (Err e)) why (subst (λ (r : Result
      (Vec ℕ) ImagesError). ReadsNamed told name file_limit r) is reads)) (λ files long. (refl, long))

-- ---- a command behind the reading of a file

-- what comes of the bytes of the file that the word at a place names
abbrev pub over : (Files → List ℕ → List ℕ → Option Outcome) → List (List ℕ) → ℕ → Files → List ℕ → Option Outcome
over next words place files i = with_read (file_at words files place) (λ bytes. next files bytes i)

-- the file was read
pub found_file : (next : Files → List ℕ → List ℕ → Option Outcome) (told : Option Files) (words : List (List ℕ)) (place
    : ℕ) (name bytes items : List ℕ) (old new : Now) (result : Ending)
    → name ≡ get_or words place [] → bytes ≡ items → IfSome told (λ files. whole_file (get files name) file_limit ≡ Ok
    items)
    → IfSome told (λ files. Meets (next files bytes) result old new) → IfSome told (λ files. Meets (over next words
    place files) result old new)
found_file next None words place name bytes items old new result named are found meets = tt
found_file next (Some files) words place name bytes items old new result named are found meets =
    let whole : whole_file (get files (get_or words place [])) file_limit ≡ Ok bytes = ap (λ (n : List ℕ). whole_file
    (get files n) file_limit) (sym named) ∙ found ∙ ap (λ (xs : List ℕ). Ok xs) (sym are) in
    same_outcome (next files bytes) (over next words place files) result old new (λ input. sym (with_found (file_at
    words files place) bytes (λ b. next files b input) whole)) meets

unread_by : (file : Option (List ℕ)) (next : List ℕ → List ℕ → Option Outcome) (ending : Ending) (i o e : Option (List
    ℕ)) → EndsUnread file ending
    → Meets (λ input. with_read file (λ bytes. next bytes input)) ending (now i o e) (now i o e)
unread_by file next FileFault i o e unread = nothing_meets (λ input. with_read file (λ bytes. next bytes input))
    FileFault i o e refl
unread_by file next OutOfMemory i o e unread = nothing_meets (λ input. with_read file (λ bytes. next bytes input))
    OutOfMemory i o e refl
unread_by file next ending i o e unread =
    subst (λ (x : Ending). Meets (λ input. with_read file (λ bytes. next bytes input)) x (now i o e) (now i o e)) (sym
    unread.0)
    (same_outcome (λ _. Some too_long) (λ input. with_read file (λ bytes. next bytes input)) (TooLong file_limit) (now
    i o e) (now i o e) (λ input. sym (with_long file (λ bytes. next bytes input) unread.1))
    (refused_meets (TooLong file_limit) i o e refl))

-- it wasn't
pub unread_file : (next : Files → List ℕ → List ℕ → Option Outcome) (told : Option Files) (words : List (List ℕ)) (place
    : ℕ) (name : List ℕ) (ending result : Ending) (i o e : Option (List ℕ))
    → result ≡ ending → name ≡ get_or words place [] → IfSome told (λ files. EndsUnread (get files name) ending)
    → IfSome told (λ files. Meets (over next words place files) result (now i o e) (now i o e))
unread_file next None words place name ending result i o e by named unread = tt
unread_file next (Some files) words place name ending result i o e by named unread =
    subst (λ (x : Ending). Meets (over next words place files) x (now i o e) (now i o e)) (sym by)
    (subst (λ (n : List ℕ). Meets (λ input. with_read (get files n) (λ bytes. next files bytes input)) ending (now i o
    e) (now i o e)) named (unread_by (get files name) (next files) ending i o e unread))
