-- What a line promises, put together: refused lines, done ones, and the files that they name.
use Rattle.std.proofs.Common.{◌≡◌, ◌⊎◌, inl, inr, ℕ, true, false, List, [], get_or, Option, Some, None, Result, Ok, Err, IfErr, IfSome, refl, sym, ap, subst, ◌∙◌}
use Rattle.std.proofs.lemmas.Option.{IfSome_then}
use Rattle.io_gate.specs.Images.{MissesNamed}
use Rattle.io_gate.specs.Streams.{Rose}
use Rattle.io_gate.specs.Pieces.{PutsAll}
use Rattle.command_model.specs.CommandLine.{line}
use Rattle.command_model.specs.Refusals.{words_line}
use Rattle.command_model.specs.declared.command_line.Line.{Line}
use Rattle.command_model.specs.declared.command_line.Line.TheVariants.{Run, Asm, Dis, Dbg, Load, Sweep, Threads}
use Rattle.command_model.specs.declared.command_line.WordsFault.{WordsFault}
use Rattle.command_lines.specs.Outcome.{Outcome, Files, outcome_of_line, outcome_of_load, result_of, refusal}
use Rattle.asm_text.specs.Statements.{statements}
use Rattle.listing_model.specs.Image.{image_of}
use Rattle.command_model.specs.Listing.{listing}
use Rattle.command_lines.specs.declared.ending.Ending.{Ending}
use Rattle.command_lines.specs.declared.ending.Ending.TheVariants.{WordsRefused, FileFault, ReadFault, ErrorsFault}
use Rattle.commands.specs.Endings.{ended_by}
use Rattle.commands.specs.Programs.{outcome_over}
use Rattle.emu_system.specs.Gained.{Gains}
use Rattle.commands.specs.Promises.{NamesNoFile, is_failure, is_silent}
use Rattle.commands.specs.Meets.{now, MeetsLine}
use Rattle.commands.specs.Lines.{may_end, EndsMissing, RefusesLine}
use Rattle.commands.proofs.NamedFiles.{misses_named, names_missing, over, told_so}
use Rattle.emu_system.specs.GainedLaws.{put_first}
use Rattle.commands.proofs.Meetings.{line_meets}

-- ---- the line

-- a refused line names no file
pub refused_names_none : (words : List (List ℕ)) (told : Option Files) (fault : WordsFault) → Err fault ≡ line words → NamesNoFile (result_of words) told → ⊥
refused_names_none words told fault is n =
    let e : Some (refusal (WordsRefused fault) (words_line fault)) ≡ None = ap (λ (r : Result Line WordsFault). outcome_of_line words n.files [] r) is ∙ n.missing [] in cc

-- the ending of a refused line is not silent, and isn't a fault of the input
pub refused_puts : {T E : Type 0} (fault : WordsFault) (put : Result T E) (result : Ending) → result ≡ ended_by put (WordsRefused fault) → is_silent result ≡ true → ⊥
refused_puts fault (Ok done) result by silent = let e : false ≡ true = sym (ap is_silent by) ∙ silent in cc
refused_puts fault (Err failed) result by silent = let e : false ≡ true = sym (ap is_silent by) ∙ silent in cc

pub refused_reads_none : {T E : Type 0} (fault : WordsFault) (put : Result T E) (result : Ending) → result ≡ ended_by put (WordsRefused fault) → result ≡ ReadFault → ⊥
refused_reads_none fault (Ok done) result by e = cc
refused_reads_none fault (Err failed) result by e = cc

-- its line goes to the errors, or first bytes of it
line_gains : {T E : Type 0} (fault : WordsFault) (old new : Option (List ℕ)) (put : Result T E) (result : Ending) → result ≡ ended_by put (WordsRefused fault) → PutsAll old new (words_line fault) put
    → IfSome old (λ had. Gains (is_failure result) new had (words_line fault))
line_gains fault old new (Ok done) result by puts = subst (λ (x : Ending). IfSome old (λ had. Gains (is_failure x) new had (words_line fault))) (sym by) puts
line_gains fault old new (Err failed) result by puts =
    subst (λ (x : Ending). IfSome old (λ had. Gains (is_failure x) new had (words_line fault))) (sym by) (IfSome_then old puts (λ had p. put_first new had (words_line fault) p))

pub refused_gains : {T E : Type 0} (fault : WordsFault) (r : Result Line WordsFault) (old new : Option (List ℕ)) (put : Result T E) (result : Ending)
    → Err fault ≡ r → result ≡ ended_by put (WordsRefused fault) → PutsAll old new (words_line fault) put → IfErr r (λ f. IfSome old (λ had. Gains (is_failure result) new had (words_line f)))
refused_gains fault r old new put result is by puts =
    subst (λ (x : Result Line WordsFault). IfErr x (λ f. IfSome old (λ had. Gains (is_failure result) new had (words_line f)))) is (line_gains fault old new put result by puts)

-- ---- the file that an accepted line names

-- the line l is m, which does something with the bytes of the file that the word at a place names
module _ (words : List (List ℕ)) (told : Option Files) (l m : Line) (place : ℕ) (next : Files → List ℕ → List ℕ → Outcome) (result : Ending)
    (is : l ≡ m) (does : outcome_over words m ≡ over (λ files bytes i. Some (next files bytes i)) words place) where
  outcome_is : outcome_over words l ≡ over (λ files bytes i. Some (next files bytes i)) words place
  outcome_is = ap (outcome_over words) is ∙ does

  pub cause_of_line : (a b : ℕ) → (result ≡ FileFault → Rose a b ⊎ MissesNamed told (get_or words place [])) → result ≡ FileFault → Rose a b ⊎ NamesNoFile (outcome_over words l) told
  cause_of_line a b cause fault = elim (cause fault) [
    | inl rose ↦ inl rose
    | inr missing ↦ inr (subst (λ (f : Files → List ℕ → Option Outcome). NamesNoFile f told) (sym outcome_is) (names_missing (λ files bytes i. Some (next files bytes i)) told words place missing))
  ]

  pub missing_of_line : (MissesNamed told (get_or words place []) → result ≡ FileFault) → (result ≡ FileFault → EndsMissing (Ok m) result) → NamesNoFile (outcome_over words l) told → EndsMissing (Ok l) result
  missing_of_line missing ends names =
      subst (λ (x : Line). EndsMissing (Ok x) result) (sym is)
      (ends (missing (misses_named next told words place (subst (λ (f : Files → List ℕ → Option Outcome). NamesNoFile f told) outcome_is names))))

-- a line that names no file has an outcome
pub names_none : (words : List (List ℕ)) (told : Option Files) (l : Line) (number : ℕ) → l ≡ Load number → NamesNoFile (outcome_over words l) told → ⊥
names_none words told l number is n =
    let e : Some (outcome_of_load (image_of statements (listing number))) ≡ None = sym (ap (λ (x : Line). outcome_over words x n.files []) is) ∙ n.missing [] in cc

-- ---- the outcome of a line

module _ (words : List (List ℕ)) (named : Option Files) (i o e : Option (List ℕ)) where
  -- a refused line
  pub refused_line : {T E : Type 0} (fault : WordsFault) (e2 : Option (List ℕ)) (put : Result T E) (result : Ending) → Err fault ≡ line words → result ≡ ended_by put (WordsRefused fault) → PutsAll e e2 (words_line fault) put
      → IfSome named (λ files. MeetsLine words files (line words) (result_of words files) result (now i o e) (now i o e2))
  refused_line fault e2 put result is by puts = told_so named _ (λ files.
      subst (λ (x : Ending). MeetsLine words files (line words) (result_of words files) x (now i o e) (now i o e2)) (sym by)
      (subst (λ (r : Result Line WordsFault). MeetsLine words files r (λ input. outcome_of_line words files input r) (ended_by put (WordsRefused fault)) (now i o e) (now i o e2)) is
      (line_meets (WordsRefused fault) (words_line fault) i o e e2 put refl puts)))

-- no line but a refused one ends with a refusal of its words
may_not_refuse : (l : Line) (fault : WordsFault) → may_end l (WordsRefused fault) ≡ false
may_not_refuse (Run file args bits budget pages) fault = refl
may_not_refuse (Asm listing) fault = refl
may_not_refuse (Dis file) fault = refl
may_not_refuse (Dbg file script args bits budget pages) fault = refl
may_not_refuse (Load number) fault = refl
may_not_refuse (Sweep file args budget pages) fault = refl
may_not_refuse (Threads file schedule args bits budget pages) fault = refl

no_refusal_of : (l : Line) (result : Ending) (fault : WordsFault) → may_end l result ≡ true → result ≡ WordsRefused fault → ⊥
no_refusal_of l result fault kind e = let t : false ≡ true = sym (may_not_refuse l fault) ∙ sym (ap (may_end l) e) ∙ kind in cc

pub done_refuses : (l : Line) (r : Result Line WordsFault) (result : Ending) → Ok l ≡ r → may_end l result ≡ true → RefusesLine r result
done_refuses l r result is kind = subst (λ (x : Result Line WordsFault). RefusesLine x result) is (λ fault e. no_refusal_of l result fault kind e)

-- a refused line ends with its refusal, or with a fault of the errors
put_or_fault : {T E : Type 0} (put : Result T E) (ending : Ending) → (ended_by put ending ≡ ending) ⊎ (ended_by put ending ≡ ErrorsFault)
put_or_fault (Ok done) ending = inl refl
put_or_fault (Err failed) ending = inr refl

pub line_refuses : {T E : Type 0} (fault : WordsFault) (r : Result Line WordsFault) (put : Result T E) (result : Ending) → Err fault ≡ r → result ≡ ended_by put (WordsRefused fault) → RefusesLine r result
line_refuses fault r put result is by =
    subst (λ (x : Result Line WordsFault). RefusesLine x result) is
    (subst (λ (x : Ending). (x ≡ WordsRefused fault) ⊎ (x ≡ ErrorsFault)) (sym by) (put_or_fault put (WordsRefused fault)))
