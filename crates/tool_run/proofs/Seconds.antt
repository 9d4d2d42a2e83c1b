-- A program and its second file: that one isn't there, and the stop of a run by its line.
use Rattle.std.proofs.Common.{◌≡◌, ◌≤◌, ◌⊎◌, inl, inr, ℕ, List, [], get_or, Option, Some, None, Ok, IfSome}
use Rattle.std.proofs.Common.{MatchOption, sym, subst}
use Rattle.std.proofs.lemmas.Option.{IfSome_then}
use Rattle.std.specs.FinMap.{get}
use Rattle.io_gate.specs.Images.{whole_file, MissesNamed}
use Rattle.io_gate.specs.Streams.{Rose}
use Rattle.command_lines.specs.Outcome.{Outcome, Files, file_at, file_limit, outcome_of_image, outcome_of_threads}
use Rattle.command_lines.specs.declared.ending.Ending.{Ending}
use Rattle.commands.specs.Programs.{arguments_of, outcome_over}
use Rattle.commands.specs.Promises.{NamesNoFile}
use Rattle.commands.specs.declared.program.Program.{Program}
use Rattle.commands.specs.Meets.{Now, Meets}
use Rattle.commands.proofs.NamedFiles.{names_missing, over_two, second_missing, told_so}
use Rattle.emu_system.specs.Image.{elf}
use Rattle.tool_run.specs.Seconds.{of_image, of_second, program_line, MissesSecond, StopsBytes, StopsTexts}
use Rattle.tool_run.specs.Stops.{HasStopped, StopsLine}
use Rattle.tool_run.specs.Tells.{SeenStop}
use Rattle.tool_run.proofs.Causes.{rose_more}
use Rattle.tool_run.proofs.Reading.{found_file, over}
use Rattle.tool_run.proofs.Stopping.{stopped_file, stopped_line}

-- the stop of a program, by its line
pub stopped_lines : (P : SeenStop → Type 0) (words : List (List ℕ)) (p : Program) (second : Option ℕ) (named : Option
    Files) (o : Option (List ℕ)) (ending : Ending)
    → IfSome named (λ files. IfSome o (λ i. HasStopped ending → MatchOption (file_at words files p.file) (Unit {0}) (λ
    bytes. StopsTexts P second bytes words p files i)))
    → IfSome named (λ files. IfSome o (λ i. HasStopped ending → StopsLine P words files i (Ok (program_line p second))))
stopped_lines P words p second named o ending stopped = IfSome_then named stopped (λ files h. IfSome_then o h (λ i k
    stop. stopped_line P words p second files i (k stop)))

-- ---- by whether there is a second file

module _ (words : List (List ℕ)) (p : Program) (bytes : List ℕ) (told : Option Files) where
  -- what comes of the bytes of the second file
  abbrev pub next : Option ℕ → Files → List ℕ → List ℕ → Option Outcome
  next second files text i = of_image second text bytes words p (elf bytes p.pages) i

  pub met_alone : (second : Option ℕ) (result : Ending) (old new : Now) → second ≡ None
      → Meets (of_image None [] bytes words p (elf bytes p.pages)) result old new
      → IfSome told (λ files. Meets (of_second second bytes words p files) result old new)
  met_alone second result old new is meets = told_so told _ (λ files. subst (λ (s : Option ℕ). Meets (of_second s bytes
      words p files) result old new) (sym is) meets)

  pub met_second : (second : Option ℕ) (place : ℕ) (result : Ending) (old new : Now) → second ≡ Some place
      → IfSome told (λ files. Meets (over (next second) words place files) result old new)
      → IfSome told (λ files. Meets (of_second second bytes words p files) result old new)
  met_second second place result old new is = subst (λ (s : Option ℕ). IfSome told (λ files. Meets (over (next s) words
      place files) result old new) → IfSome told (λ files. Meets (of_second s bytes words p files) result old new))
      (sym is) (λ meets. meets)

  pub stopped_alone : (P : SeenStop → Type 0) (second : Option ℕ) (o : Option (List ℕ)) (ending : Ending) → second ≡
      None → IfSome o (λ i. HasStopped ending → StopsBytes P None [] bytes words p i (elf bytes p.pages))
      → IfSome told (λ files. IfSome o (λ i. HasStopped ending → StopsTexts P second bytes words p files i))
  stopped_alone P second o ending is stopped = told_so told _ (λ files. subst (λ (s : Option ℕ). IfSome o (λ i.
      HasStopped ending → StopsTexts P s bytes words p files i)) (sym is) stopped)

  -- the second file was read
  module _ (second : Option ℕ) (place : ℕ) (name read items : List ℕ) (is : second ≡ Some place) (named : name ≡ get_or
      words place []) (are : read ≡ items) (found : IfSome told (λ files. whole_file (get files name) file_limit ≡ Ok
      items)) where
    pub met_read : (result : Ending) (old new : Now) → Meets (of_image (Some place) read bytes words p (elf bytes
        p.pages)) result old new → IfSome told (λ files. Meets (of_second second bytes words p files) result old new)
    met_read result old new meets = subst (λ (s : Option ℕ). IfSome told (λ files. Meets (of_second s bytes words p
        files) result old new)) (sym is)
        (found_file (next (Some place)) told words place name read items old new result named are found (told_so told (λ
        files. Meets (next (Some place) files read) result old new) (λ files. meets)))

    pub stopped_read : (P : SeenStop → Type 0) (o : Option (List ℕ)) (ending : Ending)
        → IfSome o (λ i. HasStopped ending → StopsBytes P (Some place) read bytes words p i (elf bytes p.pages))
        → IfSome told (λ files. IfSome o (λ i. HasStopped ending → StopsTexts P second bytes words p files i))
    stopped_read P o ending stopped =
        let Q : Files → List ℕ → List ℕ → Type 0 = λ files i text. StopsBytes P (Some place) text bytes words p i (elf
        bytes p.pages) in
        subst (λ (s : Option ℕ). IfSome told (λ files. IfSome o (λ i. HasStopped ending → StopsTexts P s bytes words p
        files i))) (sym is)
        (stopped_file words place told name read items o Q ending named are found (told_so told (λ files. IfSome o (λ i.
        HasStopped ending → Q files i read)) (λ files. stopped)))

-- the second file isn't there
pub missed_second : (words : List (List ℕ)) (told : Option Files) (second : Option ℕ) (place : ℕ) (name : List ℕ) (a b :
    ℕ) → second ≡ Some place → name ≡ get_or words place []
    → Rose a b ⊎ MissesNamed told name → Rose a b ⊎ MissesSecond told words second
missed_second words told second place name a b is named cause = elim cause [
  | inl rose ↦ inl rose
  | inr missing ↦ inr (subst (λ (s : Option ℕ). MissesSecond told words s) (sym is) (subst (λ (n : List ℕ). MissesNamed
      told n) named missing))
]

-- ---- files that aren't there

module _ (words : List (List ℕ)) (p : Program) where
  -- what comes of the files, with the report
  alone : Files → List ℕ → List ℕ → Option Outcome
  alone files bytes i = Some (outcome_of_image bytes (arguments_of words p) i p.length p.budget p.pages (elf bytes
      p.pages))

  first_missing : (second : Option ℕ) (told : Option Files) → MissesNamed told (get_or words p.file []) → NamesNoFile
      (outcome_over words (program_line p second)) told
  first_missing None told missing = names_missing (λ files bytes i. Some (outcome_of_image bytes (arguments_of words p)
      i p.length p.budget p.pages (elf bytes p.pages))) told words p.file missing
  first_missing (Some place) told missing = names_missing (over_two (λ ws files bytes text i. outcome_of_threads bytes
      text (arguments_of ws p) i p.length p.budget p.pages (elf bytes p.pages)) words place) told words p.file missing

  pub first_cause : (second : Option ℕ) (told : Option Files) (name : List ℕ) (a b : ℕ) → name ≡ get_or words p.file []
      → Rose a b ⊎ MissesNamed told name → Rose a b ⊎ NamesNoFile (outcome_over words (program_line p second)) told
  first_cause second told name a b named cause = elim cause [
    | inl rose ↦ inl rose
    | inr missing ↦ inr (first_missing second told (subst (λ (n : List ℕ). MissesNamed told n) named missing))
  ]

  other_missing : (second : Option ℕ) (told : Option Files) (name items : List ℕ) → name ≡ get_or words p.file [] →
      IfSome told (λ files. whole_file (get files name) file_limit ≡ Ok items) → MissesSecond told words second
      → NamesNoFile (outcome_over words (program_line p second)) told
  other_missing None told name items named found missing = absurd missing
  other_missing (Some place) told name items named found missing = second_missing (λ ws files bytes text i.
      outcome_of_threads bytes text (arguments_of ws p) i p.length p.budget p.pages (elf bytes p.pages)) words p.file
      place told name items named found missing

  pub second_cause : (second : Option ℕ) (told : Option Files) (name items : List ℕ) (now_told : Option Files) (a b d :
      ℕ) → name ≡ get_or words p.file []
      → IfSome told (λ files. whole_file (get files name) file_limit ≡ Ok items) → now_told ≡ told → a ≤ b
      → Rose b d ⊎ MissesSecond now_told words second
      → Rose a d ⊎ NamesNoFile (outcome_over words (program_line p second)) told
  second_cause second told name items now_told a b d named found same later cause = elim cause [
    | inl rose ↦ inl (rose_more a b d later rose)
    | inr missing ↦ inr (other_missing second told name items named found (subst (λ (t : Option Files). MissesSecond t
        words second) same missing))
  ]
