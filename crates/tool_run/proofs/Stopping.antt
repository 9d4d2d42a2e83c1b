-- What is told of a stop, from the run of a machine or of a world up to the line.
use Rattle.std.proofs.Common.{◌≡◌, ℕ, Bool, true, false, List, [], get_or, Option, Some, None, Result, Ok, Err}
use Rattle.std.proofs.Common.{IfErr, IfOk, IfSome, MatchOption, cond, nat_le, length, is_err, sym, ap, subst, ◌∙◌}
use Rattle.std.proofs.Common.{append-nil}
use Rattle.std.proofs.lemmas.Option.{IfSome_then}
use Rattle.std.specs.FinMap.{get}
use Rattle.io_gate.specs.Images.{whole_file}
use Rattle.io_gate.specs.Pieces.{PutsAll}
use Rattle.io_gate.specs.Streams.{HasCause, Rose}
use Rattle.io_gate.specs.declared.images.ImagesError.{ImagesError}
use Rattle.emu_model.specs.State.{Parts}
use Rattle.emu_run.specs.Reports.{report}
use Rattle.emu_run.specs.Run.{run}
use Rattle.emu_run.specs.Worlds.{World, opened}
use Rattle.emu_system.specs.GainedLaws.{put_first}
use Rattle.emu_system.specs.Image.{Image, elf}
use Rattle.emu_system.specs.Start.{opening, with_input}
use Rattle.emu_system.specs.declared.image.ElfFault.{ElfFault}
use Rattle.emu_system.specs.declared.image.Segment.{Segment}
use Rattle.emu_machine.specs.Ends.{Becomes}
use Rattle.guest_schedule.specs.Schedule.{schedule_of_file}
use Rattle.guest_schedule.specs.declared.schedule.ScheduleFault.{ScheduleFault}
use Rattle.command_model.specs.declared.command_line.Line.{Line}
use Rattle.command_model.specs.declared.command_line.Line.TheVariants.{Run, Asm, Dis, Dbg, Load, Sweep, Threads}
use Rattle.command_model.specs.declared.command_line.WordsFault.{WordsFault}
use Rattle.command_lines.specs.Outcome.{Files, file_at, file_limit, program_arguments}
use Rattle.command_lines.specs.declared.ending.Ending.{Ending}
use Rattle.command_lines.specs.declared.ending.Ending.TheVariants.{OutOfMemory}
use Rattle.commands.specs.Endings.{ended_by}
use Rattle.commands.specs.Promises.{is_failure}
use Rattle.commands.specs.declared.program.Program.{Program}
use Rattle.tool_run.specs.Seconds.{program_line, StopsTexts}
use Rattle.tool_run.specs.Stops.{alone_stop, GainsReport, HasStopped, IsTold, StopsFrom, StopsImage, StopsLine}
use Rattle.tool_run.specs.Stops.{StopsProgram, StopsSecond, StopsWorld}
use Rattle.tool_run.specs.Tells.{IsExplained, SeenStop}
use Rattle.tool_run.proofs.Still.{failed_no_stop, failed_stopped, stop_fine}

-- ---- the report

pub gains_none : (wanted : Bool) (held : Option (List ℕ)) (text : List ℕ) → wanted ≡ false → GainsReport wanted false
    held held text
gains_none true held text is = cc
gains_none false None text is = tt
gains_none false (Some had) text is = ap (λ (xs : List ℕ). Some xs) (sym (append-nil had))

pub gains_put : {T E : Type 0} (wanted failed : Bool) (old new : Option (List ℕ)) (text : List ℕ) (put : Result T E) →
    wanted ≡ true → failed ≡ is_err put → PutsAll old new text put → GainsReport wanted failed old new text
gains_put false failed old new text put is by puts = cc
gains_put true failed old new text (Ok done) is by puts = subst (λ (b : Bool). GainsReport true b old new text) (sym
    by) puts
gains_put true failed old new text (Err fault) is by puts = subst (λ (b : Bool). GainsReport true b old new text) (sym
    by) (IfSome_then old puts (λ had p. put_first new had text p))

pub rose_put : {T E : Type 0} (a b : ℕ) (failed : Bool) (put : Result T E) → failed ≡ is_err put → HasCause a b put →
    failed ≡ true → Rose a b
rose_put a b failed (Ok done) by has is = let t : false ≡ true = sym by ∙ is in absurd cc
rose_put a b failed (Err fault) by has is = has.failed

-- ---- a machine that ran alone, where no second file is named

pub stopped_alone : (P : SeenStop → Type 0) (second : Option ℕ) (text file : List ℕ) (segments : List Segment)
    (budget : ℕ) (m : Parts) (left : Option (List ℕ)) (ending : Ending) → second ≡ None
    → IfSome left (λ i. HasStopped ending → P (alone_stop file segments (run (with_input m i) budget).parts))
    → IfSome left (λ i. HasStopped ending → StopsFrom P second text file segments budget m i)
stopped_alone P None text file segments budget m left ending is told = told
stopped_alone P (Some place) text file segments budget m left ending is told = absurd (cc)

-- ---- a run

pub told_run : {T E : Type 0} (Q : E → Type 0) (bytes : T → List ℕ) (said : Result T E) (file : List ℕ) (segments :
    List Segment) (m n : Parts) (budget : ℕ) (i0 i1 : Option (List ℕ)) (broken wanted failed kept : Bool)
    (old new : Option (List ℕ)) (ending result : Ending) (text : List ℕ)
    → broken ≡ false → Becomes (λ st. run st budget) m n i0 i1 broken → IfOk said (λ t. IsExplained (alone_stop file
    segments n) (bytes t)) → IfOk said (λ t. (result ≡ ending) × (text ≡ bytes t))
    → IfErr said (λ e. (result ≡ OutOfMemory) × Q e) → kept ≡ failed → GainsReport wanted failed old new (report n)
    → IfSome i0 (λ i. HasStopped result → IsTold text wanted kept old new (alone_stop file segments (run (with_input m
    i) budget).parts))
told_run Q bytes (Ok t) file segments m n budget i0 i1 broken wanted failed kept old new ending result text whole
    becomes explained ok err by gained =
    IfSome_then i0 becomes (λ i b _. subst (λ (x : Parts). IsTold text wanted kept old new (alone_stop file segments
    x)) (b whole).0 (record {
      explained = subst (λ (xs : List ℕ). IsExplained (alone_stop file segments n) xs) (sym ok.1) explained;
      report = subst (λ (f : Bool). GainsReport wanted f old new (report n)) (sym by) gained;
    }))
told_run Q bytes (Err e) file segments m n budget i0 i1 broken wanted failed kept old new ending result text whole
    becomes explained ok err by gained = failed_stopped i0 _ result (ap is_failure err.0)

-- ---- an image

pub stopped_image : (P : SeenStop → Type 0) (second : Option ℕ) (text file : List ℕ) (args : List (List ℕ)) (bits
    budget pages : ℕ) (r : Result Image ElfFault) (image : Image) (m : Parts) (segments : List Segment)
    (o : Option (List ℕ)) (ending : Ending)
    → Ok image ≡ r → m ≡ opening file image args bits pages → segments ≡ image.segments
    → IfSome o (λ i. HasStopped ending → StopsFrom P second text file segments budget m i)
    → IfSome o (λ i. HasStopped ending → StopsImage P second text file args i bits budget pages r)
stopped_image P second text file args bits budget pages r image m segments o ending is of theirs stopped = IfSome_then
    o stopped (λ i h stop.
    subst (λ (x : Result Image ElfFault). StopsImage P second text file args i bits budget pages x) is
    (subst (λ (x : Parts). StopsFrom P second text file image.segments budget x i) of
    (subst (λ (xs : List Segment). StopsFrom P second text file xs budget m i) theirs (h stop))))

-- ---- files

ok_of : (b : Bool) (xs ys : List ℕ) (e : ImagesError) → cond b (Ok xs) (Err e) ≡ Ok ys → xs ≡ ys
ok_of true xs ys e is = cc
ok_of false xs ys e is = cc

whole_is : (o : Option (List ℕ)) (bytes : List ℕ) → whole_file o file_limit ≡ Ok bytes → o ≡ Some bytes
whole_is None bytes is = cc
whole_is (Some found) bytes is = ap (λ (xs : List ℕ). Some xs) (ok_of (nat_le (length found) file_limit) found bytes _
    is)

-- what holds of the bytes of a file holds of the file
pub stopped_file : (words : List (List ℕ)) (place : ℕ) (named : Option Files) (name read items : List ℕ) (o : Option
    (List ℕ)) (Q : Files → List ℕ → List ℕ → Type 0) (ending : Ending) → name ≡ get_or words place [] → read ≡ items
    → IfSome named (λ files. whole_file (get files name) file_limit ≡ Ok items)
    → IfSome named (λ files. IfSome o (λ i. HasStopped ending → Q files i read))
    → IfSome named (λ files. IfSome o (λ i. HasStopped ending → MatchOption (file_at words files place) (Unit {0}) (Q
    files i)))
stopped_file words place None name read items o Q ending names same content stopped = tt
stopped_file words place (Some files) name read items o Q ending names same content stopped = IfSome_then o stopped (λ
    i h stop.
    let there : get files (get_or words place []) ≡ Some items = whole_is _ items (subst (λ (n : List ℕ). whole_file
    (get files n) file_limit ≡ Ok items) names content) in
    subst (λ (f : Option (List ℕ)). MatchOption f (Unit {0}) (Q files i)) (sym there)
    (subst (λ (xs : List ℕ). Q files i xs) same (h stop)))

-- a program with a second file, by its line
pub stopped_line : (P : SeenStop → Type 0) (words : List (List ℕ)) (p : Program) (second : Option ℕ) (files : Files) (i
    : List ℕ)
    → MatchOption (file_at words files p.file) (Unit {0}) (λ bytes. StopsTexts P second bytes words p files i)
    → StopsLine P words files i (Ok (program_line p second))
stopped_line P words p None files i h = h
stopped_line P words p (Some place) files i h = h

pub as_line : (P : SeenStop → Type 0) (words : List (List ℕ)) (named : Option Files) (o : Option (List ℕ)) (ending :
    Ending) (a b : Result Line WordsFault) → a ≡ b
    → IfSome named (λ files. IfSome o (λ i. HasStopped ending → StopsLine P words files i a)) → IfSome named (λ
    files. IfSome o (λ i. HasStopped ending → StopsLine P words files i b))
as_line P words named o ending a b is h = subst (λ (r : Result Line WordsFault). IfSome named (λ files. IfSome o (λ
    i. HasStopped ending → StopsLine P words files i r))) is h

pub as_wanted : (words : List (List ℕ)) (named : Option Files) (o : Option (List ℕ)) (ending : Ending) (said : List ℕ)
    (a b failed : Bool) (old new : Option (List ℕ)) (r : Result Line WordsFault) → a ≡ b
    → IfSome named (λ files. IfSome o (λ i. HasStopped ending → StopsLine (IsTold said a failed old new) words files i
    r))
    → IfSome named (λ files. IfSome o (λ i. HasStopped ending → StopsLine (IsTold said b failed old new) words files i
    r))
as_wanted words named o ending said a b failed old new r is h = subst (λ (w : Bool). IfSome named (λ files. IfSome o (λ
    i. HasStopped ending → StopsLine (IsTold said w failed old new) words files i r))) is h

-- ---- what holds of one thing holds of another

module _ (P Q : SeenStop → Type 0) (more : (stop : SeenStop) → P stop → Q stop) where
  then_world : (file : List ℕ) (segments : List Segment) (budget : ℕ) (w : World) (i : List ℕ) (r : Result (List (ℕ ×
      ℕ)) ScheduleFault) → StopsWorld P file segments budget w i r → StopsWorld Q file segments budget w i r
  then_world file segments budget w i (Ok turns) h = more _ h
  then_world file segments budget w i (Err fault) h = tt

  then_from : (second : Option ℕ) (text file : List ℕ) (segments : List Segment) (budget : ℕ) (m : Parts) (i : List ℕ)
      → StopsFrom P second text file segments budget m i → StopsFrom Q second text file segments budget m i
  then_from None text file segments budget m i h = more _ h
  then_from (Some place) text file segments budget m i h = then_world file segments budget (opened m) i
      (schedule_of_file text) h

  then_image : (second : Option ℕ) (text file : List ℕ) (args : List (List ℕ)) (i : List ℕ) (bits budget pages : ℕ) (r :
      Result Image ElfFault) → StopsImage P second text file args i bits budget pages r → StopsImage Q second text file
      args i bits budget pages r
  then_image second text file args i bits budget pages (Ok image) h = then_from second text file image.segments budget
      (opening file image args bits pages) i h
  then_image second text file args i bits budget pages (Err fault) h = tt

  then_option : (o : Option (List ℕ)) (F G : List ℕ → Type 0) → ((xs : List ℕ) → F xs → G xs) → MatchOption o (Unit {0})
      F → MatchOption o (Unit {0}) G
  then_option None F G f h = tt
  then_option (Some xs) F G f h = f xs h

  then_second : (words : List (List ℕ)) (files : Files) (second : Option ℕ) (F G : List ℕ → Type 0) → ((xs : List ℕ) →
      F xs → G xs) → StopsSecond words files second F → StopsSecond words files second G
  then_second words files None F G f h = f [] h
  then_second words files (Some place) F G f h = then_option (file_at words files place) F G f h

  then_program : (words : List (List ℕ)) (files : Files) (i : List ℕ) (file : ℕ) (second : Option ℕ) (args bits budget
      pages : ℕ) → StopsProgram P words files i file second args bits budget pages → StopsProgram Q words files i file
      second args bits budget pages
  then_program words files i file second args bits budget pages h =
      then_option (file_at words files file) _ _ (λ bytes. then_second words files second _ _ (λ text. then_image
      second text bytes (program_arguments words file args) i bits budget pages (elf bytes pages))) h

  pub then_line : (words : List (List ℕ)) (files : Files) (i : List ℕ) (r : Result Line WordsFault) → StopsLine P words
      files i r → StopsLine Q words files i r
  then_line words files i (Err fault) h = tt
  then_line words files i (Ok (Run file args bits budget pages)) h = then_program words files i file None args bits
      budget pages h
  then_line words files i (Ok (Asm listing)) h = tt
  then_line words files i (Ok (Dis file)) h = tt
  then_line words files i (Ok (Dbg file script args bits budget pages)) h = tt
  then_line words files i (Ok (Load number)) h = tt
  then_line words files i (Ok (Sweep file args budget pages)) h = tt
  then_line words files i (Ok (Threads file schedule args bits budget pages)) h = then_program words files i file (Some
      schedule) args bits budget pages h

-- ---- the whole, behind what was put

ended_stop : {T E : Type 0} (put : Result T E) (ending result : Ending) → result ≡ ended_by put ending → HasStopped
    result → HasStopped ending
ended_stop (Ok done) ending result by stop = subst (λ (x : Ending). HasStopped x) by stop
ended_stop (Err failed) ending result by stop = absurd (failed_no_stop result (ap is_failure by) stop)

pub stopped_words : {T E : Type 0} (P Q : SeenStop → Type 0) (read words : List (List ℕ)) (named : Option Files) (o :
    Option (List ℕ)) (put : Result T E) (ending result : Ending) (of : List (List ℕ) → Result Line WordsFault)
    → read ≡ words → result ≡ ended_by put ending → (is_failure ending ≡ false → (stop : SeenStop) → P stop → Q stop)
    → IfSome named (λ files. IfSome o (λ i. HasStopped ending → StopsLine P read files i (of read)))
    → IfSome named (λ files. IfSome o (λ i. HasStopped result → StopsLine Q words files i (of words)))
stopped_words P Q read words named o put ending result of same by more stopped =
    IfSome_then named stopped (λ files h. IfSome_then o h (λ i k stop.
    let at : HasStopped ending = ended_stop put ending result by stop in
    subst (λ (ws : List (List ℕ)). StopsLine Q ws files i (of ws)) same
    (then_line P Q (more (stop_fine ending at)) read files i (of read) (k at))))
