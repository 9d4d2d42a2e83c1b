-- From what a run promises, and what is put of the text behind it, to what is told.
use Rattle.std.proofs.Common.{◌≡◌, ℕ, Bool, true, false, List, [], ◌++◌, length, take, drop, Option, Some, None}
use Rattle.std.proofs.Common.{Result, Ok, Err, IfSome, MatchBool, cond, refl, sym, ap, subst, ◌∙◌, append_assoc}
use Rattle.std.proofs.Common.{append-nil, take-append-drop, arith}
use Rattle.std.proofs.lemmas.Option.{IfSome_then}
use Rattle.io_gate.specs.Pieces.{PutsAll}
use Rattle.emu_run.specs.RunLaws.{prefix_refl}
use Rattle.emu_system.specs.Gained.{Gains, GainedFirst}
use Rattle.command_lines.specs.Outcome.{Outcome, Files, outcome_of_image, outcome_of_line, program_arguments}
use Rattle.command_lines.specs.Outcome.{outcome_of_schedule, outcome_of_threads}
use Rattle.command_lines.specs.Outcome.{result_of, with_file, file_at}
use Rattle.command_lines.specs.declared.ending.Ending.{Ending}
use Rattle.command_lines.specs.declared.ending.Ending.TheVariants.{ErrorsFault, OutOfMemory, TooLong}
use Rattle.command_model.specs.CommandLine.{line}
use Rattle.command_model.specs.Refusals.{too_long_line}
use Rattle.command_lines.specs.Outcome.{file_limit, refusal}
use Rattle.std.proofs.Common.{nat_lt}
use Rattle.command_model.specs.declared.command_line.Line.{Line}
use Rattle.command_model.specs.declared.command_line.Line.TheVariants.{Run, Asm, Dis, Dbg, Load, Sweep, Threads}
use Rattle.command_model.specs.declared.command_line.WordsFault.{WordsFault}
use Rattle.emu_system.specs.Image.{Image, elf}
use Rattle.emu_system.specs.declared.image.ElfFault.{ElfFault}
use Rattle.commands.specs.Endings.{ended_by}
use Rattle.commands.specs.Meets.{Now, now, Meets}
use Rattle.commands.specs.Promises.{is_failure, output_of, errors_of, taken_of, rests_on_none, CountsFor, EndsAs}
use Rattle.commands.specs.Promises.{Loses, LostAtMost, Settles}
use Rattle.commands.proofs.Meetings.{never, no_first, nothing_meets, told}
use Rattle.commands.proofs.NamedFiles.{told_so}
use Rattle.tool_run.specs.Tells.{GainedBoth, GainsBoth, Tells}
use Rattle.tool_run.specs.Unreported.{unreported, unreported_image, unreported_line, unreported_schedule, with_read}
use Rattle.emu_run.specs.Worlds.{World, opened}
use Rattle.emu_system.specs.Start.{opening}
use Rattle.guest_schedule.specs.Schedule.{schedule_of_file}
use Rattle.guest_schedule.specs.declared.schedule.ScheduleFault.{ScheduleFault}

-- ---- a failure in the place of an ending

first_of : (b : Bool) (held : Option (List ℕ)) (had bytes : List ℕ) → Gains b held had bytes → GainedFirst held had
    bytes
first_of false held had bytes is = record { gained = bytes; is = is; first = prefix_refl bytes }
first_of true held had bytes first = first

most_of : (b : Bool) (left : Option (List ℕ)) (bytes : List ℕ) (count : ℕ) → Loses b left bytes count → LostAtMost
    left bytes count
most_of false left bytes count is = record { taken = count; within = omega arith; is = is }
most_of true left bytes count lost = lost

-- what a run promises by any ending it promises by a failure
pub failed_meets : (outcome : List ℕ → Option Outcome) (ending failure : Ending) (old new : Now) → is_failure failure
    ≡ true → Meets outcome ending old new → Meets outcome failure old new
failed_meets outcome ending failure old new failed m = record {
  ends = told old.input (λ _ whole. never failure failed whole);
  settled = λ whole _. never failure failed whole;
  output = λ bytes of. IfSome_then old.output (m.output bytes of) (λ had g. subst (λ (b : Bool). Gains b new.output
      had (output_of (outcome bytes))) (sym failed) (first_of (is_failure ending) new.output had _ g));
  errors = λ bytes of. IfSome_then old.errors (m.errors bytes of) (λ had g. subst (λ (b : Bool). Gains b new.errors
      had (errors_of (outcome bytes))) (sym failed) (first_of (is_failure ending) new.errors had _ g));
  input = IfSome_then old.input m.input (λ bytes l. subst (λ (b : Bool). Loses b new.input bytes (taken_of (outcome
      bytes))) (sym failed) (most_of (is_failure ending) new.input bytes _ l));
}

-- ---- the text behind the program's own bytes

-- all of it was put
both_whole : (b : Bool) (mid new : Option (List ℕ)) (had own said : List ℕ) → Gains b mid had own → IfSome mid (λ
    held. new ≡ Some (held ++ said)) → GainsBoth b new had own said
both_whole false mid new had own said is puts =
    let p : new ≡ Some ((had ++ own) ++ said) = subst (λ (h : Option (List ℕ)). IfSome h (λ held. new ≡ Some (held ++
    said))) is puts in
    p ∙ ap (λ (xs : List ℕ). Some xs) (append_assoc had own said)
both_whole true mid new had own said g puts =
    let p : new ≡ Some ((had ++ g.gained) ++ said) = subst (λ (h : Option (List ℕ)). IfSome h (λ held. new ≡ Some
    (held ++ said))) g.is puts in
    record {
      gained = g.gained;
      told = said;
      is = p ∙ ap (λ (xs : List ℕ). Some xs) (append_assoc had g.gained said);
      first = g.first;
      begun = prefix_refl said;
    }

-- some of its first bytes were put
both_first : (mid new : Option (List ℕ)) (had own said : List ℕ) → GainedFirst mid had own → IfSome mid (λ held. (n :
    ℕ) × (new ≡ Some (held ++ take n said))) → GainedBoth new had own said
both_first mid new had own said g puts =
    let p : (n : ℕ) × (new ≡ Some ((had ++ g.gained) ++ take n said)) = subst (λ (h : Option (List ℕ)). IfSome h (λ
    held. (n : ℕ) × (new ≡ Some (held ++ take n said)))) g.is puts in
    record {
      gained = g.gained;
      told = take p.0 said;
      is = p.1 ∙ ap (λ (xs : List ℕ). Some xs) (append_assoc had
          g.gained (take p.0 said));
      first = g.first;
      begun = (drop p.0 said, sym (take-append-drop p.0 said));
    }

-- a run, and the text that is put behind it
pub said_tells : {T E : Type 0} (outcome : List ℕ → Option Outcome) (said : List ℕ) (i0 i1 o0 o1 e0 e1 e2 : Option
    (List ℕ)) (ending result : Ending) (put : Result T E)
    → result ≡ ended_by put ending → PutsAll e1 e2 said put → Meets outcome ending (now i0 o0 e0) (now i1 o1 e1) →
    Tells outcome outcome said result (now i0 o0 e0) (now i1 o1 e2)
said_tells outcome said i0 i1 o0 o1 e0 e1 e2 ending result (Ok done) by puts m =
    subst (λ (x : Ending). Tells outcome outcome said x (now i0 o0 e0) (now i1 o1 e2)) (sym by) (record {
      ends = m.ends;
      settled = m.settled;
      output = m.output;
      errors = λ bytes of. IfSome_then e0 (m.errors bytes of) (λ had g. both_whole (is_failure ending) e1 e2 had _
          said g puts);
      input = m.input;
    })
said_tells outcome said i0 i1 o0 o1 e0 e1 e2 ending result (Err failed) by puts m =
    let f : Meets outcome ErrorsFault (now i0 o0 e0) (now i1 o1 e1) = failed_meets outcome ending ErrorsFault (now i0
    o0 e0) (now i1 o1 e1) refl m in
    subst (λ (x : Ending). Tells outcome outcome said x (now i0 o0 e0) (now i1 o1 e2)) (sym by) (record {
      ends = f.ends;
      settled = f.settled;
      output = f.output;
      errors = λ bytes of. IfSome_then e0 (f.errors bytes of) (λ had g. both_first e1 e2 had _ said g puts);
      input = f.input;
    })

-- ---- the same result but for the errors

pub strip : Option Outcome → Option Outcome
strip None = None
strip (Some o) = Some (record o { errors = [] })

strip_cond : (b : Bool) (x y f g : Option Outcome) → strip x ≡ strip y → strip f ≡ strip g → strip (cond b x f) ≡ strip
    (cond b y g)
strip_cond true x y f g long same = long
strip_cond false x y f g long same = same

strip_file : (o : Option (List ℕ)) (f g : List ℕ → Option Outcome) → ((bytes : List ℕ) → strip (f bytes) ≡ strip (g
    bytes)) → strip (with_read o f) ≡ strip (with_file o g)
unfolding strip
strip_file None f g same = refl
strip_file (Some file) f g same = strip_cond (nat_lt file_limit (length file)) (Some (refusal (TooLong file_limit) []))
    (Some (refusal (TooLong file_limit) (too_long_line file_limit))) (f file) (g file) refl (same file)

strip_image : (file : List ℕ) (args : List (List ℕ)) (input : List ℕ) (bits budget pages : ℕ) (r : Result Image
    ElfFault)
    → strip (Some (unreported_image None [] file args input bits budget pages r)) ≡ strip (Some (outcome_of_image file
    args input bits budget pages r))
unfolding strip
strip_image file args input bits budget pages (Ok image) = refl
strip_image file args input bits budget pages (Err fault) = refl

strip_schedule : (input : List ℕ) (budget : ℕ) (w : World) (r : Result (List (ℕ × ℕ)) ScheduleFault)
    → strip (Some (unreported_schedule input budget w r)) ≡ strip (Some (outcome_of_schedule input budget w r))
unfolding strip
strip_schedule input budget w (Ok turns) = refl
strip_schedule input budget w (Err fault) = refl

strip_threads : (place : ℕ) (text file : List ℕ) (args : List (List ℕ)) (input : List ℕ) (bits budget pages : ℕ) (r :
    Result Image ElfFault)
    → strip (Some (unreported_image (Some place) text file args input bits budget pages r)) ≡ strip (Some
    (outcome_of_threads file text args input bits budget pages r))
unfolding strip
strip_threads place text file args input bits budget pages (Ok image) = strip_schedule input budget (opened (opening
    file image args bits pages)) (schedule_of_file text)
strip_threads place text file args input bits budget pages (Err fault) = refl

strip_line : (words : List (List ℕ)) (files : Files) (input : List ℕ) (r : Result Line WordsFault)
    → strip (unreported_line words files input r) ≡ strip (outcome_of_line words files input r)
unfolding strip
strip_line words files input (Err fault) = refl
strip_line words files input (Ok (Run file args bits budget pages)) =
    strip_file (file_at words files file) _ _ (λ bytes. strip_image bytes (program_arguments words file args) input
    bits budget pages (elf bytes pages))
strip_line words files input (Ok (Asm listing)) = refl
strip_line words files input (Ok (Dis file)) = refl
strip_line words files input (Ok (Dbg file script args bits budget pages)) = refl
strip_line words files input (Ok (Load number)) = refl
strip_line words files input (Ok (Sweep file args budget pages)) = refl
strip_line words files input (Ok (Threads file schedule args bits budget pages)) =
    strip_file (file_at words files file) _ _ (λ bytes. strip_file (file_at words files schedule) _ _ (λ text.
    strip_threads schedule text bytes (program_arguments words file args) input bits budget pages (elf bytes pages)))

ends_to : (o : Option Outcome) (e : Ending) → EndsAs o e → EndsAs (strip o) e
unfolding strip
ends_to None e h = h
ends_to (Some o) e h = h

ends_from : (o : Option Outcome) (e : Ending) → EndsAs (strip o) e → EndsAs o e
unfolding strip
ends_from None e h = h
ends_from (Some o) e h = h

settles_to : (o : Option Outcome) (e : Ending) → Settles o e → Settles (strip o) e
unfolding strip
settles_to None e h = h
settles_to (Some o) e h = h

settles_from : (o : Option Outcome) (e : Ending) → Settles (strip o) e → Settles o e
unfolding strip
settles_from None e h = h
settles_from (Some o) e h = h

rests_strip : (o : Option Outcome) → rests_on_none (strip o) ≡ rests_on_none o
unfolding strip
rests_strip None = refl
rests_strip (Some o) = refl

output_strip : (o : Option Outcome) → output_of (strip o) ≡ output_of o
unfolding strip
output_strip None = refl
output_strip (Some o) = refl

taken_strip : (o : Option Outcome) → taken_of (strip o) ≡ taken_of o
unfolding strip
taken_strip None = refl
taken_strip (Some o) = refl

-- what is told by one of two outcomes that are the same but for the errors is told by the other
module _ (f g : List ℕ → Option Outcome) (same : (i : List ℕ) → strip (f i) ≡ strip (g i)) where
  rests : (i : List ℕ) → rests_on_none (f i) ≡ rests_on_none (g i)
  rests i = sym (rests_strip (f i)) ∙ ap rests_on_none (same i) ∙ rests_strip (g i)

  outputs : (i : List ℕ) → output_of (f i) ≡ output_of (g i)
  outputs i = sym (output_strip (f i)) ∙ ap output_of (same i) ∙ output_strip (g i)

  takens : (i : List ℕ) → taken_of (f i) ≡ taken_of (g i)
  takens i = sym (taken_strip (f i)) ∙ ap taken_of (same i) ∙ taken_strip (g i)

  counts : (t : Option (List ℕ)) (i : List ℕ) → CountsFor t (g i) i → CountsFor t (f i) i
  counts t i of = subst (λ (b : Bool). MatchBool b (Unit {0}) (t ≡ Some i)) (sym (rests i)) of

  pub tells_by : (own : List ℕ → Option Outcome) (said : List ℕ) (ending : Ending) (old new : Now) → Tells f own said
      ending old new → Tells g own said ending old new
  tells_by own said ending old new m = record {
    ends = IfSome_then old.input m.ends (λ i h fine. ends_from (g i) ending (subst (λ (o : Option Outcome). EndsAs o
        ending) (same i) (ends_to (f i) ending (h fine))));
    settled = λ fine i. settles_from (g i) ending (subst (λ (o : Option Outcome). Settles o ending) (same i)
        (settles_to (f i) ending (m.settled fine i)));
    output = λ i of. IfSome_then old.output (m.output i (counts old.input i of)) (λ had h. subst (λ (xs : List ℕ).
        Gains (is_failure ending) new.output had xs) (outputs i) h);
    errors = λ i of. m.errors i (counts old.input i of);
    input = IfSome_then old.input m.input (λ i h. subst (λ (n : ℕ). Loses (is_failure ending) new.input i n) (takens
        i) h);
  }

-- the result of a line by what it comes to without its report
pub result_tells : (words : List (List ℕ)) (files : Files) (r : Result Line WordsFault) (said : List ℕ) (ending :
    Ending) (old new : Now)
    → Tells (λ i. unreported_line words files i r) (λ i. unreported_line words files i r) said ending old new
    → Tells (λ i. outcome_of_line words files i r) (λ i. unreported_line words files i r) said ending old new
result_tells words files r said ending old new m =
    tells_by (λ i. unreported_line words files i r) (λ i. outcome_of_line words files i r) (λ i. strip_line words
    files i r) (λ i. unreported_line words files i r) said ending old new m

-- ---- a whole line

nothing_both : (held : Option (List ℕ)) (own said : List ℕ) → IfSome held (λ had. GainedBoth held had own said)
nothing_both None own said = tt
nothing_both (Some had) own said = record {
  gained = [];
  told = [];
  is = ap (λ (xs : List ℕ). Some xs) (sym
      (append-nil had));
  first = (own, refl);
  begun = (said, refl);
}

pub words_told : {T E : Type 0} (read words : List (List ℕ)) (named : Option Files) (said shown : List ℕ) (ending
    result : Ending) (i0 i1 o0 o1 e0 e1 e2 : Option (List ℕ)) (put : Result T E)
    → read ≡ words → shown ≡ said → result ≡ ended_by put ending → PutsAll e1 e2 said put
    → IfSome named (λ files. Meets (unreported read files) ending (now i0 o0 e0) (now i1 o1 e1))
    → IfSome named (λ files. Tells (result_of words files) (unreported words files) shown result (now i0 o0 e0) (now
    i1 o1 e2))
words_told read words named said shown ending result i0 i1 o0 o1 e0 e1 e2 put same text by puts meets =
    subst (λ (ws : List (List ℕ)). IfSome named (λ files. Tells (result_of ws files) (unreported ws files) shown
    result (now i0 o0 e0) (now i1 o1 e2))) same
    (subst (λ (xs : List ℕ). IfSome named (λ files. Tells (result_of read files) (unreported read files) xs result
    (now i0 o0 e0) (now i1 o1 e2))) (sym text)
    (IfSome_then named meets (λ files m. result_tells read files (line read) said result (now i0 o0 e0) (now i1 o1 e2)
    (said_tells (unreported read files) said i0 i1 o0 o1 e0 e1 e2 ending result put by puts m))))

-- nothing was done, since memory was wanting
pub nothing_told : (words : List (List ℕ)) (named : Option Files) (said : List ℕ) (result : Ending) (i o e : Option
    (List ℕ)) → result ≡ OutOfMemory
    → IfSome named (λ files. Tells (result_of words files) (unreported words files) said result (now i o e) (now i o e))
nothing_told words named said result i o e by = told_so named _ (λ files.
    subst (λ (x : Ending). Tells (result_of words files) (unreported words files) said x (now i o e) (now i o e)) (sym
    by) (record {
      ends = told i (λ _ whole. never OutOfMemory refl whole);
      settled = λ whole _. never OutOfMemory refl whole;
      output = λ bytes _. no_first OutOfMemory o (output_of (result_of words files bytes)) refl;
      errors = λ bytes _. nothing_both e (errors_of (unreported words files bytes)) said;
      input = (nothing_meets (result_of words files) OutOfMemory i o e refl).input;
    }))
