-- What a line promises where its input told its bytes, and where it rests on none; and that the program is complete.
use Rattle.std.proofs.Common.{◌≡◌, ◌⊎◌, inl, inr, ℕ, Bool, true, false, List, Option, Some, None, Result, IfSome, MatchBool, refl, sym, ap, subst, ◌∙◌}
use Rattle.std.proofs.lemmas.Option.{IfSome_then}
use Rattle.io_gate.specs.Streams.{Rose}
use Rattle.command_lines.specs.Outcome.{Outcome, Files, result_of}
use Rattle.command_lines.specs.declared.ending.Ending.{Ending}
use Rattle.command_lines.specs.declared.ending.Ending.TheVariants.{FileFault, ReadFault, WriteFault, ErrorsFault, OutOfMemory}
use Rattle.command_model.specs.declared.command_line.Line.{Line}
use Rattle.command_model.specs.declared.command_line.WordsFault.{WordsFault}
use Rattle.commands.specs.Lines.{reads_input_first, takes_input, IsOutcome, SettlesLine}
use Rattle.commands.specs.Meets.{MeetsLine, now}
use Rattle.commands.proofs.Settled.{rests_ends}
use Rattle.emu_system.specs.Gained.{Gains}
use Rattle.commands.specs.Promises.{is_failure, rests_on_none, output_of, errors_of, taken_of, CountsFor, EndsAs, Loses, NamesNoFile}
use Rattle.svemu_call.specs.Headline.{Completes, IsQuiet}

-- ---- for the input that was told, and for any where the line rests on none

is_of : (o : Option Outcome) (bytes : List ℕ) → CountsFor (Some bytes) o bytes
is_of o bytes = elim (rests_on_none o) as (λ b. MatchBool b (Unit {0}) (Some bytes ≡ Some bytes)) [ true ↦ record {} | false ↦ refl ]

module _ (words : List (List ℕ)) (result : Ending) (o0 e0 o1 e1 : Option (List ℕ)) where
  -- what is promised for these bytes of the input, whatever it told and has left
  pub record MeetsFor (files : Files) (bytes : List ℕ) : Type 0 where
    pub ends : is_failure result ≡ false → EndsAs (result_of words files bytes) result
    pub output : IfSome o0 (λ had. Gains (is_failure result) o1 had (output_of (result_of words files bytes)))
    pub errors : IfSome e0 (λ had. Gains (is_failure result) e1 had (errors_of (result_of words files bytes)))

  meets_told : (l : Result Line WordsFault) (files : Files) (bytes : List ℕ) (left : Option (List ℕ)) → MeetsLine words files l (result_of words files) result (now (Some bytes) o0 e0) (now left o1 e1) → MeetsFor files bytes
  meets_told l files bytes left m = record {
    ends = m.ends;
    output = m.output bytes (is_of (result_of words files bytes) bytes);
    errors = m.errors bytes (is_of (result_of words files bytes) bytes);
  }

  meets_resting : (l : Result Line WordsFault) (files : Files) (bytes : List ℕ) (old left : Option (List ℕ)) → rests_on_none (result_of words files bytes) ≡ true
      → MeetsLine words files l (result_of words files) result (now old o0 e0) (now left o1 e1) → MeetsFor files bytes
  meets_resting l files bytes old left none m =
      let of : CountsFor old (result_of words files bytes) bytes = subst (λ (b : Bool). MatchBool b (Unit {0}) (old ≡ Some bytes)) (sym none) (record {}) in
      record {
        ends = λ fine. rests_ends (reads_input_first words files l) (result_of words files bytes) result none (m.settled fine bytes);
        output = m.output bytes of;
        errors = m.errors bytes of;
      }

  meets_machine : (l : Result Line WordsFault) (files : Files) (bytes : List ℕ) (old left : Option (List ℕ)) → CountsFor old (result_of words files bytes) bytes
      → MeetsLine words files l (result_of words files) result (now old o0 e0) (now left o1 e1) → MeetsFor files bytes
  meets_machine l files bytes old left of m =
      elim (rests_on_none (result_of words files bytes)) as (λ b. rests_on_none (result_of words files bytes) ≡ b → MatchBool b (Unit {0}) (old ≡ Some bytes) → MeetsFor files bytes) [
        | true ↦ λ none _. meets_resting l files bytes old left none m
        | false ↦ λ _ told. meets_told l files bytes left (subst (λ (t : Option (List ℕ)). MeetsLine words files l (result_of words files) result (now t o0 e0) (now left o1 e1)) told m)
      ] refl of

  meets_for : (named : Option Files) (l : Result Line WordsFault) (told left : Option (List ℕ))
      → IfSome named (λ files. MeetsLine words files l (result_of words files) result (now told o0 e0) (now left o1 e1))
      → (takes_input l ≡ false → (input : Option (List ℕ)) → IfSome named (λ files. MeetsLine words files l (result_of words files) result (now input o0 e0) (now input o1 e1)))
      → IfSome named (λ files. (bytes : List ℕ) → IsOutcome l told (result_of words files bytes) bytes → MeetsFor files bytes)
  meets_for None l told left meets without = tt
  meets_for (Some files) l told left meets without = λ bytes of.
      elim (takes_input l) as (λ b. takes_input l ≡ b → MatchBool b (CountsFor told (result_of words files bytes) bytes) (Unit {0}) → MeetsFor files bytes) [
        | true ↦ λ _ is. meets_machine l files bytes told left is meets
        | false ↦ λ still _. meets_told l files bytes (Some bytes) (without still (Some bytes))
      ] refl of

  -- ---- each clause of the top call by itself

  pub settled_of : (named : Option Files) (l : Result Line WordsFault) (told left : Option (List ℕ)) → IfSome named (λ files. MeetsLine words files l (result_of words files) result (now told o0 e0) (now left o1 e1))
      → IfSome named (λ files. is_failure result ≡ false → (bytes : List ℕ) → SettlesLine words files l (result_of words files bytes) result)
  settled_of named l told left meets = IfSome_then named meets (λ files met. met.settled)

  pub input_of : (named : Option Files) (l : Result Line WordsFault) (told left : Option (List ℕ)) → IfSome named (λ files. MeetsLine words files l (result_of words files) result (now told o0 e0) (now left o1 e1))
      → IfSome named (λ files. IfSome told (λ bytes. Loses (is_failure result) left bytes (taken_of (result_of words files bytes))))
  input_of named l told left meets = IfSome_then named meets (λ files met. met.input)

  pub ends_for : (named : Option Files) (l : Result Line WordsFault) (told left : Option (List ℕ)) → IfSome named (λ files. MeetsLine words files l (result_of words files) result (now told o0 e0) (now left o1 e1))
      → (takes_input l ≡ false → (input : Option (List ℕ)) → IfSome named (λ files. MeetsLine words files l (result_of words files) result (now input o0 e0) (now input o1 e1)))
      → IfSome named (λ files. (bytes : List ℕ) → IsOutcome l told (result_of words files bytes) bytes → is_failure result ≡ false → EndsAs (result_of words files bytes) result)
  ends_for named l told left meets without = IfSome_then named (meets_for named l told left meets without) (λ files met bytes of. (met bytes of).ends)

  pub output_for : (named : Option Files) (l : Result Line WordsFault) (told left : Option (List ℕ)) → IfSome named (λ files. MeetsLine words files l (result_of words files) result (now told o0 e0) (now left o1 e1))
      → (takes_input l ≡ false → (input : Option (List ℕ)) → IfSome named (λ files. MeetsLine words files l (result_of words files) result (now input o0 e0) (now input o1 e1)))
      → IfSome named (λ files. (bytes : List ℕ) → IsOutcome l told (result_of words files bytes) bytes → IfSome o0 (λ had. Gains (is_failure result) o1 had (output_of (result_of words files bytes))))
  output_for named l told left meets without = IfSome_then named (meets_for named l told left meets without) (λ files met bytes of. (met bytes of).output)

  pub errors_for : (named : Option Files) (l : Result Line WordsFault) (told left : Option (List ℕ)) → IfSome named (λ files. MeetsLine words files l (result_of words files) result (now told o0 e0) (now left o1 e1))
      → (takes_input l ≡ false → (input : Option (List ℕ)) → IfSome named (λ files. MeetsLine words files l (result_of words files) result (now input o0 e0) (now input o1 e1)))
      → IfSome named (λ files. (bytes : List ℕ) → IsOutcome l told (result_of words files bytes) bytes → IfSome e0 (λ had. Gains (is_failure result) e1 had (errors_of (result_of words files bytes))))
  errors_for named l told left meets without = IfSome_then named (meets_for named l told left meets without) (λ files met bytes of. (met bytes of).errors)

-- ---- completeness

in_files : (words : List (List ℕ)) (files : Files) (input : List ℕ) → NamesNoFile (result_of words) (Some files) → result_of words files input ≡ None
in_files words files input n = let same : files ≡ n.files = (let is : Some files ≡ Some n.files = n.is in cc) in ap (λ (x : Files). result_of words x input) same ∙ n.missing input

or_memory : (o : Option Outcome) → Completes o OutOfMemory
or_memory None = inr refl
or_memory (Some outcome) = inr refl

missing_file : (o : Option Outcome) → o ≡ None → Completes o FileFault
missing_file o e = subst (λ (x : Option Outcome). Completes x FileFault) (sym e) (inl refl)

ended : (o : Option Outcome) (ending : Ending) → EndsAs o ending → Completes o ending
ended None ending e = absurd e
ended (Some outcome) ending e = inl e

-- where no count rose, the ending is the result's or want of memory
completes : (words : List (List ℕ)) (files : Files) (bytes : List ℕ) (f0 f1 i0 i1 o0 o1 e0 e1 : ℕ) (result : Ending) → (is_failure result ≡ false → EndsAs (result_of words files bytes) result)
    → (result ≡ FileFault → Rose f0 f1 ⊎ NamesNoFile (result_of words) (Some files)) → (result ≡ ReadFault → Rose i0 i1) → (result ≡ WriteFault → Rose o0 o1) → (result ≡ ErrorsFault → Rose e0 e1)
    → IsQuiet f0 f1 → IsQuiet i0 i1 → IsQuiet o0 o1 → IsQuiet e0 e1 → Completes (result_of words files bytes) result
completes words files bytes f0 f1 i0 i1 o0 o1 e0 e1 FileFault ends f r w x qf qi qo qe =
    elim (f refl) [ inl rose ↦ absurd (qf rose) | inr n ↦ missing_file (result_of words files bytes) (in_files words files bytes n) ]
completes words files bytes f0 f1 i0 i1 o0 o1 e0 e1 ReadFault ends f r w x qf qi qo qe = absurd (qi (r refl))
completes words files bytes f0 f1 i0 i1 o0 o1 e0 e1 WriteFault ends f r w x qf qi qo qe = absurd (qo (w refl))
completes words files bytes f0 f1 i0 i1 o0 o1 e0 e1 ErrorsFault ends f r w x qf qi qo qe = absurd (qe (x refl))
completes words files bytes f0 f1 i0 i1 o0 o1 e0 e1 OutOfMemory ends f r w x qf qi qo qe = or_memory (result_of words files bytes)
completes words files bytes f0 f1 i0 i1 o0 o1 e0 e1 ending ends f r w x qf qi qo qe = ended (result_of words files bytes) ending (ends refl)

pub complete_command : (words : List (List ℕ)) (named : Option Files) (f0 f1 i0 i1 o0 o1 e0 e1 : ℕ) (result : Ending) (May : Files → List ℕ → Type 0)
    → IfSome named (λ files. (bytes : List ℕ) → May files bytes → is_failure result ≡ false → EndsAs (result_of words files bytes) result)
    → (result ≡ FileFault → Rose f0 f1 ⊎ NamesNoFile (result_of words) named) → (result ≡ ReadFault → Rose i0 i1) → (result ≡ WriteFault → Rose o0 o1) → (result ≡ ErrorsFault → Rose e0 e1)
    → IfSome named (λ files. (bytes : List ℕ) → May files bytes → IsQuiet f0 f1 → IsQuiet i0 i1 → IsQuiet o0 o1 → IsQuiet e0 e1 → Completes (result_of words files bytes) result)
complete_command words None f0 f1 i0 i1 o0 o1 e0 e1 result May ends f r w x = tt
complete_command words (Some files) f0 f1 i0 i1 o0 o1 e0 e1 result May ends f r w x = λ bytes may. completes words files bytes f0 f1 i0 i1 o0 o1 e0 e1 result (ends bytes may) f r w x
