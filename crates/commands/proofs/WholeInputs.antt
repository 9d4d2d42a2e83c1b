-- A command that reads its input to the end before anything is run: what it promises by what it read, and where it read none.
use Rattle.std.proofs.Common.{◌≡◌, ◌≤◌, ℕ, ◌+◌, Bool, true, false, nat_lt, cond, List, [], length, drop, Option, Some, None, Result, Ok, Err, IfSome, MatchBool, refl, sym, ap, subst, ◌∙◌, arith, length-append}
use Rattle.std.proofs.lemmas.Option.{IfSome_then}
use Rattle.std.proofs.lemmas.Bool.Decides.{nat_tests}
use Rattle.std.proofs.lemmas.List.{drop_all}
use Rattle.std.proofs.Math.Seq.{drop-append_seam}
use Rattle.std.specs.Io.KnownBytes.{Consumes}
use Rattle.io_gate.specs.ReadAll.{LosesAtMost, ReadsAll, Stops}
use Rattle.io_gate.specs.Pieces.{PutsAll}
use Rattle.io_gate.specs.declared.whole_source.ReadEnd.{ReadEnd}
use Rattle.std.specs.Global.{Vec}
use Rattle.command_model.specs.Refusals.{too_long_line}
use Rattle.emu_system.specs.Gained.{Gains}
use Rattle.emu_system.specs.GainedLaws.{put_first}
use Rattle.command_model.specs.Sweep.{stream_limit}
use Rattle.command_lines.specs.Outcome.{Outcome, over_whole, too_long_stream}
use Rattle.command_lines.specs.declared.ending.Ending.{Ending}
use Rattle.command_lines.specs.declared.ending.Ending.TheVariants.{Done, TooLong, ErrorsFault}
use Rattle.commands.specs.Endings.{ended_by}
use Rattle.commands.specs.Promises.{is_failure, is_refusal, settled_reader, CountsFor, Loses}
use Rattle.commands.specs.Meets.{now, MeetsSweep}
use Rattle.commands.specs.Sweeping.{ends_swept, Writes}
use Rattle.commands.proofs.Meetings.{at_told, loses_within, never, no_first, none_gained, told}

-- what holds of the bytes that an input told, if it told any
told_with : (bytes : Option (List ℕ)) {P : List ℕ → Type 0} → ((xs : List ℕ) → bytes ≡ Some xs → P xs) → IfSome bytes P
told_with None p = tt
told_with (Some xs) p = p xs refl

-- ---- the ending of a command that read its input

settled_swept : (ending : Ending) → ends_swept ending ≡ true → is_failure ending ≡ false → settled_reader ending ≡ None
settled_swept Done kind fine = refl
settled_swept (TooLong limit) kind fine = ap (λ b. cond b None (Some (TooLong limit))) kind
settled_swept ending kind fine = cc

-- nothing was written
pub nothing_written : (outcome : Outcome) (ending : Ending) (o e : Option (List ℕ)) → is_failure ending ≡ true → Writes outcome ending o o e e
nothing_written outcome ending o e failed = record {
  ends = λ fine. never ending failed fine;
  output = no_first ending o outcome.output failed;
  errors = no_first ending e outcome.errors failed;
}

-- ---- the input

-- why it wasn't read
pub stops_as : (old new : Option (List ℕ)) (limit : ℕ) (result : Result (Vec ℕ) ReadEnd) (end by : ReadEnd) → result ≡ Err end → end ≡ by → ReadsAll old new limit result → IfSome old (λ left. Stops by limit left new)
stops_as old new limit result end by is at reads =
    subst (λ (e : ReadEnd). IfSome old (λ left. Stops e limit left new)) at (subst (λ (r : Result (Vec ℕ) ReadEnd). ReadsAll old new limit r) is reads)

-- what was lost of an input that is known
consumed : (left bytes : List ℕ) (new : Option (List ℕ)) → Consumes (Some left) new bytes → (new ≡ Some (drop (length bytes) left)) × (length bytes ≤ length left)
consumed left bytes None lost = absurd lost
consumed left bytes (Some rest) lost =
    (ap (λ (xs : List ℕ). Some xs) (sym (ap (λ (xs : List ℕ). drop (length bytes) xs) lost ∙ drop-append_seam bytes rest)), omega (arith, ap length lost, length-append bytes rest))

all_lost : (failed : Bool) (bytes : List ℕ) (left : Option (List ℕ)) → left ≡ Some [] → Loses failed left bytes (length bytes)
all_lost false bytes left is = is ∙ ap (λ (xs : List ℕ). Some xs) (sym (drop_all (length bytes) bytes (omega arith)))
all_lost true bytes left is = record { taken = length bytes; within = omega arith; is = is ∙ ap (λ (xs : List ℕ). Some xs) (sym (drop_all (length bytes) bytes (omega arith))) }

within : (n : ℕ) → n ≤ stream_limit → nat_lt stream_limit n ≡ false
within n le = grind (arith, nat_tests)

beyond : (n : ℕ) → stream_limit + 1 ≤ n → nat_lt stream_limit n ≡ true
beyond n le = grind (arith, nat_tests)

-- what comes of an input that isn't too long: all of it is taken, and the ending is that of a command that read it
module _ (over : List ℕ → Outcome) (taken_is : (i : List ℕ) → (over i).taken ≡ length i) (over_settled : (i : List ℕ) → settled_reader (over i).ending ≡ None)
    (over_accepts : (i : List ℕ) → is_refusal (over i).ending ≡ false) where
  abbrev of_input : List ℕ → Outcome
  of_input i = over_whole over i

  short : (i : List ℕ) → length i ≤ stream_limit → of_input i ≡ over i
  short i le = ap (λ (b : Bool). cond b (too_long_stream [] (stream_limit + 1)) (over i)) (within (length i) le)

  long : (i : List ℕ) → stream_limit + 1 ≤ length i → of_input i ≡ too_long_stream [] (stream_limit + 1)
  long i le = ap (λ (b : Bool). cond b (too_long_stream [] (stream_limit + 1)) (over i)) (beyond (length i) le)

  input_settled : (i : List ℕ) → settled_reader (of_input i).ending ≡ None
  input_settled i = elim (nat_lt stream_limit (length i)) as (λ b. settled_reader (cond b (too_long_stream [] (stream_limit + 1)) (over i)).ending ≡ None) [
    | true ↦ refl
    | false ↦ over_settled i
  ]

  refuses_none : (i : List ℕ) → is_refusal (of_input i).ending ≡ false
  refuses_none i = elim (nat_lt stream_limit (length i)) as (λ b. is_refusal (cond b (too_long_stream [] (stream_limit + 1)) (over i)).ending ≡ false) [
    | true ↦ refl
    | false ↦ over_accepts i
  ]

  -- so the outcome is for the bytes that the input told
  of_told : (i0 : Option (List ℕ)) (i : List ℕ) → CountsFor i0 (Some (of_input i)) i → i0 ≡ Some i
  of_told i0 i of = subst (λ (b : Bool). MatchBool b (Unit {0}) (i0 ≡ Some i)) (refuses_none i) of

  -- the input was read
  pub read_meets : (given : List ℕ) (i0 i1 o0 o1 e0 e1 : Option (List ℕ)) (ending : Ending) → IfSome i0 (λ left. (given ≡ left) × (i1 ≡ Some [])) → length given ≤ stream_limit
      → Writes (over given) ending o0 o1 e0 e1 → ends_swept ending ≡ true → MeetsSweep (λ i. Some (of_input i)) ending (now i0 o0 e0) (now i1 o1 e1)
  read_meets given i0 i1 o0 o1 e0 e1 ending read le w kind =
      let same : (i : List ℕ) → given ≡ i → over given ≡ of_input i = λ i e.
      ap (λ (xs : List ℕ). over xs) e ∙ sym (short i (subst (λ (xs : List ℕ). length xs ≤ stream_limit) e le)) in
      record {
        ends = IfSome_then i0 read (λ i r fine. w.ends fine ∙ ap (λ (o : Outcome). o.ending) (same i r.0));
        settled = λ fine i. settled_swept ending kind fine ∙ sym (input_settled i);
        output = λ i of. subst (λ (o : Outcome). IfSome o0 (λ had. Gains (is_failure ending) o1 had o.output)) (same i (at_told i0 _ i read (of_told i0 i of)).0) w.output;
        errors = λ i of. subst (λ (o : Outcome). IfSome e0 (λ had. Gains (is_failure ending) e1 had o.errors)) (same i (at_told i0 _ i read (of_told i0 i of)).0) w.errors;
        input = IfSome_then i0 read (λ i r.
            subst (λ (n : ℕ). Loses (is_failure ending) i1 i n)
            (sym (sym (ap (λ (o : Outcome). o.taken) (same i r.0)) ∙ taken_is given ∙ ap length r.0)) (all_lost (is_failure ending) i i1 r.1));
      }

  -- the input failed, or there was no memory for it
  least : (i : List ℕ) (n : ℕ) → n ≤ stream_limit → n ≤ length i → n ≤ (of_input i).taken
  least i n few there = elim (nat_lt stream_limit (length i)) as (λ b. n ≤ (cond b (too_long_stream [] (stream_limit + 1)) (over i)).taken) [
    | true ↦ omega arith
    | false ↦ omega (arith, taken_is i)
  ]

  pub unread_meets : (i0 i1 o e : Option (List ℕ)) (ending : Ending) → IfSome i0 (λ left. LosesAtMost stream_limit left i1) → is_failure ending ≡ true → MeetsSweep (λ i. Some (of_input i)) ending (now i0 o e) (now i1 o e)
  unread_meets i0 i1 o e ending lost failed = record {
    ends = told i0 (λ _ whole. never ending failed whole);
    settled = λ whole _. never ending failed whole;
    output = λ i _. no_first ending o (of_input i).output failed;
    errors = λ i _. no_first ending e (of_input i).errors failed;
    input = IfSome_then i0 lost (λ i l.
        let c = consumed i l.0 i1 l.1 in
        loses_within ending i1 i (of_input i).taken failed (record { taken = length l.0; within = least i (length l.0) l.2 c.1; is = c.0 }));
  }

  -- the input is too long
  module _ (i0 i1 : Option (List ℕ)) (lost : IfSome i0 (λ left. (bytes : List ℕ) × (Consumes (Some left) i1 bytes) × (length bytes ≡ stream_limit + 1))) where
    long_is : (i : List ℕ) → i0 ≡ Some i → of_input i ≡ too_long_stream [] (stream_limit + 1)
    long_is i is = let l = at_told i0 _ i lost is in let c = consumed i l.0 i1 l.1 in long i (omega (arith, l.2, c.1))

    long_lost : (failed : Bool) → IfSome i0 (λ i. Loses failed i1 i (of_input i).taken)
    long_lost failed = IfSome_then i0 lost (λ i l.
        let c = consumed i l.0 i1 l.1 in
        let count : (of_input i).taken ≡ length l.0 = ap (λ (o : Outcome). o.taken) (long i (omega (arith, l.2, c.1))) ∙ sym l.2 in
        elim failed as (λ b. Loses b i1 i (of_input i).taken) [
          | false ↦ c.0 ∙ ap (λ (n : ℕ). Some (drop n i)) (sym count)
          | true ↦ record { taken = length l.0; within = omega (arith, count); is = c.0 }
        ])

    pub long_meets : {T E : Type 0} (o e0 e1 : Option (List ℕ)) (put : Result T E) (ending : Ending) → PutsAll e0 e1 (too_long_line stream_limit) put → ending ≡ ended_by put (TooLong stream_limit)
        → MeetsSweep (λ i. Some (of_input i)) ending (now i0 o e0) (now i1 o e1)
    long_meets o e0 e1 (Ok done) ending puts by =
        subst (λ (x : Ending). MeetsSweep (λ i. Some (of_input i)) x (now i0 o e0) (now i1 o e1)) (sym by) (record {
          ends = told_with i0 (λ i is _. sym (ap (λ (x : Outcome). x.ending) (long_is i is)));
          settled = λ _ i. sym (input_settled i);
          output = λ i of. subst (λ (x : Outcome). IfSome o (λ had. Gains false o had x.output)) (sym (long_is i (of_told i0 i of))) (none_gained false o);
          errors = λ i of. subst (λ (x : Outcome). IfSome e0 (λ had. Gains false e1 had x.errors)) (sym (long_is i (of_told i0 i of))) puts;
          input = long_lost false;
        })
    long_meets o e0 e1 (Err failed) ending puts by =
        subst (λ (x : Ending). MeetsSweep (λ i. Some (of_input i)) x (now i0 o e0) (now i1 o e1)) (sym by) (record {
          ends = told i0 (λ _ whole. never ErrorsFault refl whole);
          settled = λ whole _. never ErrorsFault refl whole;
          output = λ i of. subst (λ (x : Outcome). IfSome o (λ had. Gains true o had x.output)) (sym (long_is i (of_told i0 i of))) (none_gained true o);
          errors = λ i of. subst (λ (x : Outcome). IfSome e0 (λ had. Gains true e1 had x.errors)) (sym (long_is i (of_told i0 i of))) (IfSome_then e0 puts (λ had p. put_first e1 had (too_long_line stream_limit) p));
          input = long_lost true;
        })
