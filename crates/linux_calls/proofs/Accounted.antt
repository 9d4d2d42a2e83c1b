-- How a call ended is accounted for by the streams' counts of faults.
use Rattle.std.proofs.Common.{◌≡◌, ◌≤◌, ◌⊎◌, ℕ, Bool, true, false, nat_eq, if◌then◌else◌, IsTrue, Result, Ok, Err, refl, sym, ap, subst, ◌∙◌, ◌||◌, arith}
use Rattle.std.proofs.lemmas.Bool.{eqb-true}
use Rattle.std.proofs.lemmas.Bool.Decides.{nat_tests}
use Rattle.io_gate.specs.Streams.{Causes, Rose}
use Rattle.emu_model.specs.Access.{Memory}
use Rattle.emu_model.specs.State.{Core}
use Rattle.emu_system.specs.SystemCall.{file_of, is_sink, number_of_call}
use Rattle.linux_calls.specs.declared.end.CallEnd.{CallEnd}
use Rattle.linux_calls.specs.declared.end.CallEnd.TheVariants.{Returned, Exit, ReadFault, WriteFault, ErrorsFault}
use Rattle.linux_calls.specs.declared.reply.Reply.{Reply}
use Rattle.linux_calls.specs.Done.{IsAccounted}
use Rattle.linux_calls.specs.Ends.{is_fault, is_put_fault}
use Rattle.linux_calls.specs.Names.{NamesRead}
use Rattle.linux_calls.specs.Puts.{fault_of}

still_caused : (P : Type 0) (before behind : ℕ) → (P → ⊥) → behind ≡ before → Causes P before behind
still_caused P before behind isnt same = record { later = omega (arith, same); rose = λ p. absurd (isnt p); kept = λ _. same }

-- the ends are told apart by a test
other_end : (test : CallEnd → Bool) (a b : CallEnd) → test a ≡ false → test b ≡ true → a ≡ b → ⊥
other_end test a b f t same = let clash : false ≡ true = sym f ∙ ap test same ∙ t in cc

put_is_fault : (end : CallEnd) → is_put_fault end ≡ true → is_fault end ≡ true
put_is_fault Returned h = h
put_is_fault (Exit code) h = h
put_is_fault ReadFault h = refl
put_is_fault WriteFault h = refl
put_is_fault ErrorsFault h = refl

-- ---- which sink

put_fault : (file : ℕ) → is_put_fault (fault_of file) ≡ true
put_fault file = elim (nat_eq file 1) as (λ (b : Bool). is_put_fault (if b then WriteFault else ErrorsFault) ≡ true) [ true ↦ refl | false ↦ refl ]

is_output : (file : ℕ) → fault_of file ≡ WriteFault → file ≡ 1
is_output file h = by_test (nat_eq file 1) refl h where
  by_test : (t : Bool) → nat_eq file 1 ≡ t → (if t then WriteFault else ErrorsFault) ≡ WriteFault → file ≡ 1
  by_test true t h = eqb-true file 1 t
  by_test false t h = cc

is_errors : (file : ℕ) → IsTrue (is_sink file) → fault_of file ≡ ErrorsFault → file ≡ 2
is_errors file sink h = by_test (nat_eq file 1) refl h where
  by_test : (t : Bool) → nat_eq file 1 ≡ t → (if t then WriteFault else ErrorsFault) ≡ ErrorsFault → file ≡ 2
  by_test true t h = cc
  by_test false t h =
      let second : IsTrue (nat_eq file 2) = subst (λ (b : Bool). IsTrue (b || nat_eq file 2)) t sink in
      let two : nat_eq file 2 ≡ true = grind (arith, nat_tests, second) in
      eqb-true file 2 two

told_cause : (end other : CallEnd) (before behind : ℕ) → Causes (◌≡◌ {A = Result Reply CallEnd} (Err end) (Err other)) before behind → Causes (end ≡ other) before behind
told_cause end other before behind q = record {
  later = q.later;
  rose = λ h. q.rose (ap (λ (x : CallEnd). Err x) h);
  kept = λ isnt. q.kept (λ h. let same : end ≡ other = cc in isnt same);
}

-- ---- how a call ended

module _ (c : Core) (m now : Memory) (r r2 w w2 e e2 : ℕ) where
  -- no stream broke it off
  pub accounted : (end : CallEnd) → is_fault end ≡ false → r2 ≡ r → w2 ≡ w → e2 ≡ e → IsAccounted end c m now r r2 w w2 e e2
  accounted end fine same_read same_written same_errors = record {
    unstored = λ h. let clash : false ≡ true = sym fine ∙ put_is_fault end h in cc;
    read_cause = still_caused (end ≡ ReadFault) r r2 (other_end is_fault end ReadFault fine refl) same_read;
    write_cause = still_caused (end ≡ WriteFault) w w2 (other_end is_fault end WriteFault fine refl) same_written;
    errors_cause = still_caused (end ≡ ErrorsFault) e e2 (other_end is_fault end ErrorsFault fine refl) same_errors;
    read_named = λ h. absurd (other_end is_fault end ReadFault fine refl h);
    write_named = λ h. absurd (other_end is_fault end WriteFault fine refl h);
    errors_named = λ h. absurd (other_end is_fault end ErrorsFault fine refl h);
  }

  -- the input did
  pub accounted_read : NamesRead c → r ≤ r2 → Rose r r2 → w2 ≡ w → e2 ≡ e → IsAccounted ReadFault c m now r r2 w w2 e e2
  accounted_read named later rose same_written same_errors = record {
    unstored = λ h. let clash : false ≡ true = h in cc;
    read_cause = record { later = later; rose = λ _. rose; kept = λ isnt. absurd (isnt refl) };
    write_cause = still_caused (ReadFault ≡ WriteFault) w w2 (other_end is_put_fault ReadFault WriteFault refl refl) same_written;
    errors_cause = still_caused (ReadFault ≡ ErrorsFault) e e2 (other_end is_put_fault ReadFault ErrorsFault refl refl) same_errors;
    read_named = λ _. named;
    write_named = λ h. absurd (other_end is_put_fault ReadFault WriteFault refl refl h);
    errors_named = λ h. absurd (other_end is_put_fault ReadFault ErrorsFault refl refl h);
  }

  -- a sink did
  pub accounted_put : (end : CallEnd) → (number_of_call c ≡ 64) ⊎ (number_of_call c ≡ 66) → end ≡ fault_of (file_of c) → IsTrue (is_sink (file_of c)) → now ≡ m → r2 ≡ r
      → Causes (◌≡◌ {A = Result Reply CallEnd} (Err end) (Err WriteFault)) w w2 → Causes (◌≡◌ {A = Result Reply CallEnd} (Err end) (Err ErrorsFault)) e e2
      → IsAccounted end c m now r r2 w w2 e e2
  accounted_put end number file sink unchanged same_read written errors =
      let put : is_put_fault end ≡ true = ap is_put_fault file ∙ put_fault (file_of c) in
      let unread : end ≡ ReadFault → ⊥ = λ h. other_end is_put_fault ReadFault end refl put (sym h) in
      record {
        unstored = λ _. unchanged;
        read_cause = still_caused (end ≡ ReadFault) r r2 unread same_read;
        write_cause = told_cause end WriteFault w w2 written;
        errors_cause = told_cause end ErrorsFault e e2 errors;
        read_named = λ h. absurd (unread h);
        write_named = λ h. record { call = number; to = is_output (file_of c) (sym file ∙ h) };
        errors_named = λ h. record { call = number; to = is_errors (file_of c) sink (sym file ∙ h) };
      }

-- a reply that a call put bytes for
pub none_caused : (reply : Reply) (end : CallEnd) (before behind : ℕ) → Causes (◌≡◌ {A = Result Reply CallEnd} (Ok reply) (Err end)) before behind → behind ≡ before
none_caused reply end before behind q = q.kept (λ h. cc)
