-- The line of a length, by what its run left.
use Rattle.std.proofs.Common.{◌≡◌, ℕ, Bool, true, List, ◌++◌, length, take, Option, Some, None, IfSome, MatchOption, Bor, ap, ◌∙◌}
use Rattle.std.proofs.lemmas.Option.{IfSome_then}
use Rattle.emu_model.specs.State.{Parts}
use Rattle.emu_system.specs.GainedLaws.{put_first}
use Rattle.command_model.specs.Sweep.{Sweep, line_at, run_at, run_line}
use Rattle.vl_sweep.specs.Sweeps.{PutsLine}
use Rattle.vl_sweep.specs.declared.lengths.SweepEnd.TheVariants.{Done, WriteFault}

-- the output at 128 bits
pub first_is : (s : Sweep) (bits : ℕ) (first : Option (Bor (List ℕ))) (written chosen : List ℕ) → MatchOption first (bits ≡ 128) (λ f. f.now ≡ (run_at s 128).output) → MatchOption first (chosen ≡ written) (λ f. chosen ≡ f.now)
    → written ≡ (run_at s bits).output → chosen ≡ (run_at s 128).output
first_is s bits None written chosen at is of = is ∙ of ∙ ap (λ (b : ℕ). (run_at s b).output) at
first_is s bits (Some f) written chosen at is of = is ∙ at

line_is : (s : Sweep) (bits b : ℕ) (first written errors : List ℕ) (m : Parts) → b ≡ bits → first ≡ (run_at s 128).output → m ≡ (run_at s bits).parts → written ≡ (run_at s bits).output → errors ≡ (run_at s bits).errors
    → run_line b first m written (length errors) ≡ line_at s bits
line_is s bits b first written errors m at f p w e =
    ap (λ (x : ℕ). run_line x first m written (length errors)) at
    ∙ ap (λ (x : List ℕ). run_line bits x m written (length errors)) f
    ∙ ap (λ (x : Parts). run_line bits (run_at s 128).output x written (length errors)) p
    ∙ ap (λ (x : List ℕ). run_line bits (run_at s 128).output (run_at s bits).parts x (length errors)) w
    ∙ ap (λ (x : List ℕ). run_line bits (run_at s 128).output (run_at s bits).parts (run_at s bits).output (length x)) e

module _ (s : Sweep) (bits b : ℕ) (first written errors : List ℕ) (m : Parts) (at : b ≡ bits) (f : first ≡ (run_at s 128).output) (p : m ≡ (run_at s bits).parts) (w : written ≡ (run_at s bits).output) (e : errors ≡ (run_at s bits).errors)
    (fits : Bool) (fit : fits ≡ true) (old new : Option (List ℕ)) where
  pub puts_whole : IfSome old (λ had. new ≡ Some (had ++ run_line b first m written (length errors))) → PutsLine Done fits old new (line_at s bits)
  puts_whole put = (fit, IfSome_then old put (λ had is. is ∙ ap (λ (xs : List ℕ). Some (had ++ xs)) (line_is s bits b first written errors m at f p w e)))

  pub puts_first : IfSome old (λ had. (n : ℕ) × (new ≡ Some (had ++ take n (run_line b first m written (length errors))))) → PutsLine WriteFault fits old new (line_at s bits)
  puts_first put = (fit, IfSome_then old put (λ had q. put_first new had (line_at s bits) (q.0, q.1 ∙ ap (λ (xs : List ℕ). Some (had ++ take q.0 xs)) (line_is s bits b first written errors m at f p w e))))
