-- The lines of the lengths so far, and of one more.
use Rattle.std.proofs.Common.{◌≡◌, ◌<◌, ◌+◌, ◌*◌, ℕ, true, false, List, [], ◌++◌, Option, Some, None, IfSome, refl, sym, ap, subst, ◌∙◌, append-nil, append_assoc, arith}
use Rattle.std.proofs.lemmas.Option.{IfSome_then}
use Rattle.emu_model.specs.State.{IsPrefix}
use Rattle.emu_run.specs.RunLaws.{prefix_trans}
use Rattle.emu_system.specs.Gained.{Gains, GainedFirst}
use Rattle.command_model.specs.Sweep.{Sweep, fits, fits_at, line_at, sweep_text, text_before}
use Rattle.command_model.specs.SweepLaws.{first_fit, first_lines, fit_more, lines_first, lines_more, lines_until, lines_whole, unfit_at}
use Rattle.vl_sweep.specs.Sweeps.{PutsLine, is_broken_off, is_stopped}
use Rattle.vl_sweep.specs.declared.lengths.SweepEnd.{SweepEnd}
use Rattle.vl_sweep.specs.declared.lengths.SweepEnd.TheVariants.{Done, TooLong, WriteFault, OutOfMemory}

-- the output gained the lines of the first lengths, so many of them
abbrev pub HasLines : Sweep → ℕ → Option (List ℕ) → Option (List ℕ) → Type 0
HasLines s n old new = IfSome old (λ had. new ≡ Some (had ++ first_lines s n))

pub no_lines : (s : Sweep) (held : Option (List ℕ)) → HasLines s 0 held held
no_lines s None = tt
no_lines s (Some had) = ap (λ (xs : List ℕ). Some xs) (sym (append-nil had))

-- what holds of a sink that is known to hold this
at_held : (mid : Option (List ℕ)) (was : List ℕ) (P : List ℕ → Type 0) → mid ≡ Some was → IfSome mid P → P was
at_held mid was P is p = subst (λ (o : Option (List ℕ)). IfSome o P) is p

-- first bytes of a line behind other lines
behind_lines : (new : Option (List ℕ)) (had lines line text : List ℕ) → IsPrefix (lines ++ line) text → GainedFirst new (had ++ lines) line → GainedFirst new had text
behind_lines new had lines line text first g = record {
  gained = lines ++ g.gained;
  is = g.is ∙ ap (λ (xs : List ℕ). Some xs) (append_assoc had lines g.gained);
  first = prefix_trans (lines ++ g.gained) (lines ++ line) text (g.first.0, ap (λ (xs : List ℕ). lines ++ xs) g.first.1 ∙ sym (append_assoc lines g.gained g.first.0)) first;
}

module _ (s : Sweep) (n : ℕ) (lt : n < 16) (all : first_fit s n ≡ true) (old mid new : Option (List ℕ)) (so_far : HasLines s n old mid) (bits : ℕ) (at : bits ≡ 128 * (n + 1)) where
  -- what a length puts, by its number
  abbrev Puts : ℕ → SweepEnd → Type 0
  Puts b end = PutsLine end (fits_at s b) mid new (line_at s b)

  moved : (end : SweepEnd) → Puts bits end → Puts (128 * (n + 1)) end
  moved end put = subst (λ (b : ℕ). Puts b end) at put

  -- one more
  one_more : Puts (128 * (n + 1)) Done → HasLines s (n + 1) old new
  one_more put = IfSome_then old so_far (λ had is.
      at_held mid (had ++ first_lines s n) (λ was. new ≡ Some (was ++ line_at s (128 * (n + 1)))) is put.1
      ∙ ap (λ (xs : List ℕ). Some xs) (append_assoc had (first_lines s n) (line_at s (128 * (n + 1))) ∙ ap (λ (xs : List ℕ). had ++ xs) (sym (lines_more s n))))

  pub going : (end : SweepEnd) → is_stopped end ≡ false → Puts bits end → HasLines s (n + 1) old new
  going Done goes put = one_more (moved Done put)
  going end goes put = cc

  pub going_fit : (end : SweepEnd) → is_stopped end ≡ false → Puts bits end → first_fit s (n + 1) ≡ true
  going_fit Done goes put = fit_more s n all (moved Done put).0
  going_fit end goes put = cc

  -- the last, or none
  by_end : (end : SweepEnd) → is_stopped end ≡ true → Puts (128 * (n + 1)) end → IfSome old (λ had. Gains (is_broken_off end) new had (text_before s))
  by_end Done other put = cc
  by_end TooLong other put = IfSome_then old so_far (λ had is. put.1 ∙ is ∙ ap (λ (xs : List ℕ). Some (had ++ xs)) (sym (lines_until s n lt all put.0)))
  by_end WriteFault other put = IfSome_then old so_far (λ had is.
      behind_lines new had (first_lines s n) (line_at s (128 * (n + 1))) (text_before s)
      (subst (λ (xs : List ℕ). IsPrefix xs (text_before s)) (lines_more s n) (lines_first s (n + 1) (omega arith) (fit_more s n all put.0)))
      (at_held mid (had ++ first_lines s n) (λ was. GainedFirst new was (line_at s (128 * (n + 1)))) is put.1))
  by_end OutOfMemory other put = IfSome_then old so_far (λ had is. record { gained = first_lines s n; is = put ∙ is; first = lines_first s n (omega arith) all })

  pub stopped : (end : SweepEnd) → is_stopped end ≡ true → Puts bits end → IfSome old (λ had. Gains (is_broken_off end) new had (text_before s))
  stopped end stops put = by_end end stops (moved end put)

  -- a stream was too long
  pub unfit : (end : SweepEnd) → end ≡ TooLong → Puts bits end → fits s ≡ false
  unfit end is put = unfit_at s n lt (subst (λ (e : SweepEnd). Puts (128 * (n + 1)) e) is (moved end put)).0

-- all sixteen
pub all_fit : (s : Sweep) (n : ℕ) → n ≡ 16 → first_fit s n ≡ true → fits s ≡ true
all_fit s n at all = subst (λ (k : ℕ). first_fit s k ≡ true) at all

sixteen_lines : (s : Sweep) (old new : Option (List ℕ)) → first_fit s 16 ≡ true → HasLines s 16 old new → IfSome old (λ had. new ≡ Some (had ++ text_before s))
sixteen_lines s old new all lines = IfSome_then old lines (λ had is. is ∙ ap (λ (xs : List ℕ). Some (had ++ xs)) (sym (lines_whole s all)))

-- a sweep that came to its end gained the whole text
pub whole_text : (s : Sweep) (old new : Option (List ℕ)) (end : SweepEnd) → end ≡ Done → (end ≡ Done → fits s ≡ true) → IfSome old (λ had. Gains (is_broken_off end) new had (text_before s)) → IfSome old (λ had. new ≡ Some (had ++ sweep_text s))
whole_text s old new end is fit gains =
    IfSome_then old (subst (λ (e : SweepEnd). IfSome old (λ had. Gains (is_broken_off e) new had (text_before s))) is gains)
    (λ had all. all ∙ ap (λ (xs : List ℕ). Some (had ++ xs)) (lines_whole s (fit is)))

pub done_is : (end : SweepEnd) → is_stopped end ≡ false → end ≡ Done
done_is Done goes = refl
done_is end goes = cc

pub writes_not : (end : SweepEnd) → is_stopped end ≡ false → end ≡ WriteFault → ⊥
writes_not end goes is = let e : false ≡ true = sym goes ∙ ap is_stopped is in cc

pub all_lines : (s : Sweep) (n : ℕ) (old new : Option (List ℕ)) → n ≡ 16 → first_fit s n ≡ true → HasLines s n old new → IfSome old (λ had. new ≡ Some (had ++ text_before s))
all_lines s n old new at all lines = sixteen_lines s old new (all_fit s n at all) (subst (λ (k : ℕ). HasLines s k old new) at lines)

-- no line was put
pub none_put : (held : Option (List ℕ)) (text : List ℕ) → IfSome held (λ had. GainedFirst held had text)
none_put None text = tt
none_put (Some had) text = record { gained = []; is = ap (λ (xs : List ℕ). Some xs) (sym (append-nil had)); first = (text, refl) }
