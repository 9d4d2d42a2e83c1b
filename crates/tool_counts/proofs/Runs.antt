-- What was counted of runs, and the lines of it.
use Rattle.std.proofs.Common.{◌≡◌, ◌<◌, ℕ, subst, take, get_or, length, add-one, zero, suc, ◌+◌, ◌*◌, ◌-◌, Bool, List, [], ◌∷◌, ◌++◌, codes, flat_map, map, nat_eq, if◌then◌else◌, ◌&&◌, Option, refl, sym, ap, ◌∙◌, arith}
use Rattle.std.proofs.lemmas.List.{map-append}
use Rattle.std.proofs.Math.Seq.{take-suc}
use Rattle.std.specs.Fmt.{decimal}
use Rattle.emu_model.specs.declared.trap.Ended.{Ended}
use Rattle.emu_model.specs.State.{Parts}
use Rattle.emu_run.specs.Run.{run}
use Rattle.emu_system.specs.Start.{opening, with_input}
use Rattle.command_model.specs.Sweep.{Sweep, run_at}
use Rattle.word_counts.specs.Counts.{Counts, count_at}
use Rattle.word_counts.specs.Lines.{count_lines, counts_text, hex_digits, is_unmet, lines_from, word_line}
use Rattle.run_counts.specs.Visits.{visits}
use Rattle.tool_counts.specs.Counted.{counts_at, counted_text, stop_at, stop_line, stop_lines, AreCounted, HaveCounts, IsCountedAt}
use Rattle.tool_counts.specs.declared.stops.Stopped.{Stopped}

-- ---- the run at a length

pub counted_at : (s : Sweep) (bits : ℕ) (old new : Parts) (table : Counts) (ended : Option Ended) (pc steps : ℕ) → old ≡ opening s.file s.image s.args bits s.pages
    → new ≡ (run (with_input old s.input) s.budget).parts → ((word : ℕ) → count_at table word ≡ visits word (with_input old s.input) (new.steps - old.steps))
    → ended ≡ new.ended → pc ≡ new.core.pc → steps ≡ new.steps → IsCountedAt s bits table (record { length = bits; ended = ended; pc = pc; steps = steps })
counted_at s bits old new table ended pc steps begun is counted e p n =
    let whole : new ≡ (run_at s bits).parts = is ∙ ap (λ (m : Parts). (run (with_input m s.input) s.budget).parts) begun in
    let start : old.steps ≡ 0 = ap (λ (m : Parts). m.steps) begun in
    let count : new.steps - old.steps ≡ (run_at s bits).parts.steps = (let d : new.steps - old.steps ≡ new.steps = omega (arith, start) in d) ∙ ap (λ (m : Parts). m.steps) whole in
    record {
      counts = λ word.
          counted word
          ∙ ap (λ (m : Parts). visits word (with_input m s.input) (new.steps - old.steps)) begun
          ∙ ap (λ (k : ℕ). visits word (with_input (opening s.file s.image s.args bits s.pages) s.input) k) count;
      stop = let a = e ∙ ap (λ (m : Parts). m.ended) whole in let b = p ∙ ap (λ (m : Parts). m.core.pc) whole in let d = n ∙ ap (λ (m : Parts). m.steps) whole in cc;
    }

-- ---- one run more

more_counts : (s : Sweep) (lengths : List ℕ) (tables : List Counts) (bits : ℕ) (table : Counts) → HaveCounts s lengths tables → ((word : ℕ) → count_at table word ≡ counts_at s bits word)
    → HaveCounts s (lengths ++ bits ∷ []) (tables ++ table ∷ [])
more_counts s [] [] bits table all one = (one, tt)
more_counts s [] (t ∷ tables) bits table all one = absurd all
more_counts s (b ∷ lengths) [] bits table all one = absurd all
more_counts s (b ∷ lengths) (t ∷ tables) bits table all one = (all.0, more_counts s lengths tables bits table all.1 one)

pub one_more_counted : (s : Sweep) (lengths : List ℕ) (tables : List Counts) (stops : List Stopped) (bits : ℕ) (table : Counts) (stop : Stopped) → AreCounted s lengths tables stops → IsCountedAt s bits table stop
    → AreCounted s (lengths ++ bits ∷ []) (tables ++ table ∷ []) (stops ++ stop ∷ [])
one_more_counted s lengths tables stops bits table stop all one = record {
  counts = more_counts s lengths tables bits table all.counts one.counts;
  stops = ap (λ (xs : List Stopped). xs ++ stop ∷ []) all.stops ∙ ap (λ (x : Stopped). map (stop_at s) lengths ++ x ∷ []) one.stop ∙ sym (map-append (stop_at s) lengths (bits ∷ []));
}

-- the one at a place of all lengths
pub next_counted : (s : Sweep) (all : List ℕ) (k bits d : ℕ) (tables more : List Counts) (stops later : List Stopped) (table : Counts) (stop : Stopped) → k < length all → bits ≡ get_or all k d
    → more ≡ tables ++ table ∷ [] → later ≡ stops ++ stop ∷ [] → AreCounted s (take k all) tables stops → IsCountedAt s bits table stop → AreCounted s (take (k + 1) all) more later
next_counted s all k bits d tables more stops later table stop h is t x before one =
    subst (λ (xs : List ℕ). AreCounted s xs more later) (sym (ap (λ (j : ℕ). take j all) (add-one k) ∙ take-suc all k d h ∙ ap (λ (b : ℕ). take k all ++ b ∷ []) (sym is)))
    (subst (λ (ts : List Counts). AreCounted s (take k all ++ bits ∷ []) ts later) (sym t)
    (subst (λ (xs : List Stopped). AreCounted s (take k all ++ bits ∷ []) (tables ++ table ∷ []) xs) (sym x) (one_more_counted s (take k all) tables stops bits table stop before one)))

-- ---- the same lines

same_unmet : (s : Sweep) (lengths : List ℕ) (tables : List Counts) (word : ℕ) → HaveCounts s lengths tables → is_unmet count_at tables word ≡ is_unmet (counts_at s) lengths word
same_unmet s [] [] word all = refl
same_unmet s [] (t ∷ tables) word all = absurd all
same_unmet s (b ∷ lengths) [] word all = absurd all
same_unmet s (b ∷ lengths) (t ∷ tables) word all =
    ap (λ (n : ℕ). nat_eq n 0 && is_unmet count_at tables word) (all.0 word)
    ∙ ap (λ (c : Bool). nat_eq (counts_at s b word) 0 && c) (same_unmet s lengths tables word all.1)

same_text : (s : Sweep) (lengths : List ℕ) (tables : List Counts) (word : ℕ) → HaveCounts s lengths tables → counts_text count_at tables word ≡ counts_text (counts_at s) lengths word
same_text s [] [] word all = refl
same_text s [] (t ∷ tables) word all = absurd all
same_text s (b ∷ lengths) [] word all = absurd all
same_text s (b ∷ lengths) (t ∷ tables) word all =
    ap (λ (n : ℕ). (codes " " ++ decimal n) ++ counts_text count_at tables word) (all.0 word)
    ∙ ap (λ (ys : List ℕ). (codes " " ++ decimal (counts_at s b word)) ++ ys) (same_text s lengths tables word all.1)

same_line : (s : Sweep) (lengths : List ℕ) (tables : List Counts) (word : ℕ) → HaveCounts s lengths tables → word_line count_at tables word ≡ word_line (counts_at s) lengths word
same_line s lengths tables word all =
    ap (λ (b : Bool). if b then [] else (hex_digits 16 (4 * word) ++ counts_text count_at tables word) ++ 10 ∷ []) (same_unmet s lengths tables word all)
    ∙ ap (λ (ys : List ℕ). if is_unmet (counts_at s) lengths word then [] else (hex_digits 16 (4 * word) ++ ys) ++ 10 ∷ []) (same_text s lengths tables word all)

same_lines : (s : Sweep) (lengths : List ℕ) (tables : List Counts) (word n : ℕ) → HaveCounts s lengths tables → lines_from count_at tables word n ≡ lines_from (counts_at s) lengths word n
unfolding lines_from
same_lines s lengths tables word zero all = refl
same_lines s lengths tables word (suc n) all =
    ap (λ (ys : List ℕ). ys ++ lines_from count_at tables (word + 1) n) (same_line s lengths tables word all)
    ∙ ap (λ (ys : List ℕ). word_line (counts_at s) lengths word ++ ys) (same_lines s lengths tables (word + 1) n all)

-- of so many words that the number isn't computed
pub same_counts : (s : Sweep) (lengths : List ℕ) (tables : List Counts) (n : ℕ) → HaveCounts s lengths tables → lines_from count_at tables 0 n ≡ lines_from (counts_at s) lengths 0 n
same_counts s lengths tables n all = same_lines s lengths tables 0 n all

stops_of : (headed : Bool) (s : Sweep) (lengths : List ℕ) → stop_lines headed (map (stop_at s) lengths) ≡ flat_map (λ bits. stop_line headed (stop_at s bits)) lengths
stops_of headed s [] = refl
stops_of headed s (b ∷ lengths) = ap (λ (ys : List ℕ). stop_line headed (stop_at s b) ++ ys) (stops_of headed s lengths)

-- the whole text
pub whole_text : (headed : Bool) (s : Sweep) (lengths : List ℕ) (tables : List Counts) (stops : List Stopped) → AreCounted s lengths tables stops → count_lines count_at tables ++ stop_lines headed stops ≡ counted_text s lengths headed
whole_text headed s lengths tables stops all =
    ap (λ (ys : List ℕ). ys ++ stop_lines headed stops) (same_counts s lengths tables 4611686018427387904 all.counts)
    ∙ ap (λ (xs : List Stopped). count_lines (counts_at s) lengths ++ stop_lines headed xs) all.stops
    ∙ ap (λ (ys : List ℕ). count_lines (counts_at s) lengths ++ ys) (stops_of headed s lengths)
