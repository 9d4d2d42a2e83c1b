-- The contexts that are ready, one number after the other.
use Rattle.std.proofs.Common.{◌≡◌, ◌<◌, ◌≤◌, ℕ, ◌+◌, Bool, true, false, ◌||◌, cond, List, [], ◌∷◌, ◌++◌, length, get_or, map, append-nil, refl, sym, ap, subst, ◌∙◌, arith}
use Rattle.std.specs.Prelude.{filter}
use Rattle.std.specs.Prelude.{◌↔◌}
use Rattle.std.specs.List.{All, list_any, range_with_len}
use Rattle.std.proofs.Common.{zero, suc, length-append, take}
use Rattle.std.proofs.lemmas.List.Folds.{list_any_more}
use Rattle.std.proofs.lemmas.List.Elements.{All-push}
use Rattle.guest_contexts.specs.Standings.{IsReadyIn}
use Rattle.std.proofs.lemmas.List.FromFn.{filter_of_map_range_with_len_more}
use Rattle.emu_run.specs.Worlds.{Context, is_ready, no_context}

-- those below n
abbrev pub ready_below : List Context → ℕ → List ℕ
ready_below cs n = filter (λ k. is_ready (get_or cs k no_context)) (range_with_len 0 n)

map_same : (xs : List ℕ) → map (λ (k : ℕ). k) xs ≡ xs
map_same [] = refl
map_same (x ∷ xs) = ap (λ (l : List ℕ). x ∷ l) (map_same xs)

module _ (cs : List Context) (n : ℕ) where
  pub found_more : ready_below cs (n + 1) ≡ ready_below cs n ++ cond (is_ready (get_or cs n no_context)) (n ∷ []) []
  found_more =
      let p : ℕ → Bool = λ k. is_ready (get_or cs k no_context) in
      ap (λ (l : List ℕ). filter p l) (sym (map_same (range_with_len 0 (n + 1))))
      ∙ filter_of_map_range_with_len_more p (λ k. k) 0 n n (omega arith)
      ∙ ap (λ (l : List ℕ). filter p l ++ cond (p n) (n ∷ []) []) (map_same (range_with_len 0 n))

  pub found_here : is_ready (get_or cs n no_context) ≡ true → ready_below cs (n + 1) ≡ ready_below cs n ++ n ∷ []
  found_here h = found_more ∙ ap (λ (b : Bool). ready_below cs n ++ cond b (n ∷ []) []) h

  pub found_none : is_ready (get_or cs n no_context) ≡ false → ready_below cs (n + 1) ≡ ready_below cs n
  found_none h = found_more ∙ ap (λ (b : Bool). ready_below cs n ++ cond b (n ∷ []) []) h ∙ append-nil (ready_below cs n)

default_same : (cs : List Context) (k : ℕ) (d e : Context) → k < length cs → get_or cs k d ≡ get_or cs k e
default_same [] k d e h = absurd (omega (arith, h))
default_same (c ∷ cs) zero d e h = refl
default_same (c ∷ cs) (suc k) d e h = default_same cs k d e (omega (arith, h))

or_true : (b : Bool) → (b || true) ≡ true
or_true true = refl
or_true false = refl

or_false : (b : Bool) → (b || false) ≡ b
or_false true = refl
or_false false = refl

-- the numbers below n of those that are ready
pub record AreFound (cs : List Context) (n : ℕ) (numbers : List ℕ) : Type 0 where
  pub ready : numbers ≡ ready_below cs n
  pub few : length numbers ≤ n
  pub each : All (IsReadyIn cs) numbers
  pub some : (list_any is_ready (take n cs) ≡ true) ↔ (0 < length numbers)

module _ (cs : List Context) (n : ℕ) (numbers : List ℕ) (c : Context) (within : n < length cs) (is : c ≡ get_or cs n c) (found : AreFound cs n numbers) where
  here : c ≡ get_or cs n no_context
  here = is ∙ default_same cs n c no_context within

  pub found_one : (new : List ℕ) → is_ready c ≡ true → new ≡ numbers ++ n ∷ [] → AreFound cs (n + 1) new
  found_one new h added =
      let ready : is_ready (get_or cs n no_context) ≡ true = sym (ap is_ready here) ∙ h in
      let long : length new ≡ length numbers + 1 = ap (λ (l : List ℕ). length l) added ∙ length-append numbers (n ∷ []) in
      record {
        ready = added ∙ ap (λ (l : List ℕ). l ++ n ∷ []) found.ready ∙ sym (found_here cs n ready);
        few = let few = found.few in omega (arith, long, few);
        each = subst (λ (l : List ℕ). All (IsReadyIn cs) l) (sym added) (All-push (IsReadyIn cs) numbers n found.each (record { within = within; ready = ready }));
        some = (λ _. omega (arith, long), λ _. list_any_more is_ready cs n no_context within ∙ ap (λ (b : Bool). list_any is_ready (take n cs) || b) ready ∙ or_true (list_any is_ready (take n cs)));
      }

  pub found_other : (new : List ℕ) → is_ready c ≡ false → new ≡ numbers → AreFound cs (n + 1) new
  found_other new h same =
      let unready : is_ready (get_or cs n no_context) ≡ false = sym (ap is_ready here) ∙ h in
      let any : list_any is_ready (take (n + 1) cs) ≡ list_any is_ready (take n cs) =
      list_any_more is_ready cs n no_context within ∙ ap (λ (b : Bool). list_any is_ready (take n cs) || b) unready ∙ or_false (list_any is_ready (take n cs)) in
      subst (λ (l : List ℕ). AreFound cs (n + 1) l) (sym same) (record {
        ready = found.ready ∙ sym (found_none cs n unready);
        few = let few = found.few in omega (arith, few);
        each = found.each;
        some = (λ yes. found.some.0 (sym any ∙ yes), λ some. any ∙ found.some.1 some);
      })
