-- What is known of contexts, and stays so where registers are exchanged or monitors are emptied.
use Rattle.std.proofs.Common.{◌≡◌, ◌<◌, ℕ, zero, suc, Bool, true, false, ◌||◌, is_some, List, [], ◌∷◌, length, get_or, map, set, refl, sym, ap, subst, ◌∙◌}
use Rattle.std.specs.Prelude.{◌↔◌}
use Rattle.std.specs.List.{list_any, range_with_len}
use Rattle.std.proofs.lemmas.Bool.{or_parts}
use Rattle.std.proofs.lemmas.List.{length-map, length-set}
use Rattle.emu_model.specs.State.{Parts}
use Rattle.emu_run.specs.Worlds.{Context, is_ready, no_context}
use Rattle.guest_contexts.specs.Laid.{laid, with_machine}
use Rattle.guest_contexts.specs.Standings.{AreReady, has_monitor, ready_among}
use Rattle.guest_contexts.proofs.Laid.{filter_of}
use Rattle.guest_contexts.proofs.Lists.{filter_same, same_any, same_at}

-- ---- the numbers of those that are ready

-- one replaced by another that is ready where it was
pub ready_set : (k : ℕ) (cs : List Context) (c : Context) (numbers : List ℕ) → is_ready c ≡ is_ready (get_or cs k no_context) → AreReady cs numbers → AreReady (set cs k c) numbers
ready_set k cs c numbers stands h = record {
  ready = h.ready ∙ sym (
      filter_same (λ i. is_ready (get_or (set cs k c) i no_context)) (λ i. is_ready (get_or cs i no_context)) (λ i. same_at is_ready no_context cs k i c stands) (range_with_len 0 (length (set cs k c)))
      ∙ ap (λ (n : ℕ). filter_of cs n) (length-set cs k c));
  each = λ i d below.
      let at = h.each i d below in
      record {
        within = subst (λ (n : ℕ). get_or numbers i d < n) (sym (length-set cs k c)) at.within;
        ready = same_at is_ready no_context cs k (get_or numbers i d) c stands ∙ at.ready;
      };
  some = subst (λ (b : Bool). (b ≡ true) ↔ (0 < length numbers)) (sym (same_any is_ready no_context cs k c stands)) h.some;
}

pub ready_laid : (m : Parts) (k : ℕ) (cs : List Context) (numbers : List ℕ) → AreReady cs numbers → AreReady (laid m k cs) numbers
ready_laid m k cs numbers h = ready_set k cs (with_machine (get_or cs k no_context) m) numbers refl h

-- a change of each context by which it stands as before
module _ (f : Context → Context) (stands : (c : Context) → is_ready (f c) ≡ is_ready c) where
  ready_at : (cs : List Context) (k : ℕ) → is_ready (get_or (map f cs) k no_context) ≡ is_ready (get_or cs k no_context)
  ready_at [] k = refl
  ready_at (c ∷ cs) zero = stands c
  ready_at (c ∷ cs) (suc k) = ready_at cs k

  some_ready : (cs : List Context) → list_any is_ready (map f cs) ≡ list_any is_ready cs
  some_ready [] = refl
  some_ready (c ∷ cs) = ap (λ (b : Bool). b || list_any is_ready (map f cs)) (stands c) ∙ ap (λ (b : Bool). is_ready c || b) (some_ready cs)

  among : (cs : List Context) → ready_among (map f cs) ≡ ready_among cs
  among cs =
      filter_same (λ k. is_ready (get_or (map f cs) k no_context)) (λ k. is_ready (get_or cs k no_context)) (ready_at cs) (range_with_len 0 (length (map f cs)))
      ∙ ap (λ (n : ℕ). filter_of cs n) (length-map cs f)

  pub ready_mapped : (cs : List Context) (numbers : List ℕ) → AreReady cs numbers → AreReady (map f cs) numbers
  ready_mapped cs numbers h = record {
    ready = h.ready ∙ sym (among cs);
    each = λ i d below.
        let at = h.each i d below in
        record {
          within = subst (λ (n : ℕ). get_or numbers i d < n) (sym (length-map cs f)) at.within;
          ready = ready_at cs (get_or numbers i d) ∙ at.ready;
        };
    some = subst (λ (b : Bool). (b ≡ true) ↔ (0 < length numbers)) (sym (some_ready cs)) h.some;
  }

-- ---- contexts of which none has a monitor

-- one replaced by another that has none
pub unwatched_set : (k : ℕ) (cs : List Context) (c : Context) → list_any has_monitor cs ≡ false → has_monitor c ≡ false → list_any has_monitor (set cs k c) ≡ false
unwatched_set zero [] c h none = refl
unwatched_set (suc k) [] c h none = refl
unwatched_set zero (x ∷ cs) c h none =
    let both = or_parts (has_monitor x) (list_any has_monitor cs) h in ap (λ (b : Bool). b || list_any has_monitor cs) none ∙ both.1
unwatched_set (suc k) (x ∷ cs) c h none =
    let both = or_parts (has_monitor x) (list_any has_monitor cs) h in ap (λ (b : Bool). b || list_any has_monitor (set cs k c)) both.0 ∙ unwatched_set k cs c both.1 none

pub unwatched_laid : (m : Parts) (k : ℕ) (cs : List Context) → list_any has_monitor cs ≡ false → is_some m.core.monitor ≡ false → list_any has_monitor (laid m k cs) ≡ false
unwatched_laid m k cs h none = unwatched_set k cs (with_machine (get_or cs k no_context) m) h none

pub unwatched_at : (cs : List Context) (k : ℕ) → list_any has_monitor cs ≡ false → has_monitor (get_or cs k no_context) ≡ false
unwatched_at [] k h = refl
unwatched_at (c ∷ cs) zero h = (or_parts (has_monitor c) (list_any has_monitor cs) h).0
unwatched_at (c ∷ cs) (suc k) h = unwatched_at cs k (or_parts (has_monitor c) (list_any has_monitor cs) h).1
