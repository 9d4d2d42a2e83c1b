-- The elements of one register, none of which is refused.
use Rattle.std.proofs.Common.{◌≡◌, ◌≤◌, ◌<◌, ℕ, zero, suc, ◌+◌, Bool, true, false, List, [], ◌∷◌, ◌++◌, Option, Some, None, is_some, nat_eq, if◌then◌else◌, inl, inr, refl, sym, ap, subst, ◌∙◌, add-one, arith}
use Rattle.std.proofs.lemmas.Bool.{cases_lt}
use Rattle.std.proofs.lemmas.Bool.Decides.{nat_tests}
use Rattle.emu_model.specs.declared.access.Kind.TheVariants.{Read}
use Rattle.emu_model.specs.Access.{Memory, refused}
use Rattle.emu_model.specs.Elements.{Element, Reach, reach, reach_from}
use Rattle.sve_effects.specs.FirstFault.{element_at, first_refused, first_suppressed, unsuppressed, is_refused}
use Rattle.sve_effects.specs.VectorElements.{Layout, elements_below}
use Rattle.guest_mem.specs.ReachLaws.{all_of}
use Rattle.element_loops.specs.SoFar.{element_of_lane}
use Rattle.element_loops.proofs.Lists.{one_element}
use Rattle.element_loops.proofs.Turns.{skipped, below_none}

-- ---- none is refused

pub record AreAllowed (m : Memory) (es : List Element) : Type 0 where
  pub first : first_refused m es ≡ None
  pub suppressed : first_suppressed m es ≡ None
  pub unsuppressed : unsuppressed m es ≡ es

abbrev behind_first : List Element → List Element
behind_first [] = []
behind_first (e ∷ es) = es

rest_reached : (e : Element) (es : List Element) (r : Reach) → reach_from None e r ≡ all_of (e ∷ es) → r ≡ all_of es
rest_reached e es r h = let rest : Reach → Reach = λ x. record { done = behind_first x.done; stop = x.stop } in ap rest h

pub all_allowed : (m : Memory) (es : List Element) → reach m Read es ≡ all_of es → AreAllowed m es
all_allowed m [] h = record { first = refl; suppressed = refl; unsuppressed = refl }
all_allowed m (e ∷ es) h =
    elim (refused m e.address e.bytes Read) as (λ (o : Option ℕ). refused m e.address e.bytes Read ≡ o → AreAllowed m (e ∷ es)) [
      | None ↦ λ free.
          let rest : reach m Read es ≡ all_of es = rest_reached e es (reach m Read es) (ap (λ (o : Option ℕ). reach_from o e (reach m Read es)) (sym free) ∙ h) in
          let more : AreAllowed m es = all_allowed m es rest in
          let fine : is_refused m e ≡ false = ap (λ (o : Option ℕ). is_some o) free in
          record {
            first = free;
            suppressed = ap (λ (t : Bool). if t then Some e.lane else first_suppressed m es) fine ∙ more.suppressed;
            unsuppressed = ap (λ (t : Bool). if t then unsuppressed m es else e ∷ unsuppressed m es) fine ∙ ap (λ (xs : List Element). e ∷ xs) more.unsuppressed;
          }
      | Some a ↦ λ denied.
          let bad : Some a ≡ None = ap (λ (r : Reach). r.stop) (ap (λ (o : Option ℕ). reach_from o e (reach m Read es)) (sym denied) ∙ h) in cc
    ] refl

-- ---- the element of a lane

append_miss : (xs : List Element) (e : Element) (k : ℕ) → nat_eq e.lane k ≡ false → element_at (xs ++ e ∷ []) k ≡ element_at xs k
append_miss [] e k h = ap (λ (t : Bool). if t then Some e else None) h
append_miss (x ∷ xs) e k h = ap (λ (o : Option Element). if nat_eq x.lane k then Some x else o) (append_miss xs e k h)

append_hit : (xs : List Element) (e : Element) (k : ℕ) → element_at xs k ≡ None → nat_eq e.lane k ≡ true → element_at (xs ++ e ∷ []) k ≡ Some e
append_hit [] e k none h = ap (λ (t : Bool). if t then Some e else None) h
append_hit (x ∷ xs) e k none h =
    elim (nat_eq x.lane k) as (λ t. nat_eq x.lane k ≡ t → element_at (x ∷ xs ++ e ∷ []) k ≡ Some e) [
      | true ↦ λ same. let bad : Some x ≡ None = sym (ap (λ (t : Bool). if t then Some x else element_at xs k) same) ∙ none in cc
      | false ↦ λ other.
          let later : element_at xs k ≡ None = sym (ap (λ (t : Bool). if t then Some x else element_at xs k) other) ∙ none in
          ap (λ (t : Bool). if t then Some x else element_at (xs ++ e ∷ []) k) other ∙ append_hit xs e k later h
    ] refl

same_number : (k : ℕ) → nat_eq k k ≡ true
same_number k = grind (arith, nat_tests)

other_number : (n k : ℕ) → n < k → nat_eq n k ≡ false
other_number n k h = grind (arith, nat_tests)

later_number : (n k : ℕ) → k < n → nat_eq n k ≡ false
later_number n k h = grind (arith, nat_tests)

-- the element of lane k, if it is on
abbrev pub lane_element : Layout → ℕ → Option Element
lane_element l k = if l.is_on k then Some (element_of_lane l k 0) else None

module _ (l : Layout) (one : l.registers ≡ 1) where
  none_past : (n k : ℕ) → n ≤ k → element_at (elements_below l n) k ≡ None
  none_past zero k h = ap (λ (es : List Element). element_at es k) (below_none l)
  none_past (suc n) k h =
      let step : element_at (elements_below l (n + 1)) k ≡ None = elim (l.is_on n) as (λ t. l.is_on n ≡ t → element_at (elements_below l (n + 1)) k ≡ None) [
        | true ↦ λ on. ap (λ (es : List Element). element_at es k) (one_element l n one on) ∙ append_miss (elements_below l n) (element_of_lane l n 0) k (other_number n k (omega arith)) ∙ none_past n k (omega arith)
        | false ↦ λ off. ap (λ (es : List Element). element_at es k) (skipped l n off) ∙ none_past n k (omega arith)
      ] refl in
      subst (λ n. element_at (elements_below l n) k ≡ None) (add-one n) step

  here : (n : ℕ) → element_at (elements_below l (n + 1)) n ≡ lane_element l n
  here n = elim (l.is_on n) as (λ t. l.is_on n ≡ t → element_at (elements_below l (n + 1)) n ≡ (if t then Some (element_of_lane l n 0) else None)) [
    | true ↦ λ on. ap (λ (es : List Element). element_at es n) (one_element l n one on) ∙ append_hit (elements_below l n) (element_of_lane l n 0) n (none_past n n (omega arith)) (same_number n)
    | false ↦ λ off. ap (λ (es : List Element). element_at es n) (skipped l n off) ∙ none_past n n (omega arith)
  ] refl

  later : (n k : ℕ) → k < n → element_at (elements_below l (n + 1)) k ≡ element_at (elements_below l n) k
  later n k h = elim (l.is_on n) as (λ t. l.is_on n ≡ t → element_at (elements_below l (n + 1)) k ≡ element_at (elements_below l n) k) [
    | true ↦ λ on. ap (λ (es : List Element). element_at es k) (one_element l n one on) ∙ append_miss (elements_below l n) (element_of_lane l n 0) k (later_number n k h)
    | false ↦ λ off. ap (λ (es : List Element). element_at es k) (skipped l n off)
  ] refl

  pub element_below : (n k : ℕ) → k < n → element_at (elements_below l n) k ≡ lane_element l k
  element_below zero k h = absurd (omega arith)
  element_below (suc n) k h =
      let step : element_at (elements_below l (n + 1)) k ≡ lane_element l k = elim (cases_lt k n) [
        | inl low ↦ later n k low ∙ element_below n k low
        | inr high ↦ (let same : n ≡ k = omega arith in subst (λ k. element_at (elements_below l (n + 1)) k ≡ lane_element l k) same (here n))
      ] in
      subst (λ n. element_at (elements_below l n) k ≡ lane_element l k) (add-one n) step
