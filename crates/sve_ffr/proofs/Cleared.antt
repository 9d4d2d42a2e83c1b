-- The lanes that are written aren't refused.
use Rattle.std.proofs.Common.{◌≡◌, ◌≤◌, ◌<◌, ℕ, zero, suc, ◌+◌, ◌*◌, ◌/◌, Bool, true, false, not, ◌&&◌, List, [], ◌∷◌, ◌++◌, length, get_or, Option, Some, None, nat_eq, nat_lt, inl, inr, if◌then◌else◌, refl, sym, ap, subst, ◌∙◌, arith}
use Rattle.std.proofs.lemmas.Bool.{both_ways, cases_lt, eqb-true}
use Rattle.std.proofs.lemmas.Bool.Decides.{nat_tests}
use Rattle.std.proofs.lemmas.List.{get_or_past, map-append}
use Rattle.emu_model.specs.Access.{Memory, value}
use Rattle.emu_model.specs.Elements.{Element}
use Rattle.emu_model.specs.Lists.{each}
use Rattle.emu_model.specs.ListLaws.{length-each, get_or-each}
use Rattle.emu_model.specs.Active.{active}
use Rattle.sve_effects.proofs.Found.{first_found}
use Rattle.sve_effects.specs.Lane.{extended_by}
use Rattle.sve_effects.specs.FirstFault.{element_at, first_suppressed, is_refused, cleared_from, first_cleared, is_before, loaded_from}
use Rattle.sve_effects.specs.FirstLast.{first_where}
use Rattle.sve_effects.specs.FirstLastLaws.{IsFirst, IsFirstWhere, MeetsNowhere}
use Rattle.sve_effects.specs.VectorElements.{Layout, elements_below}
use Rattle.element_loops.specs.SoFar.{element_of_lane}
use Rattle.element_loops.proofs.Lists.{one_element}
use Rattle.element_loops.proofs.Turns.{skipped, below_none}
use Rattle.sve_ffr.specs.Taking.{AreFrom, lane_numbers, taken_value}
use Rattle.sve_ffr.proofs.Takes.{before_none}

-- ---- the first that is refused

pub record Suppresses (m : Memory) (es : List Element) (n k : ℕ) : Type 0 where
  pub at : ℕ
  pub is : first_suppressed m es ≡ Some at
  pub before : at ≤ k
  pub within : at < n

starts_before : (e : Element) (es : List Element) (n k : ℕ) (x : Element) → AreFrom (e.lane + 1) n (lane_numbers es) → (if nat_eq e.lane k then Some e else element_at es k) ≡ Some x → e.lane ≤ k
starts_before e es n k x from h = elim (cases_lt k (e.lane + 1)) [
  | inl early ↦ elim (nat_eq e.lane k) as (λ t. nat_eq e.lane k ≡ t → e.lane ≤ k) [
    | true ↦ λ same. let q : e.lane ≡ k = eqb-true e.lane k same in omega arith
    | false ↦ λ other.
        let none : element_at es k ≡ None = before_none es (e.lane + 1) n k from early in
        let bad : None ≡ Some x = sym (ap (λ (t : Bool). if t then Some e else element_at es k) other ∙ none) ∙ h in cc
  ] refl
  | inr late ↦ omega arith
]

pub refused_first : (es : List Element) (m : Memory) (s n k : ℕ) (x : Element) → AreFrom s n (lane_numbers es) → element_at es k ≡ Some x → is_refused m x ≡ true → Suppresses m es n k
refused_first [] m s n k x from at refused = let bad : None ≡ Some x = at in cc
refused_first (e ∷ es) m s n k x from at refused =
    elim (is_refused m e) as (λ t. is_refused m e ≡ t → Suppresses m (e ∷ es) n k) [
      | true ↦ λ first. record {
        at = e.lane;
        is = ap (λ (t : Bool). if t then Some e.lane else first_suppressed m es) first;
        before = starts_before e es n k x from.2 at;
        within = from.1;
      }
      | false ↦ λ fine. elim (nat_eq e.lane k) as (λ t. nat_eq e.lane k ≡ t → Suppresses m (e ∷ es) n k) [
        | true ↦ λ same.
            let here : Some e ≡ Some x = sym (ap (λ (t : Bool). if t then Some e else element_at es k) same) ∙ at in
            let it : e ≡ x = cc in
            absurd (both_ways (is_refused m e) fine (ap (is_refused m) it ∙ refused))
        | false ↦ λ other.
            let later : element_at es k ≡ Some x = sym (ap (λ (t : Bool). if t then Some e else element_at es k) other) ∙ at in
            let rest : Suppresses m es n k = refused_first es m (e.lane + 1) n k x from.2 later refused in
            record { at = rest.at; is = ap (λ (t : Bool). if t then Some e.lane else first_suppressed m es) fine ∙ rest.is; before = rest.before; within = rest.within }
      ] refl
    ] refl

-- ---- its bit is cleared

with_false : (b : Bool) → b && false ≡ false
with_false true = refl
with_false false = refl

not_below : (a : ℕ) → nat_lt a a ≡ false
not_below a = grind (arith, nat_tests)

pub bit_cleared : (e q : ℕ) (ffr : List Bool) → active e (cleared_from e (Some q) ffr) q ≡ false
bit_cleared e q ffr =
    let a : ℕ = q * (e / 8) in
    let f : ℕ → Bool = λ j. get_or ffr j false && nat_lt j (q * (e / 8)) in
    elim (cases_lt (q * (e / 8)) (length ffr)) [
      | inl within ↦ get_or-each (length ffr) f (q * (e / 8)) false within ∙ ap (λ (b : Bool). get_or ffr (q * (e / 8)) false && b) (not_below (q * (e / 8))) ∙ with_false (get_or ffr (q * (e / 8)) false)
      | inr past ↦
          let count : length (each (length ffr) f) ≡ length ffr = length-each (length ffr) f in
          get_or_past (each (length ffr) f) (q * (e / 8)) false (omega arith)
    ]

above : (g k : ℕ) → g ≤ k → nat_lt k g ≡ false
above g k h = grind (arith, nat_tests)

met : (b : Bool) → b ≡ true → b ≡ false → ⊥
met b p q = both_ways b q p

pub behind_first : (n : ℕ) (test : ℕ → Bool) (q k : ℕ) → q < n → test q ≡ true → q ≤ k → is_before (first_where n test) k ≡ false
behind_first n test q k within meets le =
    elim (first_where n test) as (λ (o : Option ℕ). IsFirstWhere n test o → is_before o k ≡ false) [
      | None ↦ λ f. let g : MeetsNowhere n test = f in absurd (met (test q) meets (g q within))
      | Some i ↦ λ f. let g : IsFirst n test i = f in
          elim (cases_lt q i) [
            | inl early ↦ absurd (met (test q) meets (g.before q early))
            | inr late ↦ above i k (omega arith)
          ]
    ] (first_found n test)

-- ---- so a lane before the first cleared bit has what was loaded

pub lanes_agree : (s : Bool) (e n : ℕ) (m : Memory) (es : List Element) (ffr : List Bool) (k : ℕ) → AreFrom 0 n (lane_numbers es)
    → is_before (first_cleared e (cleared_from e (first_suppressed m es) ffr) n) k ≡ true → taken_value s e m (element_at es k) ≡ loaded_from s e m (element_at es k)
lanes_agree s e n m es ffr k from before =
    elim (element_at es k) as (λ (o : Option Element). element_at es k ≡ o → taken_value s e m o ≡ loaded_from s e m o) [
      | None ↦ λ at. refl
      | Some x ↦ λ at. elim (is_refused m x) as (λ t. is_refused m x ≡ t → (if t then 0 else extended_by s e (8 * x.bytes) (value m x.address x.bytes)) ≡ extended_by s e (8 * x.bytes) (value m x.address x.bytes)) [
        | false ↦ λ fine. refl
        | true ↦ λ bad.
            let h : Suppresses m es n k = refused_first es m 0 n k x from at bad in
            let cleared : active e (cleared_from e (first_suppressed m es) ffr) h.at ≡ false = ap (λ (o : Option ℕ). active e (cleared_from e o ffr) h.at) h.is ∙ bit_cleared e h.at ffr in
            let behind : is_before (first_cleared e (cleared_from e (first_suppressed m es) ffr) n) k ≡ false
            = behind_first n (λ j. not (active e (cleared_from e (first_suppressed m es) ffr) j)) h.at k h.within (ap (λ (b : Bool). not b) cleared) h.before in
            absurd (both_ways (is_before (first_cleared e (cleared_from e (first_suppressed m es) ffr) n) k) behind before)
      ] refl
    ] refl

-- ---- the lanes of a layout are in order

from_append : (qs : List ℕ) (s k : ℕ) → s ≤ k → AreFrom s k qs → AreFrom s (k + 1) (qs ++ k ∷ [])
from_append [] s k le h = (le, omega arith, tt)
from_append (q ∷ qs) s k le h = let small : q < k = h.1 in (h.0, omega arith, from_append qs (q + 1) k (omega arith) h.2)

from_more : (qs : List ℕ) (s k : ℕ) → AreFrom s k qs → AreFrom s (k + 1) qs
from_more [] s k h = tt
from_more (q ∷ qs) s k h = let small : q < k = h.1 in (h.0, omega arith, from_more qs (q + 1) k h.2)

pub below_from : (k : ℕ) (l : Layout) → l.registers ≡ 1 → AreFrom 0 k (lane_numbers (elements_below l k))
below_from zero l one = subst (λ (es : List Element). AreFrom 0 0 (lane_numbers es)) (sym (below_none l)) tt
below_from (suc k) l one =
    let so_far : AreFrom 0 k (lane_numbers (elements_below l k)) = below_from k l one in
    let next : k + 1 ≡ suc k = omega arith in
    let step : AreFrom 0 (k + 1) (lane_numbers (elements_below l (k + 1))) = elim (l.is_on k) as (λ t. l.is_on k ≡ t → AreFrom 0 (k + 1) (lane_numbers (elements_below l (k + 1)))) [
      | true ↦ λ on.
          let is : lane_numbers (elements_below l (k + 1)) ≡ lane_numbers (elements_below l k) ++ k ∷ []
          = ap lane_numbers (one_element l k one on) ∙ map-append (λ (e : Element). e.lane) (elements_below l k) (element_of_lane l k 0 ∷ []) in
          subst (λ qs. AreFrom 0 (k + 1) qs) (sym is) (from_append (lane_numbers (elements_below l k)) 0 k (omega arith) so_far)
      | false ↦ λ off. subst (λ (es : List Element). AreFrom 0 (k + 1) (lane_numbers es)) (sym (skipped l k off)) (from_more (lane_numbers (elements_below l k)) 0 k so_far)
    ] refl in
    subst (λ n. AreFrom 0 n (lane_numbers (elements_below l n))) next step
