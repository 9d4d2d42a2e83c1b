-- Elements that are read as bytes.
use Rattle.std.proofs.Common.{◌≡◌, ◌<◌, ◌≤◌, ◌+◌, ◌-◌, ◌*◌, ◌/◌, ℕ, zero, suc, Bool, true, false, if◌then◌else◌, List, [], ◌∷◌, ◌++◌, get_or, length, Option, Some, None, inl, inr, refl, sym, ap, subst, ◌∙◌, add-one, arith}
use Rattle.std.proofs.lemmas.Bool.{cases_lt}
use Rattle.emu_model.specs.declared.access.Kind.{Kind}
use Rattle.emu_model.specs.Access.{Memory, address, allowed, byte_at, refused, value}
use Rattle.emu_model.specs.AccessEquations.{refused-zero, refused-suc, value-zero, value-suc}
use Rattle.emu_model.specs.AccessLaws.{refused_split, refused_first, length_bytes_at}
use Rattle.emu_model.specs.Elements.{Element, Reach, reach, reach_from}
use Rattle.emu_model.specs.ListLaws.{each_same}
use Rattle.emu_model.specs.Pages.{bytes_at}
use Rattle.emu_model.specs.PageEquations.{bytes_at-suc}
use Rattle.emu_model.specs.WithinPage.{number_in}
use Rattle.emu_model.specs.LaneSizes.{IsLaneSize}
use Rattle.sve_effects.specs.VectorElements.{Layout, elements_below, elements_of}
use Rattle.guest_mem.specs.ReachLaws.{all_of, goes_on, reach_append}
use Rattle.element_loops.specs.SoFar.{element_of_lane, elements_within}
use Rattle.element_loops.proofs.Turns.{below_none, within_none, within_more, within_all, skipped, given_by_itself}

-- ---- addresses that are the same modulo 2^64

pub refused_same : (n : ℕ) (m : Memory) (a b : ℕ) (kind : Kind) → address a ≡ address b → refused m a n kind ≡ refused m b n kind
refused_same zero m a b kind h = refused-zero m a kind ∙ sym (refused-zero m b kind)
refused_same (suc n) m a b kind h =
    let next : address (a + 1) ≡ address (b + 1) = omega arith in
    refused-suc m a n kind
    ∙ ap (λ x. if allowed m kind x then refused m (a + 1) n kind else Some x) h
    ∙ ap (λ (o : Option ℕ). if allowed m kind (address b) then o else Some (address b)) (refused_same n m (a + 1) (b + 1) kind next)
    ∙ sym (refused-suc m b n kind)

value_same : (n : ℕ) (m : Memory) (a b : ℕ) → address a ≡ address b → value m a n ≡ value m b n
value_same zero m a b h = value-zero m a ∙ sym (value-zero m b)
value_same (suc n) m a b h =
    let next : address (a + 1) ≡ address (b + 1) = omega arith in
    value-suc m a n
    ∙ ap (λ x. byte_at m x + 256 * value m (a + 1) n) h
    ∙ ap (λ x. byte_at m (address b) + 256 * x) (value_same n m (a + 1) (b + 1) next)
    ∙ sym (value-suc m b n)

again : (a : ℕ) → address (address a) ≡ address a
again a = omega arith

-- ---- a part of what isn't refused isn't refused

first_part : (l n : ℕ) (m : Memory) (a : ℕ) (kind : Kind) → refused m a (l + n) kind ≡ None → refused m a l kind ≡ None
first_part l n m a kind h = elim (refused m a l kind) as (λ o. refused m a l kind ≡ o → o ≡ None) [
  | None ↦ λ e. refl
  | Some x ↦ λ e. let f : None ≡ Some x = sym h ∙ refused_first l n m a kind x e in cc
] refl

pub part_allowed : (m : Memory) (a total i n : ℕ) (kind : Kind) → refused m a total kind ≡ None → i + n ≤ total → refused m (address (a + i)) n kind ≡ None
part_allowed m a total i n kind h fits =
    let d : total ≡ i + (n + (total - (i + n))) = omega arith in
    let whole : refused m a (i + (n + (total - (i + n)))) kind ≡ None = subst (λ t. refused m a t kind ≡ None) d h in
    let front : refused m a i kind ≡ None = first_part i (n + (total - (i + n))) m a kind whole in
    let rest : refused m (a + i) (n + (total - (i + n))) kind ≡ None = sym (refused_split i (n + (total - (i + n))) m a kind front) ∙ whole in
    refused_same n m (address (a + i)) (a + i) kind (again (a + i)) ∙ first_part n (total - (i + n)) m (a + i) kind rest

-- ---- the number of some of the bytes

pub nth_byte : (n i : ℕ) (m : Memory) (a : ℕ) → i < n → get_or (bytes_at m a n) i 0 ≡ byte_at m (address (a + i))
nth_byte zero i m a h = absurd (omega arith)
nth_byte (suc n) zero m a h = let e : a ≡ a + 0 = omega arith in ap (λ (bs : List ℕ). get_or bs 0 0) (bytes_at-suc m a n) ∙ ap (λ x. byte_at m (address x)) e
nth_byte (suc n) (suc i) m a h =
    let e : a + 1 + i ≡ a + suc i = omega arith in
    ap (λ (bs : List ℕ). get_or bs (suc i) 0) (bytes_at-suc m a n) ∙ nth_byte n i m (a + 1) (omega arith) ∙ ap (λ x. byte_at m (address x)) e

part_value : (n i total : ℕ) (m : Memory) (a : ℕ) → i + n ≤ total → value m (a + i) n ≡ number_in (bytes_at m a total) i n
part_value zero i total m a h = value-zero m (a + i)
part_value (suc n) i total m a h =
    let e : a + i + 1 ≡ a + (i + 1) = omega arith in
    value-suc m (a + i) n
    ∙ ap (λ b. b + 256 * value m (a + i + 1) n) (sym (nth_byte total i m a (omega arith)))
    ∙ ap (λ x. get_or (bytes_at m a total) i 0 + 256 * value m x n) e
    ∙ ap (λ v. get_or (bytes_at m a total) i 0 + 256 * v) (part_value n (i + 1) total m a (omega arith))

pub element_value : (m : Memory) (a total i n : ℕ) → i + n ≤ total → value m (address (a + i)) n ≡ number_in (bytes_at m a total) i n
element_value m a total i n h = value_same n m (address (a + i)) (a + i) (again (a + i)) ∙ part_value n i total m a h

-- ---- no element is refused

reach_both : (m : Memory) (kind : Kind) (xs ys : List Element) → reach m kind xs ≡ all_of xs → reach m kind ys ≡ all_of ys → reach m kind (xs ++ ys) ≡ all_of (xs ++ ys)
reach_both m kind xs ys h i = reach_append m kind xs ys ∙ ap (λ (r : Reach). goes_on r.stop r.done (reach m kind ys)) h ∙ ap (λ (r : Reach). goes_on None xs r) i

pub reach_single : (m : Memory) (kind : Kind) (e : Element) → refused m e.address e.bytes kind ≡ None → reach m kind (e ∷ []) ≡ all_of (e ∷ [])
reach_single m kind e h = ap (λ (o : Option ℕ). reach_from o e (all_of [])) h

module _ (l : Layout) (m : Memory) (kind : Kind) (free : (k j : ℕ) → k < l.lanes → j < l.registers → refused m (l.address k j) l.bytes kind ≡ None) where
  reached_within : (k : ℕ) → k < l.lanes → reach m kind (elements_below l k) ≡ all_of (elements_below l k) → (j : ℕ) → j ≤ l.registers → reach m kind (elements_within l k j) ≡ all_of (elements_within l k j)
  reached_within k b h zero c = subst (λ (es : List Element). reach m kind es ≡ all_of es) (sym (within_none l k)) h
  reached_within k b h (suc j) c =
      subst (λ (es : List Element). reach m kind es ≡ all_of es) (sym (within_more l k j) ∙ ap (λ j. elements_within l k j) (add-one j))
      (reach_both m kind (elements_within l k j) (element_of_lane l k j ∷ []) (reached_within k b h j (omega arith)) (reach_single m kind (element_of_lane l k j) (free k j b (omega arith))))

  reached_below : (k : ℕ) → k ≤ l.lanes → reach m kind (elements_below l k) ≡ all_of (elements_below l k)
  reached_below zero h = subst (λ (es : List Element). reach m kind es ≡ all_of es) (sym (below_none l)) refl
  reached_below (suc k) h =
      let so_far : reach m kind (elements_below l k) ≡ all_of (elements_below l k) = reached_below k (omega arith) in
      let more : (t : Bool) → l.is_on k ≡ t → reach m kind (elements_below l (k + 1)) ≡ all_of (elements_below l (k + 1))
      = λ t. elim t as (λ t. l.is_on k ≡ t → reach m kind (elements_below l (k + 1)) ≡ all_of (elements_below l (k + 1))) [
        | true ↦ λ on. subst (λ (es : List Element). reach m kind es ≡ all_of es) (within_all l k on) (reached_within k (omega arith) so_far l.registers (omega arith))
        | false ↦ λ off. subst (λ (es : List Element). reach m kind es ≡ all_of es) (sym (skipped l k off)) so_far
      ] in
      subst (λ k. reach m kind (elements_below l k) ≡ all_of (elements_below l k)) (add-one k) (more (l.is_on k) refl)

  pub all_reached : reach m kind (elements_of l) ≡ all_of (elements_of l)
  all_reached = reached_below l.lanes (omega arith)

-- ---- sizes

pub some_bytes : (e : ℕ) → IsLaneSize e → 0 < e / 8
some_bytes e (inl s) = rw s (omega arith)
some_bytes e (inr (inl s)) = rw s (omega arith)
some_bytes e (inr (inr (inl s))) = rw s (omega arith)
some_bytes e (inr (inr (inr s))) = rw s (omega arith)

-- ---- bytes in two pages

pub joined_allowed : (m : Memory) (kind : Kind) (base total first rest at : ℕ) → refused m base first kind ≡ None → refused m at rest kind ≡ None → at ≡ address (base + first) → first ≤ total → rest ≤ total - first → total ≤ first + rest
    → refused m base total kind ≡ None
joined_allowed m kind base total first rest at h i is few fewer most =
    let e : total ≡ first + rest = omega arith in
    let same : address (base + first) ≡ address at = again (base + first) ∙ ap address (sym is) in
    ap (λ n. refused m base n kind) e ∙ refused_split first rest m base kind h ∙ refused_same rest m (base + first) at kind same ∙ i
  where
    again : (a : ℕ) → address a ≡ address (address a)
    again a = omega arith

pub joined_bytes : (m : Memory) (base total first rest at : ℕ) (one two : List ℕ) → at ≡ address (base + first) → first ≤ total → rest ≤ total - first → total ≤ first + rest
    → ((j : ℕ) → j < first → get_or one (0 + j) 0 ≡ get_or (bytes_at m base first) j 0)
    → ((j : ℕ) → j < first → get_or two j 0 ≡ get_or one j 0)
    → ((j : ℕ) → j < rest → get_or two (first + j) 0 ≡ get_or (bytes_at m at rest) j 0)
    → (j : ℕ) → j < total → get_or two j 0 ≡ get_or (bytes_at m base total) j 0
joined_bytes m base total first rest at one two is few fewer most near kept far j b = elim (cases_lt j first) [
  | inl h ↦ (let z : j ≡ 0 + j = omega arith in kept j h ∙ ap (λ k. get_or one k 0) z ∙ near j h ∙ nth_byte first j m base h ∙ sym (nth_byte total j m base b))
  | inr h ↦
      (let s : j ≡ first + (j - first) = omega arith in
      let c : j - first < rest = omega arith in
      let same : address (at + (j - first)) ≡ address (base + j) = omega (arith, is) in
      ap (λ k. get_or two k 0) s ∙ far (j - first) c ∙ nth_byte rest (j - first) m at c ∙ ap (byte_at m) same ∙ sym (nth_byte total j m base b))
]

pub same_bytes : (m : Memory) (base total : ℕ) (bs : List ℕ) → length bs ≡ total → ((j : ℕ) → j < total → get_or bs j 0 ≡ get_or (bytes_at m base total) j 0) → bs ≡ bytes_at m base total
same_bytes m base total bs long same =
    given_by_itself bs total long ∙ each_same total (λ k. get_or bs k 0) (λ k. get_or (bytes_at m base total) k 0) 0 same ∙ sym (given_by_itself (bytes_at m base total) total (length_bytes_at total m base))
