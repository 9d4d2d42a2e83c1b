-- Steps of the loop over lanes that takes the elements of a list.
use Rattle.std.proofs.Common.{◌*◌, ◌≡◌, ◌≤◌, ◌<◌, ℕ, ◌+◌, Bool, true, false, List, [], ◌∷◌, ◌++◌, length, get_or, Option, Some, None, is_some, nat_eq, if◌then◌else◌, refl, sym, ap, subst, ◌∙◌, add-one, append_assoc, length-append, arith}
use Rattle.std.proofs.Math.Seq.{drop-cons}
use Rattle.std.proofs.lemmas.Bool.{eqb-true, eqb-false, eq-eqb}
use Rattle.std.proofs.lemmas.Bool.Decides.{nat_tests}
use Rattle.guest_mem.specs.declared.access_log.ElementList.{ElementList}
use Rattle.emu_model.specs.declared.access.Access.{Access}
use Rattle.emu_model.specs.declared.access.Kind.TheVariants.{Read}
use Rattle.emu_model.specs.Access.{Memory, refused, value}
use Rattle.emu_model.specs.Elements.{Element, accesses_of}
use Rattle.sve_effects.specs.Lane.{extended_by}
use Rattle.sve_effects.specs.FirstFault.{element_at, first_suppressed, is_refused, unsuppressed}
use Rattle.std.specs.Option.{option_or}
use Rattle.element_loops.proofs.Writes.{push_each}
use Rattle.element_loops.specs.Listed.{listed, listed_at}
use Rattle.sve_ffr.specs.declared.taking.Taken.{Taken}
use Rattle.sve_ffr.specs.Taking.{AreFrom, AreTaken, lane_numbers, rest_of, starts_at, taken_value, taken_lane}

differs : (a b : ℕ) → b < a → nat_eq a b ≡ false
differs a b h = grind (arith, nat_tests)

-- ---- lanes in order

pub before_none : (es : List Element) (s n k : ℕ) → AreFrom s n (lane_numbers es) → k < s → element_at es k ≡ None
before_none [] s n k h b = refl
before_none (e ∷ es) s n k h b =
    let from : s ≤ e.lane = h.0 in
    let above : k < e.lane = omega arith in
    let later : k < e.lane + 1 = omega arith in
    ap (λ (t : Bool). if t then Some e else element_at es k) (differs e.lane k above) ∙ before_none es (e.lane + 1) n k h.2 later

pub none_here : (es : List Element) (k n : ℕ) → AreFrom k n (lane_numbers es) → starts_at es k ≡ false → AreFrom (k + 1) n (lane_numbers es)
none_here [] k n h off = tt
none_here (e ∷ es) k n h off =
    let other : e.lane ≡ k → ⊥ = eqb-false e.lane k off in
    let from : k ≤ e.lane = h.0 in
    let above : k + 1 ≤ e.lane = omega (arith, other) in
    (above, h.1, h.2)

-- the next element
abbrev pub element_of : ℕ → ElementList → ℕ → Element
element_of r list i = record { lane = (get_or list.lanes.items i (0, 0)).0; register = r; address = (get_or list.lanes.items i (0, 0)).1; bytes = list.bytes }

pub rest_more : (r : ℕ) (list : ElementList) (i : ℕ) → i < length list.lanes.items → rest_of r list i ≡ element_of r list i ∷ rest_of r list (i + 1)
rest_more r list i h =
    ap (listed_at r list.bytes) (drop-cons list.lanes.items i (0, 0) h)
    ∙ ap (λ n. element_of r list i ∷ rest_of r list n) (sym (add-one i))

or_else_later : (s : Option ℕ) (k : ℕ) (o : Option ℕ) → option_or (option_or s (Some k)) o ≡ option_or s (Some k)
or_else_later None k o = refl
or_else_later (Some q) k o = refl

module _ (r e n : ℕ) (list : ElementList) (m : Memory) (k : ℕ) (t after : Taken) (log : List Access) (h : AreTaken r e n list m k t log) where
  pub take_none : starts_at (rest_of r list t.next) k ≡ false → after.next ≡ t.next → after.suppressed ≡ t.suppressed → after.values.items ≡ t.values.items ++ 0 ∷ [] → AreTaken r e n list m (k + 1) after log
  take_none off next suppressed values =
      let from : AreFrom (k + 1) n (lane_numbers (rest_of r list t.next)) = none_here (rest_of r list t.next) k n h.ascending off in
      let here : element_at (listed r list) k ≡ None = h.rest k (omega arith) ∙ before_none (rest_of r list t.next) (k + 1) n k from (omega arith) in
      record {
        values = push_each k (taken_lane r e list m) 0 t.values.items after.values.items values h.values (sym (ap (taken_value list.signed e m) here));
        rest = λ j le. h.rest j (omega arith) ∙ ap (λ i. element_at (rest_of r list i) j) (sym next);
        ascending = subst (λ i. AreFrom (k + 1) n (lane_numbers (rest_of r list i))) (sym next) from;
        logged = ap (λ i. log ++ accesses_of false (unsuppressed m (rest_of r list i))) next ∙ h.logged;
        suppressed = ap (λ (o : Option ℕ). option_or o (first_suppressed m (rest_of r list after.next))) suppressed ∙ ap (λ i. option_or t.suppressed (first_suppressed m (rest_of r list i))) next ∙ h.suppressed;
        room = let room : length log ≤ k = h.room in omega arith;
      }

  -- the next element is that of lane k
  module _ (on : starts_at (rest_of r list t.next) k ≡ true) (within : t.next < length list.lanes.items) where
    more : rest_of r list t.next ≡ element_of r list t.next ∷ rest_of r list (t.next + 1)
    more = rest_more r list t.next within

    same : (element_of r list t.next).lane ≡ k
    same = eqb-true (element_of r list t.next).lane k (sym (ap (λ (es : List Element). starts_at es k) more) ∙ on)

    from : AreFrom (k + 1) n (lane_numbers (rest_of r list (t.next + 1)))
    from =
        let all : AreFrom k n (lane_numbers (element_of r list t.next ∷ rest_of r list (t.next + 1))) = subst (λ (es : List Element). AreFrom k n (lane_numbers es)) more h.ascending in
        subst (λ q. AreFrom (q + 1) n (lane_numbers (rest_of r list (t.next + 1)))) same all.2

    here : element_at (listed r list) k ≡ Some (element_of r list t.next)
    here =
        h.rest k (omega arith) ∙ ap (λ (es : List Element). element_at es k) more
        ∙ ap (λ (b : Bool). if b then Some (element_of r list t.next) else element_at (rest_of r list (t.next + 1)) k) (eq-eqb (element_of r list t.next).lane k same)

    later : (j : ℕ) → k + 1 ≤ j → element_at (listed r list) j ≡ element_at (rest_of r list (t.next + 1)) j
    later j le =
        let other : k < j = omega arith in
        let x : nat_eq (element_of r list t.next).lane j ≡ false = ap (λ q. nat_eq q j) same ∙ grind (arith, nat_tests) in
        h.rest j (omega arith) ∙ ap (λ (es : List Element). element_at es j) more
        ∙ ap (λ (b : Bool). if b then Some (element_of r list t.next) else element_at (rest_of r list (t.next + 1)) j) x

    pub take_loaded : (after_log : List Access) (x : ℕ) → refused m (element_of r list t.next).address list.bytes Read ≡ None
        → x ≡ extended_by list.signed e (8 * list.bytes) (value m (element_of r list t.next).address list.bytes)
        → after.next ≡ t.next + 1 → after.suppressed ≡ t.suppressed → after.values.items ≡ t.values.items ++ x ∷ []
        → after_log ≡ log ++ record { address = (element_of r list t.next).address; bytes = list.bytes; write = false } ∷ [] → AreTaken r e n list m (k + 1) after after_log
    take_loaded after_log x allowed is next suppressed values logged =
        let q : Element = element_of r list t.next in
        let rest : List Element = rest_of r list (t.next + 1) in
        let fine : is_refused m q ≡ false = ap (λ (o : Option ℕ). is_some o) allowed in
        let kept : unsuppressed m (rest_of r list t.next) ≡ q ∷ unsuppressed m rest = ap (unsuppressed m) more ∙ ap (λ (b : Bool). if b then unsuppressed m rest else q ∷ unsuppressed m rest) fine in
        let first : first_suppressed m (rest_of r list t.next) ≡ first_suppressed m rest = ap (first_suppressed m) more ∙ ap (λ (b : Bool). if b then Some q.lane else first_suppressed m rest) fine in
        let gives : taken_lane r e list m k ≡ x
        = ap (taken_value list.signed e m) here ∙ ap (λ (b : Bool). if b then 0 else extended_by list.signed e (8 * list.bytes) (value m q.address list.bytes)) fine ∙ sym is in
        record {
          values = push_each k (taken_lane r e list m) x t.values.items after.values.items values h.values (sym gives);
          rest = λ j le. later j le ∙ ap (λ i. element_at (rest_of r list i) j) (sym next);
          ascending = subst (λ i. AreFrom (k + 1) n (lane_numbers (rest_of r list i))) (sym next) from;
          logged = ap (λ i. after_log ++ accesses_of false (unsuppressed m (rest_of r list i))) next
              ∙ ap (λ (l : List Access). l ++ accesses_of false (unsuppressed m rest)) logged
              ∙ append_assoc log (record { address = q.address; bytes = list.bytes; write = false } ∷ []) (accesses_of false (unsuppressed m rest))
              ∙ ap (λ (es : List Element). log ++ accesses_of false es) (sym kept) ∙ h.logged;
          suppressed = ap (λ (o : Option ℕ). option_or o (first_suppressed m (rest_of r list after.next))) suppressed
              ∙ ap (λ i. option_or t.suppressed (first_suppressed m (rest_of r list i))) next ∙ ap (option_or t.suppressed) (sym first) ∙ h.suppressed;
          room = let room : length log ≤ k = h.room in
              let one : length after_log ≡ length log + 1 = ap (λ (l : List Access). length l) logged ∙ length-append log (record { address = q.address; bytes = list.bytes; write = false } ∷ []) in
              omega arith;
        }

    pub take_refused : (after_log : List Access) (a : ℕ) → refused m (element_of r list t.next).address list.bytes Read ≡ Some a
        → after.next ≡ t.next + 1 → after.suppressed ≡ option_or t.suppressed (Some k) → after.values.items ≡ t.values.items ++ 0 ∷ [] → after_log ≡ log → AreTaken r e n list m (k + 1) after after_log
    take_refused after_log a denied next suppressed values logged =
        let q : Element = element_of r list t.next in
        let rest : List Element = rest_of r list (t.next + 1) in
        let bad : is_refused m q ≡ true = ap (λ (o : Option ℕ). is_some o) denied in
        let kept : unsuppressed m (rest_of r list t.next) ≡ unsuppressed m rest = ap (unsuppressed m) more ∙ ap (λ (b : Bool). if b then unsuppressed m rest else q ∷ unsuppressed m rest) bad in
        let first : first_suppressed m (rest_of r list t.next) ≡ Some k = ap (first_suppressed m) more ∙ ap (λ (b : Bool). if b then Some q.lane else first_suppressed m rest) bad ∙ ap Some same in
        let gives : taken_lane r e list m k ≡ 0
        = ap (taken_value list.signed e m) here ∙ ap (λ (b : Bool). if b then 0 else extended_by list.signed e (8 * list.bytes) (value m q.address list.bytes)) bad in
        record {
          values = push_each k (taken_lane r e list m) 0 t.values.items after.values.items values h.values (sym gives);
          rest = λ j le. later j le ∙ ap (λ i. element_at (rest_of r list i) j) (sym next);
          ascending = subst (λ i. AreFrom (k + 1) n (lane_numbers (rest_of r list i))) (sym next) from;
          logged = ap (λ i. after_log ++ accesses_of false (unsuppressed m (rest_of r list i))) next
              ∙ ap (λ (l : List Access). l ++ accesses_of false (unsuppressed m rest)) logged
              ∙ ap (λ (es : List Element). log ++ accesses_of false es) (sym kept) ∙ h.logged;
          suppressed = ap (λ (o : Option ℕ). option_or o (first_suppressed m (rest_of r list after.next))) suppressed
              ∙ or_else_later t.suppressed k (first_suppressed m (rest_of r list after.next)) ∙ ap (option_or t.suppressed) (sym first) ∙ h.suppressed;
          room = let room : length log ≤ k = h.room in
              let none : length after_log ≡ length log = ap (λ (l : List Access). length l) logged in
              omega arith;
        }
