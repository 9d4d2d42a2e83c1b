-- Which of the machines of a run meets a test last.
use Rattle.std.proofs.Common.{◌≡◌, ◌≤◌, ◌<◌, ◌⊎◌, ℕ, zero, suc, ◌+◌, ◌-◌, max, Bool, true, false, ◌&&◌, Option, Some, None, nat_le, if◌then◌else◌, inl, inr, refl, sym, ap, ◌∙◌, arith}
use Rattle.std.proofs.lemmas.Bool.Decides.{nat_tests}
use Rattle.emu_model.specs.State.{State}
use Rattle.debug_walk.specs.Walks.{Tested, first_asked, is_met_at, last_met, unasked}

at_most : (a b : ℕ) → a ≤ b → nat_le a b ≡ true
at_most a b h = grind (arith, nat_tests, h)

above : (a b : ℕ) → b < a → nat_le a b ≡ false
above a b h = grind (arith, nat_tests, h)

pub either_way : (a b : ℕ) → (a ≤ b) ⊎ (b < a)
either_way a b = elim (nat_le a b) as (λ x. nat_le a b ≡ x → (a ≤ b) ⊎ (b < a)) [
  | true ↦ λ h. let is : a ≤ b = grind (arith, nat_tests, h) in inl is
  | false ↦ λ h. let is : b < a = grind (arith, nat_tests, h) in inr is
] refl

module _ (test : Tested) (start : State) where
  last_met-zero : (least : ℕ) → last_met test start least 0 ≡ None
  unfolding last_met
  last_met-zero least = refl

  last_met-suc : (least n : ℕ) → last_met test start least (suc n) ≡ (if nat_le least n then (if is_met_at test start n then Some n else last_met test start least n) else None)
  unfolding last_met
  last_met-suc least n = refl

  -- none is asked
  pub none_asked : (least n : ℕ) → n ≤ least → last_met test start least n ≡ None
  none_asked least zero h = last_met-zero least
  none_asked least (suc n) h =
      last_met-suc least n ∙ ap (λ (b : Bool). if b then (if is_met_at test start n then Some n else last_met test start least n) else None) (above least n (omega (arith, h)))

  asked : (least n : ℕ) → least ≤ n → last_met test start least (suc n) ≡ (if is_met_at test start n then Some n else last_met test start least n)
  asked least n h =
      last_met-suc least n ∙ ap (λ (b : Bool). if b then (if is_met_at test start n then Some n else last_met test start least n) else None) (at_most least n h)

  asked_met : (least n : ℕ) → least ≤ n → is_met_at test start n ≡ true → last_met test start least (suc n) ≡ Some n
  asked_met least n h met = asked least n h ∙ ap (λ (b : Bool). if b then Some n else last_met test start least n) met

  asked_unmet : (least n : ℕ) → least ≤ n → is_met_at test start n ≡ false → last_met test start least (suc n) ≡ last_met test start least n
  asked_unmet least n h unmet = asked least n h ∙ ap (λ (b : Bool). if b then Some n else last_met test start least n) unmet

  -- one that is found is among those that are asked
  pub found_among : (least n k : ℕ) → last_met test start least n ≡ Some k → (least ≤ k) × (k < n)
  found_among least zero k is = let e : None ≡ Some k = sym (last_met-zero least) ∙ is in cc
  found_among least (suc n) k is =
      elim (either_way least n) as (λ _. (least ≤ k) × (k < suc n)) [
        | inl h ↦ elim (is_met_at test start n) as (λ b. is_met_at test start n ≡ b → (least ≤ k) × (k < suc n)) [
          | true ↦ λ met. let e : Some n ≡ Some k = sym (asked_met least n h met) ∙ is in let same : n ≡ k = cc in (omega (arith, h, same), omega (arith, same))
          | false ↦ λ unmet. let rest = found_among least n k (sym (asked_unmet least n h unmet) ∙ is) in let more = rest.1 in (rest.0, omega (arith, more))
        ] refl
        | inr h ↦ let e : None ≡ Some k = sym (none_asked least (suc n) (omega (arith, h))) ∙ is in cc
      ]

  -- the last among some is the last among more before them
  pub found_more : (least lo n k : ℕ) → least ≤ lo → last_met test start lo n ≡ Some k → last_met test start least n ≡ Some k
  found_more least lo zero k within is = let e : None ≡ Some k = sym (last_met-zero lo) ∙ is in cc
  found_more least lo (suc n) k within is =
      elim (either_way lo n) as (λ _. last_met test start least (suc n) ≡ Some k) [
        | inl h ↦ elim (is_met_at test start n) as (λ b. is_met_at test start n ≡ b → last_met test start least (suc n) ≡ Some k) [
          | true ↦ λ met. asked_met least n (omega (arith, within, h)) met ∙ sym (asked_met lo n h met) ∙ is
          | false ↦ λ unmet. asked_unmet least n (omega (arith, within, h)) unmet ∙ found_more least lo n k within (sym (asked_unmet lo n h unmet) ∙ is)
        ] refl
        | inr h ↦ let e : None ≡ Some k = sym (none_asked lo (suc n) (omega (arith, h))) ∙ is in cc
      ]

  -- where none of the last ones meets it, those before them are left
  pub none_more : (least lo n : ℕ) → least ≤ lo → lo ≤ n → last_met test start lo n ≡ None → last_met test start least n ≡ last_met test start least lo
  none_more least lo zero within below is = let same : zero ≡ lo = omega (arith, below) in ap (last_met test start least) same
  none_more least lo (suc n) within below is =
      elim (either_way lo n) as (λ _. last_met test start least (suc n) ≡ last_met test start least lo) [
        | inl h ↦ elim (is_met_at test start n) as (λ b. is_met_at test start n ≡ b → last_met test start least (suc n) ≡ last_met test start least lo) [
          | true ↦ λ met. let e : Some n ≡ None = sym (asked_met lo n h met) ∙ is in cc
          | false ↦ λ unmet. asked_unmet least n (omega (arith, within, h)) unmet ∙ none_more least lo n within h (sym (asked_unmet lo n h unmet) ∙ is)
        ] refl
        | inr h ↦ let same : suc n ≡ lo = omega (arith, below, h) in ap (last_met test start least) same
      ]

  same_above : (least n : ℕ) → last_met test start least (max least n) ≡ last_met test start least n
  same_above least n =
      elim (either_way n least) as (λ _. last_met test start least (max least n) ≡ last_met test start least n) [
        | inl h ↦ let is : max least n ≡ least = omega (arith, h) in ap (last_met test start least) is ∙ none_asked least least (omega arith) ∙ sym (none_asked least n h)
        | inr h ↦ let is : max least n ≡ n = omega (arith, h) in ap (last_met test start least) is
      ]

  -- ---- from a mark on

  -- what none of the asked ones meets is left to those before the mark
  pub none_behind : (least mark last : ℕ) → least ≤ last → mark ≤ last → last_met test start (first_asked least mark) (last + 1) ≡ None → last_met test start least (last + 1) ≡ last_met test start least (unasked mark)
  none_behind least zero last from within is = is ∙ sym (last_met-zero least)
  none_behind least (suc k) last from within is =
      none_more least (max least (suc k + 1)) (last + 1) (omega arith) (omega (arith, from, within)) is ∙ same_above least (suc k + 1)

  pub asked_least : (least mark : ℕ) → least ≤ first_asked least mark
  asked_least least zero = omega arith
  asked_least least (suc k) = omega arith

  pub found_behind_mark : (least mark last k : ℕ) → last_met test start (first_asked least mark) (last + 1) ≡ Some k → last_met test start least (last + 1) ≡ Some k
  found_behind_mark least mark last k is = found_more least (first_asked least mark) (last + 1) k (asked_least least mark) is

  asked_from : (least mark s : ℕ) → mark ≤ s → least ≤ s + 1 → first_asked least mark ≤ s + 1
  asked_from least zero s within h = h
  asked_from least (suc k) s within h = omega (arith, within, h)

  -- one step more
  up : (least n : ℕ) → last_met test start least (suc n) ≡ last_met test start least (n + 1)
  up least n = let e : suc n ≡ n + 1 = omega arith in ap (last_met test start least) e

  met_there : (s : ℕ) (b : Bool) → is_met_at test start (suc s) ≡ b → is_met_at test start (s + 1) ≡ b
  met_there s b met = let e : s + 1 ≡ suc s = omega arith in ap (λ (k : ℕ). is_met_at test start k) e ∙ met

  pub found_next : (least mark s : ℕ) (b : Bool) (found : Option ℕ) → mark ≤ s → is_met_at test start (suc s) ≡ b → found ≡ last_met test start (first_asked least mark) (s + 1)
      → (if nat_le least (s + 1) && b then Some (s + 1) else found) ≡ last_met test start (first_asked least mark) (s + 1 + 1)
  found_next least mark s true found within met is =
      elim (either_way least (s + 1)) as (λ _. (if nat_le least (s + 1) && true then Some (s + 1) else found) ≡ last_met test start (first_asked least mark) (s + 1 + 1)) [
        | inl h ↦
            ap (λ (x : Bool). if x && true then Some (s + 1) else found) (at_most least (s + 1) h) ∙ sym (asked_met (first_asked least mark) (s + 1) (asked_from least mark s within h) (met_there s true met)) ∙ up (first_asked least mark) (s + 1)
        | inr h ↦
            let lo = asked_least least mark in
            ap (λ (x : Bool). if x && true then Some (s + 1) else found) (above least (s + 1) h) ∙ is
            ∙ none_asked (first_asked least mark) (s + 1) (omega (arith, lo, h)) ∙ sym (none_asked (first_asked least mark) (s + 1 + 1) (omega (arith, lo, h)))
      ]
  found_next least mark s false found within unmet is =
      elim (either_way least (s + 1)) as (λ _. (if nat_le least (s + 1) && false then Some (s + 1) else found) ≡ last_met test start (first_asked least mark) (s + 1 + 1)) [
        | inl h ↦
            ap (λ (x : Bool). if x && false then Some (s + 1) else found) (at_most least (s + 1) h) ∙ is ∙ sym (asked_unmet (first_asked least mark) (s + 1) (asked_from least mark s within h) (met_there s false unmet)) ∙ up (first_asked least mark) (s + 1)
        | inr h ↦
            let lo = asked_least least mark in
            ap (λ (x : Bool). if x && false then Some (s + 1) else found) (above least (s + 1) h) ∙ is
            ∙ none_asked (first_asked least mark) (s + 1) (omega (arith, lo, h)) ∙ sym (none_asked (first_asked least mark) (s + 1 + 1) (omega (arith, lo, h)))
      ]

  -- at the mark's own machine
  pub found_none : (least mark : ℕ) → 0 < mark → last_met test start (first_asked least mark) (mark + 1) ≡ None
  found_none least zero some = absurd (omega (arith, some))
  found_none least (suc k) some = none_asked (max least (suc k + 1)) (suc k + 1) (omega arith)

  pub found_first : (least : ℕ) (b : Bool) → is_met_at test start 0 ≡ b → (if nat_le least 0 && b then Some 0 else None) ≡ last_met test start least 1
  found_first least true met =
      elim (either_way least 0) as (λ _. (if nat_le least 0 && true then Some 0 else None) ≡ last_met test start least 1) [
        | inl h ↦ ap (λ (x : Bool). if x && true then Some 0 else None) (at_most least 0 h) ∙ sym (asked_met least 0 h met)
        | inr h ↦ ap (λ (x : Bool). if x && true then Some 0 else None) (above least 0 h) ∙ sym (none_asked least 1 (omega (arith, h)))
      ]
  found_first least false unmet =
      elim (either_way least 0) as (λ _. (if nat_le least 0 && false then Some 0 else None) ≡ last_met test start least 1) [
        | inl h ↦ ap (λ (x : Bool). if x && false then Some 0 else None) (at_most least 0 h) ∙ sym (asked_unmet least 0 h unmet ∙ last_met-zero least)
        | inr h ↦ ap (λ (x : Bool). if x && false then Some 0 else None) (above least 0 h) ∙ sym (none_asked least 1 (omega (arith, h)))
      ]

-- ---- those that aren't asked yet

pub unasked_most : (mark last : ℕ) → mark ≤ last → unasked mark ≤ last + 1
unasked_most zero last within = omega arith
unasked_most (suc k) last within = omega (arith, within)

pub unasked_under : (mark end : ℕ) → mark ≤ end - 1 - 1 → 0 < end → unasked mark < end
unasked_under zero end within some = omega (arith, some)
unasked_under (suc k) end within some = omega (arith, within)
