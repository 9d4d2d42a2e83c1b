-- The pattern that shows a word, among lines one after the other.
use Rattle.std.proofs.Common.{◌≡◌, ℕ, zero, suc, ◌+◌, ◌-◌, ◌<◌, ◌&&◌, if◌then◌else◌, Bool, true, Option, Some, None, List, [], ◌∷◌, ◌++◌, get_or, take, refl, sym, ap, ap₂, ◌∙◌, arith, inl, inr}
use Rattle.std.proofs.lemmas.Bool.{cases_Bool, and_parts, and_from}
use Rattle.std.proofs.Math.Seq.{take-nil, drop-nil}
use Rattle.text_model.specs.Reading.{Pattern}
use Rattle.text_model.specs.Text.{shows, chosen}
use Rattle.text_model.specs.Writing.{flat}
use Rattle.text_code.specs.Sound.{are_sound, are_few}
use Rattle.text_code.specs.Reads.{all_sound, all_lines_sound}
use Rattle.text_print.specs.Lines.{some_lines}
use Rattle.text_print.specs.Room.{has_room, all_have_room, all_lines_have_room}

pub some_first : (ps qs : List Pattern) (w : ℕ) (p : Pattern) → chosen ps w ≡ Some p → chosen (ps ++ qs) w ≡ Some p
some_first [] qs w p h = absurd (cc)
some_first (r ∷ rs) qs w p h =
    let f = λ (o : Option Pattern) (b : Bool). if b then Some r else o in
    elim (cases_Bool (shows r w)) [
      | inl e ↦ ap (f (chosen (rs ++ qs) w)) e ∙ sym (ap (f (chosen rs w)) e) ∙ h
      | inr e ↦ ap (f (chosen (rs ++ qs) w)) e ∙ some_first rs qs w p (sym (ap (f (chosen rs w)) e) ∙ h)
    ]

some_is : (p q : Pattern) → Some p ≡ Some q → p ≡ q
some_is p q h = cc

some_not_none : (p : Pattern) → Some p ≡ None → ⊥
some_not_none p h = cc

pub none_first : (ps qs : List Pattern) (w : ℕ) → chosen ps w ≡ None → chosen (ps ++ qs) w ≡ chosen qs w
none_first [] qs w h = refl
none_first (r ∷ rs) qs w h =
    let f = λ (o : Option Pattern) (b : Bool). if b then Some r else o in
    elim (cases_Bool (shows r w)) [
      | inl e ↦ absurd (some_not_none r (sym (ap (f (chosen rs w)) e) ∙ h))
      | inr e ↦ ap (f (chosen (rs ++ qs) w)) e ∙ none_first rs qs w (sym (ap (f (chosen rs w)) e) ∙ h)
    ]

no_lines : (first count : ℕ) → some_lines first count [] ≡ []
no_lines first count = ap (λ (pss : List (List Pattern)). flat (take count pss)) (drop-nil first) ∙ ap flat (take-nil count)

-- one line, and those behind it
pub next_line : (pss : List (List Pattern)) (first count : ℕ) → some_lines first (suc count) pss ≡ get_or pss first [] ++ some_lines (suc first) count pss
next_line [] first count = no_lines first (suc count) ∙ sym (no_lines (suc first) count)
next_line (ps ∷ pss) zero count = refl
next_line (ps ∷ pss) (suc first) count = next_line pss first count

-- the pattern is of the first line, or of one behind it
pub lines_some : (pss : List (List Pattern)) (qs : List Pattern) (first count w : ℕ) (p : Pattern) → 0 < count → qs ≡ get_or pss first [] → chosen qs w ≡ Some p → chosen (some_lines first count pss) w ≡ Some p
lines_some pss qs first zero w p l e h = absurd (omega (arith, l))
lines_some pss qs first (suc count) w p l e h =
    ap (λ (ps : List Pattern). chosen ps w) (next_line pss first count)
    ∙ some_first (get_or pss first []) (some_lines (suc first) count pss) w p (ap (λ (ps : List Pattern). chosen ps w) (sym e) ∙ h)

pub lines_none : (pss : List (List Pattern)) (qs : List Pattern) (first count w : ℕ) → 0 < count → qs ≡ get_or pss first [] → chosen qs w ≡ None
    → chosen (some_lines (first + 1) (count - 1) pss) w ≡ chosen (some_lines first count pss) w
lines_none pss qs first zero w l e h = absurd (omega (arith, l))
lines_none pss qs first (suc count) w l e h =
    let a : first + 1 ≡ suc first = omega arith in
    let b : suc count - 1 ≡ count = omega arith in
    ap₂ (λ (x y : ℕ). chosen (some_lines x y pss) w) a b
    ∙ sym (ap (λ (ps : List Pattern). chosen ps w) (next_line pss first count)
    ∙ none_first (get_or pss first []) (some_lines (suc first) count pss) w (ap (λ (ps : List Pattern). chosen ps w) (sym e) ∙ h))

pub line_sound : (pss : List (List Pattern)) (k : ℕ) → all_lines_sound pss ≡ true → all_sound (get_or pss k []) ≡ true
line_sound [] k h = refl
line_sound (ps ∷ pss) zero h = (and_parts (all_sound ps) (all_lines_sound pss) h).0
line_sound (ps ∷ pss) (suc k) h = line_sound pss k (and_parts (all_sound ps) (all_lines_sound pss) h).1

pub line_room : (pss : List (List Pattern)) (k : ℕ) → all_lines_have_room pss ≡ true → all_have_room (get_or pss k []) ≡ true
line_room [] k h = refl
line_room (ps ∷ pss) zero h = (and_parts (all_have_room ps) (all_lines_have_room pss) h).0
line_room (ps ∷ pss) (suc k) h = line_room pss k (and_parts (all_have_room ps) (all_lines_have_room pss) h).1

sound_both : (ps qs : List Pattern) → all_sound ps ≡ true → all_sound qs ≡ true → all_sound (ps ++ qs) ≡ true
sound_both [] qs h k = k
sound_both (p ∷ ps) qs h k =
    let h2 = and_parts (are_sound p.slots && are_few p.slots) (all_sound ps) h in
    and_from _ _ h2.0 (sound_both ps qs h2.1 k)

pub some_sound : (pss : List (List Pattern)) (first count : ℕ) → all_lines_sound pss ≡ true → all_sound (some_lines first count pss) ≡ true
some_sound pss first zero h = refl
some_sound pss first (suc count) h =
    ap all_sound (next_line pss first count) ∙ sound_both (get_or pss first []) (some_lines (suc first) count pss) (line_sound pss first h) (some_sound pss (suc first) count h)

-- a test that all patterns pass is passed by the one that shows a word
module _ (q : Pattern → Bool) where
  abbrev pub all_pass : List Pattern → Bool
  all_pass [] = true
  all_pass (p ∷ ps) = q p && all_pass ps

  pub chosen_passes : (ps : List Pattern) (w : ℕ) (p : Pattern) → all_pass ps ≡ true → chosen ps w ≡ Some p → q p ≡ true
  chosen_passes [] w p h e = absurd (cc)
  chosen_passes (r ∷ rs) w p h e =
      let h2 = and_parts (q r) (all_pass rs) h in
      let f = λ (b : Bool). if b then Some r else chosen rs w in
      elim (cases_Bool (shows r w)) [
        | inl t ↦ ap q (sym (some_is r p (sym (ap f t) ∙ e))) ∙ h2.0
        | inr t ↦ chosen_passes rs w p h2.1 (sym (ap f t) ∙ e)
      ]

  abbrev pub all_lines_pass : List (List Pattern) → Bool
  all_lines_pass [] = true
  all_lines_pass (ps ∷ pss) = all_pass ps && all_lines_pass pss

  pub line_passes : (pss : List (List Pattern)) (k : ℕ) → all_lines_pass pss ≡ true → all_pass (get_or pss k []) ≡ true
  line_passes [] k h = refl
  line_passes (ps ∷ pss) zero h = (and_parts (all_pass ps) (all_lines_pass pss) h).0
  line_passes (ps ∷ pss) (suc k) h = line_passes pss k (and_parts (all_pass ps) (all_lines_pass pss) h).1

pub chosen_sound : (ps : List Pattern) (w : ℕ) (p : Pattern) → all_sound ps ≡ true → chosen ps w ≡ Some p → are_sound p.slots ≡ true
chosen_sound ps w p h e = (and_parts (are_sound p.slots) (are_few p.slots) (chosen_passes (λ r. are_sound r.slots && are_few r.slots) ps w p (sound_all ps h) e)).0
  where
    sound_all : (ps : List Pattern) → all_sound ps ≡ true → all_pass (λ r. are_sound r.slots && are_few r.slots) ps ≡ true
    sound_all [] h = refl
    sound_all (r ∷ rs) h = let h2 = and_parts (are_sound r.slots && are_few r.slots) (all_sound rs) h in and_from _ _ h2.0 (sound_all rs h2.1)

pub chosen_room : (ps : List Pattern) (w : ℕ) (p : Pattern) → all_have_room ps ≡ true → chosen ps w ≡ Some p → has_room p ≡ true
chosen_room ps w p h e = chosen_passes has_room ps w p (room_all ps h) e
  where
    room_all : (ps : List Pattern) → all_have_room ps ≡ true → all_pass has_room ps ≡ true
    room_all [] h = refl
    room_all (r ∷ rs) h = let h2 = and_parts (has_room r) (all_have_room rs) h in and_from _ _ h2.0 (room_all rs h2.1)
