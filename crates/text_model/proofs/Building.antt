-- Bindings that are so of a word build the word.
use Rattle.std.proofs.Common.{◌≡◌, ℕ, ◌+◌, ◌-◌, ◌*◌, ◌/◌, ◌%◌, ◌^◌, ◌<◌, ◌≤◌, ◌==◌, ◌&&◌, if◌then◌else◌, Bool, true, List, [], ◌∷◌, ◌++◌, bit_and, bit_or, nat_le, refl, sym, ap, ◌∙◌, subst, arith, inl, inr}
use Rattle.std.proofs.lemmas.Bool.{cases_Bool, and_parts, leb-true}
use Rattle.std.proofs.Math.Nat.{mod-eq_of_lt, mul-add-mod_self_right}
use Rattle.std.proofs.lemmas.Nat.{pow-add, pow_pos, and_mask, div-mul-add}
use lib.Bits.{and_zero_r, or_zero_r}
use Rattle.emu_bits.specs.Rows.{Place, width, ones_at}
use Rattle.emu_bits.proofs.Encoding.{taken, or_assoc, and_over_or}
use Rattle.text_model.specs.Slots.{at_place, bits_in, joined}
use Rattle.text_model.specs.Told.{Binding, parted, Built, bound, all_bound}

-- ---- bindings that are so

abbrev pub IsSo : ℕ → Binding → Type 0
IsSo w b = (b.place.low ≤ b.place.high) × (b.value % 2 ^ width b.place ≡ at_place b.place w)

abbrev pub AreSo : ℕ → List Binding → Type 0
AreSo w [] = Unit {0}
AreSo w (b ∷ bs) = IsSo w b × AreSo w bs

pub so_both : (w : ℕ) (bs cs : List Binding) → AreSo w bs → AreSo w cs → AreSo w (bs ++ cs)
so_both w [] cs h k = k
so_both w (b ∷ bs) cs h k = (h.0, so_both w bs cs h.1 k)

-- ---- the parts of a number

-- each place has its lowest bit below its highest
abbrev pub are_places : List Place → Bool
are_places [] = true
are_places (p ∷ ps) = nat_le p.low p.high && are_places ps

pub small_at : (p : Place) (w : ℕ) → at_place p w < 2 ^ width p
small_at p w = let l : 0 < 2 ^ width p = pow_pos (width p) in omega (arith, l)

joined_step : (a x y k : ℕ) → x < a → y < k → x * k + y < a * k
joined_step a x y k h l = let e : x * k + k ≤ a * k = grind arith in omega (arith, e, l)

pub joined_small : (ps : List Place) (w : ℕ) → joined ps w < 2 ^ bits_in ps
joined_small [] w = omega arith
joined_small (p ∷ ps) w =
    subst (λ (x : ℕ). joined (p ∷ ps) w < x) (sym (pow-add 2 (width p) (bits_in ps)))
    (joined_step (2 ^ width p) (at_place p w) (joined ps w) (2 ^ bits_in ps) (small_at p w) (joined_small ps w))

highest : (a x y m k : ℕ) → x < m → y < k → (a * (m * k) + (x * k + y)) / k % m ≡ x
highest a x y m k h l =
    let e : a * (m * k) + (x * k + y) ≡ (a * m + x) * k + y = grind arith in
    ap (λ (t : ℕ). t / k % m) e ∙ ap (λ (t : ℕ). t % m) (div-mul-add (a * m + x) k y l) ∙ mul-add-mod_self_right a m x ∙ mod-eq_of_lt h

others : (a x y m k : ℕ) → a * (m * k) + (x * k + y) ≡ (a * m + x) * k + y
others a x y m k = grind arith

parts_so : (ps : List Place) (w a : ℕ) → are_places ps ≡ true → AreSo w (parted ps (a * 2 ^ bits_in ps + joined ps w))
parts_so [] w a h = tt
parts_so (p ∷ ps) w a h =
    let h2 = and_parts (nat_le p.low p.high) (are_places ps) h in
    let x : ℕ = at_place p w in
    let e : 2 ^ bits_in (p ∷ ps) ≡ 2 ^ width p * 2 ^ bits_in ps = pow-add 2 (width p) (bits_in ps) in
    let v : a * 2 ^ bits_in (p ∷ ps) + joined (p ∷ ps) w ≡ a * (2 ^ width p * 2 ^ bits_in ps) + (x * 2 ^ bits_in ps + joined ps w) =
    ap (λ (t : ℕ). a * t + joined (p ∷ ps) w) e in (
      (leb-true p.low p.high h2.0, ap (λ (t : ℕ). t / 2 ^ bits_in ps % 2 ^ width p) v ∙ highest a x (joined ps w) (2 ^ width p) (2 ^ bits_in ps) (small_at p w) (joined_small ps w)),
      subst (λ (t : ℕ). AreSo w (parted ps t)) (sym (v ∙ others a x (joined ps w) (2 ^ width p) (2 ^ bits_in ps))) (parts_so ps w (a * 2 ^ width p + x) h2.1),
    )

-- the parts of the number that a word has at places
pub parted_so : (ps : List Place) (w : ℕ) → are_places ps ≡ true → AreSo w (parted ps (joined ps w))
parted_so ps w h = subst (λ (t : ℕ). AreSo w (parted ps t)) (omega arith) (parts_so ps w 0 h)

-- ---- the word

-- the bits told after some places, told one after the other
abbrev pub masked : ℕ → List Place → ℕ
masked m [] = m
masked m (p ∷ ps) = masked (if bit_and m (ones_at p) == 0 then bit_or m (ones_at p) else m) ps

abbrev pub places_of : List Binding → List Place
places_of [] = []
places_of (b ∷ bs) = b.place ∷ places_of bs

-- a base word with the bits of a word at a mask
abbrev pub with_bits : ℕ → ℕ → ℕ → Built
with_bits base w m = record { mask = m; word = bit_or base (bit_and w m) }

one_more : (base w m : ℕ) (b : Binding) → IsSo w b → bound (with_bits base w m) b ≡ with_bits base w (if bit_and m (ones_at b.place) == 0 then bit_or m (ones_at b.place) else m)
one_more base w m b h =
    let o : ℕ = ones_at b.place in
    let a : ℕ = bit_or (bit_or base (bit_and w m)) (b.value % 2 ^ width b.place * 2 ^ b.place.low) in
    elim (cases_Bool (bit_and m o == 0)) [
      | inl e ↦ ap (λ (t : Bool). if t then record { mask = bit_or m o; word = a } else with_bits base w m) e
          ∙ ap (λ (t : ℕ). record { mask = bit_or m o; word = t })
          (ap (λ (t : ℕ). bit_or (bit_or base (bit_and w m)) (t * 2 ^ b.place.low)) h.1
          ∙ ap (λ (t : ℕ). bit_or (bit_or base (bit_and w m)) t) (sym (taken w b.place h.0))
          ∙ or_assoc base (bit_and w m) (bit_and w o)
          ∙ ap (λ (t : ℕ). bit_or base t) (sym (and_over_or w m o)))
          ∙ ap (λ (t : Bool). with_bits base w (if t then bit_or m o else m)) (sym e)
      | inr e ↦ ap (λ (t : Bool). if t then record { mask = bit_or m o; word = a } else with_bits base w m) e
          ∙ ap (λ (t : Bool). with_bits base w (if t then bit_or m o else m)) (sym e)
    ]

pub all_put : (base w m : ℕ) (bs : List Binding) → AreSo w bs → all_bound (with_bits base w m) bs ≡ with_bits base w (masked m (places_of bs))
all_put base w m [] h = refl
all_put base w m (b ∷ bs) h =
    ap (λ (t : Built). all_bound t bs) (one_more base w m b h.0)
    ∙ all_put base w (if bit_and m (ones_at b.place) == 0 then bit_or m (ones_at b.place) else m) bs h.1

pub put_both : (a : Built) (bs cs : List Binding) → all_bound a (bs ++ cs) ≡ all_bound (all_bound a bs) cs
put_both a [] cs = refl
put_both a (b ∷ bs) cs = put_both (bound a b) bs cs

-- a word has its bits outside of a mask and those at it
pub whole : (w base m : ℕ) → w < 2 ^ 32 → bit_or (2 ^ 32 - 1 - m) m ≡ 2 ^ 32 - 1 → bit_and w (2 ^ 32 - 1 - m) ≡ base → bit_or base (bit_and w m) ≡ w
whole w base m l c h =
    ap (λ (t : ℕ). bit_or t (bit_and w m)) (sym h) ∙ sym (and_over_or w (2 ^ 32 - 1 - m) m) ∙ ap (λ (t : ℕ). bit_and w t) c ∙ and_mask w 32 ∙ mod-eq_of_lt l

pub nothing : (base w : ℕ) → bit_or base (bit_and w 0) ≡ base
nothing base w = ap (bit_or base) (and_zero_r w) ∙ or_zero_r base
