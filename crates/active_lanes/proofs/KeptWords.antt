-- The bytes of words that keep some lanes.
use Rattle.std.proofs.Common.{◌≡◌, ◌<◌, ◌≤◌, ◌+◌, ◌-◌, ◌*◌, ◌/◌, ◌%◌, ◌^◌, ℕ, zero, suc, Bool, true, false, nat_eq, if◌then◌else◌, List, length, get_or, set, inl, inr, sym, ap, ◌∙◌, arith}
use Rattle.std.proofs.Math.Nat.{zero-div, div-div-eq-div-mul}
use Rattle.std.proofs.lemmas.Bool.{cases_lt}
use Rattle.std.proofs.lemmas.List.{get_or-set_same, get_or-set_other}
use Rattle.std.proofs.lemmas.Nat.{pow-add}
use Rattle.vec_regs.specs.Words.{byte_of}
use Rattle.active_lanes.specs.Kept.{keeps, kept}

-- ---- a word that is made from its last byte down

eight_more : (i : ℕ) → 2 ^ (8 * suc i) ≡ 256 * 2 ^ (8 * i)
eight_more i = let e : 8 * suc i ≡ 8 + 8 * i = omega arith in ap (λ n. 2 ^ n) e ∙ pow-add 2 8 (8 * i)

pub pushed_first : (x b : ℕ) → b < 256 → (x * 256 + b) / 2 ^ (8 * 0) % 256 ≡ b
pushed_first x b h = omega arith

pub pushed_later : (x b i : ℕ) → b < 256 → (x * 256 + b) / 2 ^ (8 * suc i) % 256 ≡ x / 2 ^ (8 * i) % 256
pushed_later x b i h =
    let q : (x * 256 + b) / 256 ≡ x = omega arith in
    ap (λ n. (x * 256 + b) / n % 256) (eight_more i)
    ∙ ap (λ y. y % 256) (sym (div-div-eq-div-mul (x * 256 + b) 256 (2 ^ (8 * i))))
    ∙ ap (λ y. y / 2 ^ (8 * i) % 256) q

pub pushed : (f : ℕ → ℕ) (x b t : ℕ) → b < 256 → 0 < t → t ≤ 8 → b ≡ f (t - 1) → ((i : ℕ) → i < 8 - t → x / 2 ^ (8 * i) % 256 ≡ f (t + i)) → (i : ℕ) → i < 8 - (t - 1) → (x * 256 + b) / 2 ^ (8 * i) % 256 ≡ f (t - 1 + i)
pushed f x b t small some most is before zero h = let e : t - 1 ≡ t - 1 + 0 = omega arith in pushed_first x b small ∙ is ∙ ap f e
pushed f x b t small some most is before (suc i) h =
    let e : t + i ≡ t - 1 + suc i = omega arith in pushed_later x b i small ∙ before i (omega arith) ∙ ap f e

-- ---- a word whose lanes are all on, or all off

pub whole_word : (w field x : ℕ) → ((t : ℕ) → t < 8 → keeps w field t ≡ true) → (t : ℕ) → t < 8 → x / 2 ^ (8 * t) % 256 ≡ kept w field x t
whole_word w field x whole t h = ap (λ (b : Bool). if b then x / 2 ^ (8 * t) % 256 else 0) (sym (whole t h))

pub no_word : (w field x : ℕ) → field ≡ 0 → (t : ℕ) → t < 8 → 0 / 2 ^ (8 * t) % 256 ≡ kept w field x t
no_word w field x none t h =
    let z : 0 / 2 ^ (t / w * w) % 2 ≡ 0 = ap (λ x. x % 2) (zero-div (2 ^ (t / w * w))) in
    let off : keeps w field t ≡ false = ap (λ f. keeps w f t) none ∙ ap (λ x. nat_eq x 1) z in
    ap (λ x. x % 256) (zero-div (2 ^ (8 * t))) ∙ ap (λ (b : Bool). if b then x / 2 ^ (8 * t) % 256 else 0) (sym off)

-- ---- the words of a register

pub one_more_kept : (e i field x : ℕ) (on : ℕ → Bool) (first ws : List ℕ) → i < length ws → ((t : ℕ) → t < 8 → x / 2 ^ (8 * t) % 256 ≡ kept (e / 8) field (get_or ws i 0) t)
    → ((t : ℕ) → t < 8 → keeps (e / 8) field t ≡ on ((8 * i + t) / (e / 8)))
    → ((k : ℕ) → i ≤ k → get_or ws k 0 ≡ get_or first k 0)
    → ((j : ℕ) → j < 8 * i → byte_of 8 ws j ≡ (if on (j / (e / 8)) then byte_of 8 first j else 0))
    → (j : ℕ) → j < 8 * (i + 1) → byte_of 8 (set ws i x) j ≡ (if on (j / (e / 8)) then byte_of 8 first j else 0)
one_more_kept e i field x on first ws within here same later before j b = elim (cases_lt j (8 * i)) [
  | inl h ↦ (let other : j / 8 ≡ i → ⊥ = λ s. omega arith in
      ap (λ x. x / 2 ^ (8 * (j % 8)) % 256) (get_or-set_other ws i (j / 8) x 0 other) ∙ before j h)
  | inr h ↦ (let q : j / 8 ≡ i = omega arith in let r : j % 8 < 8 = omega arith in let s : 8 * i + j % 8 ≡ j = omega arith in let le : i ≤ i = omega arith in
      ap (λ k. get_or (set ws i x) k 0 / 2 ^ (8 * (j % 8)) % 256) q
      ∙ ap (λ x. x / 2 ^ (8 * (j % 8)) % 256) (get_or-set_same ws i x 0 within)
      ∙ here (j % 8) r
      ∙ ap (λ w. if keeps (e / 8) field (j % 8) then w / 2 ^ (8 * (j % 8)) % 256 else 0) (later i le)
      ∙ ap (λ (t : Bool). if t then get_or first i 0 / 2 ^ (8 * (j % 8)) % 256 else 0) (same (j % 8) r)
      ∙ ap (λ k. if on ((8 * i + j % 8) / (e / 8)) then get_or first k 0 / 2 ^ (8 * (j % 8)) % 256 else 0) (sym q)
      ∙ ap (λ n. if on (n / (e / 8)) then byte_of 8 first j else 0) s)
]

pub kept_above : (i x : ℕ) (first ws : List ℕ) → ((k : ℕ) → i ≤ k → get_or ws k 0 ≡ get_or first k 0) → (k : ℕ) → i + 1 ≤ k → get_or (set ws i x) k 0 ≡ get_or first k 0
kept_above i x first ws h k b = let other : k ≡ i → ⊥ = λ s. omega arith in let le : i ≤ k = omega arith in get_or-set_other ws i k x 0 other ∙ h k le

pub none_masked : (n : ℕ) (on : ℕ → Bool) (e : ℕ) (ws : List ℕ) → ((j : ℕ) → j < 8 * n → on (j / (e / 8)) ≡ true) → (j : ℕ) → j < 8 * n → byte_of 8 ws j ≡ (if on (j / (e / 8)) then byte_of 8 ws j else 0)
none_masked n on e ws h j b = ap (λ (t : Bool). if t then byte_of 8 ws j else 0) (sym (h j b))
