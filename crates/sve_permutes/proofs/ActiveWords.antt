-- Active lanes, found word by word: lane j of word i, of c lanes a word, is lane i * c + j.
use Rattle.std.proofs.Common.{◌≡◌, ◌<◌, ◌≤◌, ◌+◌, ◌-◌, ◌*◌, ◌/◌, ◌%◌, ◌^◌, ℕ, Bool, false, nat_eq, List, get_or, inl, inr, sym, ap, ap₂, subst, ◌∙◌, arith}
use Rattle.std.proofs.Math.Nat.{mod-mod, zero-div}
use Rattle.std.proofs.lemmas.Bool.{cases_lt}
use Rattle.std.proofs.lemmas.Nat.{shr-shr}
use Rattle.emu_model.specs.SoundState.{IsVectorLength}
use Rattle.emu_model.specs.ListLaws.{get_or-each}
use Rattle.sve_effects.specs.FirstLastLaws.{IsFirst, IsLast, MeetsNowhere}
use Rattle.emu_model.specs.Active.{active}
use Rattle.emu_model.specs.LaneSizes.{IsLaneSize}
use Rattle.vec_regs.specs.Words.{bits_of, bit_of}
use Rattle.vec_regs.proofs.Parts.{same_part}

-- ---- the first and the last among words

module _ (test : ℕ → Bool) (c : ℕ) where
  abbrev pub in_word : ℕ → ℕ → Bool
  in_word i j = test (i * c + j)

  -- nothing before word i
  abbrev pub IdleBelow : ℕ → Type 0
  IdleBelow i = (k : ℕ) → k < i * c → test k ≡ false

  pub idle_more : (i : ℕ) → IdleBelow i → MeetsNowhere c (in_word i) → IdleBelow (i + 1)
  idle_more i below here k h = elim (cases_lt k (i * c)) [
    | inl p ↦ below k p
    | inr p ↦
        (let b : k - i * c < c = omega arith in
        let e : i * c + (k - i * c) ≡ k = omega arith in
        ap test (sym e) ∙ here (k - i * c) b)
  ]

  pub first_of_words : (n i j : ℕ) → i * c + c ≤ n → IdleBelow i → IsFirst c (in_word i) j → IsFirst n test (i * c + j)
  first_of_words n i j room below here = record {
    within = let b : j < c = here.within in omega arith;
    meets = here.meets;
    before = λ k h. elim (cases_lt k (i * c)) [
      | inl p ↦ below k p
      | inr p ↦
          (let b : k - i * c < j = omega arith in
          let e : i * c + (k - i * c) ≡ k = omega arith in
          ap test (sym e) ∙ here.before (k - i * c) b)
    ];
  }

  -- nothing from word i on
  abbrev pub IdleFrom : ℕ → ℕ → Type 0
  IdleFrom n i = (k : ℕ) → i * c ≤ k → k < n → test k ≡ false

  pub idle_from_less : (n i : ℕ) → IdleFrom n (i + 1) → MeetsNowhere c (in_word i) → IdleFrom n i
  idle_from_less n i above here k l h = elim (cases_lt k ((i + 1) * c)) [
    | inl p ↦
        (let b : k - i * c < c = omega arith in
        let e : i * c + (k - i * c) ≡ k = omega arith in
        ap test (sym e) ∙ here (k - i * c) b)
    | inr p ↦ above k p h
  ]

  pub last_of_words : (n i j : ℕ) → i * c + c ≤ n → IdleFrom n (i + 1) → IsLast c (in_word i) j → IsLast n test (i * c + j)
  last_of_words n i j room above here = record {
    within = let b : j < c = here.within in omega arith;
    meets = here.meets;
    behind = λ k l h. elim (cases_lt k ((i + 1) * c)) [
      | inl p ↦
          (let b : k - i * c < c = omega arith in
          let d : j < k - i * c = omega arith in
          let e : i * c + (k - i * c) ≡ k = omega arith in
          ap test (sym e) ∙ here.behind (k - i * c) d b)
      | inr p ↦ above k p h
    ];
  }

-- all words are the register
pub all_words : (e bits : ℕ) → IsLaneSize e → IsVectorLength bits → bits / 64 * (64 / e) ≡ bits / e
all_words e bits (inl s) l = let m : bits % 128 ≡ 0 = l.multiple in rw s (omega arith)
all_words e bits (inr (inl s)) l = let m : bits % 128 ≡ 0 = l.multiple in rw s (omega arith)
all_words e bits (inr (inr (inl s))) l = let m : bits % 128 ≡ 0 = l.multiple in rw s (omega arith)
all_words e bits (inr (inr (inr s))) l = let m : bits % 128 ≡ 0 = l.multiple in rw s (omega arith)

-- ---- eight bits of a predicate that are 0

no_bit : (x n s : ℕ) → s < 8 → x / 2 ^ n % 256 ≡ 0 → x / 2 ^ (n + s) % 2 ≡ 0
no_bit x n s b e =
    let up : s + 1 ≤ 8 = omega arith in
    ap (λ y. y % 2) (sym (shr-shr x n s))
    ∙ sym (same_part (x / 2 ^ n % 256) (x / 2 ^ n) 8 s 1 (mod-mod (x / 2 ^ n) 256) up)
    ∙ ap (λ y. y / 2 ^ s % 2) e ∙ ap (λ y. y % 2) (zero-div (2 ^ s))

module _ (bits i : ℕ) (words : List ℕ) where
  from_bits : (e s : ℕ) → s < 8 → i * 8 + s < bits / 8 → get_or words (i / 8) 0 / 2 ^ (8 * (i % 8)) % 256 ≡ 0 → get_or (bits_of (bits / 8) words) (i * 8 + s) false ≡ false
  from_bits e s b within none =
      let quotient : (i * 8 + s) / 64 ≡ i / 8 = omega arith in
      let rest : (i * 8 + s) % 64 ≡ 8 * (i % 8) + s = omega arith in
      get_or-each (bits / 8) (bit_of words) (i * 8 + s) false within
      ∙ ap (λ x. nat_eq x 1) (ap₂ (λ p q. get_or words p 0 / 2 ^ q % 2) quotient rest ∙ no_bit (get_or words (i / 8) 0) (8 * (i % 8)) s b none)

  pub idle_word : (e j : ℕ) → IsLaneSize e → i < bits / 64 → get_or words (i / 8) 0 / 2 ^ (8 * (i % 8)) % 256 ≡ 0 → j < 64 / e → active e (bits_of (bits / 8) words) (i * (64 / e) + j) ≡ false
  idle_word e j size within none b =
      let P : ℕ → Type 0 = λ e. j < 64 / e → active e (bits_of (bits / 8) words) (i * (64 / e) + j) ≡ false in
      elim size [
        | inl s ↦ subst P (sym s) (λ b. at 8 (i * 8 + j) (j * 1) (omega arith) (omega arith) (omega arith)) b
        | inr r ↦ elim r [
          | inl s ↦ subst P (sym s) (λ b. at 16 (i * 4 + j) (j * 2) (omega arith) (omega arith) (omega arith)) b
          | inr r ↦ elim r [
            | inl s ↦ subst P (sym s) (λ b. at 32 (i * 2 + j) (j * 4) (omega arith) (omega arith) (omega arith)) b
            | inr s ↦ subst P (sym s) (λ b. at 64 (i * 1 + j) (j * 8) (omega arith) (omega arith) (omega arith)) b
          ]
        ]
      ] where
        at : (e k s : ℕ) → k * (e / 8) ≡ i * 8 + s → s < 8 → i * 8 + s < bits / 8 → active e (bits_of (bits / 8) words) k ≡ false
        at e k s p q r = ap (λ x. get_or (bits_of (bits / 8) words) x false) p ∙ from_bits e s q r none
