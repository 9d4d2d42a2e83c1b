-- What a write of 128 bits of a register shows.
use Rattle.std.proofs.Common.{◌≡◌, ◌≢◌, ◌<◌, ◌≤◌, ◌+◌, ◌*◌, ◌/◌, ◌%◌, ◌^◌, ℕ, true, false, List, [], length, get_or, set, nat_eq, if◌then◌else◌, inl, inr, sym, ap, ◌∙◌, arith}
use Rattle.std.proofs.lemmas.Bool.{cases_eq}
use Rattle.std.proofs.lemmas.Bool.Decides.{nat_tests}
use Rattle.std.proofs.lemmas.List.{get_or-set_same, get_or-set_other, length-set}
use Rattle.emu_model.specs.Lists.{each}
use Rattle.emu_model.specs.ListLaws.{get_or-each, each_same}
use Rattle.emu_model.specs.State.{Vectors}
use Rattle.emu_model.specs.Lanes.{read_z, with_z}
use Rattle.vec_regs.specs.Words.{byte_of, bytes_of, byte_with_pair}
use Rattle.vec_regs.specs.Shown.{shown}
use Rattle.vec_regs.specs.declared.VecRegs.TheInside.{Inside}
use Rattle.vec_regs.proofs.Views.{z_shown, set_z_shown}

-- the words with a pair in the place of part i
abbrev pub paired : List ℕ → ℕ → List ℕ → List ℕ
paired words i pair = set (set words (2 * i) (get_or pair 0 0)) (2 * i + 1) (get_or pair 1 0)

paired_first : (words pair : List ℕ) (i : ℕ) → 2 * i < length words → get_or (paired words i pair) (2 * i) 0 ≡ get_or pair 0 0
paired_first words pair i within =
    let apart : 2 * i ≡ 2 * i + 1 → ⊥ = λ s. omega arith in
    get_or-set_other (set words (2 * i) (get_or pair 0 0)) (2 * i + 1) (2 * i) (get_or pair 1 0) 0 apart
    ∙ get_or-set_same words (2 * i) (get_or pair 0 0) 0 within

paired_second : (words pair : List ℕ) (i : ℕ) → 2 * i + 1 < length words → get_or (paired words i pair) (2 * i + 1) 0 ≡ get_or pair 1 0
paired_second words pair i within =
    let there : 2 * i + 1 < length (set words (2 * i) (get_or pair 0 0)) = omega (arith, length-set words (2 * i) (get_or pair 0 0)) in
    get_or-set_same (set words (2 * i) (get_or pair 0 0)) (2 * i + 1) (get_or pair 1 0) 0 there

paired_other : (words pair : List ℕ) (i k : ℕ) → k / 2 ≢ i → get_or (paired words i pair) k 0 ≡ get_or words k 0
paired_other words pair i k apart =
    let low : k ≡ 2 * i → ⊥ = λ s. apart (omega arith) in
    let high : k ≡ 2 * i + 1 → ⊥ = λ s. apart (omega arith) in
    get_or-set_other (set words (2 * i) (get_or pair 0 0)) (2 * i + 1) k (get_or pair 1 0) 0 high
    ∙ get_or-set_other words (2 * i) k (get_or pair 0 0) 0 low

-- word q of the pair stands at 2 * i + q
paired_at : (words pair : List ℕ) (i k : ℕ) → 2 * i + 1 < length words → k / 2 ≡ i → get_or (paired words i pair) k 0 ≡ get_or pair (k % 2) 0
paired_at words pair i k within at = elim (cases_eq (k % 2) 0) [
  | inl even ↦
      (let here : k ≡ 2 * i = omega arith in
      let room : 2 * i < length words = omega arith in
      ap (λ n. get_or (paired words i pair) n 0) here ∙ paired_first words pair i room ∙ ap (λ n. get_or pair n 0) (sym even))
  | inr odd ↦
      (let here : k ≡ 2 * i + 1 = omega arith in
      let one : k % 2 ≡ 1 = omega arith in
      ap (λ n. get_or (paired words i pair) n 0) here ∙ paired_second words pair i within ∙ ap (λ n. get_or pair n 0) (sym one))
]

pub paired_bytes : (n : ℕ) (words pair : List ℕ) (i : ℕ) → 2 * i + 1 < length words
    → bytes_of n (set (set words (2 * i) (get_or pair 0 0)) (2 * i + 1) (get_or pair 1 0)) ≡ each n (byte_with_pair (bytes_of n words) i pair)
paired_bytes n words pair i within = each_same n (byte_of 8 (paired words i pair)) (byte_with_pair (bytes_of n words) i pair) 0 (λ j b. elim (cases_eq (j / 16) i) [
  | inl s ↦
      (let here : nat_eq (j / 16) i ≡ true = grind (arith, nat_tests) in
      let half : j / 8 / 2 ≡ i = omega arith in
      let word : (j / 8) % 2 ≡ j % 16 / 8 = omega arith in
      let place : j % 8 ≡ j % 16 % 8 = omega arith in
      ap (λ x. x / 2 ^ (8 * (j % 8)) % 256) (paired_at words pair i (j / 8) within half ∙ ap (λ k. get_or pair k 0) word)
      ∙ ap (λ k. get_or pair (j % 16 / 8) 0 / 2 ^ (8 * k) % 256) place
      ∙ ap (λ t. if t then byte_of 8 pair (j % 16) else get_or (bytes_of n words) j 0) (sym here))
  | inr other ↦
      (let there : nat_eq (j / 16) i ≡ false = grind (arith, nat_tests) in
      let apart : j / 8 / 2 ≡ i → ⊥ = λ s. other (omega arith) in
      ap (λ x. x / 2 ^ (8 * (j % 8)) % 256) (paired_other words pair i (j / 8) apart)
      ∙ sym (get_or-each n (byte_of 8 words) j 0 b)
      ∙ ap (λ t. if t then byte_of 8 pair (j % 16) else get_or (bytes_of n words) j 0) (sym there))
])

pub set_pair_shown : (a : Inside) (v : Vectors) (n r i : ℕ) (pair words : List ℕ) → n ≡ r → shown a ≡ v → length a.z ≡ 32 → n < 32 → 2 * i + 1 < length (get_or a.z n [])
    → words ≡ set (set (get_or a.z n []) (2 * i) (get_or pair 0 0)) (2 * i + 1) (get_or pair 1 0)
    → shown (record a { z = set a.z n words }) ≡ with_z v r (each (v.bits / 8) (byte_with_pair (read_z v r) i pair))
set_pair_shown a v n r i pair words same e count h within is =
    set_z_shown a v n words e
    ∙ ap (λ (ws : List ℕ). with_z v n (bytes_of (v.bits / 8) ws)) is
    ∙ ap (with_z v n) (paired_bytes (v.bits / 8) (get_or a.z n []) pair i within)
    ∙ ap (λ (bs : List ℕ). with_z v n (each (v.bits / 8) (byte_with_pair bs i pair))) (sym (z_shown a v n e count h))
    ∙ ap (λ (k : ℕ). with_z v k (each (v.bits / 8) (byte_with_pair (read_z v k) i pair))) same

-- a pair below word n leaves zeros from there on
pub zeros_after : (n i : ℕ) (words pair after : List ℕ) → 2 * i + 1 < n → after ≡ set (set words (2 * i) (get_or pair 0 0)) (2 * i + 1) (get_or pair 1 0)
    → ((k : ℕ) → n ≤ k → get_or words k 0 ≡ 0) → (k : ℕ) → n ≤ k → get_or after k 0 ≡ 0
zeros_after n i words pair after below is zeros k le =
    let apart : k / 2 ≡ i → ⊥ = λ s. omega arith in
    ap (λ (ws : List ℕ). get_or ws k 0) is ∙ paired_other words pair i k apart ∙ zeros k le
