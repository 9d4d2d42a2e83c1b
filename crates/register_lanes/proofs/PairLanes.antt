-- Lanes of 128 bits: read from two words, packed into two words, and active by 16 bits of a predicate.
use Rattle.std.proofs.Common.{◌≡◌, ◌<◌, ◌≤◌, ◌+◌, ◌-◌, ◌*◌, ◌/◌, ◌%◌, ◌^◌, ℕ, zero, suc, Bool, true, false, cond, nat_eq, List, [], ◌∷◌, length, map, get_or, take, drop, if◌then◌else◌, inl, inr, refl, sym, ap, ap₂, subst, ◌∙◌, arith}
use Rattle.std.specs.List.{range_with_len}
use Rattle.std.proofs.Math.Nat.{mod-mod, mod-lt, pow-zero}
use Rattle.std.proofs.lemmas.Grind.{pow_more}
use Rattle.std.proofs.lemmas.List.{get_or-take, get_or-drop, length-take, length-drop}
use Rattle.std.proofs.lemmas.List.FromFn.{fill_by_all}
use Rattle.std.proofs.lemmas.Nat.{pow-add, pow_pos, shr-shr, div-add-mod'}
use Rattle.std.proofs.lemmas.Simd.{get_or_narrower, get_or_wider}
use Rattle.std.specs.Simd.Lanes.{digits_l, number_l, zip2, Each1}
use Rattle.emu_model.specs.SoundState.{IsVectorLength}
use Rattle.emu_model.specs.Lists.{each}
use Rattle.emu_model.specs.ListLaws.{get_or-each}
use Rattle.emu_model.specs.Active.{active}
use Rattle.emu_model.specs.Lanes.{lane}
use Rattle.emu_model.specs.LaneSizes.{IsLaneSize}
use Rattle.emu_model.proofs.LaneBytes.{within_bytes}
use Rattle.vec_regs.specs.Packed.{packed}
use Rattle.vec_regs.specs.Words.{bytes_of, bits_of, bit_of}
use Rattle.vec_regs.proofs.Parts.{same_part}
use Rattle.vec_regs.proofs.WordLanes.{lane_of_words}
use Rattle.lane_pack.specs.Bits.{is_set}
use Rattle.lane_kernels.specs.Chunks.{zip3}

-- ---- powers

pub powers : (e n : ℕ) → (2 ^ e) ^ n ≡ 2 ^ (e * n)
powers e zero = let z : e * 0 ≡ 0 = omega arith in pow-zero (2 ^ e) ∙ sym (ap (λ k. 2 ^ k) z)
powers e (suc n) =
    let s : suc n ≡ n + 1 = omega arith in
    let t : e * suc n ≡ e * n + e = omega arith in
    ap (λ k. (2 ^ e) ^ k) s ∙ pow_more (2 ^ e) n ∙ ap (λ x. x * 2 ^ e) (powers e n) ∙ sym (pow-add 2 (e * n) e) ∙ sym (ap (λ k. 2 ^ k) t)

-- ---- lanes of two words

pair_at : (words : List ℕ) (i q : ℕ) → q < 2 → get_or (get_or words (2 * i) 0 ∷ get_or words (2 * i + 1) 0 ∷ []) q 0 ≡ get_or words (2 * i + q) 0
pair_at words i zero h = let e : 2 * i ≡ 2 * i + 0 = omega arith in ap (λ k. get_or words k 0) e
pair_at words i (suc zero) h = refl
pair_at words i (suc (suc q)) h = absurd (omega arith)

-- c lanes of e bits in a word
module _ (e c bits i j : ℕ) (words : List ℕ) (size : IsLaneSize e) (whole : 2 ^ 64 ≡ (2 ^ e) ^ c) (some : 0 < c) where
  from_pair : get_or words (2 * i) 0 < 2 ^ 64 → get_or words (2 * i + 1) 0 < 2 ^ 64 → j / c < 2 → j < 2 * c → i * (2 * c) + j < bits / e
      → (i * (2 * c) + j) * (e / 8) / 8 ≡ 2 * i + j / c → 8 * (((i * (2 * c) + j) * (e / 8)) % 8) ≡ e * (j % c)
      → get_or (digits_l (2 ^ e) (2 * c) (number_l (2 ^ 64) (get_or words (2 * i) 0 ∷ get_or words (2 * i + 1) 0 ∷ []))) j 0 ≡ lane e (bytes_of (bits / 8) words) (i * (2 * c) + j) % 2 ^ e
  from_pair p q half b within quotient rest =
      let xs : List ℕ = get_or words (2 * i) 0 ∷ get_or words (2 * i + 1) 0 ∷ [] in
      let at : c * (j / c) + j % c ≡ j = omega (arith, div-add-mod' j c) in
      let inside : c * (j / c) + j % c < 2 * c = subst (λ x. x < 2 * c) (sym at) b in
      let k : ℕ = i * (2 * c) + j in
      let it : lane e (bytes_of (bits / 8) words) (i * (2 * c) + j) ≡ get_or words ((i * (2 * c) + j) * (e / 8) / 8) 0 / 2 ^ (8 * (((i * (2 * c) + j) * (e / 8)) % 8)) % 2 ^ e
      = lane_of_words words (bits / 8) e (i * (2 * c) + j) size (within_bytes e (i * (2 * c) + j) bits size within) in
      ap (λ x. get_or (digits_l (2 ^ e) (2 * c) (number_l (2 ^ 64) xs)) x 0) (sym at)
      ∙ get_or_narrower (2 ^ 64) c (2 ^ e) (2 * c) xs (j / c) (j % c) whole (p, (q, tt)) (mod-lt j some) inside
      ∙ ap₂ (λ x y. x / y % 2 ^ e) (pair_at words i (j / c) half ∙ ap (λ x. get_or words x 0) (sym quotient)) (powers e (j % c) ∙ ap (λ x. 2 ^ x) (sym rest))
      ∙ sym (ap (λ x. x % 2 ^ e) it ∙ mod-mod (get_or words ((i * (2 * c) + j) * (e / 8) / 8) 0 / 2 ^ (8 * (((i * (2 * c) + j) * (e / 8)) % 8))) (2 ^ e))

pub lanes_of_pair : (e w bits i j : ℕ) (words : List ℕ) → IsLaneSize e → w * e ≡ 128 → IsVectorLength bits → i < bits / 128 → j < w
    → get_or words (2 * i) 0 < 2 ^ 64 → get_or words (2 * i + 1) 0 < 2 ^ 64
    → get_or (digits_l (2 ^ e) w (number_l (2 ^ 64) (get_or words (2 * i) 0 ∷ get_or words (2 * i + 1) 0 ∷ []))) j 0 ≡ lane e (bytes_of (bits / 8) words) (i * w + j) % 2 ^ e
lanes_of_pair e w bits i j words size whole l h b p q =
    let P : ℕ → ℕ → Type 0 = λ e w. get_or (digits_l (2 ^ e) w (number_l (2 ^ 64) (get_or words (2 * i) 0 ∷ get_or words (2 * i + 1) 0 ∷ []))) j 0 ≡ lane e (bytes_of (bits / 8) words) (i * w + j) % 2 ^ e in
    elim size [
      | inl s ↦
          (let product : w * 8 ≡ 128 = rw s at whole in
          let t : w ≡ 2 * 8 = omega arith in
          let d : j < 16 = omega arith in
          subst (λ e. P e w) (sym s) (subst (P 8) (sym t) (from_pair 8 8 bits i j words (inl refl) refl (omega arith) p q (omega arith) (omega arith) (omega arith) (omega arith) (omega arith))))
      | inr r ↦ elim r [
        | inl s ↦
            (let product : w * 16 ≡ 128 = rw s at whole in
            let t : w ≡ 2 * 4 = omega arith in
            let d : j < 8 = omega arith in
            subst (λ e. P e w) (sym s) (subst (P 16) (sym t) (from_pair 16 4 bits i j words (inr (inl refl)) refl (omega arith) p q (omega arith) (omega arith) (omega arith) (omega arith) (omega arith))))
        | inr r ↦ elim r [
          | inl s ↦
              (let product : w * 32 ≡ 128 = rw s at whole in
              let t : w ≡ 2 * 2 = omega arith in
              let d : j < 4 = omega arith in
              subst (λ e. P e w) (sym s) (subst (P 32) (sym t) (from_pair 32 2 bits i j words (inr (inr (inl refl))) refl (omega arith) p q (omega arith) (omega arith) (omega arith) (omega arith) (omega arith))))
          | inr s ↦
              (let product : w * 64 ≡ 128 = rw s at whole in
              let t : w ≡ 2 * 1 = omega arith in
              let d : j < 2 = omega arith in
              subst (λ e. P e w) (sym s) (subst (P 64) (sym t) (from_pair 64 1 bits i j words (inr (inr (inr refl))) refl (omega arith) p q (omega arith) (omega arith) (omega arith) (omega arith) (omega arith))))
        ]
      ]
    ]

-- ---- two words of lanes

number_packed : (e : ℕ) (g : ℕ → ℕ) (ks : List ℕ) → number_l (2 ^ e) (map (λ k. g k % 2 ^ e) ks) ≡ packed e (map g ks)
number_packed e g [] = refl
number_packed e g (k ∷ ks) = ap (λ x. g k % 2 ^ e + 2 ^ e * x) (number_packed e g ks)

all_small : (p : ℕ) (xs : List ℕ) → ((j : ℕ) → j < length xs → get_or xs j 0 < p) → Each1 (λ x. x < p) xs
all_small p [] h = tt
all_small p (x ∷ xs) h = (h 0 (omega arith), all_small p xs (λ j b. let s : suc j < length (x ∷ xs) = omega arith in h (suc j) s))

module _ (e c i h : ℕ) (f : ℕ → ℕ) (lanes : List ℕ) (whole : 2 ^ 64 ≡ (2 ^ e) ^ c) where
  from_lanes : length lanes ≡ 2 * c → ((j : ℕ) → j < 2 * c → get_or lanes j 0 ≡ f (i * (2 * c) + j) % 2 ^ e) → h < 2 → c * h + c ≤ 2 * c
      → get_or (digits_l (2 ^ 64) 2 (number_l (2 ^ e) lanes)) h 0 ≡ packed e (each c (λ j. f ((2 * i + h) * c + j)))
  from_lanes count is half room =
      let small : Each1 (λ x. x < 2 ^ e) lanes = all_small (2 ^ e) lanes (λ j b. let d : j < 2 * c = omega arith in subst (λ x. x < 2 ^ e) (sym (is j d)) (mod-lt (f (i * (2 * c) + j)) (pow_pos e))) in
      let cut : List ℕ = take c (drop (c * h) lanes) in
      let long : length (take c (drop (c * h) lanes)) ≡ c = omega (arith, length-take c (drop (c * h) lanes), length-drop (c * h) lanes) in
      let spot : (k : ℕ) → i * (2 * c) + (c * h + k) ≡ (2 * i + h) * c + k = λ k. omega arith in
      let part : take c (drop (c * h) lanes) ≡ each c (λ j. f ((2 * i + h) * c + j) % 2 ^ e)
      = fill_by_all (λ j. f ((2 * i + h) * c + j) % 2 ^ e) (take c (drop (c * h) lanes)) c 0 long (λ k b.
      let d : c * h + k < 2 * c = omega arith in
      get_or-take c (drop (c * h) lanes) k 0 b ∙ get_or-drop (c * h) lanes k 0 ∙ is (c * h + k) d ∙ ap (λ x. f x % 2 ^ e) (spot k)) in
      get_or_wider (2 ^ e) c (2 ^ 64) 2 lanes h whole small half
      ∙ ap (number_l (2 ^ e)) part
      ∙ number_packed e (λ j. f ((2 * i + h) * c + j)) (range_with_len 0 c)

pub pair_of_lanes : (e w i h : ℕ) (f : ℕ → ℕ) (lanes : List ℕ) → IsLaneSize e → w * e ≡ 128 → length lanes ≡ w → ((j : ℕ) → j < w → get_or lanes j 0 ≡ f (i * w + j) % 2 ^ e) → h < 2
    → get_or (digits_l (2 ^ 64) 2 (number_l (2 ^ e) lanes)) h 0 ≡ packed e (each (64 / e) (λ j. f ((2 * i + h) * (64 / e) + j)))
pair_of_lanes e w i h f lanes size whole count is half =
    let P : ℕ → ℕ → Type 0 = λ e w. length lanes ≡ w → ((j : ℕ) → j < w → get_or lanes j 0 ≡ f (i * w + j) % 2 ^ e) → get_or (digits_l (2 ^ 64) 2 (number_l (2 ^ e) lanes)) h 0 ≡ packed e (each (64 / e) (λ j. f ((2 * i + h) * (64 / e) + j))) in
    elim size [
      | inl s ↦
          (let product : w * 8 ≡ 128 = rw s at whole in
          let t : w ≡ 2 * 8 = omega arith in
          subst (λ e. P e w) (sym s) (subst (P 8) (sym t) (λ n k. from_lanes 8 8 i h f lanes refl n k half (omega arith))) count is)
      | inr r ↦ elim r [
        | inl s ↦
            (let product : w * 16 ≡ 128 = rw s at whole in
            let t : w ≡ 2 * 4 = omega arith in
            subst (λ e. P e w) (sym s) (subst (P 16) (sym t) (λ n k. from_lanes 16 4 i h f lanes refl n k half (omega arith))) count is)
        | inr r ↦ elim r [
          | inl s ↦
              (let product : w * 32 ≡ 128 = rw s at whole in
              let t : w ≡ 2 * 2 = omega arith in
              subst (λ e. P e w) (sym s) (subst (P 32) (sym t) (λ n k. from_lanes 32 2 i h f lanes refl n k half (omega arith))) count is)
          | inr s ↦
              (let product : w * 64 ≡ 128 = rw s at whole in
              let t : w ≡ 2 * 1 = omega arith in
              subst (λ e. P e w) (sym s) (subst (P 64) (sym t) (λ n k. from_lanes 64 1 i h f lanes refl n k half (omega arith))) count is)
        ]
      ]
    ]

-- ---- 16 bits of a predicate

part_bit : (x n s : ℕ) → s < 16 → (x / 2 ^ n) % 65536 / 2 ^ s % 2 ≡ x / 2 ^ (n + s) % 2
part_bit x n s b =
    let up : s + 1 ≤ 16 = omega arith in
    same_part ((x / 2 ^ n) % 65536) (x / 2 ^ n) 16 s 1 (mod-mod (x / 2 ^ n) 65536) up ∙ ap (λ y. y % 2) (shr-shr x n s)

-- a flag of lane k = i * w + j stands at bit i * 16 + j * (e / 8)
module _ (e w bits i j : ℕ) (words : List ℕ) where
  from_part : i * 16 + j * (e / 8) < bits / 8 → (i * w + j) * (e / 8) ≡ i * 16 + j * (e / 8) → j * (e / 8) < 16
      → is_set (get_or words (i / 4) 0 / 2 ^ (16 * (i % 4)) % 65536) (j * (e / 8)) ≡ active e (bits_of (bits / 8) words) (i * w + j)
  from_part within same low =
      let s : ℕ = j * (e / 8) in
      let quotient : (i * 16 + j * (e / 8)) / 64 ≡ i / 4 = omega arith in
      let rest : (i * 16 + j * (e / 8)) % 64 ≡ 16 * (i % 4) + j * (e / 8) = omega arith in
      ap (λ x. nat_eq x 1) (part_bit (get_or words (i / 4) 0) (16 * (i % 4)) (j * (e / 8)) low
      ∙ ap₂ (λ x y. get_or words x 0 / 2 ^ y % 2) (sym quotient) (sym rest))
      ∙ sym (ap (λ x. get_or (bits_of (bits / 8) words) x false) same ∙ get_or-each (bits / 8) (bit_of words) (i * 16 + j * (e / 8)) false within)

pub active_by_part : (e w bits i j : ℕ) (words : List ℕ) → IsLaneSize e → w * e ≡ 128 → IsVectorLength bits → i < bits / 128 → j < w
    → is_set (get_or words (i / 4) 0 / 2 ^ (16 * (i % 4)) % 65536) (j * (e / 8)) ≡ active e (bits_of (bits / 8) words) (i * w + j)
active_by_part e w bits i j words size whole l h b =
    let P : ℕ → ℕ → Type 0 = λ e w. is_set (get_or words (i / 4) 0 / 2 ^ (16 * (i % 4)) % 65536) (j * (e / 8)) ≡ active e (bits_of (bits / 8) words) (i * w + j) in
    elim size [
      | inl s ↦
          (let product : w * 8 ≡ 128 = rw s at whole in
          let t : w ≡ 16 = omega arith in
          let d : j < 16 = omega arith in
          subst (λ e. P e w) (sym s) (subst (P 8) (sym t) (from_part 8 16 bits i j words (omega arith) (omega arith) (omega arith))))
      | inr r ↦ elim r [
        | inl s ↦
            (let product : w * 16 ≡ 128 = rw s at whole in
            let t : w ≡ 8 = omega arith in
            let d : j < 8 = omega arith in
            subst (λ e. P e w) (sym s) (subst (P 16) (sym t) (from_part 16 8 bits i j words (omega arith) (omega arith) (omega arith))))
        | inr r ↦ elim r [
          | inl s ↦
              (let product : w * 32 ≡ 128 = rw s at whole in
              let t : w ≡ 4 = omega arith in
              let d : j < 4 = omega arith in
              subst (λ e. P e w) (sym s) (subst (P 32) (sym t) (from_part 32 4 bits i j words (omega arith) (omega arith) (omega arith))))
          | inr s ↦
              (let product : w * 64 ≡ 128 = rw s at whole in
              let t : w ≡ 2 = omega arith in
              let d : j < 2 = omega arith in
              subst (λ e. P e w) (sym s) (subst (P 64) (sym t) (from_part 64 2 bits i j words (omega arith) (omega arith) (omega arith))))
        ]
      ]
    ]

pub picked : (t s : Bool) (a b x y m : ℕ) → t ≡ s → x ≡ a % m → y ≡ b % m → cond t x y ≡ (if s then a else b) % m
picked t s a b x y m e p q = ap₂ (cond t) p q ∙ ap (λ c. cond c (a % m) (b % m)) e ∙ chosen s where
  chosen : (s : Bool) → cond s (a % m) (b % m) ≡ (if s then a else b) % m
  chosen true = refl
  chosen false = refl

-- ---- operations of lanes

pub lane_small : (e bits k : ℕ) (words : List ℕ) → IsLaneSize e → k < bits / e → lane e (bytes_of (bits / 8) words) k % 2 ^ e ≡ lane e (bytes_of (bits / 8) words) k
lane_small e bits k words size within =
    let it = lane_of_words words (bits / 8) e k size (within_bytes e k bits size within) in
    ap (λ x. x % 2 ^ e) it ∙ mod-mod (get_or words (k * (e / 8) / 8) 0 / 2 ^ (8 * ((k * (e / 8)) % 8))) (2 ^ e) ∙ sym it

pub inside_register : (e w bits i j : ℕ) → IsLaneSize e → w * e ≡ 128 → i < bits / 128 → j < w → i * w + j < bits / e
inside_register e w bits i j (inl s) whole h b = let q : w * 8 ≡ 128 = rw s at whole in let t : w ≡ 16 = omega arith in rw (s, t) (omega arith)
inside_register e w bits i j (inr (inl s)) whole h b = let q : w * 16 ≡ 128 = rw s at whole in let t : w ≡ 8 = omega arith in rw (s, t) (omega arith)
inside_register e w bits i j (inr (inr (inl s))) whole h b = let q : w * 32 ≡ 128 = rw s at whole in let t : w ≡ 4 = omega arith in rw (s, t) (omega arith)
inside_register e w bits i j (inr (inr (inr s))) whole h b = let q : w * 64 ≡ 128 = rw s at whole in let t : w ≡ 2 = omega arith in rw (s, t) (omega arith)

-- all lanes of 128 bits are
pub register_room : (e w bits i : ℕ) → IsLaneSize e → w * e ≡ 128 → i < bits / 128 → i * w + w ≤ bits / e
register_room e w bits i (inl s) whole h = let q : w * 8 ≡ 128 = rw s at whole in let t : w ≡ 16 = omega arith in rw (s, t) (omega arith)
register_room e w bits i (inr (inl s)) whole h = let q : w * 16 ≡ 128 = rw s at whole in let t : w ≡ 8 = omega arith in rw (s, t) (omega arith)
register_room e w bits i (inr (inr (inl s))) whole h = let q : w * 32 ≡ 128 = rw s at whole in let t : w ≡ 4 = omega arith in rw (s, t) (omega arith)
register_room e w bits i (inr (inr (inr s))) whole h = let q : w * 64 ≡ 128 = rw s at whole in let t : w ≡ 2 = omega arith in rw (s, t) (omega arith)

pub mapped : {A : Type 0} (number : A → ℕ) (f : A → A) (entry : ℕ → ℕ) (m : ℕ) → ((x : A) → number (f x) ≡ entry (number x) % m)
    → (xs : List A) (j : ℕ) → j < length xs → get_or (map number (map f xs)) j 0 ≡ entry (get_or (map number xs) j 0) % m
mapped number f entry m law [] j p = absurd (omega arith)
mapped number f entry m law (x ∷ xs) zero p = law x
mapped number f entry m law (x ∷ xs) (suc j) p = mapped number f entry m law xs j (omega arith)

pub zipped : {A : Type 0} (number : A → ℕ) (f : A → A → A) (entry : ℕ → ℕ → ℕ) (m : ℕ) → ((x y : A) → number (f x y) ≡ entry (number x) (number y) % m)
    → (xs ys : List A) (j : ℕ) → j < length xs → j < length ys → get_or (map number (zip2 f xs ys)) j 0 ≡ entry (get_or (map number xs) j 0) (get_or (map number ys) j 0) % m
zipped number f entry m law [] ys j p q = absurd (omega arith)
zipped number f entry m law (x ∷ xs) [] j p q = absurd (omega arith)
zipped number f entry m law (x ∷ xs) (y ∷ ys) zero p q = law x y
zipped number f entry m law (x ∷ xs) (y ∷ ys) (suc j) p q = zipped number f entry m law xs ys j (omega arith) (omega arith)

pub zipped3 : {A : Type 0} (number : A → ℕ) (f : A → A → A → A) (entry : ℕ → ℕ → ℕ → ℕ) (m : ℕ) → ((x y z : A) → number (f x y z) ≡ entry (number x) (number y) (number z) % m)
    → (xs ys zs : List A) (j : ℕ) → j < length xs → j < length ys → j < length zs → get_or (map number (zip3 f xs ys zs)) j 0 ≡ entry (get_or (map number xs) j 0) (get_or (map number ys) j 0) (get_or (map number zs) j 0) % m
zipped3 number f entry m law [] ys zs j p q r = absurd (omega arith)
zipped3 number f entry m law (x ∷ xs) [] zs j p q r = absurd (omega arith)
zipped3 number f entry m law (x ∷ xs) (y ∷ ys) [] j p q r = absurd (omega arith)
zipped3 number f entry m law (x ∷ xs) (y ∷ ys) (z ∷ zs) zero p q r = law x y z
zipped3 number f entry m law (x ∷ xs) (y ∷ ys) (z ∷ zs) (suc j) p q r = zipped3 number f entry m law xs ys zs j (omega arith) (omega arith) (omega arith)

-- a lane read from words is below 2^e
pub lane_read_small : (e bits k : ℕ) (bytes words : List ℕ) → IsLaneSize e → k < bits / e → bytes ≡ bytes_of (bits / 8) words → lane e bytes k % 2 ^ e ≡ lane e bytes k
lane_read_small e bits k bytes words size within is = ap (λ (bs : List ℕ). lane e bs k % 2 ^ e) is ∙ lane_small e bits k words size within ∙ ap (λ (bs : List ℕ). lane e bs k) (sym is)
