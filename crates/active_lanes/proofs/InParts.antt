-- A register that is written 128 bits after 128 bits.
use Rattle.std.proofs.Common.{◌≡◌, ◌<◌, ◌≤◌, ◌+◌, ◌-◌, ◌*◌, ◌/◌, ◌%◌, ◌^◌, ℕ, Bool, true, false, nat_eq, nat_lt, if◌then◌else◌, List, [], ◌∷◌, length, take, drop, get_or, inl, inr, sym, ap, ◌∙◌, arith}
use Rattle.std.proofs.lemmas.Bool.{cases_lt, cases_eq}
use Rattle.std.proofs.lemmas.Bool.Decides.{nat_tests}
use Rattle.std.proofs.lemmas.List.{get_or-set_same, get_or_past, set-get_or, set-set}
use Rattle.std.proofs.lemmas.List.FromFn.{fill_by_all}
use Rattle.byteorder.specs.Endian.{little_number}
use Rattle.emu_model.proofs.LittleEndian.{number_of_part}
use Rattle.emu_model.specs.SoundState.{IsVectorLength}
use Rattle.emu_model.specs.Lists.{each}
use Rattle.emu_model.specs.ListLaws.{length-each, get_or-each, each_same}
use Rattle.emu_model.specs.State.{Vectors}
use Rattle.emu_model.specs.Lanes.{read_z, with_z}
use Rattle.vec_regs.specs.Words.{byte_of, bytes_of, byte_with_pair}
use Rattle.active_lanes.proofs.Words.{byte_of_number}

-- byte j of a register of which the first i parts have the bytes that g gives
abbrev pub part_byte : (ℕ → ℕ) → ℕ → List ℕ → ℕ → ℕ
part_byte g i bytes j = if nat_lt (j / 16) i then g j else get_or bytes j 0

abbrev pub parts : (ℕ → ℕ) → ℕ → ℕ → Vectors → Vectors
parts g i zd v = with_z v zd (each (v.bits / 8) (part_byte g i (read_z v zd)))

-- ---- a register that has words

module _ (v : Vectors) (zd : ℕ) (words : List ℕ) (is : read_z v zd ≡ bytes_of (v.bits / 8) words) where
  has_bytes : length (read_z v zd) ≡ v.bits / 8
  has_bytes = ap (λ (bs : List ℕ). length bs) is ∙ length-each (v.bits / 8) (byte_of 8 words)

  among : IsVectorLength v.bits → zd < length v.z
  among l = elim (cases_lt zd (length v.z)) [
    | inl there ↦ there
    | inr past ↦
        (let none : length (read_z v zd) ≡ 0 = ap (λ (bs : List ℕ). length bs) (get_or_past v.z zd [] past) in
        let some : length (read_z v zd) ≡ v.bits / 8 = has_bytes in
        absurd (omega (arith, l.least)))
  ]

  pub no_parts : (g : ℕ → ℕ) → v ≡ parts g 0 zd v
  no_parts g =
      let bytes : read_z v zd ≡ each (v.bits / 8) (part_byte g 0 (read_z v zd))
      = fill_by_all (part_byte g 0 (read_z v zd)) (read_z v zd) (v.bits / 8) 0 has_bytes (λ k b.
      let isnt_below : nat_lt (k / 16) 0 ≡ false = grind (arith, nat_tests) in
      ap (λ t. if t then g k else get_or (read_z v zd) k 0) (sym isnt_below)) in
      ap (λ (z : List (List ℕ)). record v { z = z }) (sym (set-get_or v.z zd [])) ∙ ap (with_z v zd) bytes

  parts_read : IsVectorLength v.bits → (g : ℕ → ℕ) (i : ℕ) → read_z (parts g i zd v) zd ≡ each (v.bits / 8) (part_byte g i (read_z v zd))
  parts_read l g i = get_or-set_same v.z zd (each (v.bits / 8) (part_byte g i (read_z v zd))) [] (among l)

  pub one_part_more : IsVectorLength v.bits → (g : ℕ → ℕ) (i : ℕ) (pair : List ℕ) → ((t : ℕ) → t < 16 → byte_of 8 pair t ≡ g (16 * i + t))
      → with_z (parts g i zd v) zd (each (v.bits / 8) (byte_with_pair (read_z (parts g i zd v) zd) i pair)) ≡ parts g (i + 1) zd v
  one_part_more l g i pair made =
      ap (λ (z : List (List ℕ)). record v { z = z }) (set-set v.z zd (each (v.bits / 8) (part_byte g i (read_z v zd))) (each (v.bits / 8) (byte_with_pair (read_z (parts g i zd v) zd) i pair)))
      ∙ ap (with_z v zd) (each_same (v.bits / 8) (byte_with_pair (read_z (parts g i zd v) zd) i pair) (part_byte g (i + 1) (read_z v zd)) 0 (λ j b.
      let choice : Bool → ℕ = λ t. if t then byte_of 8 pair (j % 16) else get_or (read_z (parts g i zd v) zd) j 0 in
      let before : Bool → ℕ = λ t. if t then g j else get_or (read_z v zd) j 0 in
      elim (cases_eq (j / 16) i) [
        | inl s ↦
            (let here : nat_eq (j / 16) i ≡ true = grind (arith, nat_tests) in
            let is_below : nat_lt (j / 16) (i + 1) ≡ true = grind (arith, nat_tests) in
            let place : 16 * i + j % 16 ≡ j = omega arith in
            let within : j % 16 < 16 = omega arith in
            ap choice here ∙ made (j % 16) within ∙ ap g place ∙ ap before (sym is_below))
        | inr other ↦
            (let there : nat_eq (j / 16) i ≡ false = grind (arith, nat_tests) in
            ap choice there
            ∙ ap (λ (bs : List ℕ). get_or bs j 0) (parts_read l g i)
            ∙ get_or-each (v.bits / 8) (part_byte g i (read_z v zd)) j 0 b
            ∙ elim (cases_lt (j / 16) i) [
              | inl low ↦
                  (let is_below : nat_lt (j / 16) i ≡ true = grind (arith, nat_tests) in
                  let later : nat_lt (j / 16) (i + 1) ≡ true = grind (arith, nat_tests) in
                  ap before (is_below ∙ sym later))
              | inr high ↦
                  (let isnt_below : nat_lt (j / 16) i ≡ false = grind (arith, nat_tests) in
                  let above : i < j / 16 = omega arith in
                  let never : nat_lt (j / 16) (i + 1) ≡ false = grind (arith, nat_tests) in
                  ap before (isnt_below ∙ sym never))
            ])
      ]))

pub all_parts : (v : Vectors) (zd : ℕ) (g : ℕ → ℕ) (i : ℕ) → IsVectorLength v.bits → v.bits / 128 ≤ i → parts g i zd v ≡ with_z v zd (each (v.bits / 8) g)
all_parts v zd g i l end =
    ap (with_z v zd) (each_same (v.bits / 8) (part_byte g i (read_z v zd)) g 0 (λ j b.
    let within : j / 16 < i = omega (arith, l.multiple) in
    let is_below : nat_lt (j / 16) i ≡ true = grind (arith, nat_tests) in
    ap (λ t. if t then g j else get_or (read_z v zd) j 0) is_below))

-- the bytes of two words
pub pair_bytes : (low high i : ℕ) (g : ℕ → ℕ) → ((t : ℕ) → t < 8 → low / 2 ^ (8 * t) % 256 ≡ g (8 * (2 * i) + t)) → ((t : ℕ) → t < 8 → high / 2 ^ (8 * t) % 256 ≡ g (8 * (2 * i + 1) + t))
    → (t : ℕ) → t < 16 → byte_of 8 (low ∷ (high ∷ [])) t ≡ g (16 * i + t)
pair_bytes low high i g first second t b = elim (cases_lt t 8) [
  | inl h ↦
      (let q : t / 8 ≡ 0 = omega arith in
      let r : t % 8 ≡ t = omega arith in
      let place : 8 * (2 * i) + t ≡ 16 * i + t = omega arith in
      ap (λ k. get_or (low ∷ (high ∷ [])) k 0 / 2 ^ (8 * (t % 8)) % 256) q
      ∙ ap (λ s. low / 2 ^ (8 * s) % 256) r ∙ first t h ∙ ap g place)
  | inr h ↦
      (let q : t / 8 ≡ 1 = omega arith in
      let r : t % 8 ≡ t - 8 = omega arith in
      let within : t - 8 < 8 = omega arith in
      let place : 8 * (2 * i + 1) + (t - 8) ≡ 16 * i + t = omega arith in
      ap (λ k. get_or (low ∷ (high ∷ [])) k 0 / 2 ^ (8 * (t % 8)) % 256) q
      ∙ ap (λ s. high / 2 ^ (8 * s) % 256) r ∙ second (t - 8) within ∙ ap g place)
]

-- the bytes of eight bytes read as a word
pub read_byte : (bs : List ℕ) (place x : ℕ) → ((k : ℕ) → get_or bs k 0 < 256) → x ≡ little_number 8 (take (place + 8 - place) (drop place bs)) → (t : ℕ) → t < 8 → x / 2 ^ (8 * t) % 256 ≡ get_or bs (place + t) 0
read_byte bs place x small is t h =
    let count : place + 8 - place ≡ 8 = omega arith in
    ap (λ x. x / 2 ^ (8 * t) % 256) (is ∙ ap (λ n. little_number 8 (take n (drop place bs))) count ∙ number_of_part bs place 8 8 (omega arith))
    ∙ byte_of_number bs small 8 place t h

-- the bytes of two words of a list
pub word_bytes : (words : List ℕ) (k t : ℕ) → t < 8 → get_or words k 0 / 2 ^ (8 * t) % 256 ≡ byte_of 8 words (8 * k + t)
word_bytes words k t b =
    let q : (8 * k + t) / 8 ≡ k = omega arith in
    let r : (8 * k + t) % 8 ≡ t = omega arith in
    ap (λ k. get_or words k 0 / 2 ^ (8 * t) % 256) (sym q) ∙ ap (λ s. get_or words ((8 * k + t) / 8) 0 / 2 ^ (8 * s) % 256) (sym r)
