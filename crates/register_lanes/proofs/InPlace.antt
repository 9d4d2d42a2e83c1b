-- Laws of a register that is written 128 bits after 128 bits.
use Rattle.std.proofs.Common.{◌≡◌, ◌<◌, ◌≤◌, ◌+◌, ◌*◌, ◌/◌, ◌%◌, ◌^◌, ℕ, Bool, true, false, nat_eq, nat_lt, if◌then◌else◌, List, [], length, get_or, take, drop, inl, inr, refl, sym, ap, subst, ◌∙◌, arith}
use Rattle.std.proofs.lemmas.Bool.{cases_lt, cases_eq}
use Rattle.std.proofs.lemmas.Bool.Decides.{nat_tests}
use Rattle.std.proofs.lemmas.List.{get_or-set_same, get_or-set_other, get_or_past, set-get_or, set-set}
use Rattle.std.proofs.lemmas.List.FromFn.{fill_by_all}
use Rattle.emu_model.specs.SoundState.{IsVectorLength}
use Rattle.emu_model.specs.Lists.{each}
use Rattle.emu_model.specs.ListLaws.{length-each, get_or-each, each_same}
use Rattle.emu_model.specs.State.{Vectors}
use Rattle.register_lanes.specs.Parts.{SamePart}
use Rattle.register_lanes.specs.Written.{written_byte, written}
use Rattle.emu_model.specs.Lanes.{byte_in, read_z, with_z, with_lanes}
use Rattle.emu_model.specs.LaneSizes.{IsLaneSize}
use Rattle.vec_regs.specs.Packed.{packed}
use Rattle.vec_regs.specs.Words.{byte_of, bytes_of, byte_with_pair}
use Rattle.vec_regs.proofs.PackedLanes.{byte_of_words, below_quotient}
use Rattle.register_lanes.proofs.RegisterWords.{part, within}

-- ---- a register that has words

has_bytes : (v : Vectors) (zd : ℕ) (words : List ℕ) → read_z v zd ≡ bytes_of (v.bits / 8) words → length (read_z v zd) ≡ v.bits / 8
has_bytes v zd words is = ap (λ (bs : List ℕ). length bs) is ∙ length-each (v.bits / 8) (byte_of 8 words)

among : (v : Vectors) (zd : ℕ) (words : List ℕ) → IsVectorLength v.bits → read_z v zd ≡ bytes_of (v.bits / 8) words → zd < length v.z
among v zd words l is = elim (cases_lt zd (length v.z)) [
  | inl there ↦ there
  | inr past ↦
      (let none : length (read_z v zd) ≡ 0 = ap (λ (bs : List ℕ). length bs) (get_or_past v.z zd [] past) in
      let some : length (read_z v zd) ≡ v.bits / 8 = has_bytes v zd words is in
      absurd (omega (arith, l.least)))
]

-- ---- before the first part, and behind the last

pub none_written : (e zd : ℕ) (f : ℕ → ℕ) (v : Vectors) (words : List ℕ) → read_z v zd ≡ bytes_of (v.bits / 8) words → v ≡ written e f 0 zd v
none_written e zd f v words is =
    let bytes : read_z v zd ≡ each (v.bits / 8) (written_byte e f 0 (read_z v zd))
    = fill_by_all (written_byte e f 0 (read_z v zd)) (read_z v zd) (v.bits / 8) 0 (has_bytes v zd words is) (λ k b.
    let isnt_below : nat_lt (k / 16) 0 ≡ false = grind (arith, nat_tests) in
    ap (λ t. if t then byte_in (e / 8) f k else get_or (read_z v zd) k 0) (sym isnt_below)) in
    ap (λ (z : List (List ℕ)). record v { z = z }) (sym (set-get_or v.z zd [])) ∙ ap (with_z v zd) bytes

pub all_written : (e zd i : ℕ) (f : ℕ → ℕ) (v : Vectors) → IsVectorLength v.bits → v.bits / 128 ≤ i → written e f i zd v ≡ with_lanes e f zd v
all_written e zd i f v l end =
    ap (with_z v zd) (each_same (v.bits / 8) (written_byte e f i (read_z v zd)) (byte_in (e / 8) f) 0 (λ j b.
    let within : j / 16 < i = omega (arith, l.multiple) in
    let is_below : nat_lt (j / 16) i ≡ true = grind (arith, nat_tests) in
    ap (λ t. if t then byte_in (e / 8) f j else get_or (read_z v zd) j 0) is_below))

-- ---- what the next part reads

written_read : (e zd i : ℕ) (f : ℕ → ℕ) (v : Vectors) (words : List ℕ) → IsVectorLength v.bits → read_z v zd ≡ bytes_of (v.bits / 8) words
    → read_z (written e f i zd v) zd ≡ each (v.bits / 8) (written_byte e f i (read_z v zd))
written_read e zd i f v words l is = get_or-set_same v.z zd (each (v.bits / 8) (written_byte e f i (read_z v zd))) [] (among v zd words l is)

pub still_unwritten : (e zd i : ℕ) (f : ℕ → ℕ) (v : Vectors) (words : List ℕ) → IsVectorLength v.bits → read_z v zd ≡ bytes_of (v.bits / 8) words → i < v.bits / 128
    → SamePart i (written e f i zd v) v
still_unwritten e zd i f v words l is within =
    let room : 16 * i + 16 ≤ v.bits / 8 = omega (arith, l.multiple) in
    let old : take 16 (drop (16 * i) (read_z v zd)) ≡ each 16 (λ j. byte_of 8 words (16 * i + j))
    = ap (λ (bs : List ℕ). take 16 (drop (16 * i) bs)) is ∙ part (v.bits / 8) (16 * i) 16 (byte_of 8 words) room in
    let new : take 16 (drop (16 * i) (read_z (written e f i zd v) zd)) ≡ each 16 (λ j. written_byte e f i (read_z v zd) (16 * i + j))
    = ap (λ (bs : List ℕ). take 16 (drop (16 * i) bs)) (written_read e zd i f v words l is) ∙ part (v.bits / 8) (16 * i) 16 (written_byte e f i (read_z v zd)) room in
    let same : each 16 (λ j. written_byte e f i (read_z v zd) (16 * i + j)) ≡ each 16 (λ j. byte_of 8 words (16 * i + j))
    = each_same 16 (λ j. written_byte e f i (read_z v zd) (16 * i + j)) (λ j. byte_of 8 words (16 * i + j)) 0 (λ j b.
    let here : (16 * i + j) / 16 ≡ i = omega arith in
    let isnt_below : nat_lt ((16 * i + j) / 16) i ≡ false = grind (arith, nat_tests) in
    let there : 16 * i + j < v.bits / 8 = omega arith in
    ap (λ t. if t then byte_in (e / 8) f (16 * i + j) else get_or (read_z v zd) (16 * i + j) 0) isnt_below
    ∙ ap (λ (bs : List ℕ). get_or bs (16 * i + j) 0) is ∙ get_or-each (v.bits / 8) (byte_of 8 words) (16 * i + j) 0 there) in
    record {
      predicates = refl;
      registers = λ r. elim (cases_eq r zd) [
        | inl s ↦
            (let P : ℕ → Type 0 = λ r. take 16 (drop (16 * i) (read_z (written e f i zd v) r)) ≡ take 16 (drop (16 * i) (read_z v r)) in
            subst P (sym s) (new ∙ same ∙ sym old))
        | inr other ↦ ap (λ (bs : List ℕ). take 16 (drop (16 * i) bs)) (get_or-set_other v.z zd r (each (v.bits / 8) (written_byte e f i (read_z v zd))) [] other)
      ];
    }

-- ---- one part more

-- byte j of lanes that are packed into words
packed_byte : (e bits j : ℕ) (f : ℕ → ℕ) → IsLaneSize e → IsVectorLength bits → j < bits / 8
    → packed e (each (64 / e) (λ t. f (j / 8 * (64 / e) + t))) / 2 ^ (8 * (j % 8)) % 256 ≡ byte_in (e / 8) f j
packed_byte e bits j f size l b =
    let word : j / 8 < bits / 64 = omega (arith, l.multiple) in
    ap (λ (xs : List ℕ). packed e xs / 2 ^ (8 * (j % 8)) % 256) (sym (part (bits / e) (j / 8 * (64 / e)) (64 / e) f (within e bits (j / 8) size word)))
    ∙ byte_of_words e size (each (bits / e) f) j
    ∙ ap (λ x. x / 2 ^ (8 * (j % (e / 8))) % 256) (get_or-each (bits / e) f (j / (e / 8)) 0 (below_quotient e bits j size l b))

pair_byte : (e bits i j : ℕ) (f : ℕ → ℕ) (pair : List ℕ) → IsLaneSize e → IsVectorLength bits → j < bits / 8 → j / 16 ≡ i
    → ((h : ℕ) → h < 2 → get_or pair h 0 ≡ packed e (each (64 / e) (λ t. f ((2 * i + h) * (64 / e) + t))))
    → byte_of 8 pair (j % 16) ≡ byte_in (e / 8) f j
pair_byte e bits i j f pair size l b at is =
    let half : j % 16 / 8 < 2 = omega arith in
    let word : 2 * i + j % 16 / 8 ≡ j / 8 = omega arith in
    let place : j % 16 % 8 ≡ j % 8 = omega arith in
    ap (λ x. x / 2 ^ (8 * (j % 16 % 8)) % 256) (is (j % 16 / 8) half ∙ ap (λ k. packed e (each (64 / e) (λ t. f (k * (64 / e) + t)))) word)
    ∙ ap (λ k. packed e (each (64 / e) (λ t. f (j / 8 * (64 / e) + t))) / 2 ^ (8 * k) % 256) place
    ∙ packed_byte e bits j f size l b

pub more_written : (e zd i : ℕ) (f : ℕ → ℕ) (v : Vectors) (words pair : List ℕ) → IsLaneSize e → IsVectorLength v.bits → read_z v zd ≡ bytes_of (v.bits / 8) words
    → ((h : ℕ) → h < 2 → get_or pair h 0 ≡ packed e (each (64 / e) (λ t. f ((2 * i + h) * (64 / e) + t))))
    → with_z (written e f i zd v) zd (each (v.bits / 8) (byte_with_pair (read_z (written e f i zd v) zd) i pair)) ≡ written e f (i + 1) zd v
more_written e zd i f v words pair size l is made =
    ap (λ (z : List (List ℕ)). record v { z = z }) (set-set v.z zd (each (v.bits / 8) (written_byte e f i (read_z v zd))) (each (v.bits / 8) (byte_with_pair (read_z (written e f i zd v) zd) i pair)))
    ∙ ap (with_z v zd) (each_same (v.bits / 8) (byte_with_pair (read_z (written e f i zd v) zd) i pair) (written_byte e f (i + 1) (read_z v zd)) 0 (λ j b.
    let choice : Bool → ℕ = λ t. if t then byte_of 8 pair (j % 16) else get_or (read_z (written e f i zd v) zd) j 0 in
    let before : Bool → ℕ = λ t. if t then byte_in (e / 8) f j else get_or (read_z v zd) j 0 in
    elim (cases_eq (j / 16) i) [
      | inl s ↦
          (let here : nat_eq (j / 16) i ≡ true = grind (arith, nat_tests) in
          let is_below : nat_lt (j / 16) (i + 1) ≡ true = grind (arith, nat_tests) in
          ap choice here ∙ pair_byte e v.bits i j f pair size l b s made ∙ ap before (sym is_below))
      | inr other ↦
          (let there : nat_eq (j / 16) i ≡ false = grind (arith, nat_tests) in
          ap choice there
          ∙ ap (λ (bs : List ℕ). get_or bs j 0) (written_read e zd i f v words l is)
          ∙ get_or-each (v.bits / 8) (written_byte e f i (read_z v zd)) j 0 b
          ∙ elim (cases_lt (j / 16) i) [
            | inl low ↦
                (let is_below : nat_lt (j / 16) i ≡ true = grind (arith, nat_tests) in
                let later : nat_lt (j / 16) (i + 1) ≡ true = grind (arith, nat_tests) in
                ap before (is_below ∙ sym later))
            | inr high ↦
                (let isnt_below : nat_lt (j / 16) i ≡ false = grind (arith, nat_tests) in
                let above : i < j / 16 = omega arith in
                let never : nat_lt (j / 16) (i + 1) ≡ false = grind (arith, nat_tests) in
                ap before (isnt_below ∙ sym never))
          ])
    ]))

-- lane j of part i
pub lane_place : (e w i j : ℕ) → IsLaneSize e → w * e ≡ 128 → j < w → (i * w + j) * e / 128 ≡ i
lane_place e w i j (inl s) whole b = let q : w * 8 ≡ 128 = rw s at whole in let t : w ≡ 16 = omega arith in rw (s, t) (omega arith)
lane_place e w i j (inr (inl s)) whole b = let q : w * 16 ≡ 128 = rw s at whole in let t : w ≡ 8 = omega arith in rw (s, t) (omega arith)
lane_place e w i j (inr (inr (inl s))) whole b = let q : w * 32 ≡ 128 = rw s at whole in let t : w ≡ 4 = omega arith in rw (s, t) (omega arith)
lane_place e w i j (inr (inr (inr s))) whole b = let q : w * 64 ≡ 128 = rw s at whole in let t : w ≡ 2 = omega arith in rw (s, t) (omega arith)
