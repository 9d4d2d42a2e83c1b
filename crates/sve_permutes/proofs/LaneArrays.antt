-- Registers as lists of lanes.
use Rattle.std.proofs.Common.{◌≡◌, ◌<◌, ◌≤◌, ◌+◌, ◌*◌, ◌/◌, ◌%◌, ◌^◌, ℕ, zero, suc, Bool, true, false, nat_lt, if◌then◌else◌, List, [], ◌∷◌, map, length, take, drop, replicate, get_or, set, inl, inr, refl, sym, ap, ap₂, subst, ◌∙◌, arith}
use Rattle.std.proofs.Math.Nat.{mod-mod, mod-lt, mod-eq_of_lt, pow-le-pow_right, zero-div}
use Rattle.std.specs.Prelude.{ℤ, pos, negsuc}
use Rattle.std.proofs.Math.Path.{fun_ext}
use Rattle.std.proofs.lemmas.Bool.{cases_lt}
use Rattle.std.proofs.lemmas.Bool.Decides.{nat_tests}
use Rattle.std.proofs.lemmas.List.{take-map, drop-map, drop_all, get_or_past, get_or-take, get_or-drop, get_or-set_other, length-map, length-take, length-drop}
use Rattle.std.proofs.lemmas.List.Edits.{fill_by_more}
use Rattle.std.proofs.lemmas.List.FromFn.{fill_by_all}
use Rattle.std.specs.List.{range_with_len}
use Rattle.std.specs.Simd.Lanes.{number_l}
use Rattle.std.proofs.lemmas.Nat.{pow_pos}
use Rattle.emu_bits.specs.Numbers.{signed, unsigned_int}
use Rattle.emu_model.specs.SoundState.{IsVectorLength}
use Rattle.emu_model.specs.Lists.{each}
use Rattle.emu_model.specs.ListLaws.{length-each}
use Rattle.register_lanes.proofs.PairLanes.{lane_read_small}
use Rattle.lane_pack.specs.Bits.{lane_in}
use Rattle.lane_model.specs.Bits.{is_set}
use Rattle.lane_permute.specs.Slices.{number_at}
use Rattle.lane_model.specs.declared.places.LaneSource.{LaneSource}
use Rattle.lane_model.specs.declared.places.LaneSource.TheVariants.{FirstLane, SecondLane, Scalar, Zero}
use Rattle.sve_effects.specs.Lane.{extended_by}
use Rattle.sve_effects.specs.Permute.{taken, indexed_place}
use Rattle.emu_model.specs.Lanes.{number, lane}
use Rattle.emu_model.specs.LaneSizes.{IsLaneSize}
use Rattle.emu_model.proofs.LaneBytes.{within_bytes}
use Rattle.vec_regs.specs.Packed.{packed}
use Rattle.emu_model.specs.Active.{active}
use Rattle.vec_regs.specs.Words.{bytes_of, byte_of, bits_of, bit_of, AreZeroFrom}
use Rattle.vec_regs.proofs.WordLanes.{lane_of_words}

-- ---- lanes of a register that isn't so long

take_none : {A : Type 0} (n : ℕ) → let none : List A = [] in take n none ≡ none
take_none zero = refl
take_none (suc n) = refl

lane_past : (e k : ℕ) (bytes : List ℕ) → length bytes ≤ k * (e / 8) → lane e bytes k ≡ 0
lane_past e k bytes h = ap (λ (b : List ℕ). number (take (e / 8) b)) (drop_all (k * (e / 8)) bytes h) ∙ ap number (take_none (e / 8))

behind_bytes : (e bits k : ℕ) → IsLaneSize e → IsVectorLength bits → bits / e ≤ k → bits / 8 ≤ k * (e / 8)
behind_bytes e bits k (inl s) l h = let m : bits % 128 ≡ 0 = l.multiple in let p : bits / 8 ≤ k = rw s at h in rw s (omega arith)
behind_bytes e bits k (inr (inl s)) l h = let m : bits % 128 ≡ 0 = l.multiple in let p : bits / 16 ≤ k = rw s at h in rw s (omega arith)
behind_bytes e bits k (inr (inr (inl s))) l h = let m : bits % 128 ≡ 0 = l.multiple in let p : bits / 32 ≤ k = rw s at h in rw s (omega arith)
behind_bytes e bits k (inr (inr (inr s))) l h = let m : bits % 128 ≡ 0 = l.multiple in let p : bits / 64 ≤ k = rw s at h in rw s (omega arith)

behind_words : (e bits k : ℕ) → IsLaneSize e → IsVectorLength bits → bits / e ≤ k → bits / 64 ≤ k / (64 / e)
behind_words e bits k (inl s) l h = let m : bits % 128 ≡ 0 = l.multiple in let p : bits / 8 ≤ k = rw s at h in rw s (omega arith)
behind_words e bits k (inr (inl s)) l h = let m : bits % 128 ≡ 0 = l.multiple in let p : bits / 16 ≤ k = rw s at h in rw s (omega arith)
behind_words e bits k (inr (inr (inl s))) l h = let m : bits % 128 ≡ 0 = l.multiple in let p : bits / 32 ≤ k = rw s at h in rw s (omega arith)
behind_words e bits k (inr (inr (inr s))) l h = let m : bits % 128 ≡ 0 = l.multiple in let p : bits / 64 ≤ k = rw s at h in rw s (omega arith)

pub lane_behind : (e bits k : ℕ) (bytes words : List ℕ) → IsLaneSize e → IsVectorLength bits → bytes ≡ bytes_of (bits / 8) words → bits / e ≤ k → lane e bytes k ≡ 0
lane_behind e bits k bytes words size l is h =
    let count : length bytes ≡ bits / 8 = ap (λ (b : List ℕ). length b) is ∙ length-each (bits / 8) (byte_of 8 words) in
    let past : length bytes ≤ k * (e / 8) = omega (arith, behind_bytes e bits k size l h) in
    lane_past e k bytes past

same_place : (e k : ℕ) (words : List ℕ) → IsLaneSize e → lane_in e words k ≡ get_or words (k * (e / 8) / 8) 0 / 2 ^ (8 * ((k * (e / 8)) % 8)) % 2 ^ e
same_place e k words size =
    let P : ℕ → Type 0 = λ e. lane_in e words k ≡ get_or words (k * (e / 8) / 8) 0 / 2 ^ (8 * ((k * (e / 8)) % 8)) % 2 ^ e in
    elim size [
      | inl s ↦ subst P (sym s) (at 8 (k / 8) (k % 8 * 8) (omega arith) (omega arith))
      | inr r ↦ elim r [
        | inl s ↦ subst P (sym s) (at 16 (k / 4) (k % 4 * 16) (omega arith) (omega arith))
        | inr r ↦ elim r [
          | inl s ↦ subst P (sym s) (at 32 (k / 2) (k % 2 * 32) (omega arith) (omega arith))
          | inr s ↦ subst P (sym s) (at 64 (k / 1) (k % 1 * 64) (omega arith) (omega arith))
        ]
      ]
    ] where
      at : (e p q : ℕ) → p ≡ k * (e / 8) / 8 → q ≡ 8 * ((k * (e / 8)) % 8) → get_or words p 0 / 2 ^ q % 2 ^ e ≡ get_or words (k * (e / 8) / 8) 0 / 2 ^ (8 * ((k * (e / 8)) % 8)) % 2 ^ e
      at e p q r s = ap₂ (λ p q. get_or words p 0 / 2 ^ q % 2 ^ e) r s

no_lane : (q e : ℕ) → 0 / 2 ^ q % 2 ^ e ≡ 0
no_lane q e = ap (λ x. x % 2 ^ e) (zero-div (2 ^ q)) ∙ omega arith

pub none_mod : (e : ℕ) → 0 ≡ 0 % 2 ^ e
none_mod e = omega arith

-- a lane of words is a lane of the register that they are
pub lane_in_is : (e bits k : ℕ) (bytes words : List ℕ) → IsLaneSize e → IsVectorLength bits → bytes ≡ bytes_of (bits / 8) words → AreZeroFrom (bits / 64) words → lane_in e words k ≡ lane e bytes k % 2 ^ e
lane_in_is e bits k bytes words size l is above = elim (cases_lt k (bits / e)) [
  | inl h ↦
      (let it = lane_of_words words (bits / 8) e k size (within_bytes e k bits size h) in
      same_place e k words size ∙ sym (mod-mod (get_or words (k * (e / 8) / 8) 0 / 2 ^ (8 * ((k * (e / 8)) % 8))) (2 ^ e))
      ∙ ap (λ x. x % 2 ^ e) (sym it ∙ ap (λ (b : List ℕ). lane e b k) (sym is)))
  | inr h ↦
      (ap (λ x. x / 2 ^ (k % (64 / e) * e) % 2 ^ e) (above (k / (64 / e)) (behind_words e bits k size l h)) ∙ no_lane (k % (64 / e) * e) e
      ∙ none_mod e ∙ ap (λ x. x % 2 ^ e) (sym (lane_behind e bits k bytes words size l is h)))
]

-- ---- what places name

pub taken_mod : (a b x y : ℕ → ℕ) (e : ℕ) → ((k : ℕ) → x k ≡ a k % 2 ^ e) → ((k : ℕ) → y k ≡ b k % 2 ^ e) → (p : LaneSource) → taken x y 0 0 p ≡ taken a b 0 0 p % 2 ^ e
taken_mod a b x y e xs ys (FirstLane j) = xs j
taken_mod a b x y e xs ys (SecondLane j) = ys j
taken_mod a b x y e xs ys Scalar = none_mod e
taken_mod a b x y e xs ys Zero = none_mod e

-- a table with zeros above
pub table_lane : (a x : ℕ → ℕ) (e n m i : ℕ) → ((k : ℕ) → x k ≡ a k % 2 ^ e) → ((k : ℕ) → n ≤ k → a k ≡ 0) → n ≤ m → taken x x 0 0 (indexed_place i m) ≡ taken a a 0 0 (indexed_place i n) % 2 ^ e
table_lane a x e n m i xs none few = by_test (nat_lt i m) (nat_lt i n) refl refl where
  by_test : (t s : Bool) → nat_lt i m ≡ t → nat_lt i n ≡ s → taken x x 0 0 (if t then FirstLane i else Zero) ≡ taken a a 0 0 (if s then FirstLane i else Zero) % 2 ^ e
  by_test true true p q = xs i
  by_test true false p q = let above : n ≤ i = grind (arith, nat_tests) in xs i ∙ ap (λ y. y % 2 ^ e) (none i above)
  by_test false true p q = absurd (grind (arith, nat_tests))
  by_test false false p q = none_mod e

-- ---- the first lanes of a list

module _ {T : Type 0} (f : T → ℕ) where
  pub cut_lanes : (n : ℕ) (xs : List T) (a : ℕ → ℕ) (e : ℕ) → ((k : ℕ) → number_at f xs k ≡ a k % 2 ^ e) → ((k : ℕ) → n ≤ k → a k ≡ 0) → (k : ℕ) → number_at f (take n xs) k ≡ a k % 2 ^ e
  cut_lanes n xs a e is none k = elim (cases_lt k n) [
    | inl h ↦ ap (λ (ys : List ℕ). get_or ys k 0) (sym (take-map f n xs)) ∙ get_or-take n (map f xs) k 0 h ∙ is k
    | inr h ↦
        (let past : length (map f (take n xs)) ≤ k = omega (arith, length-map (take n xs) f, length-take n xs) in
        get_or_past (map f (take n xs)) k 0 past ∙ none_mod e ∙ ap (λ y. y % 2 ^ e) (sym (none k h)))
  ]

  -- a permute of the first lanes of two registers
  pub permuted_mod : (e n m long : ℕ) (xs ys out : List T) (a b : ℕ → ℕ) (place : ℕ → ℕ → LaneSource) → m ≡ n → long ≡ n
      → ((k : ℕ) → number_at f xs k ≡ a k % 2 ^ e) → ((k : ℕ) → n ≤ k → a k ≡ 0) → ((k : ℕ) → number_at f ys k ≡ b k % 2 ^ e) → ((k : ℕ) → n ≤ k → b k ≡ 0)
      → length out ≡ n → ((k : ℕ) → k < length out → number_at f out k ≡ taken (number_at f (take m xs)) (number_at f (take m ys)) 0 0 (place long k))
      → (k : ℕ) → k < n → number_at f out k ≡ taken a b 0 0 (place n k) % 2 ^ e
  permuted_mod e n m long xs ys out a b place same count first first_none second second_none length_is is k h =
      let within : k < length out = omega arith in
      is k within
      ∙ ap (λ m. taken (number_at f (take m xs)) (number_at f (take m ys)) 0 0 (place long k)) same
      ∙ ap (λ l. taken (number_at f (take n xs)) (number_at f (take n ys)) 0 0 (place l k)) count
      ∙ taken_mod a b (number_at f (take n xs)) (number_at f (take n ys)) e (cut_lanes n xs a e first first_none) (cut_lanes n ys b e second second_none) (place n k)

  number_packed : (e : ℕ) (g : ℕ → ℕ) (ks : List ℕ) → number_l (2 ^ e) (map (λ k. g k % 2 ^ e) ks) ≡ packed e (map g ks)
  number_packed e g [] = refl
  number_packed e g (k ∷ ks) = ap (λ x. g k % 2 ^ e + 2 ^ e * x) (number_packed e g ks)

  -- word i of lanes
  pub word_is : (e c n i : ℕ) (g : ℕ → ℕ) (xs : List T) → length xs ≡ n → i * c + c ≤ n → ((k : ℕ) → k < n → number_at f xs k ≡ g k % 2 ^ e)
      → number_l (2 ^ e) (map f (take c (drop (i * c) xs))) ≡ packed e (each c (λ j. g (i * c + j)))
  word_is e c n i g xs count room is =
      let cut : List ℕ = take c (drop (i * c) (map f xs)) in
      let long : length (take c (drop (i * c) (map f xs))) ≡ c = omega (arith, length-take c (drop (i * c) (map f xs)), length-drop (i * c) (map f xs), length-map xs f) in
      let part : take c (drop (i * c) (map f xs)) ≡ each c (λ j. g (i * c + j) % 2 ^ e)
      = fill_by_all (λ j. g (i * c + j) % 2 ^ e) (take c (drop (i * c) (map f xs))) c 0 long (λ k b.
      let d : i * c + k < n = omega arith in
      get_or-take c (drop (i * c) (map f xs)) k 0 b ∙ get_or-drop (i * c) (map f xs) k 0 ∙ is (i * c + k) d) in
      ap (number_l (2 ^ e)) (sym (ap (λ (ys : List ℕ). take c ys) (drop-map f (i * c) xs) ∙ take-map f c (drop (i * c) xs)) ∙ part)
      ∙ number_packed e (λ j. g (i * c + j)) (range_with_len 0 c)

  pub word_behind : (p c d : ℕ) (xs : List T) → length xs ≤ d → number_l p (map f (take c (drop d xs))) ≡ 0
  word_behind p c d xs h = let none : List T = [] in ap (λ (ys : List T). number_l p (map f (take c ys))) (drop_all d xs h) ∙ ap (λ (ys : List T). number_l p (map f ys)) (take_none c)

pub lanes_fit : (e bits : ℕ) → IsLaneSize e → IsVectorLength bits → bits / e * e ≤ 2048
lanes_fit e bits (inl s) l = let m : bits ≤ 2048 = l.most in rw s (omega arith)
lanes_fit e bits (inr (inl s)) l = let m : bits ≤ 2048 = l.most in rw s (omega arith)
lanes_fit e bits (inr (inr (inl s))) l = let m : bits ≤ 2048 = l.most in rw s (omega arith)
lanes_fit e bits (inr (inr (inr s))) l = let m : bits ≤ 2048 = l.most in rw s (omega arith)

pub lanes_few : (e n bits : ℕ) → IsLaneSize e → IsVectorLength bits → n * e ≡ 2048 → bits / e ≤ n
lanes_few e n bits (inl s) l h = let m : bits ≤ 2048 = l.most in let q : n * 8 ≡ 2048 = rw s at h in rw s (omega arith)
lanes_few e n bits (inr (inl s)) l h = let m : bits ≤ 2048 = l.most in let q : n * 16 ≡ 2048 = rw s at h in rw s (omega arith)
lanes_few e n bits (inr (inr (inl s))) l h = let m : bits ≤ 2048 = l.most in let q : n * 32 ≡ 2048 = rw s at h in rw s (omega arith)
lanes_few e n bits (inr (inr (inr s))) l h = let m : bits ≤ 2048 = l.most in let q : n * 64 ≡ 2048 = rw s at h in rw s (omega arith)

pub word_room : (e bits i : ℕ) → IsLaneSize e → i < bits / 64 → i * (64 / e) + 64 / e ≤ bits / e
word_room e bits i (inl s) h = rw s (omega arith)
word_room e bits i (inr (inl s)) h = rw s (omega arith)
word_room e bits i (inr (inr (inl s))) h = rw s (omega arith)
word_room e bits i (inr (inr (inr s))) h = rw s (omega arith)

pub word_past : (e bits i : ℕ) → IsLaneSize e → IsVectorLength bits → bits / 64 ≤ i → bits / e ≤ i * (64 / e)
word_past e bits i (inl s) l h = let m : bits % 128 ≡ 0 = l.multiple in rw s (omega arith)
word_past e bits i (inr (inl s)) l h = let m : bits % 128 ≡ 0 = l.multiple in rw s (omega arith)
word_past e bits i (inr (inr (inl s))) l h = let m : bits % 128 ≡ 0 = l.multiple in rw s (omega arith)
word_past e bits i (inr (inr (inr s))) l h = let m : bits % 128 ≡ 0 = l.multiple in rw s (omega arith)

-- ---- lanes below 2^e, and extended lanes

pub lane_small : (e bits k : ℕ) (bytes words : List ℕ) → IsLaneSize e → IsVectorLength bits → bytes ≡ bytes_of (bits / 8) words → lane e bytes k % 2 ^ e ≡ lane e bytes k
lane_small e bits k bytes words size l is = elim (cases_lt k (bits / e)) [
  | inl h ↦ lane_read_small e bits k bytes words size h is
  | inr h ↦ (let none = lane_behind e bits k bytes words size l is h in ap (λ x. x % 2 ^ e) none ∙ sym (none_mod e) ∙ sym none)
]

unsigned_fits : (z : ℤ) (b : ℕ) → unsigned_int z b < 2 ^ b
unsigned_fits (pos n) b = mod-lt n (pow_pos b)
unsigned_fits (negsuc n) b = let some : 0 < 2 ^ b = pow_pos b in omega arith

extended_fits : (s : Bool) (e h x : ℕ) → h ≤ e → x < 2 ^ h → extended_by s e h x < 2 ^ e
extended_fits true e h x le small = unsigned_fits (signed x h) e
extended_fits false e h x le small =
    let two : 0 < 2 = omega arith in
    let most : 2 ^ h ≤ 2 ^ e = pow-le-pow_right two le in
    omega arith

pub extended_mod : (s : Bool) (e h x y : ℕ) → h ≤ e → x ≡ y % 2 ^ h → y % 2 ^ h ≡ y → extended_by s e h x ≡ extended_by s e h y % 2 ^ e
extended_mod s e h x y le is small =
    let fits : y < 2 ^ h = subst (λ z. z < 2 ^ h) small (mod-lt y (pow_pos h)) in
    ap (extended_by s e h) (is ∙ small) ∙ sym (mod-eq_of_lt (extended_fits s e h y le fits))

-- ---- which lanes are active

pub no_flags : (n k : ℕ) → get_or (replicate n false) k false ≡ false
no_flags zero k = refl
no_flags (suc n) zero = refl
no_flags (suc n) (suc k) = no_flags n k

-- flags that are set one after the other
module _ (on : ℕ → Bool) (flags : List Bool) (k : ℕ) (b : Bool) where
  pub flag_set : k < length flags → b ≡ on k → ((i : ℕ) → i < k → get_or flags i false ≡ on i) → (i : ℕ) → i < k + 1 → get_or (set flags k b) i false ≡ on i
  flag_set room is done i h = subst (λ (b : Bool). get_or (set flags k b) i false ≡ on i) (sym is) (fill_by_more on flags k false room done i h)

  pub flags_still : ((i : ℕ) → k ≤ i → get_or flags i false ≡ false) → (i : ℕ) → k + 1 ≤ i → get_or (set flags k b) i false ≡ false
  flags_still rest i h =
      let other : i ≡ k → ⊥ = λ s. omega arith in
      let behind : k ≤ i = omega arith in
      get_or-set_other flags k i b false other ∙ rest i behind

pub active_behind : (e bits k : ℕ) (flags : List Bool) (words : List ℕ) → IsLaneSize e → IsVectorLength bits → flags ≡ bits_of (bits / 8) words → bits / e ≤ k → active e flags k ≡ false
active_behind e bits k flags words size l is h =
    let count : length flags ≡ bits / 8 = ap (λ (b : List Bool). length b) is ∙ length-each (bits / 8) (bit_of words) in
    let past : length flags ≤ k * (e / 8) = omega (arith, behind_bytes e bits k size l h) in
    get_or_past flags (k * (e / 8)) false past

pub cut_flags : (n m : ℕ) (flags : List Bool) (on : ℕ → Bool) → m ≡ n → ((k : ℕ) → get_or flags k false ≡ on k) → ((k : ℕ) → n ≤ k → on k ≡ false) → (k : ℕ) → is_set (take m flags) k ≡ on k
cut_flags n m flags on same is none k = elim (cases_lt k m) [
  | inl h ↦ get_or-take m flags k false h ∙ is k
  | inr h ↦
      (let past : length (take m flags) ≤ k = omega (arith, length-take m flags) in
      let behind : n ≤ k = omega arith in
      get_or_past (take m flags) k false past ∙ sym (none k behind))
]

pub same_active : (n m : ℕ) (flags : List Bool) (on : ℕ → Bool) → m ≡ n → ((k : ℕ) → get_or flags k false ≡ on k) → ((k : ℕ) → n ≤ k → on k ≡ false) → is_set (take m flags) ≡ on
same_active n m flags on same is none = fun_ext (cut_flags n m flags on same is none)

-- ---- lanes of half the size

pub half_lanes : (e h bits : ℕ) → IsLaneSize h → IsVectorLength bits → e ≡ 2 * h → bits / h ≡ 2 * (bits / e)
half_lanes e h bits (inl s) l d = let m : bits % 128 ≡ 0 = l.multiple in let q : e ≡ 16 = omega arith in rw (s, q) (omega arith)
half_lanes e h bits (inr (inl s)) l d = let m : bits % 128 ≡ 0 = l.multiple in let q : e ≡ 32 = omega arith in rw (s, q) (omega arith)
half_lanes e h bits (inr (inr (inl s))) l d = let m : bits % 128 ≡ 0 = l.multiple in let q : e ≡ 64 = omega arith in rw (s, q) (omega arith)
half_lanes e h bits (inr (inr (inr s))) l d = let m : bits % 128 ≡ 0 = l.multiple in let q : e ≡ 128 = omega arith in rw (s, q) (omega arith)
