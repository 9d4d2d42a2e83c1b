-- What reads and writes of the words show.
use Rattle.std.proofs.Common.{◌≡◌, ◌<◌, ◌/◌, ◌%◌, ◌^◌, ◌*◌, ℕ, zero, suc, Bool, false, List, [], length, set, get_or, replicate, nat_eq, refl, sym, ap, subst, ◌∙◌, arith}
use Rattle.std.proofs.lemmas.List.{map-set, get_or-map, length-replicate, get_or-replicate}
use Rattle.std.proofs.lemmas.List.FromFn.{fill_by_all}
use Rattle.emu_model.specs.State.{Vectors, zero_vectors}
use Rattle.emu_model.specs.ListLaws.{get_or-each}
use Rattle.emu_model.specs.Lanes.{read_z, read_p, with_z, with_p, with_ffr}
use Rattle.vec_regs.specs.Words.{bytes_of, bits_of, byte_of, bit_of}
use Rattle.vec_regs.specs.Shown.{shown}
use Rattle.vec_regs.specs.declared.VecRegs.TheInside.{Inside}

-- ---- reads

pub z_shown : (a : Inside) (v : Vectors) (r : ℕ) → shown a ≡ v → length a.z ≡ 32 → r < 32 → read_z v r ≡ bytes_of (v.bits / 8) (get_or a.z r [])
z_shown a v r e count h =
    let within : r < length a.z = omega arith in
    let P : Vectors → Type 0 = λ v. read_z v r ≡ bytes_of (v.bits / 8) (get_or a.z r []) in
    subst P e (get_or-map (bytes_of (a.length / 8)) a.z r [] [] within)

pub p_shown : (a : Inside) (v : Vectors) (r : ℕ) → shown a ≡ v → length a.p ≡ 16 → r < 16 → read_p v r ≡ bits_of (v.bits / 8) (get_or a.p r [])
p_shown a v r e count h =
    let within : r < length a.p = omega arith in
    let P : Vectors → Type 0 = λ v. read_p v r ≡ bits_of (v.bits / 8) (get_or a.p r []) in
    subst P e (get_or-map (bits_of (a.length / 8)) a.p r [] [] within)

pub z_byte_shown : (a : Inside) (v : Vectors) (r k : ℕ) → shown a ≡ v → length a.z ≡ 32 → r < 32 → k < v.bits / 8 → get_or (read_z v r) k 0 ≡ byte_of 8 (get_or a.z r []) k
z_byte_shown a v r k e count h within =
    ap (λ (bs : List ℕ). get_or bs k 0) (z_shown a v r e count h) ∙ get_or-each (v.bits / 8) (byte_of 8 (get_or a.z r [])) k 0 within

pub p_bit_shown : (a : Inside) (v : Vectors) (r k : ℕ) → shown a ≡ v → length a.p ≡ 16 → r < 16 → k < v.bits / 8 → get_or (read_p v r) k false ≡ bit_of (get_or a.p r []) k
p_bit_shown a v r k e count h within =
    ap (λ (bs : List Bool). get_or bs k false) (p_shown a v r e count h) ∙ get_or-each (v.bits / 8) (bit_of (get_or a.p r [])) k false within

pub ffr_shown : (a : Inside) (v : Vectors) → shown a ≡ v → v.ffr ≡ bits_of (v.bits / 8) a.ffr
ffr_shown a v e =
    let P : Vectors → Type 0 = λ v. v.ffr ≡ bits_of (v.bits / 8) a.ffr in
    subst P e refl

pub ffr_bit_shown : (a : Inside) (v : Vectors) (k : ℕ) → shown a ≡ v → k < v.bits / 8 → get_or v.ffr k false ≡ bit_of a.ffr k
ffr_bit_shown a v k e within =
    ap (λ (bs : List Bool). get_or bs k false) (ffr_shown a v e) ∙ get_or-each (v.bits / 8) (bit_of a.ffr) k false within

-- ---- writes

pub set_z_shown : (a : Inside) (v : Vectors) (r : ℕ) (w : List ℕ) → shown a ≡ v → shown (record a { z = set a.z r w }) ≡ with_z v r (bytes_of (v.bits / 8) w)
set_z_shown a v r w e =
    let P : Vectors → Type 0 = λ v. shown (record a { z = set a.z r w }) ≡ with_z v r (bytes_of (v.bits / 8) w) in
    subst P e (ap (λ (z : List (List ℕ)). record (shown a) { z = z }) (map-set (bytes_of (a.length / 8)) a.z r w))

pub set_p_shown : (a : Inside) (v : Vectors) (r : ℕ) (w : List ℕ) → shown a ≡ v → shown (record a { p = set a.p r w }) ≡ with_p v r (bits_of (v.bits / 8) w)
set_p_shown a v r w e =
    let P : Vectors → Type 0 = λ v. shown (record a { p = set a.p r w }) ≡ with_p v r (bits_of (v.bits / 8) w) in
    subst P e (ap (λ (p : List (List Bool)). record (shown a) { p = p }) (map-set (bits_of (a.length / 8)) a.p r w))

pub set_ffr_shown : (a : Inside) (v : Vectors) (w : List ℕ) → shown a ≡ v → shown (record a { ffr = w }) ≡ with_ffr v (bits_of (v.bits / 8) w)
set_ffr_shown a v w e =
    let P : Vectors → Type 0 = λ v. shown (record a { ffr = w }) ≡ with_ffr v (bits_of (v.bits / 8) w) in
    subst P e refl

-- ---- zeros

pub zero_word : (n i : ℕ) → let xs : List ℕ = replicate n 0 in get_or xs i 0 ≡ 0
zero_word zero i = refl
zero_word (suc n) zero = refl
zero_word (suc n) (suc i) = zero_word n i

pub nothing : (x : ℕ) → 0 / x ≡ 0
nothing zero = refl
nothing (suc x) = omega arith

zero_byte : (n j : ℕ) → byte_of 8 (replicate n 0) j ≡ 0
zero_byte n j = ap (λ x. x / 2 ^ (8 * (j % 8)) % 256) (zero_word n (j / 8)) ∙ ap (λ x. x % 256) (nothing (2 ^ (8 * (j % 8))))

pub zero_bit : (n j : ℕ) → bit_of (replicate n 0) j ≡ false
zero_bit n j = ap (λ x. nat_eq (x / 2 ^ (j % 64) % 2) 1) (zero_word n (j / 64)) ∙ ap (λ x. nat_eq (x % 2) 1) (nothing (2 ^ (j % 64)))

zero_bytes : (n m : ℕ) → bytes_of n (replicate m 0) ≡ replicate n 0
zero_bytes n m = sym (fill_by_all (byte_of 8 (replicate m 0)) (replicate n 0) n 0 (length-replicate n 0) (λ k h. get_or-replicate n k 0 0 h ∙ sym (zero_byte m k)))

pub zero_bits : (n m : ℕ) → bits_of n (replicate m 0) ≡ replicate n false
zero_bits n m = sym (fill_by_all (bit_of (replicate m 0)) (replicate n false) n false (length-replicate n false) (λ k h. get_or-replicate n k false false h ∙ sym (zero_bit m k)))

abbrev pub zero_inside : ℕ → Inside
zero_inside n = record { z = replicate 32 (replicate 32 0); p = replicate 16 (replicate 4 0); ffr = replicate 4 0; most = n; length = n }

pub zero_shown : (n : ℕ) → shown (zero_inside n) ≡ zero_vectors n
zero_shown n =
    let f : List ℕ → List Bool → Vectors = λ z p. record { most = n; bits = n; z = replicate 32 z; p = replicate 16 p; ffr = p } in
    ap (λ (z : List ℕ). f z (bits_of (n / 8) (replicate 4 0))) (zero_bytes (n / 8) 32) ∙ ap (f (replicate (n / 8) 0)) (zero_bits (n / 8) 4)

pub ruleset views = (z_shown, p_shown, ffr_shown, z_byte_shown, p_bit_shown, ffr_bit_shown, set_z_shown, set_p_shown, set_ffr_shown)
