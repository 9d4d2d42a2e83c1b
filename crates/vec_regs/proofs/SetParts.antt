-- What a write of one byte or one bit shows.
use Rattle.std.proofs.Common.{◌≡◌, ◌<◌, ◌*◌, ◌/◌, ◌%◌, ◌^◌, ℕ, Bool, true, false, List, [], length, get_or, set, nat_eq, refl, ap, sym, ◌∙◌, arith}
use Rattle.std.proofs.lemmas.List.Elements.{All-get_or}
use Rattle.std.specs.List.{All}
use mir.Val.{bool_byte}
use Rattle.emu_model.specs.State.{Vectors}
use Rattle.emu_model.specs.Lanes.{read_z, read_p, with_z, with_p, with_ffr}
use Rattle.vec_regs.specs.Packed.{put}
use Rattle.vec_regs.specs.Words.{bytes_of, bits_of, bit_of, AreClearFrom}
use Rattle.vec_regs.specs.Shown.{shown}
use Rattle.vec_regs.specs.declared.VecRegs.TheInside.{Inside}
use Rattle.vec_regs.proofs.Parts.{changed, changed_bytes, changed_bits, changed_bit_other}
use Rattle.vec_regs.proofs.Views.{z_shown, p_shown, ffr_shown, set_z_shown, set_p_shown, set_ffr_shown}

pub set_byte_shown : (a : Inside) (v : Vectors) (n r k b x : ℕ) → n ≡ r → shown a ≡ v → length a.z ≡ 32 → n < 32 → k / 8 < length (get_or a.z n []) → k < v.bits / 8 → b < 2 ^ 8
    → x ≡ put (get_or (get_or a.z n []) (k / 8) 0) ((k % 8) * 8) 8 b
    → shown (record a { z = set a.z n (set (get_or a.z n []) (k / 8) x) }) ≡ with_z v r (set (read_z v r) k b)
set_byte_shown a v n r k b x same e count h inner within small is =
    set_z_shown a v n (set (get_or a.z n []) (k / 8) x) e
    ∙ ap (λ (w : ℕ). with_z v n (bytes_of (v.bits / 8) (set (get_or a.z n []) (k / 8) w))) is
    ∙ ap (with_z v n) (changed_bytes (v.bits / 8) (get_or a.z n []) k b small inner within)
    ∙ ap (λ (bs : List ℕ). with_z v n (set bs k b)) (sym (z_shown a v n e count h))
    ∙ ap (λ (i : ℕ). with_z v i (set (read_z v i) k b)) same

pub one_place : (words : List ℕ) (k b x : ℕ) → x ≡ put (get_or words (k / 64) 0) (k % 64) 1 b → set words (k / 64) x ≡ changed 1 64 words k b
one_place words k b x is =
    let e : k % 64 ≡ (k % 64) * 1 = omega arith in
    ap (set words (k / 64)) (is ∙ ap (λ p. put (get_or words (k / 64) 0) p 1 b) e)

pub set_bit_shown : (a : Inside) (v : Vectors) (n r k b x : ℕ) (t : Bool) → n ≡ r → shown a ≡ v → length a.p ≡ 16 → n < 16 → k / 64 < length (get_or a.p n []) → k < v.bits / 8 → b < 2 → nat_eq b 1 ≡ t
    → x ≡ put (get_or (get_or a.p n []) (k / 64) 0) (k % 64) 1 b
    → shown (record a { p = set a.p n (set (get_or a.p n []) (k / 64) x) }) ≡ with_p v r (set (read_p v r) k t)
set_bit_shown a v n r k b x t same e count h inner within small flag is =
    set_p_shown a v n (set (get_or a.p n []) (k / 64) x) e
    ∙ ap (λ (ws : List ℕ). with_p v n (bits_of (v.bits / 8) ws)) (one_place (get_or a.p n []) k b x is)
    ∙ ap (with_p v n) (changed_bits (v.bits / 8) (get_or a.p n []) k b small inner within)
    ∙ ap (λ (s : Bool). with_p v n (set (bits_of (v.bits / 8) (get_or a.p n [])) k s)) flag
    ∙ ap (λ (bs : List Bool). with_p v n (set bs k t)) (sym (p_shown a v n e count h))
    ∙ ap (λ (i : ℕ). with_p v i (set (read_p v i) k t)) same

pub set_ffr_bit_shown : (a : Inside) (v : Vectors) (k b x : ℕ) (t : Bool) → shown a ≡ v → k / 64 < length a.ffr → k < v.bits / 8 → b < 2 → nat_eq b 1 ≡ t
    → x ≡ put (get_or a.ffr (k / 64) 0) (k % 64) 1 b
    → shown (record a { ffr = set a.ffr (k / 64) x }) ≡ with_ffr v (set v.ffr k t)
set_ffr_bit_shown a v k b x t e inner within small flag is =
    set_ffr_shown a v (set a.ffr (k / 64) x) e
    ∙ ap (λ (ws : List ℕ). with_ffr v (bits_of (v.bits / 8) ws)) (one_place a.ffr k b x is)
    ∙ ap (with_ffr v) (changed_bits (v.bits / 8) a.ffr k b small inner within)
    ∙ ap (λ (s : Bool). with_ffr v (set (bits_of (v.bits / 8) a.ffr) k s)) flag
    ∙ ap (λ (bs : List Bool). with_ffr v (set bs k t)) (sym (ffr_shown a v e))

pub clear_after : (n k b x : ℕ) (words : List ℕ) → k < n → b < 2 → k / 64 < length words → x ≡ put (get_or words (k / 64) 0) (k % 64) 1 b → AreClearFrom n words → AreClearFrom n (set words (k / 64) x)
clear_after n k b x words within small inner is clear j le =
    let other : j ≡ k → ⊥ = λ s. omega arith in
    ap (λ (ws : List ℕ). bit_of ws j) (one_place words k b x is) ∙ changed_bit_other words k b j small inner other ∙ clear j le

pub inner_width : (m : ℕ) (xs : List (List ℕ)) (n k : ℕ) → All (λ (ws : List ℕ). length ws ≡ m) xs → n < length xs → k < m → k < length (get_or xs n [])
inner_width m xs n k all h within = let e : length (get_or xs n []) ≡ m = All-get_or (λ (ws : List ℕ). length ws ≡ m) xs n [] h all in omega arith

bool_byte_small : (b : Bool) → bool_byte b < 2
bool_byte_small true = omega arith
bool_byte_small false = omega arith

pub flag_small : (b : Bool) (n : ℕ) → n ≡ bool_byte b → n < 2
flag_small b n e = let h : bool_byte b < 2 = bool_byte_small b in omega arith

bool_byte_is : (b : Bool) → nat_eq (bool_byte b) 1 ≡ b
bool_byte_is true = refl
bool_byte_is false = refl

pub flag_is : (b : Bool) (n : ℕ) → n ≡ bool_byte b → nat_eq n 1 ≡ b
flag_is b n e = ap (λ x. nat_eq x 1) e ∙ bool_byte_is b
