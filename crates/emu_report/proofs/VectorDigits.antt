-- The digits of vector registers are those of their words.
use Rattle.std.proofs.Common.{◌≡◌, ℕ, zero, suc, ◌<◌, ◌+◌, ◌-◌, ◌*◌, ◌/◌, ◌%◌, ◌^◌, Bool, false, List, [], ◌∷◌, ◌++◌, map, length, get_or, nat_eq, refl, sym, ap, ◌∙◌, arith}
use Rattle.std.specs.Prelude.{reverse}
use Rattle.std.specs.List.{flat_map, range_with_len}
use Rattle.std.proofs.lemmas.List.{reverse-append}
use Rattle.std.proofs.lemmas.List.FromFn.{get_or-map-range_with_len}
use Rattle.std.proofs.lemmas.Nat.{shr-shr}
use Rattle.emu_bits.specs.Fields.{bit}
use Rattle.emu_model.specs.Lists.{each}
use Rattle.emu_model.specs.ListLaws.{each-more, each_same, length-each}
use Rattle.emu_run.specs.Text.{hex, hex_digit}
use Rattle.emu_run.specs.Registers.{byte_digits, bit_digits, nibble}
use Rattle.vec_regs.specs.Words.{byte_of, bit_of, bytes_of, bits_of}
use Rattle.emu_report.specs.WordDigits.{digit_of, word_digits}

-- ---- lists that are given one by one

same_ranges : {A : Type 0} (f g : ℕ → A) (a b n : ℕ) → ((k : ℕ) → k < n → f (a + k) ≡ g (b + k)) → map f (range_with_len a n) ≡ map g (range_with_len b n)
same_ranges f g a b zero h = refl
same_ranges f g a b (suc n) h =
    let here : f a ≡ g b = let p : a ≡ a + 0 = omega arith in let q : b + 0 ≡ b = omega arith in ap f p ∙ h 0 (omega arith) ∙ ap g q in
    let later : (k : ℕ) → k < n → f (a + 1 + k) ≡ g (b + 1 + k) =
    λ k lt. let p : a + 1 + k ≡ a + (k + 1) = omega arith in let q : b + (k + 1) ≡ b + 1 + k = omega arith in ap f p ∙ h (k + 1) (omega arith) ∙ ap g q in
    let rest : map f (range_with_len (a + 1) n) ≡ map g (range_with_len (b + 1) n) = same_ranges f g (a + 1) (b + 1) n later in
    cc

-- from the last down, the last first
last_first : (f : ℕ → ℕ) (n : ℕ) → each (suc n) (λ k. f (suc n - 1 - k)) ≡ f n ∷ each n (λ k. f (n - 1 - k))
last_first f n =
    let rest : map (λ k. f (suc n - 1 - k)) (range_with_len 1 n) ≡ each n (λ k. f (n - 1 - k)) =
    same_ranges (λ k. f (suc n - 1 - k)) (λ k. f (n - 1 - k)) 1 0 n (λ k lt. let e : suc n - 1 - (1 + k) ≡ n - 1 - (0 + k) = omega arith in ap f e) in
    let e : suc n - 1 - 0 ≡ n = omega arith in
    ap (λ (d : ℕ). d ∷ map (λ k. f (suc n - 1 - k)) (range_with_len 1 n)) (ap f e) ∙ ap (λ (ds : List ℕ). f n ∷ ds) rest

-- ---- two digits a byte

high_digit : (words : List ℕ) (m : ℕ) → digit_of words (suc (2 * m)) ≡ byte_of 8 words m / 16 % 16
high_digit words m =
    let x = get_or words (m / 8) 0 in
    let word : suc (2 * m) / 16 ≡ m / 8 = omega arith in
    let place : 4 * (suc (2 * m) % 16) ≡ 8 * (m % 8) + 4 = omega arith in
    let digit : (y : ℕ) → y / 16 % 16 ≡ y % 256 / 16 % 16 = λ y. omega arith in
    ap (λ (k : ℕ). get_or words k 0 / 2 ^ (4 * (suc (2 * m) % 16)) % 16) word
    ∙ ap (λ (p : ℕ). x / 2 ^ p % 16) place
    ∙ ap (λ (y : ℕ). y % 16) (sym (shr-shr x (8 * (m % 8)) 4))
    ∙ digit (x / 2 ^ (8 * (m % 8)))

low_digit : (words : List ℕ) (m : ℕ) → digit_of words (2 * m) ≡ byte_of 8 words m % 16
low_digit words m =
    let x = get_or words (m / 8) 0 in
    let word : 2 * m / 16 ≡ m / 8 = omega arith in
    let place : 4 * (2 * m % 16) ≡ 8 * (m % 8) = omega arith in
    let digit : (y : ℕ) → y % 16 ≡ y % 256 % 16 = λ y. omega arith in
    ap (λ (k : ℕ). get_or words k 0 / 2 ^ (4 * (2 * m % 16)) % 16) word
    ∙ ap (λ (p : ℕ). x / 2 ^ p % 16) place
    ∙ digit (x / 2 ^ (8 * (m % 8)))

reversed_more : (f : ℕ → ℕ) (n : ℕ) → reverse (each (n + 1) f) ≡ f n ∷ reverse (each n f)
reversed_more f n = ap reverse (each-more n f) ∙ reverse-append (each n f) (f n ∷ [])

two_more : (words : List ℕ) (n : ℕ) → word_digits (2 * (n + 1)) words ≡ hex_digit (digit_of words (suc (2 * n))) ∷ (hex_digit (digit_of words (2 * n)) ∷ word_digits (2 * n) words)
two_more words n =
    let f = λ (d : ℕ). hex_digit (digit_of words d) in
    let more : 2 * (n + 1) ≡ suc (suc (2 * n)) = omega arith in
    ap (λ (m : ℕ). word_digits m words) more ∙ last_first f (suc (2 * n)) ∙ ap (λ (ds : List ℕ). f (suc (2 * n)) ∷ ds) (last_first f (2 * n))

hex_byte : (x : ℕ) → hex 2 x ≡ hex_digit (x / 16 % 16) ∷ (hex_digit (x % 16) ∷ [])
hex_byte x = let e : x / 1 ≡ x = omega arith in ap (λ (y : ℕ). hex_digit (x / 16 % 16) ∷ (hex_digit (y % 16) ∷ [])) e

byte_digits_are : (words : List ℕ) (n : ℕ) → word_digits (2 * n) words ≡ flat_map (hex 2) (reverse (bytes_of n words))
byte_digits_are words zero = refl
byte_digits_are words (suc n) =
    let b = byte_of 8 words n in
    let rest = byte_digits_are words n in
    let one : suc n ≡ n + 1 = omega arith in
    ap (λ (m : ℕ). word_digits (2 * m) words) one
    ∙ two_more words n
    ∙ ap (λ (d : ℕ). hex_digit d ∷ (hex_digit (digit_of words (2 * n)) ∷ word_digits (2 * n) words)) (high_digit words n)
    ∙ ap (λ (d : ℕ). hex_digit (b / 16 % 16) ∷ (hex_digit d ∷ word_digits (2 * n) words)) (low_digit words n)
    ∙ ap (λ (ds : List ℕ). hex_digit (b / 16 % 16) ∷ (hex_digit (b % 16) ∷ ds)) rest
    ∙ ap (λ (ds : List ℕ). ds ++ flat_map (hex 2) (reverse (bytes_of n words))) (sym (hex_byte b))
    ∙ ap (flat_map (hex 2)) (sym (reversed_more (byte_of 8 words) n))
    ∙ ap (λ (m : ℕ). flat_map (hex 2) (reverse (bytes_of m words))) (sym one)

pub z_digits : (words z : List ℕ) (bits : ℕ) → bits % 128 ≡ 0 → z ≡ bytes_of (bits / 8) words → word_digits (bits / 4) words ≡ byte_digits z
z_digits words z bits h e =
    let twice : bits / 4 ≡ 2 * (bits / 8) = omega arith in
    ap (λ (n : ℕ). word_digits n words) twice ∙ byte_digits_are words (bits / 8) ∙ ap byte_digits (sym e)

-- ---- a digit for four bits

flag_is : (x : ℕ) → x < 2 → bit (nat_eq x 1) ≡ x
flag_is zero h = refl
flag_is (suc zero) h = refl
flag_is (suc (suc x)) h = absurd (omega arith)

digit_bit : (words : List ℕ) (d i : ℕ) → i < 4 → bit (bit_of words (4 * d + i)) ≡ get_or words (d / 16) 0 / 2 ^ (4 * (d % 16)) / 2 ^ i % 2
digit_bit words d i h =
    let x = get_or words (d / 16) 0 in
    let word : (4 * d + i) / 64 ≡ d / 16 = omega arith in
    let place : (4 * d + i) % 64 ≡ 4 * (d % 16) + i = omega arith in
    flag_is (get_or words ((4 * d + i) / 64) 0 / 2 ^ ((4 * d + i) % 64) % 2) (omega arith)
    ∙ ap (λ (k : ℕ). get_or words k 0 / 2 ^ ((4 * d + i) % 64) % 2) word
    ∙ ap (λ (p : ℕ). x / 2 ^ p % 2) place
    ∙ ap (λ (y : ℕ). y % 2) (sym (shr-shr x (4 * (d % 16)) i))

bit_read : (words : List ℕ) (n j : ℕ) → j < n → get_or (bits_of n words) j false ≡ bit_of words j
bit_read words n j h = get_or-map-range_with_len (bit_of words) 0 n j j false h (omega arith)

four_bits : (x : ℕ) → x / 1 % 2 + 2 * (x / 2 % 2) + 4 * (x / 4 % 2) + 8 * (x / 8 % 2) ≡ x % 16
four_bits x = omega arith

nibble_is : (words : List ℕ) (n d : ℕ) → 4 * d + 3 < n → nibble (bits_of n words) d ≡ digit_of words d
nibble_is words n d h =
    let x = get_or words (d / 16) 0 / 2 ^ (4 * (d % 16)) in
    let digit : (i : ℕ) → i < 4 → bit (get_or (bits_of n words) (4 * d + i) false) ≡ x / 2 ^ i % 2 =
    λ i lt. ap bit (bit_read words n (4 * d + i) (omega arith)) ∙ digit_bit words d i lt in
    let first : 4 * d + 0 ≡ 4 * d = omega arith in
    let e0 : bit (get_or (bits_of n words) (4 * d) false) ≡ x / 1 % 2 = ap (λ (j : ℕ). bit (get_or (bits_of n words) j false)) (sym first) ∙ digit 0 (omega arith) in
    let e1 : bit (get_or (bits_of n words) (4 * d + 1) false) ≡ x / 2 % 2 = digit 1 (omega arith) in
    let e2 : bit (get_or (bits_of n words) (4 * d + 2) false) ≡ x / 4 % 2 = digit 2 (omega arith) in
    let e3 : bit (get_or (bits_of n words) (4 * d + 3) false) ≡ x / 8 % 2 = digit 3 (omega arith) in
    rw (e0, e1, e2, e3) (four_bits x)

pub p_digits : (words : List ℕ) (p : List Bool) (bits : ℕ) → bits % 128 ≡ 0 → p ≡ bits_of (bits / 8) words → word_digits (bits / 32) words ≡ bit_digits p
p_digits words p bits h e =
    let quarter : length (bits_of (bits / 8) words) / 4 ≡ bits / 32 = ap (λ (n : ℕ). n / 4) (length-each (bits / 8) (bit_of words)) ∙ omega arith in
    let digits = λ (n : ℕ). each n (λ k. hex_digit (nibble (bits_of (bits / 8) words) (n - 1 - k))) in
    each_same (bits / 32) (λ k. hex_digit (digit_of words (bits / 32 - 1 - k))) (λ k. hex_digit (nibble (bits_of (bits / 8) words) (bits / 32 - 1 - k))) 0
    (λ k lt. ap hex_digit (sym (nibble_is words (bits / 8) (bits / 32 - 1 - k) (omega arith))))
    ∙ ap digits (sym quarter)
    ∙ ap bit_digits (sym e)
