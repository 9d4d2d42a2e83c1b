-- The bytes of words, written eight after eight.
use Rattle.std.proofs.Common.{◌≡◌, ◌<◌, ◌≤◌, ◌+◌, ◌-◌, ◌*◌, ◌/◌, ◌%◌, ◌^◌, ℕ, zero, suc, List, ◌++◌, length, take, get_or, inl, inr, refl, sym, ap, ap₂, ◌∙◌, arith}
use Rattle.std.specs.Int.{bytes_low_first}
use Rattle.std.proofs.Math.ListN.{get_or-append}
use Rattle.std.proofs.Math.Seq.{get_or-append_right}
use Rattle.std.proofs.lemmas.Bool.{cases_lt}
use Rattle.std.proofs.lemmas.List.{get_or-take, length-take}
use Rattle.std.proofs.lemmas.Slice.{take-put_mid}
use borrow.Rule.Slice.PartMut.{put_mid}
use Rattle.vec_regs.specs.Words.{byte_of}

pub low_byte : (x t : ℕ) → t < 8 → get_or (bytes_low_first 0 8 x) t 0 ≡ x / 2 ^ (8 * t) % 256
low_byte x zero h = omega arith
low_byte x (suc zero) h = refl
low_byte x (suc (suc zero)) h = refl
low_byte x (suc (suc (suc zero))) h = refl
low_byte x (suc (suc (suc (suc zero)))) h = refl
low_byte x (suc (suc (suc (suc (suc zero))))) h = refl
low_byte x (suc (suc (suc (suc (suc (suc zero)))))) h = refl
low_byte x (suc (suc (suc (suc (suc (suc (suc zero))))))) h = refl
low_byte x (suc (suc (suc (suc (suc (suc (suc (suc t)))))))) h = absurd (omega arith)

-- the bytes of word i behind those of the words before it
pub word_more : (words before src : List ℕ) (i k : ℕ) → 8 * i + 8 ≤ length before → length src ≡ 8 → ((t : ℕ) → t < 8 → get_or src t 0 ≡ get_or words i 0 / 2 ^ (8 * t) % 256)
    → ((j : ℕ) → j < 8 * i → get_or before j 0 ≡ byte_of 8 words j) → (j : ℕ) → j < 8 * (i + 1) → get_or (put_mid (8 * i) k before src) j 0 ≡ byte_of 8 words j
word_more words before src i k room long is done j b =
    let front : take (8 * i + 8) (put_mid (8 * i) k before src) ≡ take (8 * i) before ++ src = take-put_mid (8 * i) k before src (8 * i + 8) (omega arith) (omega arith) in
    let inside : j < 8 * i + 8 = omega arith in
    let size : length (take (8 * i) before) ≡ 8 * i = omega (arith, length-take (8 * i) before) in
    sym (get_or-take (8 * i + 8) (put_mid (8 * i) k before src) j 0 inside) ∙ ap (λ (bs : List ℕ). get_or bs j 0) front
    ∙ elim (cases_lt j (8 * i)) [
      | inl low ↦ get_or-append (take (8 * i) before) src 0 j (omega (arith, size)) ∙ get_or-take (8 * i) before j 0 low ∙ done j low
      | inr high ↦
          (let word : i ≡ j / 8 = omega arith in
          let place : j - 8 * i ≡ j % 8 = omega arith in
          let within : j - 8 * i < 8 = omega arith in
          get_or-append_right (take (8 * i) before) src j 0 (omega (arith, size)) ∙ ap (λ n. get_or src (j - n) 0) size
          ∙ is (j - 8 * i) within ∙ ap₂ (λ n t. get_or words n 0 / 2 ^ (8 * t) % 256) word place)
    ]
