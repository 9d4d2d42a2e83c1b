use Rattle.std.proofs.Common.{◌≡◌, ◌<◌, ◌≤◌, ◌+◌, ◌-◌, ◌*◌, ◌/◌, ◌%◌, ◌^◌, ℕ, List, length, get_or, inl, inr, sym, ap, ◌∙◌, arith}
use Rattle.std.proofs.Math.Nat.{zero-div, div-div-eq-div-mul}
use Rattle.std.proofs.lemmas.Bool.{cases_lt}
use Rattle.std.proofs.lemmas.List.{get_or_past}
use Rattle.std.proofs.lemmas.Nat.{pow-add}
use Rattle.contiguous_runs.proofs.register_bytes.last_word.Goals as goal

-- byte t behind b bytes of a word
behind : (x b t : ℕ) → x / 2 ^ (8 * b) / 2 ^ (8 * t) ≡ x / 2 ^ (8 * (b + t))
behind x b t =
    let e : 8 * b + 8 * t ≡ 8 * (b + t) = omega arith in
    div-div-eq-div-mul x (2 ^ (8 * b)) (2 ^ (8 * t)) ∙ ap (λ n. x / n) (sym (pow-add 2 (8 * b) (8 * t)) ∙ ap (λ n. 2 ^ n) e)

-- none behind the eighth
none_behind : (x k : ℕ) → x < 2 ^ 64 → 8 ≤ k → x / 2 ^ (8 * k) ≡ 0
none_behind x k small h =
    let e : 8 * k ≡ 64 + 8 * (k - 8) = omega (arith, h) in
    let none : x / 2 ^ 64 ≡ 0 = omega (arith, small) in
    ap (λ n. x / 2 ^ n) e ∙ ap (λ n. x / n) (pow-add 2 64 (8 * (k - 8))) ∙ sym (div-div-eq-div-mul x (2 ^ 64) (2 ^ (8 * (k - 8)))) ∙ ap (λ n. n / 2 ^ (8 * (k - 8))) none ∙ zero-div (2 ^ (8 * (k - 8)))

pub returns : goal.returns
returns c = λ t h.
    let bytes : List ℕ = c.args.bytes.now in
    let b : ℕ = c.args.place + 8 - length c.args.bytes.now in
    let x : ℕ = c.whole_word-word.result in
    ap (λ n. n % 256) (behind x b t)
    ∙ elim (cases_lt (c.args.place + 8 - length c.args.bytes.now + t) 8) [
      | inl within ↦
          (let place : length c.args.bytes.now - 8 + (c.args.place + 8 - length c.args.bytes.now + t) ≡ c.args.place + t = omega (arith, c.if-bytes-lt8.false, c.requires.few) in
          c.whole_word-word.ensures (b + t) within ∙ ap (λ k. get_or bytes k 0) place)
      | inr past ↦
          (let out : length c.args.bytes.now ≤ c.args.place + t = omega (arith, past, c.requires.few) in
          ap (λ n. n % 256) (none_behind x (b + t) c.whole_word-word.type_inv past) ∙ sym (get_or_past c.args.bytes.now (c.args.place + t) 0 out))
    ]
