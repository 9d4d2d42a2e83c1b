use Rattle.std.proofs.Common.{◌≡◌, ◌<◌, ◌≤◌, ◌+◌, ◌-◌, ◌*◌, ◌%◌, ◌^◌, ◌&&◌, ℕ, suc, nat_lt, sym, ap, ◌∙◌, arith}
use Rattle.std.proofs.Math.Nat.{pow-suc}
use Rattle.std.proofs.Math.Pow.{pow_mono}
use Rattle.std.proofs.lemmas.Bool.{and_left}
use Rattle.lane_model.specs.WordBits.{bit_of}
use Rattle.pred_bits.proofs.Made.{bit_placed, bit_past, made_all}
use Rattle.pred_bits.proofs.WordMasks.{behind_bit}
use Rattle.pred_bits.proofs.pred_words.behind_place.Goals as goal

pub returns : goal.returns
returns c =
    let upto : ℕ = (c.power.result - 1) * 2 + 1 in
    let next : c.args.p % 64 + 1 ≡ suc (c.args.p % 64) = omega arith in
    let twice = ap (λ k. 2 ^ k) next ∙ pow-suc 2 (c.args.p % 64) in
    let is : (c.power.result - 1) * 2 + 1 ≡ 2 ^ (c.args.p % 64 + 1) - 1 = omega (arith, c.power.ensures.value, c.power.ensures.some, twice) in
    let top : 2 ^ (c.args.p % 64 + 1) ≤ 2 ^ 64 = pow_mono {i = c.args.p % 64 + 1} {j = 64} (omega arith) in
    let small : (c.power.result - 1) * 2 + 1 < 2 ^ 64 = omega arith in
    made_all c.words_from.result (λ b. bit_of c.args.words.now b && nat_lt c.args.p b) c.words_from.ensures.count
    (λ j s q h. behind_bit c.args.p upto c.args.words.now c.words_from.result is small c.words_from.ensures.words j s q h ∙ ap (λ t. t && nat_lt c.args.p (64 * j + s)) (sym (bit_placed c.args.words.now j s h)))
    (λ b p. and_left (bit_of c.args.words.now b) (nat_lt c.args.p b) (bit_past c.args.words.now b (omega arith) p))
