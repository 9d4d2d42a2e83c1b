use Rattle.std.proofs.Common.{◌≡◌, ◌-◌, ◌/◌, ◌%◌, ◌^◌, ap, ◌∙◌, refl, arith}
use Rattle.pred_bits.proofs.WordMasks.{run_all, run_whole}
use Rattle.pred_bits.proofs.pred_words.starts_below.Goals as goal

pub returns-then-n-lt64 : goal.returns-then-n-lt64
returns-then-n-lt64 c =
    let same : c.args.n ≡ c.args.n % 64 = omega arith in
    run_all c.args.e c.starts-starts.result c.power.result c.args.n 0 c.run_of_words.result c.starts-starts.ensures (c.power.ensures.value ∙ ap (λ k. 2 ^ k) same) c.requires (omega arith)
    c.run_of_words.ensures.count c.run_of_words.ensures.words

pub returns-then-n-lt256 : goal.returns-then-n-lt256
returns-then-n-lt256 c =
    run_all c.args.e c.starts-starts.result c.power-then-n-lt256.result c.args.n (c.args.n / 64) c.run_of_words-then-n-lt256.result c.starts-starts.ensures c.power-then-n-lt256.ensures.value c.requires refl
    c.run_of_words-then-n-lt256.ensures.count c.run_of_words-then-n-lt256.ensures.words

pub returns-else-n-lt256 : goal.returns-else-n-lt256
returns-else-n-lt256 c =
    run_all c.args.e c.starts-starts.result (2 ^ (c.args.n % 64)) c.args.n 4 c.run_of_words-else-n-lt256.result c.starts-starts.ensures refl c.requires (omega (arith, c.requires))
    c.run_of_words-else-n-lt256.ensures.count (run_whole c.starts-starts.result 0 (2 ^ (c.args.n % 64) - 1) c.run_of_words-else-n-lt256.result c.run_of_words-else-n-lt256.ensures.words)
