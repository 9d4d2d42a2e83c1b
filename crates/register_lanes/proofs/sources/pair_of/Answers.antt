use Rattle.std.proofs.Common.{◌≡◌, ◌∙◌, ◌<◌, ◌≤◌, ◌+◌, ◌-◌, ◌*◌, ℕ, List, get_or, take, drop, ap, arith}
use Rattle.std.proofs.lemmas.List.{get_or-take, get_or-drop}
use Rattle.std.proofs.lemmas.Simd.{get_or-chunk}
use Rattle.std.specs.Simd.Lanes.{chunk}
use Rattle.register_lanes.proofs.sources.pair_of.Goals as goal

-- the elements of a load of two
loaded : (words : List ℕ) (a k h : ℕ) → h < 2 → 2 ≤ k → get_or (chunk 0 2 (take k (drop a words))) h 0 ≡ get_or words (a + h) 0
loaded words a k h b room =
    let same : 0 + h ≡ h = omega arith in
    get_or-chunk 0 2 (take k (drop a words)) h 0 b ∙ ap (λ j. get_or (take k (drop a words)) j 0) same ∙ get_or-take k (drop a words) h 0 (omega arith) ∙ get_or-drop a words h 0

pub returns-clause-low : goal.returns-clause-low
returns-clause-low c =
    let same : 2 * c.args.i + 0 ≡ 2 * c.args.i = omega arith in
    loaded c.args.words.now (2 * c.args.i) (32 - 2 * c.args.i) 0 (omega arith) (omega arith) ∙ ap (λ j. get_or c.args.words.now j 0) same

pub returns-clause-high : goal.returns-clause-high
returns-clause-high c = loaded c.args.words.now (2 * c.args.i) (32 - 2 * c.args.i) 1 (omega arith) (omega arith)
