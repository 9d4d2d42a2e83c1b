use Rattle.std.proofs.Common.{◌≡◌, ◌≤◌, ℕ, ◌+◌, get_or, None, inl, inr, ◌∙◌, arith}
use Rattle.std.proofs.lemmas.Bool.{cases_lt}
use Rattle.dbg_back.proofs.Counts.{kept_by, none_behind}
use Rattle.dbg_back.proofs.marks.drop_marks.Goals as goal

pub returns : goal.returns
returns c =
    let one = c.drop_between.ensures in
    let two = c.drop_between-2.ensures in
    let old = c.args.machine.now.marks in
    let new = c.drop_between-2.new.machine.marks in
    let but = c.args.but in
    let first : get_or new 0 None ≡ get_or old 0 None = two.below 0 (omega arith) ∙ one.below 0 (omega arith) in
    let other : get_or new but None ≡ get_or old but None = two.below but (omega arith) ∙ one.above but (omega arith) in
    let dropped : (k : ℕ) → (k ≡ 0 → ⊥) → (k ≡ but → ⊥) → get_or new k None ≡ None =
    λ k some away. elim (cases_lt k but) as (λ _. get_or new k None ≡ None) [
      | inl under ↦ two.below k (omega (arith, under)) ∙ one.dropped k (let apart = some in omega (arith, apart)) under
      | inr over ↦
          let count = two.count in
          let behind : but + 1 ≤ k = let apart = away in omega (arith, over, apart) in
          elim (cases_lt k 16) as (λ _. get_or new k None ≡ None) [
            | inl inside ↦ two.dropped k behind inside
            | inr outside ↦ none_behind new k (omega (arith, count, outside))
          ]
    ] in
    record {
      parts = two.parts ∙ one.parts;
      count = two.count;
      first = first;
      other = other;
      kept = kept_by old new but first other dropped;
      dropped = dropped;
      saved = two.saved ∙ one.saved;
      failed = two.failed ∙ one.failed;
    }
