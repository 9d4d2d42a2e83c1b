use Rattle.std.proofs.Common.{◌≡◌, ◌≤◌, ◌<◌, ◌⊎◌, ℕ, length, get_or, set, None, inl, inr, refl, ap, ◌∙◌, arith}
use Rattle.std.proofs.lemmas.Bool.{cases_eq, cases_lt}
use Rattle.std.proofs.lemmas.List.{get_or-set_same, get_or-set_other, length-set}
use Rattle.emu_model.specs.Marks.{Marks}
use Rattle.dbg_back.proofs.marks.drop_between.Goals as goal

pub marks-init : goal.marks-init
marks-init c = record {
  parts = refl;
  count = c.requires.count;
  dropped = λ j from below. absurd (omega (arith, from, below));
  kept = λ j _. refl;
  most = omega arith;
  saved = refl;
  failed = refl;
}

pub marks-preserved : goal.marks-preserved
marks-preserved c =
    let i = c.marks.invariant in
    let l = c.marks.machine.marks in
    let pages = c.drop_mark.ensures.marks in
    let k = c.marks.k in
    let count = i.count in
    let within = c.requires.within in
    let in_list : k < length l = omega (arith, count, within) in
    record {
      parts = c.drop_mark.ensures.parts ∙ i.parts;
      count = ap length pages ∙ length-set l k None ∙ i.count;
      dropped = λ j from below. elim (cases_eq j k) as (λ _. get_or c.drop_mark.new.self.marks j None ≡ None) [
        | inl same ↦ ap (λ (x : Marks). get_or x j None) pages ∙ ap (λ (n : ℕ). get_or (set l k None) n None) same ∙ get_or-set_same l k None None in_list
        | inr other ↦ ap (λ (x : Marks). get_or x j None) pages ∙ get_or-set_other l k j None None other ∙ i.dropped j from (let apart = other in omega (arith, below, apart))
      ];
      kept = λ j out.
          let other : j ≡ k → ⊥ = elim out as (λ _. j ≡ k → ⊥) [
            | inl under ↦ λ e. let least = c.marks.auto.k in omega (arith, under, e, least)
            | inr over ↦ λ e. omega (arith, over, e)
          ] in
          let before : (j < c.args.first) ⊎ (k ≤ j) = elim out as (λ _. (j < c.args.first) ⊎ (k ≤ j)) [
            | inl under ↦ inl under
            | inr over ↦ inr (omega (arith, over))
          ] in
          ap (λ (x : Marks). get_or x j None) pages ∙ get_or-set_other l k j None None other ∙ i.kept j before;
      most = omega arith;
      saved = c.drop_mark.ensures.saved ∙ i.saved;
      failed = c.drop_mark.ensures.failed ∙ i.failed;
    }

pub returns-clause-above : goal.returns-clause-above
returns-clause-above c = λ j over.
    let most = c.marks.invariant.most in
    let out : (j < c.args.first) ⊎ (c.marks.k ≤ j) = elim (cases_lt j c.args.first) as (λ _. (j < c.args.first) ⊎ (c.marks.k ≤ j)) [
      | inl under ↦ inl under
      | inr from ↦ inr (omega (arith, most, over, from))
    ] in
    c.marks.invariant.kept j out
