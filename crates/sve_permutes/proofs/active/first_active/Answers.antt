use Rattle.std.proofs.Common.{◌≡◌, ◌<◌, ◌+◌, ◌*◌, ◌/◌, ◌∙◌, ℕ, Bool, Some, None, sym, ap, subst, arith}
use Rattle.sve_effects.specs.LaneLoop.{is_active}
use Rattle.sve_effects.specs.FirstLastLaws.{MeetsNowhere}
use Rattle.sve_effects.proofs.Found.{first_is}
use Rattle.sve_permutes.proofs.ActiveWords.{first_of_words, idle_more, all_words}
use Rattle.sve_permutes.proofs.LaneArrays.{word_room}
use Rattle.sve_permutes.proofs.active.first_active.Goals as goal

pub returns-in-Some-clause-found : goal.returns-in-Some-clause-found
returns-in-Some-clause-found c =
    let e = c.args.e in
    let v = c.args.vec.now in
    let within : c.loop-i.i < c.args.vec.now.bits / 64 = omega arith in
    first_of_words (is_active e v c.args.pg) (64 / e) (v.bits / e) c.loop-i.i c.in-Some.j (word_room e v.bits c.loop-i.i c.requires within) c.loop-i.invariant c.in-Some.ensures

pub returns-in-Some-clause-value : goal.returns-in-Some-clause-value
returns-in-Some-clause-value c =
    let e = c.args.e in
    let v = c.args.vec.now in
    sym (first_is (v.bits / e) (is_active e v c.args.pg) (Some (c.loop-i.i * (64 / e) + c.in-Some.j)) (returns-in-Some-clause-found c))

pub loop-i-preserved : goal.loop-i-preserved
loop-i-preserved c = idle_more (is_active c.args.e c.args.vec.now c.args.pg) (64 / c.args.e) c.loop-i.i c.loop-i.invariant c.in_default.ensures

pub returns-clause-value : goal.returns-clause-value
returns-clause-value c =
    let e = c.args.e in
    let v = c.args.vec.now in
    let test : ℕ → Bool = is_active e v c.args.pg in
    let at : c.loop-i.i ≡ c.args.vec.now.bits / 64 = omega arith in
    let all : c.loop-i.i * (64 / c.args.e) ≡ c.args.vec.now.bits / c.args.e = ap (λ i. i * (64 / e)) at ∙ all_words e v.bits c.requires c.length.ensures.length in
    let none : MeetsNowhere (v.bits / e) test = λ k h. c.loop-i.invariant k (subst (λ n. k < n) (sym all) h) in
    sym (first_is (v.bits / e) test None none)
