use Rattle.std.proofs.Common.{◌≡◌, ◌<◌, ◌≤◌, ◌+◌, ◌-◌, ◌*◌, ◌/◌, ℕ, Bool, Some, None, sym, subst, arith}
use Rattle.sve_effects.specs.LaneLoop.{is_active}
use Rattle.sve_effects.specs.FirstLastLaws.{MeetsNowhere}
use Rattle.sve_effects.proofs.Found.{last_is}
use Rattle.sve_permutes.proofs.ActiveWords.{IdleFrom, last_of_words, idle_from_less}
use Rattle.sve_permutes.proofs.LaneArrays.{word_room}
use Rattle.sve_permutes.proofs.active.last_active.Goals as goal

pub returns-in-Some-clause-found : goal.returns-in-Some-clause-found
returns-in-Some-clause-found c =
    let e = c.args.e in
    let v = c.args.vec.now in
    let test : ℕ → Bool = is_active e v c.args.pg in
    let within : c.loop-i.i - 1 < c.args.vec.now.bits / 64 = omega arith in
    let next : c.loop-i.i ≡ c.loop-i.i - 1 + 1 = omega arith in
    let above : IdleFrom test (64 / e) (v.bits / e) (c.loop-i.i - 1 + 1) = subst (λ i. IdleFrom test (64 / e) (v.bits / e) i) next c.loop-i.invariant in
    last_of_words test (64 / e) (v.bits / e) (c.loop-i.i - 1) c.in-Some.j (word_room e v.bits (c.loop-i.i - 1) c.requires within) above c.in-Some.ensures

pub returns-in-Some-clause-value : goal.returns-in-Some-clause-value
returns-in-Some-clause-value c =
    let e = c.args.e in
    let v = c.args.vec.now in
    sym (last_is (v.bits / e) (is_active e v c.args.pg) (Some ((c.loop-i.i - 1) * (64 / e) + c.in-Some.j)) (returns-in-Some-clause-found c))

pub loop-i-preserved : goal.loop-i-preserved
loop-i-preserved c =
    let e = c.args.e in
    let v = c.args.vec.now in
    let test : ℕ → Bool = is_active e v c.args.pg in
    let next : c.loop-i.i ≡ c.loop-i.i - 1 + 1 = omega arith in
    let above : IdleFrom test (64 / e) (v.bits / e) (c.loop-i.i - 1 + 1) = subst (λ i. IdleFrom test (64 / e) (v.bits / e) i) next c.loop-i.invariant in
    idle_from_less test (64 / e) (v.bits / e) (c.loop-i.i - 1) above c.in_default.ensures

pub returns-clause-value : goal.returns-clause-value
returns-clause-value c =
    let e = c.args.e in
    let v = c.args.vec.now in
    let test : ℕ → Bool = is_active e v c.args.pg in
    let at : 0 ≡ c.loop-i.i = omega arith in
    let none : MeetsNowhere (v.bits / e) test = λ k h. c.loop-i.invariant k (subst (λ i. i * (64 / e) ≤ k) at (omega arith)) h in
    sym (last_is (v.bits / e) test None none)
