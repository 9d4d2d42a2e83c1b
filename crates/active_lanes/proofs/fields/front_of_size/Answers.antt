use Rattle.std.proofs.Common.{◌≡◌, ◌<◌, ◌≤◌, ◌+◌, ◌*◌, ◌/◌, ℕ, Bool, true, sym, subst, ap, ◌∙◌, arith}
use Rattle.emu_model.specs.LaneSizes.{IsLaneSize}
use Rattle.sve_effects.specs.LaneLoop.{is_active}
use Rattle.active_lanes.specs.Seen.{seen_end}
use Rattle.active_lanes.proofs.LaneBits.{in_next_word, last_word_lanes, more_on, some_lanes, whole_word_lanes, whole_words_fit, word_end}
use Rattle.active_lanes.proofs.fields.front_of_size.Goals as goal

pub active_from-d-requires-clause-lane : goal.active_from-d-requires-clause-lane
active_from-d-requires-clause-lane c =
    let within : c.loop-i.i * (64 / (c.args.e / 8)) + 64 / (c.args.e / 8) ≤ c.args.vec.now.bits / c.args.e = whole_word_lanes c.args.e c.args.vec.now.bits c.loop-i.i c.requires (omega (arith, c.loop-i-test.true, c.bits-whole.ensures.value, c.length.ensures.value)) in
    subst (λ n. c.loop-i.i * n < c.args.vec.now.bits / c.args.e) (sym c.lanes_of_bytes-most.ensures) (omega (arith, within, some_lanes c.args.e c.requires))

pub active_from-d-requires-clause-within : goal.active_from-d-requires-clause-within
active_from-d-requires-clause-within c =
    subst (λ n. c.loop-i.i * n + n ≤ c.args.vec.now.bits / c.args.e) (sym c.lanes_of_bytes-most.ensures) (whole_word_lanes c.args.e c.args.vec.now.bits c.loop-i.i c.requires (omega (arith, c.loop-i-test.true, c.bits-whole.ensures.value, c.length.ensures.value)))

pub loop-i-init : goal.loop-i-init
loop-i-init c = λ k h. absurd (omega (arith, h))

pub loop-i-preserved : goal.loop-i-preserved
loop-i-preserved c = λ k h.
    let lanes : ℕ = 64 / (c.args.e / 8) in
    let is : c.lanes_of_bytes-most.result ≡ 64 / (c.args.e / 8) = c.lanes_of_bytes-most.ensures in
    let all : c.active_from-d.result ≡ 64 / (c.args.e / 8) = omega (arith, is, c.if-d-most.false, c.active_from-d.ensures.few) in
    more_on (is_active c.args.e c.args.vec.now c.args.pg) (c.loop-i.i * lanes) lanes c.loop-i.invariant
    (λ j lo hi. c.active_from-d.ensures.on j (subst (λ n. c.loop-i.i * n ≤ j) (sym is) lo) (subst (λ n. j < c.loop-i.i * n + c.active_from-d.result) (sym is) (subst (λ n. j < c.loop-i.i * lanes + n) (sym all) hi)))
    k (in_next_word c.args.e c.loop-i.i k c.requires h)

pub returns-then-d-most-clause-on : goal.returns-then-d-most-clause-on
returns-then-d-most-clause-on c = more_on (is_active c.args.e c.args.vec.now c.args.pg) (c.loop-i.i * c.lanes_of_bytes-most.result) c.active_from-d.result
    (λ j b. c.loop-i.invariant j (subst (λ n. j < c.loop-i.i * n) c.lanes_of_bytes-most.ensures b)) c.active_from-d.ensures.on

pub returns-then-d-most-clause-few : goal.returns-then-d-most-clause-few
returns-then-d-most-clause-few c =
    let within : c.loop-i.i * c.lanes_of_bytes-most.result + c.lanes_of_bytes-most.result ≤ c.args.vec.now.bits / c.args.e = subst (λ n. c.loop-i.i * n + n ≤ c.args.vec.now.bits / c.args.e) (sym c.lanes_of_bytes-most.ensures) (whole_word_lanes c.args.e c.args.vec.now.bits c.loop-i.i c.requires (omega (arith, c.loop-i-test.true, c.bits-whole.ensures.value, c.length.ensures.value))) in
    omega (arith, within, c.active_from-d.ensures.few)

pub returns-then-d-most-clause-off : goal.returns-then-d-most-clause-off
returns-then-d-most-clause-off c = λ h.
    let end : seen_end c.args.e (c.loop-i.i * c.lanes_of_bytes-most.result) ≡ c.loop-i.i * c.lanes_of_bytes-most.result + c.lanes_of_bytes-most.result = subst (λ n. seen_end c.args.e (c.loop-i.i * n) ≡ c.loop-i.i * n + n) (sym c.lanes_of_bytes-most.ensures) (word_end c.args.e c.loop-i.i c.requires) in
    c.active_from-d.ensures.off c.if-d-most.true (subst (λ n. c.loop-i.i * c.lanes_of_bytes-most.result + c.active_from-d.result < n) (sym end) (omega (arith, c.if-d-most.true)))

-- where no whole word of the predicate is left
ended : (on : ℕ → Bool) (i whole most lanes : ℕ) → i ≡ whole → most ≡ lanes → ((k : ℕ) → k < i * lanes → on k ≡ true) → (k : ℕ) → k < whole * most → on k ≡ true
ended on i whole most lanes end is so_far k h = so_far k (subst (λ n. k < n * lanes) (sym end) (subst (λ n. k < whole * n) is h))

-- the lanes of the whole words are among all, and those of one word more are all
among : (e bits n most : ℕ) → IsLaneSize e → n ≡ bits → most ≡ 64 / (e / 8) → n / 512 * most ≤ bits / e
among e bits n most size is each = subst (λ n. n / 512 * most ≤ bits / e) (sym is) (subst (λ m. bits / 512 * m ≤ bits / e) (sym each) (whole_words_fit e bits size))

beyond : (e bits n most : ℕ) → IsLaneSize e → n ≡ bits → most ≡ 64 / (e / 8) → bits / e ≤ n / 512 * most + most
beyond e bits n most size is each = subst (λ n. bits / e ≤ n / 512 * most + most) (sym is) (subst (λ m. bits / e ≤ bits / 512 * m + m) (sym each) (last_word_lanes e bits size))

pub active_from-requires-clause-lane : goal.active_from-requires-clause-lane
active_from-requires-clause-lane c =
    let fits : c.bits-whole.result / 512 * c.lanes_of_bytes-most.result ≤ c.args.vec.now.bits / c.args.e = among c.args.e c.args.vec.now.bits c.bits-whole.result c.lanes_of_bytes-most.result c.requires (c.bits-whole.ensures.value ∙ c.length.ensures.value) c.lanes_of_bytes-most.ensures in
    let lanes : c.bits.result / c.args.e ≡ c.args.vec.now.bits / c.args.e = ap (λ n. n / c.args.e) (c.bits.ensures.value ∙ c.length-2.ensures.value) in
    omega (arith, fits, lanes, c.if-k-lanes.false)

pub active_from-requires-clause-within : goal.active_from-requires-clause-within
active_from-requires-clause-within c =
    let fits : c.bits-whole.result / 512 * c.lanes_of_bytes-most.result ≤ c.args.vec.now.bits / c.args.e = among c.args.e c.args.vec.now.bits c.bits-whole.result c.lanes_of_bytes-most.result c.requires (c.bits-whole.ensures.value ∙ c.length.ensures.value) c.lanes_of_bytes-most.ensures in
    let lanes : c.bits.result / c.args.e ≡ c.args.vec.now.bits / c.args.e = ap (λ n. n / c.args.e) (c.bits.ensures.value ∙ c.length-2.ensures.value) in
    omega (arith, fits, lanes)

pub returns-clause-on : goal.returns-clause-on
returns-clause-on c =
    more_on (is_active c.args.e c.args.vec.now c.args.pg) (c.bits-whole.result / 512 * c.lanes_of_bytes-most.result) c.active_from.result
    (ended (is_active c.args.e c.args.vec.now c.args.pg) c.loop-i.i (c.bits-whole.result / 512) c.lanes_of_bytes-most.result (64 / (c.args.e / 8)) (omega (arith, c.loop-i-test.false, c.loop-i.auto.i-end)) c.lanes_of_bytes-most.ensures c.loop-i.invariant)
    c.active_from.ensures.on

pub returns-clause-off : goal.returns-clause-off
returns-clause-off c = λ h.
    let most : ℕ = c.lanes_of_bytes-most.result in
    let whole : ℕ = c.bits-whole.result / 512 in
    let end : seen_end c.args.e (c.bits-whole.result / 512 * c.lanes_of_bytes-most.result) ≡ c.bits-whole.result / 512 * c.lanes_of_bytes-most.result + c.lanes_of_bytes-most.result = subst (λ n. seen_end c.args.e (whole * n) ≡ whole * n + n) (sym c.lanes_of_bytes-most.ensures) (word_end c.args.e whole c.requires) in
    let last : c.args.vec.now.bits / c.args.e ≤ c.bits-whole.result / 512 * c.lanes_of_bytes-most.result + c.lanes_of_bytes-most.result = beyond c.args.e c.args.vec.now.bits c.bits-whole.result c.lanes_of_bytes-most.result c.requires (c.bits-whole.ensures.value ∙ c.length.ensures.value) c.lanes_of_bytes-most.ensures in
    let lanes : c.bits.result / c.args.e ≡ c.args.vec.now.bits / c.args.e = ap (λ n. n / c.args.e) (c.bits.ensures.value ∙ c.length-2.ensures.value) in
    c.active_from.ensures.off (omega (arith, h, lanes)) (subst (λ n. whole * most + c.active_from.result < n) (sym end) (omega (arith, h, last)))

pub returns-then-k-lanes-clause-on : goal.returns-then-k-lanes-clause-on
returns-then-k-lanes-clause-on c =
    ended (is_active c.args.e c.args.vec.now c.args.pg) c.loop-i.i (c.bits-whole.result / 512) c.lanes_of_bytes-most.result (64 / (c.args.e / 8)) (omega (arith, c.loop-i-test.false, c.loop-i.auto.i-end)) c.lanes_of_bytes-most.ensures c.loop-i.invariant
