use Rattle.std.proofs.Common.{◌≡◌, ◌≤◌, ◌<◌, ◌+◌, ◌/◌, ℕ, inl, inr, ap, ◌∙◌, arith}
use Rattle.std.proofs.lemmas.Bool.{cases_lt}
use Rattle.emu_model.specs.LaneSizes.{IsLaneSize}
use Rattle.active_lanes.specs.Seen.{seen_end}
use Rattle.contiguous_runs.specs.Leading.{HasActive}
use Rattle.contiguous_runs.proofs.leading.is_rest_idle.Goals as goal

-- the bits of all lanes of up to 512 bits stand in the same 64 bits of a predicate
in_sight : (e bits k n : ℕ) → IsLaneSize e → bits ≤ 512 → n < bits / e → n < seen_end e k
in_sight e bits k n (inl s) most = rw s (λ h. omega (arith, most))
in_sight e bits k n (inr (inl s)) most = rw s (λ h. omega (arith, most))
in_sight e bits k n (inr (inr (inl s))) most = rw s (λ h. omega (arith, most))
in_sight e bits k n (inr (inr (inr s))) most = rw s (λ h. omega (arith, most))

pub returns-then-next-lanes-clause-idle : goal.returns-then-next-lanes-clause-idle
returns-then-next-lanes-clause-idle c = λ is i lo hi. elim (cases_lt i (c.args.k + c.idle_from.result)) [
  | inl b ↦ c.idle_from.ensures.off i lo b
  | inr b ↦ c.are_idle.ensures.idle is i b hi
]

pub returns-then-next-lanes-clause-not : goal.returns-then-next-lanes-clause-not
returns-then-next-lanes-clause-not c = λ is.
    let later : HasActive (c.args.k + c.idle_from.result) c.args.e c.args.pg c.args.vec.now = c.are_idle.ensures.not is in
    record { lane = later.lane; from = omega (arith, later.from); within = later.within; on = later.on }

pub returns-then-bits-le512-clause-not : goal.returns-then-bits-le512-clause-not
returns-then-bits-le512-clause-not c = λ is.
    let bits : c.bits-bits.result ≡ c.args.vec.now.bits = c.bits-bits.ensures.value ∙ c.length.ensures.value in
    let lanes : c.bits-bits.result / c.args.e ≡ c.args.vec.now.bits / c.args.e = ap (λ n. n / c.args.e) bits in
    let within : c.args.k + c.idle_from.result < c.args.vec.now.bits / c.args.e = omega (arith, lanes, c.if-next-lanes.true) in
    record {
      lane = c.args.k + c.idle_from.result;
      from = omega arith;
      within = within;
      on = c.idle_from.ensures.on (omega (arith, c.if-next-lanes.true)) (in_sight c.args.e c.args.vec.now.bits c.args.k (c.args.k + c.idle_from.result) c.requires.size (omega (arith, bits, c.if-bits-le512.true)) within);
    }

pub returns-clause-idle : goal.returns-clause-idle
returns-clause-idle c = λ is i lo hi.
    let lanes : c.bits-bits.result / c.args.e ≡ c.args.vec.now.bits / c.args.e = ap (λ n. n / c.args.e) (c.bits-bits.ensures.value ∙ c.length.ensures.value) in
    c.idle_from.ensures.off i lo (omega (arith, lanes, hi, c.if-next-lanes.false))
