use Rattle.std.proofs.Common.{arith, rules, ap, ◌∙◌, ◌≡◌, ◌%◌, ◌^◌, ◌*◌}
use Rattle.a64_effects.specs.Atomic as step
use Rattle.a64_flow.proofs.atomic.atomic.Goals as goal

-- what is stored is what the row makes of the old value and the low bytes of Rs
pub returns-clause-done : goal.returns-clause-done
returns-clause-done c acquires releases v =
    let by : c.low_bits.result ≡ step.low_bytes c.bytes_of-n.result c.args.core.now c.args.rs =
    c.low_bits.ensures.value ∙ ap (λ x. x % 2 ^ (8 * c.bytes_of-n.result)) c.x.ensures in
    let new : c.updated-new.result ≡ step.updated c.args.op c.bytes_of-n.result c.in_ok-old.old (step.low_bytes c.bytes_of-n.result c.args.core.now c.args.rs) =
    c.updated-new.ensures ∙ ap (λ b. step.updated c.args.op c.bytes_of-n.result c.in_ok-old.old b) by in
    grind (arith, by, new, c.exchange.ensures.done c.set_x.new.self v)

pub returns-in_err-test_sp-clause-done : goal.returns-in_err-test_sp-clause-done
returns-in_err-test_sp-clause-done c = search rules

pub returns-in_err-test_multiple-clause-done : goal.returns-in_err-test_multiple-clause-done
returns-in_err-test_multiple-clause-done c = search rules

pub returns-in_err-old-clause-done : goal.returns-in_err-old-clause-done
returns-in_err-old-clause-done c = search rules

pub exchange-requires-clause-writable : goal.exchange-requires-clause-writable
exchange-requires-clause-writable c = search rules
