use Rattle.std.proofs.Common.{◌≡◌, ◌≤◌, ◌-◌, ◌*◌, ◌^◌, arith}
use Rattle.text_code.proofs.Powers.{power, bytes_small}
use Rattle.text_code.proofs.kinds.+spread.Goals as goal

pub overflow_mul-result-else-k-eq0 : goal.overflow_mul-result-else-k-eq0
overflow_mul-result-else-k-eq0 t c =
    let p : 256 ^ c.args.k ≡ 256 ^ (c.args.k - 1) * 256 = power 256 c.args.k (omega arith) in
    let q : 256 ^ c.args.k ≤ 2 ^ 64 = bytes_small c.args.k c.requires in
    omega (arith, p, q, c.spread.ensures.small)

pub overflow_add-result : goal.overflow_add-result
overflow_add-result t c =
    let p : 256 ^ c.args.k ≡ 256 ^ (c.args.k - 1) * 256 = power 256 c.args.k (omega arith) in
    let q : 256 ^ c.args.k ≤ 2 ^ 64 = bytes_small c.args.k c.requires in
    omega (arith, p, q, c.spread.ensures.small)

pub returns-else-k-eq0-clause-small : goal.returns-else-k-eq0-clause-small
returns-else-k-eq0-clause-small t c =
    let p : 256 ^ c.args.k ≡ 256 ^ (c.args.k - 1) * 256 = power 256 c.args.k (omega arith) in
    omega (arith, p, c.spread.ensures.small)
