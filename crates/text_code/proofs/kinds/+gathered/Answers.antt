use Rattle.std.proofs.Common.{◌≡◌, ◌-◌, ◌*◌, ◌^◌, arith}
use Rattle.text_code.proofs.Powers.{power}
use Rattle.text_code.proofs.kinds.+gathered.Goals as goal

pub returns-else-k-eq0-clause-small : goal.returns-else-k-eq0-clause-small
returns-else-k-eq0-clause-small t c =
    let p : 2 ^ c.args.k ≡ 2 ^ (c.args.k - 1) * 2 = power 2 c.args.k (omega arith) in
    omega (arith, p, c.gathered.ensures.small)
