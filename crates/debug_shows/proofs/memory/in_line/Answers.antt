use Rattle.std.proofs.Common.{◌≤◌, ◌/◌, arith}
use Rattle.std.proofs.lemmas.Nat.{le-div}
use Rattle.debug_shows.proofs.memory.in_line.Goals as goal

pub returns-clause-some : goal.returns-clause-some
returns-clause-some c =
    let least = c.requires.least in
    let most = c.requires.most in
    let some : 1 ≤ 16 / c.args.unit = le-div 1 16 c.args.unit (omega arith) (omega arith) in
    omega (arith, some)
