use Rattle.std.proofs.Common.{◌≤◌, ◌^◌, arith, lit<}
use Rattle.std.proofs.Math.Nat.{pow-le-pow_right}
use Rattle.guest_mem.proofs.element_access.load_u64.Goals as goal

-- at most 8 bytes fit 64 bits
pub overflow_cast-result : goal.overflow_cast-result
overflow_cast-result c =
    let most : 256 ^ c.args.n ≤ 256 ^ 8 = pow-le-pow_right (lit< tt) c.requires.most in
    omega (arith, most, c.in_ok-v.ensures.small)
