-- The bits below and above stay, and the 16 bits fit between them.
use Rattle.std.proofs.Common.{◌≡◌, ℕ, ◌+◌, ◌-◌, ◌*◌, ◌/◌, ◌%◌, ◌^◌, ◌<◌, ◌≤◌, arith}
use Rattle.a64_operations.proofs.Halfwords.{placed, parts, fits}
use Rattle.a64_operations.proofs.fields.with_halfword.Goals as goal

with_others : (a v p : ℕ) → v < 2 ^ 16 → p ≤ 48 → a - a / 2 ^ p % 65536 * 2 ^ p % 2 ^ 64 + v * 2 ^ p % 2 ^ 64
    ≡ a % 2 ^ p + v * 2 ^ p + a / 2 ^ (p + 16) * 2 ^ (p + 16)
with_others a v p small within =
    let old : a / 2 ^ p % 65536 * 2 ^ p % 2 ^ 64 ≡ a / 2 ^ p % 65536 * 2 ^ p = placed (a / 2 ^ p % 65536) p (omega arith) within in
    let new : v * 2 ^ p % 2 ^ 64 ≡ v * 2 ^ p = placed v p small within in
    let whole : a ≡ a % 2 ^ p + a / 2 ^ p % 65536 * 2 ^ p + a / 2 ^ (p + 16) * 2 ^ (p + 16) = parts a p in
    rw (old, new) (omega arith)

pub overflow_add-result : goal.overflow_add-result
overflow_add-result c = record {
  fits = rw (with_others c.args.old c.args.imm c.args.place (omega arith) (omega arith)) (fits c.args.old c.args.imm c.args.place (omega arith) (omega arith) (omega arith));
}

pub returns : goal.returns
returns c = with_others c.args.old c.args.imm c.args.place (omega arith) (omega arith)
