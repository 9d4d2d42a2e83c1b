-- The low and the high bits stay, and the field fits between them.
use Rattle.std.proofs.Common.{◌≡◌, ◌+◌, ◌*◌, ◌/◌, ◌%◌, ◌^◌, ◌<◌, arith}
use Rattle.a64_data.proofs.Masks.{placed, upper}
use Rattle.a64_data.proofs.bitfield.replaced.Goals as goal

pub returns : goal.returns
returns c =
    let a_small : c.args.a < 2 ^ 64 = omega arith in
    let v_small : c.args.v < 2 ^ c.args.n = c.requires.within in
    let field : c.args.v * 2 ^ c.args.place % 2 ^ 128 ≡ c.args.v * 2 ^ c.args.place = placed c.args.v c.args.place c.args.n v_small c.requires.place in
    let above : c.args.a / 2 ^ (c.args.place + c.args.n) * 2 ^ (c.args.place + c.args.n) % 2 ^ 128 ≡ c.args.a / 2 ^ (c.args.place + c.args.n) * 2 ^ (c.args.place + c.args.n) = upper c.args.a (c.args.place + c.args.n) a_small in
    cc
