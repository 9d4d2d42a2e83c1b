use Rattle.std.proofs.Common.{◌≡◌, refl, arith}
use Rattle.active_lanes.proofs.LaneBits.{again2, again4, again8, between, between2, between4, between8, none_between, off2, off4, off8}
use Rattle.active_lanes.proofs.fields.bits_between.Goals as goal

pub returns-in-8 : goal.returns-in-8
returns-in-8 c = λ b h. none_between c.args.e b c.in-8.is

pub returns-in-16 : goal.returns-in-16
returns-in-16 c = λ b h. between c.args.e 16 2 12297829382473034410 170 b c.in-16.is refl between2 off2 (again2 b) h

pub returns-in-32 : goal.returns-in-32
returns-in-32 c = λ b h. between c.args.e 32 4 17216961135462248174 238 b c.in-32.is refl between4 off4 (again4 b) h

pub returns-in_default : goal.returns-in_default
returns-in_default c = λ b h.
    let last : c.args.e ≡ 64 = grind arith in
    between c.args.e 64 8 18374403900871474942 254 b last refl between8 off8 (again8 b) h
