use Rattle.std.proofs.Common.{◌≡◌, ◌+◌, ◌-◌, take, drop, ap, ◌∙◌, arith}
use Rattle.byteorder.specs.Endian.{little_number}
use Rattle.emu_model.proofs.LittleEndian.{number_of_part}
use Rattle.active_lanes.proofs.lanes.number_at.Goals as goal

pub returns-in_default : goal.returns-in_default
returns-in_default c =
    let e : c.args.at + c.args.n - c.args.at ≡ c.args.n = omega arith in
    c.read_uint.ensures ∙ ap (λ k. little_number c.args.n (take k (drop c.args.at c.args.bytes.now))) e ∙ number_of_part c.args.bytes.now c.args.at c.args.n c.args.n (omega arith)
