use Rattle.std.proofs.Common.{◌≤◌, ◌+◌, ◌*◌, ◌/◌, arith}
use Rattle.emu_model.specs.Lanes.{read_p}
use Rattle.active_lanes.proofs.FieldBits.{field_is}
use Rattle.active_lanes.proofs.fields.field.Goals as goal

pub returns : goal.returns
returns c = λ e t size h.
    let room : 8 * c.args.i + 8 ≤ c.args.vec.now.bits / 8 = omega (arith, c.requires) in
    field_is c.p_words-words.result.now (read_p c.args.vec.now c.args.pg) (c.args.vec.now.bits / 8) c.args.i e t size h c.p_words-words.ensures.words room
