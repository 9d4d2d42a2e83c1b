use Rattle.std.proofs.Common.{◌<◌, ◌*◌, ◌/◌, length, get_or, false, ◌∙◌, arith}
use Rattle.std.proofs.lemmas.List.{length-set}
use Rattle.emu_model.proofs.LaneBytes.{some_bytes}
use Rattle.vec_regs.proofs.SetParts.{flag_small, flag_is}
use Rattle.vec_regs.proofs.Fields.{place_fits, fields_more, fields_still}
use Rattle.vec_regs.proofs.packing.pack_fields.Goals as goal

pub loop-k-preserved : goal.loop-k-preserved
loop-k-preserved c =
    let some : 0 < c.args.e / 8 = some_bytes c.args.e c.requires.size in
    let place : c.loop-k.k * (c.args.e / 8) < 256 = place_fits c.loop-k.k (length c.args.flags.now) (c.args.e / 8) c.loop-k-test.true c.requires.few some in
    let inner : c.loop-k.k * (c.args.e / 8) / 64 < length c.loop-k.words = omega arith in
    record {
      count = length-set c.loop-k.words (c.loop-k.k * (c.args.e / 8) / 64) c.put.result ∙ c.loop-k.invariant.count;
      done = fields_more (c.args.e / 8) c.loop-k.k c.from.result c.put.result (λ k. get_or c.args.flags.now k false) c.loop-k.words some (flag_small _ c.from.result c.from.ensures) (flag_is _ c.from.result c.from.ensures) inner c.put.ensures c.loop-k.invariant.done c.loop-k.invariant.rest;
      rest = fields_still (c.args.e / 8) c.loop-k.k c.from.result c.put.result c.loop-k.words some (flag_small _ c.from.result c.from.ensures) inner c.put.ensures c.loop-k.invariant.rest;
    }
