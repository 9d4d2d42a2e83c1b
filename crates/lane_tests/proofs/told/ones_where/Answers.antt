use Rattle.std.proofs.Common.{◌∙◌, ◌<◌, ◌%◌, ◌^◌, false, length, get_or, ap, arith}
use Rattle.std.proofs.lemmas.List.{length-set}
use Rattle.emu_bits.specs.Fields.{bit}
use Rattle.lane_tests.proofs.ToldBits.{written, flag_number}
use Rattle.lane_tests.proofs.told.ones_where.Goals as goal

pub loop-j-preserved : goal.loop-j-preserved
loop-j-preserved g c =
    let within : c.loop-j.j < length c.loop-j.lanes = omega (arith, c.loop-j.invariant.count) in
    let flag = get_or c.args.told.now c.loop-j.j false in
    record {
      count = length-set c.loop-j.lanes c.loop-j.j c.from_u64.result ∙ c.loop-j.invariant.count;
      done = written g.T.Lane.number c.loop-j.lanes c.loop-j.j c.from_u64.result (λ k. bit (get_or c.args.told.now k false) % 2 ^ g.T.Lane.BITS) within
          (c.from_u64.ensures ∙ ap (λ x. x % 2 ^ g.T.Lane.BITS) (c.from.ensures ∙ flag_number flag)) c.loop-j.invariant.done;
    }
