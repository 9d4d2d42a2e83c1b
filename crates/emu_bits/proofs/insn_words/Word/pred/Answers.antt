use Rattle.std.proofs.Common.{arith}
use Rattle.emu_bits.proofs.Places.{put_fits}
use Rattle.emu_bits.proofs.insn_words.Word.pred.Goals as goal

pub put-requires-clause-fits : goal.put-requires-clause-fits
put-requires-clause-fits c = put_fits c.get.result 4 c.args.lo c.get.ensures.small (omega arith)
