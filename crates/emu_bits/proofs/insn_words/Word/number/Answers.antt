use Rattle.emu_bits.proofs.Places.{put_fits}
use Rattle.emu_bits.proofs.insn_words.Word.number.Goals as goal

pub put-requires-clause-fits : goal.put-requires-clause-fits
put-requires-clause-fits g c = put_fits c.get.result g.row.N c.args.lo c.get.ensures.small c.requires.fits
