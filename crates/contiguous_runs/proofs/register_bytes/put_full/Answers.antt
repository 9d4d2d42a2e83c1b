use Rattle.std.proofs.Common.{◌/◌, refl, ◌∙◌, arith}
use Rattle.emu_model.specs.Lanes.{read_z}
use Rattle.contiguous_runs.proofs.FirstBytes.{byte_of_register}
use Rattle.contiguous_runs.proofs.register_bytes.put_full.Goals as goal

pub loop-i-preserved : goal.loop-i-preserved
loop-i-preserved c = record {
  count = c.put_word.ensures.long ∙ c.loop-i.invariant.count;
  done = c.put_word.ensures.done c.z_words-words.result.now refl c.loop-i.invariant.done;
}

pub returns-clause-same : goal.returns-clause-same
returns-clause-same c = λ j b.
    c.loop-i.invariant.done j (omega (arith, b, c.loop-i-test.false, c.requires.whole))
    ∙ byte_of_register (read_z c.args.vec.now c.args.r) c.z_words-words.result.now (c.args.vec.now.bits / 8) j c.z_words-words.ensures.words (omega (arith, b, c.requires.room))
