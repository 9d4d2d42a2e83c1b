use Rattle.std.proofs.Common.{◌<◌, ◌+◌, ◌*◌, ◌/◌, List, ℕ, refl, ◌∙◌, arith}
use Rattle.contiguous_runs.proofs.FirstBytes.{byte_of_register}
use Rattle.emu_model.specs.Lanes.{read_z}
use Rattle.contiguous_runs.proofs.register_bytes.put_pair.Goals as goal

pub returns-clause-same : goal.returns-clause-same
returns-clause-same c = λ j b.
    let words : List ℕ = c.z_words-words.result.now in
    let within : j < 8 * (1 + 1) = omega (arith, b, c.requires) in
    c.put_word-2.ensures.done words refl (c.put_word.ensures.done words refl (λ j h. absurd (omega (arith, h)))) j within
    ∙ byte_of_register (read_z c.args.vec.now c.args.r) c.z_words-words.result.now (c.args.vec.now.bits / 8) j c.z_words-words.ensures.words (omega (arith, b, c.requires, c.length-length.ensures.length.least))
