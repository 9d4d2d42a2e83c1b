use Rattle.std.proofs.Common.{◌≤◌, ◌+◌, ◌*◌, ◌/◌, ℕ, List, [], ◌∷◌, get_or, refl, ap, ◌∙◌, arith}
use Rattle.emu_model.specs.Lists.{each}
use Rattle.emu_model.specs.State.{Vectors}
use Rattle.emu_model.specs.Lanes.{read_z, with_z}
use Rattle.vec_regs.specs.Words.{byte_of, byte_with_pair}
use Rattle.active_lanes.proofs.InParts.{no_parts, one_part_more, all_parts, pair_bytes, word_bytes}
use Rattle.active_lanes.proofs.parts.set_words.Goals as goal

pub loop-i-init : goal.loop-i-init
loop-i-init c = record { bits = refl; written = no_parts c.args.vec.now c.args.zd c.z_words-words.result.now c.z_words-words.ensures.words (byte_of 8 c.args.words.now) }

pub loop-i-preserved : goal.loop-i-preserved
loop-i-preserved c =
    let i : ℕ = c.loop-i.i in
    let v : Vectors = c.args.vec.now in
    let ws : List ℕ = c.args.words.now in
    let low : ℕ = get_or ws (2 * i) 0 in
    let high : ℕ = get_or ws (2 * i + 1) 0 in
    record {
      bits = ap (λ (w : Vectors). w.bits) c.set_z_pair.ensures ∙ c.loop-i.invariant.bits;
      written =
          c.set_z_pair.ensures
          ∙ ap (λ (w : Vectors). with_z w c.args.zd (each (w.bits / 8) (byte_with_pair (read_z w c.args.zd) i (low ∷ (high ∷ []))))) c.loop-i.invariant.written
          ∙ one_part_more v c.args.zd c.z_words-words.result.now c.z_words-words.ensures.words c.length-length.ensures.length (byte_of 8 ws) i (low ∷ (high ∷ []))
          (pair_bytes low high i (byte_of 8 ws) (word_bytes ws (2 * i)) (word_bytes ws (2 * i + 1)));
    }

pub returns : goal.returns
returns c =
    let end : c.args.vec.now.bits / 128 ≤ c.loop-i.i = omega arith in
    c.loop-i.invariant.written ∙ all_parts c.args.vec.now c.args.zd (byte_of 8 c.args.words.now) c.loop-i.i c.length-length.ensures.length end
