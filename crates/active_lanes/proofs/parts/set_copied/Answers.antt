use Rattle.std.proofs.Common.{◌≡◌, ◌≤◌, ◌+◌, ◌*◌, ◌/◌, ℕ, Bool, [], ◌∷◌, get_or, if◌then◌else◌, refl, ap, ◌∙◌, arith}
use Rattle.emu_model.specs.Lists.{each}
use Rattle.emu_model.specs.State.{Vectors}
use Rattle.emu_model.specs.Lanes.{read_z, with_z}
use Rattle.vec_regs.specs.Words.{byte_with_pair}
use Rattle.active_lanes.specs.Kept.{is_kept}
use Rattle.active_lanes.proofs.Kept.{same_kept}
use Rattle.active_lanes.proofs.InParts.{no_parts, one_part_more, all_parts, pair_bytes}
use Rattle.active_lanes.proofs.parts.set_copied.Goals as goal

pub loop-i-init : goal.loop-i-init
loop-i-init c =
    let g : ℕ → ℕ = λ j. if is_kept c.args.whole c.args.pg c.args.e c.args.vec.now (j / (c.args.e / 8)) then get_or c.args.bytes.now (c.args.at + j) 0 else 0 in
    record { bits = refl; predicates = refl; written = no_parts c.args.vec.now c.args.zd c.z_words-words.result.now c.z_words-words.ensures.words g }

pub loop-i-preserved : goal.loop-i-preserved
loop-i-preserved c =
    let i : ℕ = c.loop-i.i in
    let v : Vectors = c.args.vec.now in
    let g : ℕ → ℕ = λ j. if is_kept c.args.whole c.args.pg c.args.e c.args.vec.now (j / (c.args.e / 8)) then get_or c.args.bytes.now (c.args.at + j) 0 else 0 in
    let low : ℕ = c.copied_word-low.result in
    let high : ℕ = c.copied_word-high.result in
    let byte : ℕ → Bool → ℕ = λ j t. if t then get_or c.args.bytes.now (c.args.at + j) 0 else 0 in
    let same : (j : ℕ) → is_kept c.args.whole c.args.pg c.args.e c.loop-i.vec (j / (c.args.e / 8)) ≡ is_kept c.args.whole c.args.pg c.args.e c.args.vec.now (j / (c.args.e / 8))
    = λ j. same_kept c.args.whole c.args.pg c.args.e (j / (c.args.e / 8)) c.loop-i.vec c.args.vec.now c.loop-i.invariant.predicates in
    record {
      bits = ap (λ (w : Vectors). w.bits) c.set_z_pair.ensures ∙ c.loop-i.invariant.bits;
      predicates = ap (λ (w : Vectors). w.p) c.set_z_pair.ensures ∙ c.loop-i.invariant.predicates;
      written =
          c.set_z_pair.ensures
          ∙ ap (λ (w : Vectors). with_z w c.args.zd (each (w.bits / 8) (byte_with_pair (read_z w c.args.zd) i (low ∷ (high ∷ []))))) c.loop-i.invariant.written
          ∙ one_part_more v c.args.zd c.z_words-words.result.now c.z_words-words.ensures.words c.length-length.ensures.length g i (low ∷ (high ∷ []))
          (pair_bytes low high i g
          (λ t b. c.copied_word-low.ensures t b ∙ ap (byte (8 * (2 * i) + t)) (same (8 * (2 * i) + t)))
          (λ t b. c.copied_word-high.ensures t b ∙ ap (byte (8 * (2 * i + 1) + t)) (same (8 * (2 * i + 1) + t))));
    }

pub returns : goal.returns
returns c =
    let g : ℕ → ℕ = λ j. if is_kept c.args.whole c.args.pg c.args.e c.args.vec.now (j / (c.args.e / 8)) then get_or c.args.bytes.now (c.args.at + j) 0 else 0 in
    let end : c.args.vec.now.bits / 128 ≤ c.loop-i.i = omega arith in
    c.loop-i.invariant.written ∙ all_parts c.args.vec.now c.args.zd g c.loop-i.i c.length-length.ensures.length end
