use Rattle.std.proofs.Common.{◌≡◌, ◌≤◌, ◌/◌, ℕ, get_or, refl, ap, ◌∙◌, arith}
use Rattle.emu_model.specs.State.{Vectors}
use Rattle.active_lanes.proofs.InParts.{parts, no_parts}
use Rattle.contiguous_runs.proofs.PartByPart.{more, ended}
use Rattle.contiguous_runs.proofs.register_bytes.set_some.Goals as goal

pub loop-i-init : goal.loop-i-init
loop-i-init c =
    let g : ℕ → ℕ = λ j. get_or c.args.bytes.now j 0 in
    record { bits = refl; written = no_parts c.args.vec.now c.args.zd c.z_words-words.result.now c.z_words-words.ensures.words g }

pub loop-i-preserved : goal.loop-i-preserved
loop-i-preserved c =
    let g : ℕ → ℕ = λ j. get_or c.args.bytes.now j 0 in
    record {
      bits = ap (λ (w : Vectors). w.bits) c.set_z_pair.ensures ∙ c.loop-i.invariant.bits;
      written = c.set_z_pair.ensures
          ∙ more c.args.vec.now c.loop-i.vec c.args.zd c.loop-i.i c.whole_word-low.result c.whole_word-high.result c.z_words-words.result.now g c.z_words-words.ensures.words c.length-length.ensures.length c.loop-i.invariant.written
          c.whole_word-low.ensures c.whole_word-high.ensures;
    }

pub loop-k-init : goal.loop-k-init
loop-k-init c =
    let g : ℕ → ℕ = λ j. get_or c.args.bytes.now j 0 in
    let end : c.loop-i.i ≡ c.min-whole.result = omega (arith, c.loop-i-test.false, c.loop-i.auto.i-end) in
    record {
      bits = c.loop-i.invariant.bits;
      written = c.loop-i.invariant.written ∙ ap (λ i. parts g i c.args.zd c.args.vec.now) end;
    }

pub loop-k-preserved : goal.loop-k-preserved
loop-k-preserved c =
    let g : ℕ → ℕ = λ j. get_or c.args.bytes.now j 0 in
    record {
      bits = ap (λ (w : Vectors). w.bits) c.set_z_pair-in-loop-k.ensures ∙ c.loop-k.invariant.bits;
      written = c.set_z_pair-in-loop-k.ensures
          ∙ more c.args.vec.now c.loop-k.vec c.args.zd c.loop-k.k c.word_from-low.result c.word_from-high.result c.z_words-words.result.now g c.z_words-words.ensures.words c.length-length.ensures.length c.loop-k.invariant.written
          c.word_from-low.ensures c.word_from-high.ensures;
    }

pub returns : goal.returns
returns c =
    let g : ℕ → ℕ = λ j. get_or c.args.bytes.now j 0 in
    let end : c.args.vec.now.bits / 128 ≤ c.loop-k.k = omega (arith, c.loop-k-test.false, c.bits-parts.ensures.value, c.length.ensures.value) in
    ended c.args.vec.now c.loop-k.vec c.args.zd c.loop-k.k g c.length-length.ensures.length c.loop-k.invariant.written end
