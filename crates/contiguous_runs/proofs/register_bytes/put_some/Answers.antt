use Rattle.std.proofs.Common.{◌≡◌, ◌<◌, ◌+◌, ◌-◌, ◌*◌, ◌/◌, ◌%◌, List, ℕ, length, get_or, inl, inr, refl, ap, sym, ◌∙◌, arith}
use Rattle.std.specs.Int.{bytes_low_first}
use Rattle.std.proofs.lemmas.Bool.{cases_lt}
use Rattle.std.proofs.lemmas.List.{get_or-take}
use Rattle.active_lanes.proofs.InParts.{word_bytes}
use Rattle.emu_model.specs.Lanes.{read_z}
use Rattle.element_loops.proofs.WordBytes.{low_byte}
use Rattle.vec_regs.specs.Words.{byte_of}
use Rattle.contiguous_runs.proofs.FirstBytes.{byte_of_register}
use Rattle.contiguous_runs.proofs.register_bytes.put_some.Goals as goal

pub loop-i-preserved : goal.loop-i-preserved
loop-i-preserved c = record {
  count = c.put_word.ensures.long ∙ c.loop-i.invariant.count;
  done = c.put_word.ensures.done c.z_words-words.result.now refl c.loop-i.invariant.done;
}

pub returns-then-rest-gt0-clause-same : goal.returns-then-rest-gt0-clause-same
returns-then-rest-gt0-clause-same c = λ j b.
    let whole : ℕ = length c.args.bytes.now / 8 in
    let words : List ℕ = c.z_words-words.result.now in
    let last : ℕ = get_or c.z_words-words.result.now (length c.args.bytes.now / 8) 0 in
    let rest : ℕ = length c.args.bytes.now % 8 in
    byte_of_placed j b (elim (cases_lt j (8 * (length c.args.bytes.now / 8))) [
      | inl h ↦ c.put_low.ensures.before j h ∙ c.loop-i.invariant.done j (omega (arith, h, c.loop-i-test.false))
      | inr h ↦
          (let t : ℕ = j - 8 * whole in
          let place : 8 * (length c.args.bytes.now / 8) + (j - 8 * (length c.args.bytes.now / 8)) ≡ j = omega (arith, h) in
          let within : j - 8 * (length c.args.bytes.now / 8) < length c.args.bytes.now % 8 = omega (arith, h, b) in
          ap (λ k. get_or c.put_low.new.bytes k 0) (sym place)
          ∙ c.put_low.ensures.here t within
          ∙ get_or-take rest (bytes_low_first 0 8 last) t 0 within
          ∙ low_byte last t (omega (arith, within))
          ∙ word_bytes words whole t (omega (arith, within))
          ∙ ap (byte_of 8 words) place)
    ])
  where
    byte_of_placed : (j : ℕ) → j < length c.args.bytes.now → get_or c.put_low.new.bytes j 0 ≡ byte_of 8 c.z_words-words.result.now j → get_or c.put_low.new.bytes j 0 ≡ get_or (read_z c.args.vec.now c.args.r) j 0
    byte_of_placed j b h = h ∙ byte_of_register (read_z c.args.vec.now c.args.r) c.z_words-words.result.now (c.args.vec.now.bits / 8) j c.z_words-words.ensures.words (omega (arith, b, c.requires))

pub returns-else-rest-gt0-clause-same : goal.returns-else-rest-gt0-clause-same
returns-else-rest-gt0-clause-same c = λ j b.
    c.loop-i.invariant.done j (omega (arith, b, c.loop-i-test.false, c.if-rest-gt0.false))
    ∙ byte_of_register (read_z c.args.vec.now c.args.r) c.z_words-words.result.now (c.args.vec.now.bits / 8) j c.z_words-words.ensures.words (omega (arith, b, c.requires))
