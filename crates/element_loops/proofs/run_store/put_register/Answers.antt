use Rattle.std.proofs.Common.{◌≡◌, ◌≤◌, ◌+◌, ◌-◌, ◌*◌, ◌/◌, List, ℕ, length, get_or, ap, sym, ◌∙◌, arith}
use Rattle.std.specs.Int.{bytes_low_first}
use Rattle.emu_model.specs.ListLaws.{get_or-each, length-each}
use Rattle.vec_regs.specs.Words.{byte_of}
use borrow.Rule.Slice.PartMut.{same_len_mid}
use Rattle.element_loops.proofs.WordBytes.{low_byte, word_more}
use Rattle.element_loops.proofs.run_store.put_register.Goals as goal

pub loop-i-preserved : goal.loop-i-preserved
loop-i-preserved c =
    let i : ℕ = c.loop-i.i in
    let room : 8 * c.loop-i.i + 8 ≤ length c.loop-i.bytes = omega (arith, c.loop-i.invariant.count, c.bits.ensures.value, c.length.ensures.value, c.length.ensures.length.most) in
    let are : c.copy_from_slice.new.self ≡ bytes_low_first 0 8 (get_or c.z_words-words.result.now c.loop-i.i 0) = c.copy_from_slice.ensures.after ∙ c.to_le_bytes.ensures in
    record {
      count = same_len_mid (8 * i) (8 * i + 8 - 8 * i) c.loop-i.bytes c.copy_from_slice.new.self c.copy_from_slice.ensures.len ∙ c.loop-i.invariant.count;
      done = word_more c.z_words-words.result.now c.loop-i.bytes c.copy_from_slice.new.self i (8 * i + 8 - 8 * i) room (ap (λ (bs : List ℕ). length bs) are)
          (λ t h. ap (λ (bs : List ℕ). get_or bs t 0) are ∙ low_byte (get_or c.z_words-words.result.now i 0) t h) c.loop-i.invariant.done;
    }

pub returns-clause-bytes : goal.returns-clause-bytes
returns-clause-bytes c = λ j b.
    c.loop-i.invariant.done j (omega (arith, b, c.loop-i-test.false, c.bits.ensures.value, c.length.ensures.value, c.length.ensures.length.multiple))
    ∙ sym (get_or-each (c.args.vec.now.bits / 8) (byte_of 8 c.z_words-words.result.now) j 0 b)
    ∙ ap (λ (bs : List ℕ). get_or bs j 0) (sym c.z_words-words.ensures.words)

pub returns-clause-whole : goal.returns-clause-whole
returns-clause-whole c = ap (λ (bs : List ℕ). length bs) c.z_words-words.ensures.words ∙ length-each (c.args.vec.now.bits / 8) (byte_of 8 c.z_words-words.result.now)
