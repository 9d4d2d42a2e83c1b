use Rattle.std.proofs.Common.{◌≡◌, ◌≤◌, ◌+◌, ◌-◌, ◌*◌, List, ℕ, length, get_or, ap, ◌∙◌, arith}
use Rattle.std.specs.Int.{bytes_low_first}
use borrow.Rule.Slice.PartMut.{same_len_mid}
use Rattle.element_loops.proofs.WordBytes.{low_byte, word_more}
use Rattle.element_loops.proofs.predicates.bytes_of_words.Goals as goal

pub loop-i-preserved : goal.loop-i-preserved
loop-i-preserved c =
    let i : ℕ = c.loop-i.i in
    let room : 8 * c.loop-i.i + 8 ≤ length c.loop-i.bytes = omega (arith, c.loop-i.invariant.count) in
    let are : c.copy_from_slice.new.self ≡ bytes_low_first 0 8 (get_or c.args.words.now c.loop-i.i 0) = c.copy_from_slice.ensures.after ∙ c.to_le_bytes.ensures in
    record {
      count = same_len_mid (8 * i) (8 * i + 8 - 8 * i) c.loop-i.bytes c.copy_from_slice.new.self c.copy_from_slice.ensures.len ∙ c.loop-i.invariant.count;
      done = word_more c.args.words.now c.loop-i.bytes c.copy_from_slice.new.self i (8 * i + 8 - 8 * i) room (ap (λ (bs : List ℕ). length bs) are)
          (λ t h. ap (λ (bs : List ℕ). get_or bs t 0) are ∙ low_byte (get_or c.args.words.now i 0) t h) c.loop-i.invariant.done;
    }

pub returns : goal.returns
returns c = λ k b. c.loop-i.invariant.done k (omega (arith, b, c.loop-i-test.false))
