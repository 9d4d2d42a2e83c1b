use Rattle.std.proofs.Common.{List, ℕ, length, get_or, sym, ap, ◌+◌, ◌-◌, ◌*◌, ◌/◌, ◌%◌, ◌^◌, ◌∙◌}
use Rattle.element_loops.proofs.WordBytes.{low_byte, word_more}
use Rattle.contiguous_runs.proofs.register_bytes.put_word.Goals as goal

pub returns-clause-done : goal.returns-clause-done
returns-clause-done c = λ words is before.
    let i : ℕ = c.args.i in
    word_more words c.args.bytes.now c.copy_from_slice.new.self i (8 * i + 8 - 8 * i) c.requires
    (ap (λ (bs : List ℕ). length bs) (c.copy_from_slice.ensures.after ∙ c.to_le_bytes.ensures))
    (λ t h. ap (λ (bs : List ℕ). get_or bs t 0) (c.copy_from_slice.ensures.after ∙ c.to_le_bytes.ensures) ∙ low_byte c.args.word t h ∙ ap (λ x. x / 2 ^ (8 * t) % 256) (sym is)) before
