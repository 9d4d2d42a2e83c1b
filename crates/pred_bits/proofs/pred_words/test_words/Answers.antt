use Rattle.std.proofs.Common.{ℕ, Bool, false, not, Option, is_none, ap, ◌∙◌}
use Rattle.emu_bits.specs.declared.flags.Flags.{Flags}
use Rattle.lane_model.specs.WordBits.{bit_of}
use Rattle.lane_model.specs.FirstLast.{first_where}
use Rattle.lane_model.specs.FirstLastLaws.{answer_at}
use Rattle.pred_bits.proofs.AllActive.{none_is}
use Rattle.pred_bits.proofs.pred_words.test_words.Goals as goal

pub returns : goal.returns
returns c =
    let flags : Bool → Bool → Bool → Flags = λ x y z. record { n = x; z = y; c = not z; v = false } in
    let on : ℕ → Bool = bit_of c.args.on.now in
    let set : ℕ → Bool = bit_of c.args.set.now in
    ap (λ x. flags x c.is_none.result c.last_is_in.result) c.first_is_in.ensures
    ∙ ap (λ y. flags (answer_at (first_where 256 on) set) y c.last_is_in.result) (none_is c.first_bit.result c.is_none.result c.is_none.ensures ∙ ap (λ (o : Option ℕ). is_none o) c.first_bit.ensures.value)
    ∙ ap (λ z. flags (answer_at (first_where 256 on) set) (is_none (first_where 256 set)) z) c.last_is_in.ensures
