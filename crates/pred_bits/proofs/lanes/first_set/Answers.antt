use Rattle.std.proofs.Common.{◌≤◌, ◌*◌, ◌/◌, ◌&&◌, ℕ, Bool, length, sym, subst, arith}
use Rattle.emu_bits.specs.Flags.{size_of}
use Rattle.lane_model.specs.Bits.{active, lanes_of}
use Rattle.lane_model.specs.WordBits.{bit_of}
use Rattle.lane_model.proofs.Found.{first_found, first_is}
use Rattle.lane_model.specs.FirstLastLaws.{IsFirstWhere}
use Rattle.pred_bits.proofs.Fields.{some_bits, lanes_room}
use Rattle.pred_bits.proofs.LaneWords.{first_of_words, first_within}
use Rattle.pred_bits.proofs.lanes.first_set.Goals as goal

pub returns : goal.returns
returns c =
    let n : ℕ = lanes_of (size_of c.args.e) (length c.args.g.now) in
    let test : ℕ → Bool = λ k. active (size_of c.args.e) c.args.g.now k && active (size_of c.args.e) c.args.a.now k in
    let room : lanes_of (size_of c.args.e) (length c.args.g.now) * (size_of c.args.e / 8) ≤ 256 = lanes_room c.args.e (length c.args.g.now) (omega (arith, c.bits-bits.ensures.few, c.bits-bits.ensures.value)) in
    let place : IsFirstWhere 256 (bit_of c.lane_words.result) c.first_bit.result = subst (IsFirstWhere 256 (bit_of c.lane_words.result)) (sym c.first_bit.ensures.value) (first_found 256 (bit_of c.lane_words.result)) in
    let found : IsFirstWhere n test c.lane_at.result = subst (IsFirstWhere n test) (sym c.lane_at.ensures) (first_of_words (size_of c.args.e / 8) n test (bit_of c.lane_words.result) (some_bits c.args.e) room c.lane_words.ensures c.first_bit.result place) in
    record { value = sym (first_is n test c.lane_at.result found); within = first_within n test c.lane_at.result found }
