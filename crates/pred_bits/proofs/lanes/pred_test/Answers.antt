use Rattle.std.proofs.Common.{◌≡◌, ◌<◌, ◌≤◌, ◌*◌, ◌/◌, ◌%◌, ◌&&◌, ℕ, Bool, nat_eq, length, sym, ap, ◌∙◌, arith}
use Rattle.emu_bits.specs.Flags.{size_of}
use Rattle.lane_model.specs.Bits.{field_bit, active, lanes_of}
use Rattle.lane_model.specs.WordBits.{bit_of}
use Rattle.pred_bits.specs.LaneBits.{among}
use Rattle.pred_bits.proofs.Fields.{some_bits, lanes_room, lane_within}
use Rattle.pred_bits.proofs.LaneWords.{set_among, tested}
use Rattle.pred_bits.proofs.Views.{get_shown}
use Rattle.pred_bits.proofs.lanes.pred_test.Goals as goal

pub returns : goal.returns
returns c =
    let n : ℕ = lanes_of (size_of c.args.e) (length c.args.g.now) in
    let g : ℕ → Bool = active (size_of c.args.e) c.args.g.now in
    let a : ℕ → Bool = active (size_of c.args.e) c.args.a.now in
    let room : lanes_of (size_of c.args.e) (length c.args.g.now) * (size_of c.args.e / 8) ≤ 256 = lanes_room c.args.e (length c.args.g.now) (omega (arith, c.bits-bits.ensures.few, c.bits-bits.ensures.value)) in
    let reads : (k : ℕ) → k < n → bit_of c.a.inside.words (k * (size_of c.args.e / 8)) ≡ a k = λ k h.
    let in_a : k * (size_of c.args.e / 8) < length c.args.a.now = omega (arith, lane_within c.args.e k (length c.args.g.now) h, c.requires) in
    sym (get_shown c.a.inside.bits c.a.inside.words c.args.a.now (k * (size_of c.args.e / 8)) c.a.view_is in_a) in
    let made : (b : ℕ) → bit_of c.starts_in_both-set.result b ≡ (bit_of c.lane_words-on.result b && bit_of c.a.inside.words b) = λ b.
    let each : b % 1 ≡ 0 = omega arith in
    c.starts_in_both-set.ensures b ∙ ap (λ r. nat_eq r 0 && (bit_of c.lane_words-on.result b && bit_of c.a.inside.words b)) each in
    let shows : (b : ℕ) → bit_of c.starts_in_both-set.result b ≡ field_bit (size_of c.args.e / 8) (among n (λ k. g k && a k)) b
    = set_among (size_of c.args.e / 8) n g a (bit_of c.lane_words-on.result) (bit_of c.a.inside.words) (bit_of c.starts_in_both-set.result) (some_bits c.args.e) c.lane_words-on.ensures reads made in
    c.test_words.ensures ∙ tested (size_of c.args.e / 8) n g a (bit_of c.lane_words-on.result) (bit_of c.starts_in_both-set.result) (some_bits c.args.e) room c.lane_words-on.ensures shows
