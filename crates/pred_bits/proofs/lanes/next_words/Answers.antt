use Rattle.std.proofs.Common.{◌≡◌, ◌≤◌, ◌*◌, ◌/◌, ◌&&◌, ℕ, Bool, nat_lt, Option, length, ap, subst, ◌∙◌, arith}
use Rattle.std.proofs.lemmas.Nat.{div-add-mod'}
use Rattle.emu_bits.specs.Flags.{size_of}
use Rattle.lane_model.specs.Bits.{field_bit, active, lanes_of}
use Rattle.lane_model.specs.WordBits.{bit_of, bits_of}
use Rattle.lane_model.proofs.Bits.{each_bit_same}
use Rattle.lane_model.specs.Predicate.{is_at, is_behind, next_lane, only_next}
use Rattle.lane_model.specs.FirstLast.{last_where}
use Rattle.pred_bits.proofs.AllActive.{field_active}
use Rattle.pred_bits.proofs.Fields.{some_bits, lanes_room}
use Rattle.pred_bits.proofs.LaneWords.{tested}
use Rattle.pred_bits.proofs.NextLane.{next_field, next_clear, next_among}
use Rattle.pred_bits.proofs.lanes.next_words.Goals as goal

pub of_words-requires-clause-above : goal.of_words-requires-clause-above
of_words-requires-clause-above c =
    let n : ℕ = lanes_of (size_of c.args.e) (length c.args.g.now) in
    let room : lanes_of (size_of c.args.e) (length c.args.g.now) * (size_of c.args.e / 8) ≤ 256 = lanes_room c.args.e (length c.args.g.now) (omega (arith, c.bits-bits.ensures.few, c.bits-bits.ensures.value)) in
    let fits : lanes_of (size_of c.args.e) (length c.args.g.now) * (size_of c.args.e / 8) ≤ c.bits-bits.result = omega (arith, div-add-mod' (length c.args.g.now) (size_of c.args.e / 8), c.bits-bits.ensures.value) in
    let set = subst (λ m. (b : ℕ) → bit_of c.args.set.now b ≡ field_bit (size_of c.args.e / 8) (λ k. nat_lt k (lanes_of (size_of c.args.e) m) && (active (size_of c.args.e) c.args.before.now k && active (size_of c.args.e) c.args.before.now k)) b) c.requires.same c.requires.set in
    next_clear (size_of c.args.e / 8) n (active (size_of c.args.e) c.args.g.now) (active (size_of c.args.e) c.args.before.now) (bit_of c.args.on.now) (bit_of c.args.set.now) (bit_of c.behind-rest.result) (bit_of c.first_alone-alone.result)
    (some_bits c.args.e) room c.requires.on set (λ b. c.behind-rest.ensures b ∙ ap (λ (o : Option ℕ). bit_of c.args.on.now b && is_behind o b) c.last_bit.ensures.value) c.first_alone-alone.ensures c.bits-bits.result fits

pub returns-clause-lane : goal.returns-clause-lane
returns-clause-lane c =
    let m : ℕ = length c.args.g.now in
    let n : ℕ = lanes_of (size_of c.args.e) (length c.args.g.now) in
    let room : lanes_of (size_of c.args.e) (length c.args.g.now) * (size_of c.args.e / 8) ≤ 256 = lanes_room c.args.e (length c.args.g.now) (omega (arith, c.bits-bits.ensures.few, c.bits-bits.ensures.value)) in
    let set = subst (λ m. (b : ℕ) → bit_of c.args.set.now b ≡ field_bit (size_of c.args.e / 8) (λ k. nat_lt k (lanes_of (size_of c.args.e) m) && (active (size_of c.args.e) c.args.before.now k && active (size_of c.args.e) c.args.before.now k)) b) c.requires.same c.requires.set in
    let field = next_field (size_of c.args.e / 8) n (active (size_of c.args.e) c.args.g.now) (active (size_of c.args.e) c.args.before.now) (bit_of c.args.on.now) (bit_of c.args.set.now) (bit_of c.behind-rest.result) (bit_of c.first_alone-alone.result)
    (some_bits c.args.e) room c.requires.on set (λ b. c.behind-rest.ensures b ∙ ap (λ (o : Option ℕ). bit_of c.args.on.now b && is_behind o b) c.last_bit.ensures.value) c.first_alone-alone.ensures in
    c.of_words.ensures ∙ ap (λ m. bits_of m c.first_alone-alone.result) c.bits-bits.ensures.value
    ∙ each_bit_same m (bit_of c.first_alone-alone.result) (field_bit (size_of c.args.e / 8) (is_at (next_lane (size_of c.args.e) m c.args.g.now c.args.before.now))) (λ b h. field b)

pub returns-clause-flags : goal.returns-clause-flags
returns-clause-flags c =
    let w : ℕ = size_of c.args.e / 8 in
    let m : ℕ = length c.args.g.now in
    let n : ℕ = lanes_of (size_of c.args.e) (length c.args.g.now) in
    let g : ℕ → Bool = active (size_of c.args.e) c.args.g.now in
    let before : ℕ → Bool = active (size_of c.args.e) c.args.before.now in
    let behind : ℕ → Bool = is_behind (last_where (lanes_of (size_of c.args.e) (length c.args.g.now)) (active (size_of c.args.e) c.args.before.now)) in
    let a : ℕ → Bool = active (size_of c.args.e) (only_next (size_of c.args.e) (length c.args.g.now) c.args.g.now c.args.before.now) in
    let room : lanes_of (size_of c.args.e) (length c.args.g.now) * (size_of c.args.e / 8) ≤ 256 = lanes_room c.args.e (length c.args.g.now) (omega (arith, c.bits-bits.ensures.few, c.bits-bits.ensures.value)) in
    let set = subst (λ m. (b : ℕ) → bit_of c.args.set.now b ≡ field_bit (size_of c.args.e / 8) (λ k. nat_lt k (lanes_of (size_of c.args.e) m) && (active (size_of c.args.e) c.args.before.now k && active (size_of c.args.e) c.args.before.now k)) b) c.requires.same c.requires.set in
    let field = next_field w n g before (bit_of c.args.on.now) (bit_of c.args.set.now) (bit_of c.behind-rest.result) (bit_of c.first_alone-alone.result)
    (some_bits c.args.e) room c.requires.on set (λ b. c.behind-rest.ensures b ∙ ap (λ (o : Option ℕ). bit_of c.args.on.now b && is_behind o b) c.last_bit.ensures.value) c.first_alone-alone.ensures in
    let among = next_among w n g behind a (bit_of c.first_alone-alone.result) (some_bits c.args.e) field
    (λ k h. field_active c.args.e m k (is_at (next_lane (size_of c.args.e) m c.args.g.now c.args.before.now)) h) in
    c.test_words.ensures ∙ tested w n g a (bit_of c.args.on.now) (bit_of c.first_alone-alone.result) (some_bits c.args.e) room c.requires.on among
