use Rattle.std.proofs.Common.{◌/◌, ◌^◌, ◌&&◌, ◌∙◌, sym, ap, get_or, nat_lt, refl, arith}
use Rattle.lane_model.specs.WordBits.{bit_of}
use Rattle.lane_permute.specs.Places.{zipped}
use Rattle.lane_permute.proofs.FourWords.{zip_bit, zero_bit, none_past, shifted_bit}
use Rattle.lane_permute.proofs.four_words.zip_word.Goals as goal

pub returns-then-bits-eq0 : goal.returns-then-bits-eq0
returns-then-bits-eq0 c s h = zero_bit s ∙ sym (none_past c.args.bits 0 s (zipped c.args.w c.args.from (bit_of c.args.a.now) (bit_of c.args.b.now) s) (omega arith) (omega arith))

pub returns-else-bits-eq0 : goal.returns-else-bits-eq0
returns-else-bits-eq0 c s h =
    c.first_bits.ensures s h
    ∙ ap (λ t. nat_lt s c.args.bits && t)
    (zip_bit c.args.w c.args.from s c.in_turn-word.result c.low_halves-pair.result (get_or c.args.a.now 0 0 / 2 ^ c.args.from) (get_or c.args.b.now 0 0 / 2 ^ c.args.from) (bit_of c.args.a.now) (bit_of c.args.b.now) c.requires.field h
    (λ s q. shifted_bit c.args.a.now c.args.from s (get_or c.args.a.now 0 0) c.requires.from refl q) (λ s q. shifted_bit c.args.b.now c.args.from s (get_or c.args.b.now 0 0) c.requires.from refl q)
    c.low_halves-pair.ensures c.in_turn-word.ensures)
