use Rattle.std.proofs.Common.{◌<◌, ◌+◌, ◌*◌, ◌/◌, ◌%◌, ◌&&◌, nat_eq, length, get_or, bit_and, ap, ap₂, sym, ◌∙◌, arith}
use Rattle.std.proofs.lemmas.Bool.{and_left, and_right}
use Rattle.std.proofs.lemmas.List.{length-set}
use Rattle.emu_bits.specs.Flags.{size_of}
use Rattle.lane_model.specs.WordBits.{bit_of}
use Rattle.pred_bits.proofs.Made.{bit_in, bit_placed, bit_past, made_more, made_all}
use Rattle.pred_bits.proofs.WordBits.{and_bit}
use Rattle.pred_bits.proofs.WordMasks.{start_and}
use Rattle.pred_bits.proofs.pred_words.starts_in_both.Goals as goal

pub loop-i-preserved : goal.loop-i-preserved
loop-i-preserved c =
    let place : c.loop-i.i < length c.loop-i.words = omega (arith, c.loop-i.invariant.count) in
    let x = get_or c.args.g.now c.loop-i.i 0 in
    let y = get_or c.args.a.now c.loop-i.i 0 in
    record {
      count = length-set c.loop-i.words c.loop-i.i (bit_and c.starts-starts.result (bit_and x y)) ∙ c.loop-i.invariant.count;
      done = made_more c.loop-i.words c.loop-i.i (bit_and c.starts-starts.result (bit_and x y)) (λ j s. nat_eq ((64 * j + s) % (size_of c.args.e / 8)) 0 && (bit_in c.args.g.now j s && bit_in c.args.a.now j s)) place c.loop-i.invariant.done
          (λ s h. start_and c.args.e c.starts-starts.result c.loop-i.i s (bit_and x y) (bit_in c.args.g.now c.loop-i.i s && bit_in c.args.a.now c.loop-i.i s) (c.starts-starts.ensures s h) (and_bit x y s));
    }

pub returns : goal.returns
returns c =
    made_all c.loop-i.words (λ b. nat_eq (b % (size_of c.args.e / 8)) 0 && (bit_of c.args.g.now b && bit_of c.args.a.now b)) c.loop-i.invariant.count
    (λ j s p q. c.loop-i.invariant.done j s (omega arith) q ∙ ap (λ t. nat_eq ((64 * j + s) % (size_of c.args.e / 8)) 0 && t) (sym (ap₂ (λ t u. t && u) (bit_placed c.args.g.now j s q) (bit_placed c.args.a.now j s q))))
    (λ b p. and_right (nat_eq (b % (size_of c.args.e / 8)) 0) (bit_of c.args.g.now b && bit_of c.args.a.now b) (and_left (bit_of c.args.g.now b) (bit_of c.args.a.now b) (bit_past c.args.g.now b (omega arith) p)))
