use Rattle.std.proofs.Common.{◌≡◌, ◌-◌, nat_eq, not, arith}
use Rattle.std.specs.Int.{bit_at}
use Rattle.pred_bits.proofs.WordBits.{and_bit, or_bit, xor_bit, not_bit, neither, not_both, chosen}
use Rattle.pred_bits.proofs.pred_words.logic.Goals as goal

pub returns-in-And : goal.returns-in-And
returns-in-And c i h = rw c.in-And.is (simp and_bit)

pub returns-in-Bic : goal.returns-in-Bic
returns-in-Bic c i h =
    let n : nat_eq (bit_at (18446744073709551615 - c.args.b) i) 1 ≡ not (nat_eq (bit_at c.args.b i) 1) = not_bit c.args.b i (omega arith) h in
    rw c.in-Bic.is (simp (and_bit, n))

pub returns-in-Eor : goal.returns-in-Eor
returns-in-Eor c i h = rw c.in-Eor.is (simp (and_bit, xor_bit))

pub returns-in-Orr : goal.returns-in-Orr
returns-in-Orr c i h = rw c.in-Orr.is (simp (and_bit, or_bit))

pub returns-in-Orn : goal.returns-in-Orn
returns-in-Orn c i h =
    let n : nat_eq (bit_at (18446744073709551615 - c.args.b) i) 1 ≡ not (nat_eq (bit_at c.args.b i) 1) = not_bit c.args.b i (omega arith) h in
    rw c.in-Orn.is (simp (and_bit, or_bit, n))

pub returns-in-Nor : goal.returns-in-Nor
returns-in-Nor c i h =
    let m : nat_eq (bit_at (18446744073709551615 - c.args.a) i) 1 ≡ not (nat_eq (bit_at c.args.a i) 1) = not_bit c.args.a i (omega arith) h in
    let n : nat_eq (bit_at (18446744073709551615 - c.args.b) i) 1 ≡ not (nat_eq (bit_at c.args.b i) 1) = not_bit c.args.b i (omega arith) h in
    rw c.in-Nor.is (simp (and_bit, m, n) (neither _ _ _))

pub returns-in-Nand : goal.returns-in-Nand
returns-in-Nand c i h =
    let m : nat_eq (bit_at (18446744073709551615 - c.args.a) i) 1 ≡ not (nat_eq (bit_at c.args.a i) 1) = not_bit c.args.a i (omega arith) h in
    let n : nat_eq (bit_at (18446744073709551615 - c.args.b) i) 1 ≡ not (nat_eq (bit_at c.args.b i) 1) = not_bit c.args.b i (omega arith) h in
    rw c.in-Nand.is (simp (and_bit, or_bit, m, n) (not_both _ _ _))

pub returns-in-Sel : goal.returns-in-Sel
returns-in-Sel c i h =
    let n : nat_eq (bit_at (18446744073709551615 - c.args.g) i) 1 ≡ not (nat_eq (bit_at c.args.g i) 1) = not_bit c.args.g i (omega arith) h in
    rw c.in-Sel.is (simp (and_bit, or_bit, n) (chosen (nat_eq (bit_at c.args.g i) 1) (nat_eq (bit_at c.args.a i) 1) (nat_eq (bit_at c.args.b i) 1)))
