use Rattle.std.proofs.Common.{◌≡◌, ◌∙◌, ℕ, Bool, List, length, ap, ap₂, sym, arith}
use Rattle.sve_effects.specs.Predicate.{broken_next}
use Rattle.sve_effects.specs.PredicateRows.{predicate_bits, ones, after_test}
use Rattle.emu_model.specs.Lanes.{read_p, with_p}
use Rattle.sve_pred.proofs.Lengths.{length_given, of_three}
use Rattle.sve_pred.proofs.breaks.break_next.Goals as goal

pub brkn-result-requires-clause-first : goal.brkn-result-requires-clause-first
brkn-result-requires-clause-first c = c.read-2.ensures.length ∙ sym c.read.ensures.length

pub brkn-result-requires-clause-second : goal.brkn-result-requires-clause-second
brkn-result-requires-clause-second c = c.read-3.ensures.length ∙ sym c.read.ensures.length

pub test_all_bits-requires : goal.test_all_bits-requires
test_all_bits-requires c =
    let count : length c.brkn-result.result ≡ predicate_bits c.args.vec.now = length_given c.brkn-result.result _ (predicate_bits c.args.vec.now) _ c.brkn-result.ensures c.read.ensures.length in
    omega arith

pub write-requires : goal.write-requires
write-requires c = length_given c.brkn-result.result _ (predicate_bits c.args.vec.now) _ c.brkn-result.ensures c.read.ensures.length

pub returns-clause-registers : goal.returns-clause-registers
returns-clause-registers c =
    let v = c.args.vec.now in
    let made : c.brkn-result.result ≡ broken_next (predicate_bits v) (read_p v c.args.pg) (read_p v c.args.pn) (read_p v c.args.pdm)
    = of_three broken_next c.brkn-result.result c.read.result c.read-2.result c.read-3.result (predicate_bits v) (read_p v c.args.pg) (read_p v c.args.pn) (read_p v c.args.pdm)
    c.brkn-result.ensures c.read.ensures.length c.read.ensures.value c.read-2.ensures.value c.read-3.ensures.value in
    c.test_all_bits.ensures
    ∙ ap₂ (λ (n : ℕ) (p : List Bool). after_test c.args.s 8 n (ones n) p c.args.core.now) (length_given c.brkn-result.result _ (predicate_bits v) _ c.brkn-result.ensures c.read.ensures.length) made

pub returns-clause-vectors : goal.returns-clause-vectors
returns-clause-vectors c =
    let v = c.args.vec.now in
    c.write.ensures
    ∙ ap (with_p v c.args.pdm) (of_three broken_next c.brkn-result.result c.read.result c.read-2.result c.read-3.result (predicate_bits v) (read_p v c.args.pg) (read_p v c.args.pn) (read_p v c.args.pdm)
    c.brkn-result.ensures c.read.ensures.length c.read.ensures.value c.read-2.ensures.value c.read-3.ensures.value)
