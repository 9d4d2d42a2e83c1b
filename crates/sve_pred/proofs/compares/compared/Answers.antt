use Rattle.std.proofs.Common.{ℕ, Bool, List, not, refl, sym, ap, subst, ◌∙◌}
use Rattle.emu_bits.specs.Flags.{size_of}
use Rattle.emu_model.specs.Lanes.{read_p}
use Rattle.vec_regs.specs.Words.{bit_of, bits_of, AreClearFrom}
use Rattle.lane_model.specs.declared.predicates.LogicOp.TheVariants.{And}
use Rattle.sve_effects.specs.Lane.{lane_test}
use Rattle.sve_effects.specs.Predicate.{logic}
use Rattle.sve_effects.specs.PredicateRows.{predicate_bits, is_unsigned}
use Rattle.sve_pred.specs.Compares.{told, answer}
use Rattle.sve_pred.proofs.Compared.{told_answer, told_clear, told_active}
use Rattle.sve_pred.proofs.Lengths.{length_given}
use Rattle.sve_pred.proofs.compares.compared.Goals as goal

pub of_words-told-requires-clause-above : goal.of_words-told-requires-clause-above
of_words-told-requires-clause-above c =
    let tells : ℕ → Bool = told (lane_test c.args.test) (not (is_unsigned c.args.test)) (size_of c.args.e) c.args.vec.now c.args.zn c.args.operand.now in
    subst (λ m. AreClearFrom m c.args.words.now) (sym c.bits.ensures.value)
    (told_clear (size_of c.args.e) (predicate_bits c.args.vec.now) (read_p c.args.vec.now c.args.pg) c.args.words.now tells tells (λ k. refl) c.requires.told)

pub logic-requires-clause-first : goal.logic-requires-clause-first
logic-requires-clause-first c = length_given c.of_words-told.result c.bits.result (predicate_bits c.args.vec.now) (bit_of c.args.words.now) c.of_words-told.ensures c.bits.ensures.value ∙ sym c.read.ensures.length

pub logic-requires-clause-second : goal.logic-requires-clause-second
logic-requires-clause-second c = length_given c.of_words-told.result c.bits.result (predicate_bits c.args.vec.now) (bit_of c.args.words.now) c.of_words-told.ensures c.bits.ensures.value ∙ sym c.read.ensures.length

pub returns : goal.returns
returns c =
    let tells : ℕ → ℕ → Bool = λ (e : ℕ). told (lane_test c.args.test) (not (is_unsigned c.args.test)) e c.args.vec.now c.args.zn c.args.operand.now in
    let answers : ℕ → Bool = answer c.args.test (size_of c.args.e) c.args.vec.now c.args.zn c.args.operand.now in
    let m : ℕ = predicate_bits c.args.vec.now in
    c.logic.ensures
    ∙ ap (λ n. logic And n c.read.result c.of_words-told.result c.of_words-told.result) c.read.ensures.length
    ∙ ap (λ (g : List Bool). logic And m g c.of_words-told.result c.of_words-told.result) c.read.ensures.value
    ∙ ap (λ (t : List Bool). logic And m (read_p c.args.vec.now c.args.pg) t t) (c.of_words-told.ensures ∙ ap (λ n. bits_of n c.args.words.now) c.bits.ensures.value)
    ∙ told_active (size_of c.args.e) m (read_p c.args.vec.now c.args.pg) c.args.words.now (tells (size_of c.args.e)) answers
    (λ k. told_answer c.args.test (size_of c.args.e) c.args.zn k c.args.vec.now c.args.operand.now c.requires.fits) c.requires.told
