use Rattle.std.proofs.Common.{ap, ap₂, ◌∙◌, ◌≡◌, ℕ, Bool, true, List}
use Rattle.sve_effects.specs.Predicate.{with_first_active}
use Rattle.sve_effects.specs.PredicateRows.{predicate_bits, after_test}
use Rattle.emu_model.specs.Lanes.{read_p}
use Rattle.sve_pred.proofs.Lengths.{of_two}
use Rattle.sve_pred.proofs.single.first.Goals as goal

pub returns-clause-registers : goal.returns-clause-registers
returns-clause-registers c =
    let v = c.args.vec.now in
    let n : ℕ = predicate_bits v in
    let made : c.first-bits.result ≡ with_first_active n (read_p v c.args.pg) (read_p v c.args.pdn) =
    of_two with_first_active c.first-bits.result c.read-g.result c.read.result n (read_p v c.args.pg) (read_p v c.args.pdn)
    c.first-bits.ensures c.read-g.ensures.length c.read-g.ensures.value c.read.ensures.value in
    c.set_test.ensures
    ∙ ap₂ (λ (k : ℕ) (g : List Bool). after_test true 8 k g c.first-bits.result c.args.core.now) c.read-g.ensures.length c.read-g.ensures.value
    ∙ ap (λ (p : List Bool). after_test true 8 n (read_p v c.args.pg) p c.args.core.now) made
