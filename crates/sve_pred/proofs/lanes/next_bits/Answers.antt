use Rattle.std.proofs.Common.{ℕ, Bool, List, length, ap, ◌∙◌}
use Rattle.emu_bits.specs.Flags.{size_of}
use Rattle.sve_effects.specs.LaneLoop.{lane_bits}
use Rattle.sve_effects.specs.Predicate.{only_next, pred_test}
use Rattle.sve_effects.specs.PredicateRows.{predicate_bits}
use Rattle.emu_model.specs.Lanes.{read_p}
use Rattle.sve_pred.proofs.Lengths.{whole_fields}
use Rattle.sve_pred.proofs.lanes.next_bits.Goals as goal

pub next_tested-requires-clause-whole : goal.next_tested-requires-clause-whole
next_tested-requires-clause-whole c = whole_fields c.esize.result c.args.vec.now.bits (length c.read.result) c.length.ensures.length c.read.ensures.length

pub returns-clause-flags : goal.returns-clause-flags
returns-clause-flags c =
    let m : ℕ = predicate_bits c.args.vec.now in
    let flags = λ (e n : ℕ) (g before : List Bool). pred_test e n g (only_next e n g before) in
    c.next_tested.ensures.flags
    ∙ ap (λ n. flags (size_of c.esize.result) n c.read.result c.read-2.result) c.read.ensures.length
    ∙ ap (λ e. flags e m c.read.result c.read-2.result) c.esize.ensures
    ∙ ap (λ (g : List Bool). flags (lane_bits c.args.size) m g c.read-2.result) c.read.ensures.value
    ∙ ap (λ (before : List Bool). flags (lane_bits c.args.size) m (read_p c.args.vec.now c.args.pg) before) c.read-2.ensures.value
