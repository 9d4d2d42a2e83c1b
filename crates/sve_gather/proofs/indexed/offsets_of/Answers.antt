use Rattle.std.proofs.Common.{ap, ◌∙◌, arith}
use Rattle.emu_model.specs.Access.{address}
use Rattle.element_loops.specs.declared.plan.Places.{Places}
use Rattle.element_loops.specs.Layouts.{address_of}
use Rattle.sve_gather.proofs.indexed.offsets_of.Goals as goal

pub returns-in-Words : goal.returns-in-Words
returns-in-Words c = λ e n r v k. ap (λ (places : Places). address_of places e n r v k 0) c.in-Words.is

pub returns-in-Offsets : goal.returns-in-Offsets
returns-in-Offsets c = λ e n r v k. ap (λ (places : Places). address_of places e n r v k 0) c.in-Offsets.is

pub returns-in-Vector : goal.returns-in-Vector
returns-in-Vector c = λ e n r v k.
    ap (λ (places : Places). address_of places e n r v k 0) c.in-Vector.is ∙ ap address (omega arith)
