use Rattle.std.proofs.Common.{sym, ◌∙◌}
use Rattle.std.specs.Cmp.{nat_cmp_total}
use Rattle.std.specs.FinMap.{same_map, nat_cmp-IsAntisymmetric}
use Rattle.emu_model.proofs.byte_laws.memory_has_one_map.Goals as goal

pub returns : goal.returns
returns c m bytes others left right = same_map nat_cmp_total nat_cmp-IsAntisymmetric bytes others (λ a. left a ∙ sym (right a))
