use Rattle.emu_model.proofs.Mapping.{unmapped_map, mapped_map, protected_map}
use Rattle.emu_model.proofs.byte_laws.mapping_is_of_the_map.Goals as goal

pub returns-clause-unmapped : goal.returns-clause-unmapped
returns-clause-unmapped c m bytes first count is = unmapped_map m bytes first count is

pub returns-clause-mapped : goal.returns-clause-mapped
returns-clause-mapped c m bytes first count rights is = mapped_map m bytes first count rights is

pub returns-clause-protected : goal.returns-clause-protected
returns-clause-protected c m bytes first count rights is = protected_map m bytes first count rights is
