use Rattle.std.proofs.Common.{refl}
use Rattle.debug_shows.specs.Memory.{plain_instructions}
use Rattle.debug_shows.proofs.memory.plain_instructions.Goals as goal

pub returns : goal.returns
unfolding plain_instructions
returns c = refl
