use Rattle.emu_model.proofs.Rows.{reads, writes}
use Rattle.emu_model.proofs.byte_laws.ranges_are_of_the_map.Goals as goal

pub returns-clause-reads : goal.returns-clause-reads
returns-clause-reads c m bytes a n is = reads n m bytes a is

pub returns-clause-writes : goal.returns-clause-writes
returns-clause-writes c m bytes a xs h is = writes xs m bytes a h is
