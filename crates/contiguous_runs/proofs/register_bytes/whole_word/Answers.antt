use Rattle.active_lanes.proofs.InParts.{read_byte}
use Rattle.contiguous_runs.proofs.register_bytes.whole_word.Goals as goal

pub returns : goal.returns
returns c = λ t h. read_byte c.args.bytes.now c.args.place c.read_u64.result (λ k. (c.type_inv.bytes k).fits) c.read_u64.ensures t h
